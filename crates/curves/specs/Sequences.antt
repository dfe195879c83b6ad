-- The work of jobs one after another, by recursion over their segments. Assumes nothing.
use Rattle.std.specs.Prelude.{◌≡◌, ℕ, zero, suc, ◌+◌, ◌-◌, ◌≤◌, min, max, refl}
use Rattle.std.proofs.Common.{sym, ap, ◌∙◌, arith}
use Rattle.model.specs.Segments.{Segments, last, more, all_ticks, least_gaps}

-- The segment ticks among the first u ticks: of these segments, each with its least suspension after it and the last with the gap g, and then
-- `rest` of the time that is left
abbrev pub worked : Segments → ℕ → (ℕ → ℕ) → ℕ → ℕ
worked (last c) g rest u = min c u + rest (u - (c + g))
worked (more c lo hi s) g rest u = min c u + worked s g rest (u - (c + lo))

-- of n whole jobs, with the gap `gap q` after job q
abbrev pub jobs_from : Segments → (ℕ → ℕ) → ℕ → ℕ → ℕ → ℕ
jobs_from s gap q zero u = 0
jobs_from s gap q (suc n) u = worked s (gap q) (jobs_from s gap (suc q) n) u

-- it never falls, and grows by no more than the time does
pub record Lipschitz (K : ℕ → ℕ) : Type 0 where
  pub by : (u v d : ℕ) → u ≤ v + d → K u ≤ K v + d

pub lipschitz_constant : (b : ℕ) → Lipschitz (λ u. b)
lipschitz_constant b = record { by = λ u v d h. omega arith }

pub lipschitz_worked : (s : Segments) (g : ℕ) (K : ℕ → ℕ) → Lipschitz K → Lipschitz (worked s g K)
lipschitz_worked (last c) g K k = record { by = λ u v d h. omega (arith, k.by (u - (c + g)) (v - (c + g)) (d - (min c u - min c v)) (omega arith)) }
lipschitz_worked (more c lo hi s) g K k =
    let rest = lipschitz_worked s g K k in
    record { by = λ u v d h. omega (arith, rest.by (u - (c + lo)) (v - (c + lo)) (d - (min c u - min c v)) (omega arith)) }

pub lipschitz_jobs : (s : Segments) (gap : ℕ → ℕ) (q n : ℕ) → Lipschitz (jobs_from s gap q n)
lipschitz_jobs s gap q zero = lipschitz_constant 0
lipschitz_jobs s gap q (suc n) = lipschitz_worked s (gap q) (jobs_from s gap (suc q) n) (lipschitz_jobs s gap (suc q) n)

-- more of what follows, and a smaller gap before it, make more
pub worked_grows : (s : Segments) (g g' : ℕ) (K L : ℕ → ℕ) → Lipschitz L → g' ≤ g → ((u : ℕ) → K u ≤ L u) → (u : ℕ) → worked s g K u ≤ worked s g' L u
worked_grows (last c) g g' K L k l h u = omega (arith, h (u - (c + g)), k.by (u - (c + g)) (u - (c + g')) 0 (omega arith))
worked_grows (more c lo hi s) g g' K L k l h u = omega (arith, worked_grows s g g' K L k l h (u - (c + lo)))

-- what follows has the time that the segments leave
pub worked_apart : (s : Segments) (g b : ℕ) (K : ℕ → ℕ) (u : ℕ) → b ≡ K (u - ((all_ticks s + least_gaps s) + g)) → worked s g K u ≡ worked s g (λ v. b) u
worked_apart (last c) g b K u e = omega (arith, ap K (ends c g u))
  where
    ends : (c g u : ℕ) → u - ((c + 0) + g) ≡ u - (c + g)
    ends c g u = omega arith
worked_apart (more c lo hi s) g b K u e =
    let more_time : u - (((c + all_ticks s) + (lo + least_gaps s)) + g) ≡ (u - (c + lo)) - ((all_ticks s + least_gaps s) + g) = omega arith in
    let rest = worked_apart s g b K (u - (c + lo)) (cc) in
    omega arith

-- two continuations that agree on the time left give the same
pub worked_same : (s : Segments) (g : ℕ) (K L : ℕ → ℕ) (u : ℕ) → K (u - ((all_ticks s + least_gaps s) + g)) ≡ L (u - ((all_ticks s + least_gaps s) + g)) → worked s g K u ≡ worked s g L u
worked_same s g K L u e =
    worked_apart s g (K (u - ((all_ticks s + least_gaps s) + g))) K u refl ∙ sym (worked_apart s g (K (u - ((all_ticks s + least_gaps s) + g))) L u e)

-- ---- the most over the tails of some segments

abbrev pub top : Segments → (Segments → ℕ) → ℕ
top (last c) work = work (last c)
top (more c lo hi s) work = max (work (more c lo hi s)) (top s work)

pub top_here : (s : Segments) (work : Segments → ℕ) → work s ≤ top s work
top_here (last c) work = omega arith
top_here (more c lo hi s) work = omega arith
