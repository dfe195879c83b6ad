-- The work of a phase with whole periods skipped by a division. Assumes nothing.
use Rattle.std.proofs.Common.{◌≡◌, ℕ, zero, suc, ◌+◌, ◌-◌, ◌*◌, ◌/◌, ◌%◌, ◌<◌, ◌≤◌, refl, ap, ◌∙◌, inl, inr, mul-le-mul_right, mod-eq_of_lt, mul-le-mul_left, div-add-mod', arith}
use native.Mathlib.Nat.{div-eq_of_lt, div-eq-sub-div, mod-eq-sub-mod}
use Rattle.std.proofs.lemmas.Bool.{cases_lt}
use Rattle.model.specs.Segments.{Segments, last, more, count, all_ticks, least_gaps}
use Rattle.curves.specs.SegmentCurve.{work_from, phase_work}
use Rattle.curves.specs.Sequences.{worked, jobs_from, worked_same}
use Rattle.curves.specs.Phases.{job_gap, whole_job, are_jobs, enough_same, later_gaps}

-- segments that have the time to finish
worked_past : (s : Segments) (g : ℕ) (K : ℕ → ℕ) (u : ℕ) → all_ticks s + least_gaps s ≤ u → worked s g K u ≡ all_ticks s + K (u - ((all_ticks s + least_gaps s) + g))
worked_past (last c) g K u h = let e : u - (c + g) ≡ u - ((c + 0) + g) = omega arith in omega (arith, ap K e)
worked_past (more c lo hi s) g K u h =
    let e : (u - (c + lo)) - ((all_ticks s + least_gaps s) + g) ≡ u - (((c + all_ticks s) + (lo + least_gaps s)) + g) = omega arith in
    omega (arith, worked_past s g K (u - (c + lo)) (omega arith), ap K e)

worked_none : (s : Segments) (g : ℕ) → worked s g (λ v. 0) 0 ≡ 0
worked_none (last c) g = omega arith
worked_none (more c lo hi s) g = let e : 0 - (c + lo) ≡ 0 = omega arith in omega (arith, ap (worked s g (λ v. 0)) e, worked_none s g)

jobs_none : (s : Segments) (gap : ℕ → ℕ) (q n : ℕ) → jobs_from s gap q n 0 ≡ 0
jobs_none s gap q zero = refl
jobs_none s gap q (suc n) =
    let e : 0 - ((all_ticks s + least_gaps s) + gap q) ≡ 0 = omega arith in
    worked_same s (gap q) (jobs_from s gap (suc q) n) (λ v. 0) 0 (ap (jobs_from s gap (suc q) n) e ∙ jobs_none s gap (suc q) n) ∙ worked_none s (gap q)

module _ (s : Segments) (T D : ℕ) (some : 1 ≤ T) (room : all_ticks s + least_gaps s ≤ T) where
  whole : ℕ
  whole = T - (all_ticks s + least_gaps s)

  -- one job in a part of a period
  one : ℕ → ℕ
  one u = worked s whole (λ v. 0) u

  -- jobs that come every T ticks, enough of them
  periods : (n q u : ℕ) → 2 ≤ q → u ≤ n → jobs_from s (job_gap s T D) q n u ≡ (u / T) * all_ticks s + one (u % T)
  unfolding whole one
  periods zero q u two l =
      let none : u ≡ 0 = omega arith in
      let low : u / T ≡ 0 = div-eq_of_lt (omega arith) in
      let part : u % T ≡ 0 = mod-eq_of_lt {n = u} {m = T} (omega arith) ∙ none in
      omega (arith, ap (λ m. m * all_ticks s) low, ap one part, worked_none s whole)
  periods (suc n) q u two l =
      let gap : job_gap s T D q ≡ whole = later_gaps s T D q two in
      let K = jobs_from s (job_gap s T D) (suc q) n in
      let same : worked s (job_gap s T D q) K u ≡ worked s whole K u = ap (λ g. worked s g K u) gap in
      elim (cases_lt u T) [
        | inl within ↦
            let over : u - ((all_ticks s + least_gaps s) + whole) ≡ 0 = omega arith in
            let alone : worked s whole K u ≡ one u = worked_same s whole K (λ v. 0) u (ap K over ∙ jobs_none s (job_gap s T D) (suc q) n) in
            let low : u / T ≡ 0 = div-eq_of_lt within in
            let part : u % T ≡ u = mod-eq_of_lt within in
            omega (arith, ap (λ m. m * all_ticks s) low, ap one part)
        | inr past ↦
            let left : u - ((all_ticks s + least_gaps s) + whole) ≡ u - T = omega arith in
            let first : worked s whole K u ≡ all_ticks s + K (u - ((all_ticks s + least_gaps s) + whole)) = worked_past s whole K u (omega arith) in
            let rest : K (u - T) ≡ ((u - T) / T) * all_ticks s + one ((u - T) % T) = periods n (suc q) (u - T) (omega arith) (omega arith) in
            let high : u / T ≡ suc ((u - T) / T) = omega (arith, div-eq-sub-div {m = T} {n = u} some past) in
            let part : u % T ≡ (u - T) % T = mod-eq-sub-mod past in
            omega (arith, ap K left, ap (λ m. m * all_ticks s) high, ap one part)
      ]

  module _ (costs : 1 ≤ all_ticks s) where
    -- whole jobs from job 2 on, of any number of segments that is enough
    later_work : (n u : ℕ) → u * count s ≤ n → work_from s T D n (2 * count s) u ≡ (u / T) * all_ticks s + one (u % T)
    later_work n u enough =
        let e : n ≡ u * count s + (n - u * count s) = omega arith in
        ap (λ m. work_from s T D m (2 * count s) u) e ∙ are_jobs s T D costs u 2 (n - u * count s) u (omega arith) ∙ periods u 2 u (omega arith) (omega arith)

    -- one of them
    one_job : (u : ℕ) → work_from s T D (count s + 0) (2 * count s) u ≡ one u
    unfolding whole one
    one_job u =
        whole_job s T D 2 0 u
        ∙ worked_same s (job_gap s T D 2) (work_from s T D 0 (3 * count s)) (λ v. 0) u refl
        ∙ ap (λ g. worked s g (λ v. 0) u) (later_gaps s T D 2 (omega arith))

    -- the work of phase h, from the work up to segment 2 M with the time left after it, and the work of one job in a part of a period
    pub phase_parts : (t h first left part : ℕ) → h < count s → left ≤ t
        → ((n : ℕ) → work_from s T D ((2 * count s - h) + n) h t ≡ first + work_from s T D n (2 * count s) left)
        → work_from s T D (count s + 0) (2 * count s) (left % T) ≡ part
        → phase_work s T D t h ≡ first + (left / T) * all_ticks s + part
    phase_parts t h first left part l shorter before after =
        let n : ℕ = suc t * count s in
        let all : work_from s T D ((2 * count s - h) + suc t * count s) h t ≡ phase_work s T D t h = enough_same s T D costs t ((2 * count s - h) + suc t * count s) h l (omega arith) in
        let later = later_work (suc t * count s) left (mul-le-mul_right {m = left} {n = suc t} (count s) (omega arith)) in
        omega (arith, before (suc t * count s), one_job (left % T))

-- whole periods take no longer than they have
pub periods_fit : (u T c : ℕ) → c ≤ T → (u / T) * c + u % T ≤ u
periods_fit u T c h = omega (arith, div-add-mod' u T, mul-le-mul_left {m = c} {n = T} (u / T) h)
