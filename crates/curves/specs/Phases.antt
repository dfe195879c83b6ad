-- The work of a phase by the number of the segment, and by recursion over the segments. Assumes nothing.
use Rattle.std.specs.Prelude.{◌≡◌, ℕ, zero, suc, ◌+◌, ◌-◌, ◌*◌, ◌%◌, ◌<◌, ◌≤◌, min, Bool, true, false, cond, ◌==◌, nat_le, refl}
use Rattle.std.proofs.Math.Path.{ap, ap₂}
use Rattle.std.proofs.Common.{sym, ◌∙◌, mul-le-mul_right, arith}
use Rattle.std.proofs.Math.Arith.{digits_mod}
use Rattle.std.proofs.lemmas.Bool.{eq-eqb, ne_eqb, le-leb, lt-leb, cond-true, cond-false, cond_both}
use Rattle.model.specs.Segments.{Segments, last, more, count, all_ticks, least_gaps}
use Rattle.curves.specs.SegmentCurve.{ticks_at, gap_at, gap_after, work_from, phase_work}
use Rattle.curves.specs.Sequences.{worked, jobs_from, Lipschitz, worked_same, top}

pub some_segments : (s : Segments) → 1 ≤ count s
some_segments (last c) = omega arith
some_segments (more c lo hi s) = omega arith

-- ---- tails

-- `tail` is what is left of s from segment k on
pub record Tail (s : Segments) (k : ℕ) (tail : Segments) : Type 0 where
  pub ends : k + count tail ≡ count s
  pub ticks : (i : ℕ) → ticks_at s (k + i) ≡ ticks_at tail i
  pub gaps : (i : ℕ) → gap_at s (k + i) ≡ gap_at tail i

pub tail_self : (s : Segments) → Tail s 0 s
tail_self s = record { ends = omega arith; ticks = λ i. ap (ticks_at s) (omega arith); gaps = λ i. ap (gap_at s) (omega arith) }

tail_next : (s : Segments) (k c lo hi : ℕ) (tail : Segments) → Tail s k (more c lo hi tail) → Tail s (suc k) tail
tail_next s k c lo hi tail t =
    record {
      ends = omega (arith, t.ends);
      ticks = λ i. ap (ticks_at s) (omega arith) ∙ t.ticks (suc i);
      gaps = λ i. ap (gap_at s) (omega arith) ∙ t.gaps (suc i);
    }

tail_more : (c lo hi : ℕ) (s : Segments) (i : ℕ) (tail : Segments) → Tail s i tail → Tail (more c lo hi s) (suc i) tail
tail_more c lo hi s i tail t =
    record {
      ends = omega (arith, t.ends);
      ticks = λ j. ap (ticks_at (more c lo hi s)) (shift i j) ∙ t.ticks j;
      gaps = λ j. ap (gap_at (more c lo hi s)) (shift i j) ∙ t.gaps j;
    }
  where
    shift : (i j : ℕ) → suc i + j ≡ suc (i + j)
    shift i j = omega arith

pub tail_at : (s : Segments) (h : ℕ) → h < count s → (tail : Segments) × Tail s h tail
tail_at s zero l = (s, tail_self s)
tail_at (last c) (suc h) l = absurd (omega arith)
tail_at (more c lo hi s) (suc h) l = let (tail, t) = tail_at s h (omega arith) in (tail, tail_more c lo hi s h tail t)

-- a bound on every tail is a bound on the most over the tails
pub top_below : (s tail : Segments) (k : ℕ) → Tail s k tail → (work : Segments → ℕ) (b : ℕ) → ((h : ℕ) (rest : Segments) → Tail s h rest → work rest ≤ b) → top tail work ≤ b
top_below s (last c) k t work b all = all k (last c) t
top_below s (more c lo hi tail) k t work b all =
    omega (arith, all k (more c lo hi tail) t, top_below s tail (suc k) (tail_next s k c lo hi tail t) work b all)

-- ---- the test of the gap rule: whether the last segment of a job has the short gap after it, by its number

abbrev pub early : ℕ → ℕ → Bool
early M j = nat_le j M

early_first : (M : ℕ) → 1 ≤ M → early M (0 * M + (M - 1)) ≡ true
early_first M some = le-leb (0 * M + (M - 1)) M (omega arith)

late_from_2 : (M q : ℕ) → 1 ≤ M → 2 ≤ q → early M (q * M + (M - 1)) ≡ false
late_from_2 M q some two = lt-leb (q * M + (M - 1)) M (omega (arith, mul-le-mul_right {m = 2} {n = q} M two))

-- ---- by number

module _ (s : Segments) (T D : ℕ) where
  abbrev M : ℕ
  M = count s

  -- no time, no work
  pub none_left : (n j : ℕ) → work_from s T D n j 0 ≡ 0
  none_left zero j = refl
  none_left (suc n) j =
      let past : 0 - (ticks_at s (j % M) + gap_after s T D j) ≡ 0 = omega arith in
      omega (arith, ap (work_from s T D n (suc j)) past, none_left n (suc j))

  pub lipschitz_work : (n j : ℕ) → Lipschitz (work_from s T D n j)
  lipschitz_work zero j = record { by = λ u v d h. omega arith }
  lipschitz_work (suc n) j =
      let rest = lipschitz_work n (suc j) in
      record { by = λ u v d h. omega (arith, rest.by (u - (ticks_at s (j % M) + gap_after s T D j)) (v - (ticks_at s (j % M) + gap_after s T D j)) (d - (min (ticks_at s (j % M)) u - min (ticks_at s (j % M)) v)) (omega arith)) }

  -- of more segments, more work
  pub work_more : (n m j u : ℕ) → n ≤ m → work_from s T D n j u ≤ work_from s T D m j u
  work_more zero m j u h = omega arith
  work_more (suc n) zero j u h = absurd (omega arith)
  work_more (suc n) (suc m) j u h = omega (arith, work_more n m (suc j) (u - (ticks_at s (j % M) + gap_after s T D j)) (omega arith))

  -- the gap after job q
  pub job_gap : ℕ → ℕ
  job_gap q = gap_after s T D (q * M + (M - 1))

  -- one segment
  one_segment : (n j u k c g : ℕ) → j % M ≡ k → ticks_at s k ≡ c → gap_after s T D j ≡ g → work_from s T D (suc n) j u ≡ min c u + work_from s T D n (suc j) (u - (c + g))
  one_segment n j u k c g at is gap =
      let same : ticks_at s (j % M) ≡ c = ap (ticks_at s) at ∙ is in
      ap₂ (λ x y. min x u + work_from s T D n (suc j) (u - (x + y))) same gap

  gap_inside : (j k : ℕ) → j % M ≡ k → suc k < M → gap_after s T D j ≡ gap_at s k
  gap_inside j k at l = cond-false (suc (j % M) == M) _ _ (ne_eqb (suc (j % M)) M (λ e. omega arith)) ∙ ap (gap_at s) at

  -- the rest of job q, from segment k on
  rest_of_job : (tail : Segments) (q k n N u : ℕ) → Tail s k tail → N ≡ count tail + n
      → work_from s T D N (q * M + k) u ≡ worked tail (job_gap q) (work_from s T D n (suc q * M)) u
  unfolding job_gap
  rest_of_job (last c) q k n zero u t e = absurd (omega arith)
  rest_of_job (last c) q k n (suc N) u t e =
      let at : (q * M + k) % M ≡ k = digits_mod q (omega (arith, t.ends)) in
      let is : ticks_at s k ≡ c = ap (ticks_at s) (omega arith) ∙ t.ticks 0 in
      let end : q * M + k ≡ q * M + (M - 1) = omega (arith, t.ends) in
      one_segment N (q * M + k) u k c (job_gap q) at is (ap (gap_after s T D) end)
      ∙ ap₂ (λ x y. min c u + work_from s T D x y (u - (c + job_gap q))) (omega arith) (omega (arith, t.ends))
  rest_of_job (more c lo hi tail) q k n zero u t e = absurd (omega arith)
  rest_of_job (more c lo hi tail) q k n (suc N) u t e =
      let some = some_segments tail in
      let at : (q * M + k) % M ≡ k = digits_mod q (omega (arith, t.ends)) in
      let is : ticks_at s k ≡ c = ap (ticks_at s) (omega arith) ∙ t.ticks 0 in
      let gap : gap_after s T D (q * M + k) ≡ lo = gap_inside (q * M + k) k at (omega (arith, t.ends)) ∙ ap (gap_at s) (omega arith) ∙ t.gaps 0 in
      one_segment N (q * M + k) u k c lo at is gap
      ∙ ap (λ y. min c u + work_from s T D N y (u - (c + lo))) (omega arith)
      ∙ ap (λ y. min c u + y) (rest_of_job tail q (suc k) n N (u - (c + lo)) (tail_next s k c lo hi tail t) (omega arith))

  -- a whole job
  pub whole_job : (q n u : ℕ) → work_from s T D (M + n) (q * M) u ≡ worked s (job_gap q) (work_from s T D n (suc q * M)) u
  whole_job q n u = ap (λ y. work_from s T D (M + n) y u) (omega arith) ∙ rest_of_job s q 0 n (M + n) u (tail_self s) refl

  module _ (some : 1 ≤ all_ticks s) where
    -- whole jobs, in time for m of them at most
    pub are_jobs : (m q n u : ℕ) → u ≤ m → work_from s T D (m * M + n) (q * M) u ≡ jobs_from s job_gap q m u
    are_jobs zero q n u l = ap (work_from s T D (0 * M + n) (q * M)) (omega arith) ∙ none_left (0 * M + n) (q * M)
    are_jobs (suc m) q n u l =
        let left : ℕ = u - ((all_ticks s + least_gaps s) + job_gap q) in
        ap (λ y. work_from s T D y (q * M) u) (omega arith)
        ∙ whole_job q (m * M + n) u
        ∙ worked_same s (job_gap q) (work_from s T D (m * M + n) (suc q * M)) (jobs_from s job_gap (suc q) m) u (are_jobs m (suc q) n left (omega arith))

    -- the phase that begins with segment h, of any number of segments that is enough
    pub phase_is : (t N h : ℕ) (tail : Segments) → Tail s h tail → suc t * M ≤ N → work_from s T D N h t ≡ worked tail (job_gap 0) (jobs_from s job_gap 1 t) t
    phase_is t N h tail k enough =
        let n : ℕ = N - count tail in
        let left : ℕ = t - ((all_ticks tail + least_gaps tail) + job_gap 0) in
        let extra : ℕ = n - t * M in
        ap (λ y. work_from s T D N y t) (omega arith)
        ∙ rest_of_job tail 0 h n N t k (omega (arith, k.ends))
        ∙ worked_same tail (job_gap 0) (work_from s T D n (1 * M)) (jobs_from s job_gap 1 t) t
        (ap (λ y. work_from s T D y (1 * M) left) (omega (arith, k.ends)) ∙ are_jobs t 1 extra left (omega arith))

    pub enough_same : (t N h : ℕ) → h < M → suc t * M ≤ N → work_from s T D N h t ≡ phase_work s T D t h
    enough_same t N h l enough =
        let (tail, k) = tail_at s h l in
        phase_is t N h tail k enough ∙ sym (phase_is t (suc t * M) h tail k (omega arith))

  -- ---- the gap rule

  at_end : (q : ℕ) → suc ((q * M + (M - 1)) % M) ≡ M
  at_end q = let here : (q * M + (M - 1)) % M ≡ M - 1 = digits_mod q (omega (arith, some_segments s)) in omega (arith, some_segments s)

  whole_gap : ℕ
  whole_gap = T - (all_ticks s + least_gaps s)

  job_gap_is : (q : ℕ) → job_gap q ≡ cond (early M (q * M + (M - 1))) (T - D) whole_gap
  unfolding job_gap whole_gap
  job_gap_is q = cond-true (suc ((q * M + (M - 1)) % M) == M) _ _ (eq-eqb (suc ((q * M + (M - 1)) % M)) M (at_end q))

  -- no gap after a job is longer than what runs allow
  pub first_gap : job_gap 0 ≤ T - D
  first_gap = omega (arith, job_gap_is 0, cond-true (early M (0 * M + (M - 1))) (T - D) whole_gap (early_first M (some_segments s)))

  pub short_gaps : all_ticks s + least_gaps s ≤ D → (q : ℕ) → job_gap q ≤ T - (all_ticks s + least_gaps s)
  unfolding whole_gap
  short_gaps fits q =
      let b : cond (early M (q * M + (M - 1))) (T - D) whole_gap ≤ whole_gap =
      cond_both (early M (q * M + (M - 1))) (T - D) whole_gap (λ g. g ≤ whole_gap) (λ e. omega arith) (λ e. omega arith) in
      omega (arith, job_gap_is q)

  -- from job 2 on a job comes every T ticks
  pub later_gaps : (q : ℕ) → 2 ≤ q → job_gap q ≡ T - (all_ticks s + least_gaps s)
  unfolding whole_gap
  later_gaps q two = job_gap_is q ∙ cond-false (early M (q * M + (M - 1))) (T - D) whole_gap (late_from_2 M q (some_segments s) two)
