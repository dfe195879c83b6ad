-- The segment curve keeps the rules of curves, for every way to read rows as segmented rows. Assumes nothing.
use Rattle.std.specs.Prelude.{◌≡◌, ℕ, zero, suc, ◌+◌, ◌-◌, ◌*◌, ◌<◌, ◌≤◌, min, true, false, cond, ltb, length, nat_le, nat_lt, refl}
use Rattle.std.proofs.Common.{ap, ap₂, sym, subst, ◌∙◌, inl, inr, mul-le-mul_right, arith}
use Rattle.std.proofs.lemmas.Bool.{cases_lt, cases_Bool, cond-true, cond-false, cond_both, and_parts, leb-true, ltb-true, ltb-false, lt-ltb, le-ltb}
use Rattle.model.specs.Runs.{Task, Run, ran, used, Level}
use Rattle.model.specs.Rows.{Bounds, limit}
use Rattle.model.specs.LawfulRuns.{Lawful, LawfulTask, NoLate}
use Rattle.model.specs.Segments.{Segments, last, more, count, all_ticks, least_gaps, most_gaps, ranged, Shape, segmented, segmented_lawful, lawful_ranged}
use Rattle.model.proofs.Ticks.{counts, clipped, runs_waiting}
use Rattle.curves.specs.Curves.{CurveRules, CurveEdges}
use Rattle.curves.specs.SegmentCurve.{work_from, phase_work, Peak, greatest, row_work, segment_peak, segment_workload, PeakOfPhases}
use Rattle.curves.specs.Sequences.{worked, jobs_from, Lipschitz, lipschitz_worked, lipschitz_jobs}
use Rattle.curves.specs.SegmentWindows.{all_fit, segment_window}
use Rattle.curves.specs.Phases.{some_segments, Tail, tail_self, top_below, none_left, lipschitz_work, work_more, job_gap, phase_is, enough_same, first_gap, short_gaps}

-- ---- the greatest of the phases

pub peak_more : (work : ℕ → ℕ) (m : ℕ) (best : ℕ × ℕ) → Peak (suc m) work best
    → Peak (suc (suc m)) work (cond (nat_lt best.0 (work (suc m))) (work (suc m), suc m) best)
peak_more work m best p = cond_both (nat_lt best.0 (work (suc m))) (work (suc m), suc m) best (λ r. Peak (suc (suc m)) work r) higher kept
  where
    -- the last of the numbers, or one before it
    split : (h b : ℕ) → h < suc (suc m) → work (suc m) ≤ b → ((k : ℕ) → k < suc m → work k ≤ b) → work h ≤ b
    split h b l own others =
        elim (cases_lt h (suc m)) [ inl before ↦ others h before | inr past ↦ subst (λ k. work k ≤ b) (let e : suc m ≡ h = omega arith in e) own ]

    higher : ltb best.0 (work (suc m)) ≡ true → Peak (suc (suc m)) work (work (suc m), suc m)
    higher e =
        let more_work : best.0 < work (suc m) = ltb-true best.0 (work (suc m)) e in
        record {
          in_range = omega arith;
          is = refl;
          most = λ h l. split h (work (suc m)) l (omega arith) (λ k y. omega (arith, p.most k y));
          lowest = λ h l. omega (arith, p.most h l);
        }

    kept : ltb best.0 (work (suc m)) ≡ false → Peak (suc (suc m)) work best
    kept e =
        record {
          in_range = omega (arith, p.in_range);
          is = p.is;
          most = λ h l. split h best.0 l (ltb-false best.0 (work (suc m)) e) p.most;
          lowest = p.lowest;
        }

pub greatest_peak : (work : ℕ → ℕ) (m : ℕ) → Peak (suc m) work (greatest work m)
greatest_peak work zero =
    record {
      in_range = omega arith;
      is = refl;
      most = λ h l. subst (λ k. work k ≤ work 0) (let e : 0 ≡ h = omega arith in e) (omega arith);
      lowest = λ h l. absurd (omega arith);
    }
greatest_peak work (suc m) = peak_more work m (greatest work m) (greatest_peak work m)

-- one number more, as a loop counts
greatest_step : (work : ℕ → ℕ) (m : ℕ) (best : ℕ × ℕ) (here : ℕ) → 1 ≤ m → best ≡ greatest work (m - 1) → here ≡ work m
    → greatest work ((m + 1) - 1) ≡ cond (nat_lt best.0 here) (here, m) best
greatest_step work m best here some is at =
    let last : suc (m - 1) ≡ m = omega arith in
    ap (greatest work) (let e : (m + 1) - 1 ≡ suc (m - 1) = omega arith in e)
    ∙ ap (λ k. cond (nat_lt (greatest work (m - 1)).0 (work k)) (work k, k) (greatest work (m - 1))) last
    ∙ ap₂ (λ (y : ℕ) (b : ℕ × ℕ). cond (nat_lt b.0 y) (y, m) b) (sym at) (sym is)

pub greatest_higher : (work : ℕ → ℕ) (m : ℕ) (best : ℕ × ℕ) (here : ℕ) → 1 ≤ m → best ≡ greatest work (m - 1) → here ≡ work m
    → best.0 < here → (here, m) ≡ greatest work ((m + 1) - 1)
greatest_higher work m best here some is at more_work =
    sym (greatest_step work m best here some is at ∙ cond-true (nat_lt best.0 here) (here, m) best (lt-ltb best.0 here more_work))

pub greatest_kept : (work : ℕ → ℕ) (m : ℕ) (best : ℕ × ℕ) (here : ℕ) → 1 ≤ m → best ≡ greatest work (m - 1) → here ≡ work m
    → here ≤ best.0 → best ≡ greatest work ((m + 1) - 1)
greatest_kept work m best here some is at no_more =
    sym (greatest_step work m best here some is at ∙ cond-false (nat_lt best.0 here) (here, m) best (le-ltb best.0 here no_more))

peak_alike : (M : ℕ) (work other : ℕ → ℕ) (r : ℕ × ℕ) → ((h : ℕ) → h < M → work h ≡ other h) → Peak M work r → Peak M other r
peak_alike M work other r same p =
    record {
      in_range = p.in_range;
      is = omega (arith, same r.1 p.in_range, p.is);
      most = λ h l. omega (arith, same h l, p.most h l);
      lowest = λ h l. omega (arith, same h (omega (arith, p.in_range)), p.lowest h l);
    }

greatest_most : (work : ℕ → ℕ) (m b : ℕ) → ((h : ℕ) → work h ≤ b) → (greatest work m).0 ≤ b
greatest_most work m b all = omega (arith, (greatest_peak work m).is, all (greatest work m).1)

greatest_rises : (work other : ℕ → ℕ) (m : ℕ) → ((h : ℕ) → work h ≤ other h) → (greatest work m).0 ≤ (greatest other m).0
greatest_rises work other m all =
    let p = greatest_peak work m in
    let h : ℕ = (greatest work m).1 in
    omega (arith, p.is, all (greatest work m).1, (greatest_peak other m).most (greatest work m).1 p.in_range)

-- ---- the work of a phase

work_grows : (s : Segments) (T D t u h : ℕ) → t ≤ u → phase_work s T D t h ≤ phase_work s T D u h
work_grows s T D t u h l =
    omega (
      arith,
      work_more s T D (suc t * count s) (suc u * count s) h t (mul-le-mul_right {m = suc t} {n = suc u} (count s) (omega arith)),
      (lipschitz_work s T D (suc u * count s) h).by t u 0 (omega arith),
    )

-- no more ticks than the window has
work_small : (s : Segments) (T D t h : ℕ) → phase_work s T D t h ≤ t
work_small s T D t h = omega (arith, (lipschitz_work s T D (suc t * count s) h).by t 0 t (omega arith), none_left s T D (suc t * count s) h)

-- ---- the curve

pub gaps_ordered : (s : Segments) → ranged s ≡ true → least_gaps s ≤ most_gaps s
gaps_ordered (last c) e = omega arith
gaps_ordered (more c lo hi s) e =
    let (a, r) = and_parts (nat_le lo hi) (ranged s) e in
    omega (arith, leb-true lo hi a, gaps_ordered s r)

module _ {R : Type 0} (shape : Shape R) where
  abbrev ticks : R → ℕ → ℕ
  ticks x t = (segment_peak shape x t).0

  abbrev best : R → ℕ → ℕ × ℕ
  best x t = greatest (row_work shape x t) (count (shape.segments x) - 1)

  pub at_lawful : (x : R) (t : ℕ) → segmented_lawful shape x ≡ true → segment_peak shape x t ≡ best x (min t limit)
  at_lawful x t l = cond-true (segmented_lawful shape x) (best x (min t limit)) (0, 0) l

  pub at_other : (x : R) (t : ℕ) → segmented_lawful shape x ≡ false → segment_peak shape x t ≡ (0, 0)
  at_other x t l = cond-false (segmented_lawful shape x) (best x (min t limit)) (0, 0) l

  work_lawful : (x : R) (t : ℕ) → segmented_lawful shape x ≡ true → ticks x t ≡ (best x (min t limit)).0
  work_lawful x t l = ap (λ (r : ℕ × ℕ). r.0) (at_lawful x t l)

  work_other : (x : R) (t : ℕ) → segmented_lawful shape x ≡ false → ticks x t ≡ 0
  work_other x t l = ap (λ (r : ℕ × ℕ). r.0) (at_other x t l)

  rises : (x : R) (t u : ℕ) → t ≤ u → ticks x t ≤ ticks x u
  rises x t u h =
      elim (cases_Bool (segmented_lawful shape x)) [
        | inl l ↦
            let more_work = greatest_rises (row_work shape x (min t limit)) (row_work shape x (min u limit)) (count (shape.segments x) - 1)
            (λ k. work_grows (shape.segments x) (shape.period x) (shape.deadline x) (min t limit) (min u limit) k (omega arith)) in
            omega (arith, work_lawful x t l, work_lawful x u l)
        | inr n ↦ omega (arith, work_other x t n)
      ]

  pub small : (x : R) (t : ℕ) → ticks x t ≤ min t limit
  small x t =
      elim (cases_Bool (segmented_lawful shape x)) [
        | inl l ↦
            omega (
              arith,
              work_lawful x t l,
              greatest_most (row_work shape x (min t limit)) (count (shape.segments x) - 1) (min t limit)
                  (work_small (shape.segments x) (shape.period x) (shape.deadline x) (min t limit)),
            )
        | inr n ↦ omega (arith, work_other x t n)
      ]

  holds : (run : Run R) → Lawful (segmented shape) run → (i : ℕ) (task : Task R) → Level run i task → NoLate (segmented shape) run i task
      → (a t : ℕ) → t ≤ limit → used run.ticks i a t ≤ ticks task.row t
  holds run law i task at no_late a t h = clipped run.ticks i a t (ticks task.row t) inside
    where
      x : R
      x = task.row

      s : Segments
      s = shape.segments x

      T : ℕ
      T = shape.period x

      D : ℕ
      D = shape.deadline x

      f : ℕ → ℕ
      f = ran run.ticks i

      mine : LawfulTask (segmented shape) task
      mine = law.tasks i task at

      b : Bounds T D (all_ticks s) (most_gaps s)
      b = (segmented shape).r1 x mine.row_lawful

      gaps : least_gaps s ≤ most_gaps s
      gaps = gaps_ordered s (lawful_ranged shape x mine.row_lawful)

      K : ℕ → ℕ
      K = jobs_from s (job_gap s T D) 1 t

      lipschitz : Lipschitz K
      lipschitz = lipschitz_jobs s (job_gap s T D) 1 t

      -- each phase in a part of the window is within the greatest
      phase : (e : ℕ) → e ≤ a + t → (k : ℕ) (tail : Segments) → Tail s k tail → worked tail (job_gap s T D 0) K (e - a) ≤ (best x t).0
      phase e g k tail is =
          let some = some_segments tail in
          omega (
            arith,
            (lipschitz_worked tail (job_gap s T D 0) K lipschitz).by (e - a) t 0 (omega arith),
            phase_is s T D b.some_cost t (suc t * count s) k tail is (omega arith),
            (greatest_peak (row_work shape x t) (count s - 1)).most k (omega (arith, is.ends)),
          )

      inside : (e : ℕ) → a ≤ e → e ≤ a + t → e ≤ length run.ticks → f e ≤ f a + ticks x t
      inside e l g lasts =
          let bound = segment_window f (counts run.ticks i) s T (job_gap s T D) b.some_period (omega (arith, b, gaps)) (short_gaps s T D (omega (arith, b, gaps)))
          D (length run.ticks) b.in_period (first_gap s T D)
          task.jobs 0 0 mine.spaced (all_fit (shape.segments x) task.jobs mine.allowed) no_late (λ u y z. runs_waiting (segmented shape) run law i task at u z)
          a e (omega arith) l lasts t g in
          let all = top_below s s 0 (tail_self s) (λ tail. worked tail (job_gap s T D 0) K (e - a)) (best x t).0 (phase e g) in
          let same : min t limit ≡ t = omega arith in
          let there : (best x (min t limit)).0 ≡ (best x t).0 = ap (λ u. (best x u).0) same in
          omega (arith, work_lawful x t mine.row_lawful)

  pub segment_keeps : CurveRules (segmented shape) (segment_workload shape)
  segment_keeps = record { rises = rises; small = λ x t h. omega (arith, small x t); holds = holds }

  pub segment_edges : CurveEdges (segmented shape) (segment_workload shape)
  segment_edges =
      record {
        unlawful = work_other;
        flat = λ x t h.
            let same : min t limit ≡ min limit limit = omega arith in
            ap (λ u. (cond (segmented_lawful shape x) (best x u) (0, 0)).0) same;
      }

  pub by_number : (x : R) (t : ℕ) → PeakOfPhases shape x t (segment_peak shape x t)
  by_number x t l n enough =
      let s = shape.segments x in
      let T = shape.period x in
      let D = shape.deadline x in
      let b : Bounds T D (all_ticks s) (most_gaps s) = (segmented shape).r1 x l in
      let found : Peak (suc (count s - 1)) (row_work shape x (min t limit)) (best x (min t limit)) = greatest_peak (row_work shape x (min t limit)) (count s - 1) in
      let all : suc (count s - 1) ≡ count s = omega (arith, some_segments s) in
      subst (λ r. Peak (count s) (λ h. work_from s T D n h (min t limit)) r) (sym (at_lawful x t l))
      (peak_alike (count s) (row_work shape x (min t limit)) (λ h. work_from s T D n h (min t limit)) (best x (min t limit))
      (λ h k. sym (enough_same s T D b.some_cost (min t limit) n h k enough))
      (subst (λ M. Peak M (row_work shape x (min t limit)) (best x (min t limit))) all found))
