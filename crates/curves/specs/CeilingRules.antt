-- The ceiling curve keeps the rules of curves, for every kind of row. Assumes nothing.
use Rattle.std.specs.Prelude.{◌≡◌, ℕ, zero, suc, ◌+◌, ◌-◌, ◌*◌, ◌/◌, ◌%◌, ◌≤◌, min, true, cond, ◌⊎◌, List, [], ◌∷◌, length, refl}
use Rattle.std.proofs.Common.{ap}
use Rattle.std.proofs.Math.Logic.{inl, inr}
use Rattle.std.proofs.Math.Nat.{mul-le-mul_right, mul-le-mul_left}
use native.Mathlib.Omega.{arith}
use Rattle.std.specs.List.{AllByRecursion}
use Rattle.std.proofs.lemmas.Bool.{cases_lt, cases_Bool, cond-true, cond-false}
use Rattle.model.specs.Runs.{Job, Task, Run, ran, used, Level}
use Rattle.model.specs.Patterns.{costs}
use Rattle.model.specs.Rows.{Kind, Bounds, limit}
use Rattle.model.specs.LawfulRuns.{Lawful, LawfulTask, NoLate}
use Rattle.curves.specs.Curves.{CurveRules, CurveEdges}
use Rattle.curves.specs.CeilingCurve.{ceil, ceiling, ceiling_workload}
use Rattle.model.proofs.Marks.{rising}
use Rattle.model.proofs.Ticks.{counts, clipped, runs_waiting}
use Rattle.model.proofs.Work.{window}

-- a remainder counts as one more
ceil_by : (n d : ℕ) → ((n % d ≡ 0) × (ceil n d * d ≡ (n / d) * d)) ⊎ ((1 ≤ n % d) × (ceil n d * d ≡ suc (n / d) * d))
ceil_by n d =
    elim (cases_lt 0 (n % d)) [
      | inl some ↦ let e : ceil n d ≡ suc (n / d) = omega arith in inr (some, ap (λ m. m * d) e)
      | inr none ↦ let e : ceil n d ≡ n / d = omega arith in inl (omega arith, ap (λ m. m * d) e)
    ]

pub ceil_covers : (n d : ℕ) → 1 ≤ d → n ≤ ceil n d * d
ceil_covers n d h = elim (ceil_by n d) [ inl (none, e) ↦ omega arith | inr (some, e) ↦ omega arith ]

pub ceil_tight : (n d : ℕ) → 1 ≤ d → ceil n d * d ≤ n + (d - 1)
ceil_tight n d h = elim (ceil_by n d) [ inl (none, e) ↦ omega arith | inr (some, e) ↦ omega arith ]

pub ceil_rises : (n m d : ℕ) → 1 ≤ d → n ≤ m → ceil n d ≤ ceil m d
ceil_rises n m d h l =
    elim (cases_lt (ceil m d) (ceil n d)) [
      | inr fine ↦ fine
      | inl fewer ↦ absurd (omega (arith, ceil_tight n d h, ceil_covers m d h, mul-le-mul_right {m = suc (ceil m d)} {n = ceil n d} d fewer))
    ]

pub all_costs : {R : Type 0} (kind : Kind R) (x : R) → kind.lawful x ≡ true → (jobs : List Job)
    → AllByRecursion (λ j. kind.allows x j.pattern ≡ true) jobs → AllByRecursion (λ j. costs j.pattern ≤ kind.compute x) jobs
all_costs kind x l [] a = tt
all_costs kind x l (j ∷ js) (a, rest) = ((kind.r2 x j.pattern l a).0, all_costs kind x l js rest)

module _ {R : Type 0} (kind : Kind R) where
  -- the curve at a lawful row
  jobs_in : R → ℕ → ℕ
  jobs_in x t = ceil ((min t limit + kind.deadline x) - kind.compute x) (kind.period x)

  at_lawful : (x : R) (t : ℕ) → kind.lawful x ≡ true → ceiling kind x t ≡ jobs_in x t * kind.compute x
  unfolding jobs_in
  at_lawful x t l = cond-true (kind.lawful x) (jobs_in x t * kind.compute x) 0 l

  -- as the code finds it
  pub product : (x : R) (t jobs compute : ℕ) → kind.lawful x ≡ true → compute ≡ kind.compute x
      → jobs ≡ ceil ((min t limit + kind.deadline x) - compute) (kind.period x) → jobs * compute ≡ ceiling kind x t
  unfolding jobs_in
  product x t jobs compute l e f = let at = at_lawful x t l in cc

  pub rises : (x : R) (t u : ℕ) → t ≤ u → ceiling kind x t ≤ ceiling kind x u
  unfolding jobs_in
  rises x t u h =
      elim (cases_Bool (kind.lawful x)) [
        | inl l ↦
            let b = kind.r1 x l in
            let more : jobs_in x t ≤ jobs_in x u = ceil_rises _ _ (kind.period x) b.some_period (omega arith) in
            omega (arith, at_lawful x t l, at_lawful x u l, mul-le-mul_right (kind.compute x) more)
        | inr n ↦ omega (arith, cond-false (kind.lawful x) (jobs_in x t * kind.compute x) 0 n)
      ]

  pub small : (x : R) (t : ℕ) → t ≤ limit → ceiling kind x t ≤ 4000000
  unfolding jobs_in
  small x t h =
      elim (cases_Bool (kind.lawful x)) [
        | inl l ↦
            let b = kind.r1 x l in
            omega (
              arith,
              at_lawful x t l,
              ceil_tight ((min t limit + kind.deadline x) - kind.compute x) (kind.period x) b.some_period,
              mul-le-mul_left {m = kind.compute x} {n = kind.period x} (jobs_in x t) (omega arith),
              b,
            )
        | inr n ↦ omega (arith, cond-false (kind.lawful x) (jobs_in x t * kind.compute x) 0 n)
      ]

  -- past the limit the curve is flat
  flat : (x : R) (t : ℕ) → limit ≤ t → ceiling kind x t ≡ ceiling kind x limit
  flat x t h =
      let same : min t limit ≡ min limit limit = omega arith in
      ap (λ u. cond (kind.lawful x) (ceil ((u + kind.deadline x) - kind.compute x) (kind.period x) * kind.compute x) 0) same

  pub small_always : (x : R) (t : ℕ) → ceiling kind x t ≤ 4000000
  small_always x t =
      elim (cases_lt limit t) [ inr within ↦ small x t within | inl past ↦ omega (arith, flat x t (omega arith), small x limit (omega arith)) ]

  -- any window inside the run, however long
  pub ceiling_window : (run : Run R) → Lawful kind run → (i : ℕ) (task : Task R) → Level run i task → NoLate kind run i task
      → (a e : ℕ) → a ≤ e → e ≤ length run.ticks
      → ran run.ticks i e ≤ ran run.ticks i a + ceil (((e - a) + kind.deadline task.row) - kind.compute task.row) (kind.period task.row) * kind.compute task.row
  ceiling_window run law i task at no_late a e l lasts = go jobs refl
    where
      x : R
      x = task.row

      f : ℕ → ℕ
      f = ran run.ticks i

      mine : LawfulTask kind task
      mine = law.tasks i task at

      b : Bounds (kind.period x) (kind.deadline x) (kind.compute x) (kind.suspend x)
      b = kind.r1 x mine.row_lawful

      jobs : ℕ
      jobs = ceil (((e - a) + kind.deadline x) - kind.compute x) (kind.period x)

      covers : ((e - a) + kind.deadline x) - kind.compute x ≤ jobs * kind.period x
      covers = ceil_covers (((e - a) + kind.deadline x) - kind.compute x) (kind.period x) b.some_period

      go : (n : ℕ) → jobs ≡ n → f e ≤ f a + jobs * kind.compute x
      go zero eq = omega (arith, rising f (counts run.ticks i) e a (omega (arith, covers, ap (λ m. m * kind.period x) eq, b)))
      go (suc q) eq =
          let bounded = window f (counts run.ticks i) (kind.period x) (kind.compute x) (kind.deadline x) (length run.ticks) b.in_period
          task.jobs 0 0 mine.spaced (all_costs kind x mine.row_lawful task.jobs mine.allowed) no_late
          (λ u y z. runs_waiting kind run law i task at u z)
          a e (omega arith) l lasts q (omega (arith, covers, ap (λ m. m * kind.period x) eq, b)) in
          omega (arith, ap (λ m. m * kind.compute x) eq)

  pub holds : (run : Run R) → Lawful kind run → (i : ℕ) (task : Task R) → Level run i task → NoLate kind run i task
      → (a t : ℕ) → t ≤ limit → used run.ticks i a t ≤ ceiling kind task.row t
  unfolding jobs_in
  holds run law i task at no_late a t h = clipped run.ticks i a t (ceiling kind x t) inside
    where
      x : R
      x = task.row

      lawful : kind.lawful x ≡ true
      lawful = (law.tasks i task at).row_lawful

      inside : (e : ℕ) → a ≤ e → e ≤ a + t → e ≤ length run.ticks → ran run.ticks i e ≤ ran run.ticks i a + ceiling kind x t
      inside e l g lasts =
          let wider : ceil (((e - a) + kind.deadline x) - kind.compute x) (kind.period x) ≤ jobs_in x t = ceil_rises _ _ (kind.period x) (kind.r1 x lawful).some_period (omega arith) in
          omega (arith, at_lawful x t lawful, ceiling_window run law i task at no_late a e l lasts, mul-le-mul_right (kind.compute x) wider)

  pub ceiling_keeps : CurveRules kind (ceiling_workload kind)
  ceiling_keeps = record { rises = rises; small = small; holds = holds }

  pub ceiling_edges : CurveEdges kind (ceiling_workload kind)
  unfolding jobs_in
  ceiling_edges =
      record {
        unlawful = λ x t n. cond-false (kind.lawful x) (jobs_in x t * kind.compute x) 0 n;
        flat = flat;
      }
