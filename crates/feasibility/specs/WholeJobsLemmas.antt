-- The whole-job test over any curve keeps the rules of a test. Assumes nothing.
use Rattle.std.specs.Prelude.{◌≡◌, ℕ, ◌+◌, ◌<◌, ◌≤◌, Bool, true, cond, ◌&&◌, List, [], ◌∷◌, length, Some, None, sum_by, nat_le}
use Rattle.std.proofs.Common.{ap, ap₂, ◌∙◌, arith}
use Rattle.std.proofs.Math.Path.{fun_ext}
use Rattle.std.specs.List.{AllByRecursion}
use Rattle.std.proofs.lemmas.Bool.{leb-true, le-leb, and_parts, and_from}
use Rattle.model.specs.Bags.{◌~◌, Part}
use Rattle.model.specs.Patterns.{costs, suspensions}
use Rattle.model.specs.Rows.{Kind, all_lawful}
use Rattle.model.specs.Runs.{Job, Task, Run, ran, Level, Kept, above}
use Rattle.model.specs.LawfulRuns.{Lawful, NoLate}
use Rattle.curves.specs.Curves.{Workload, CurveRules}
use Rattle.feasibility.specs.Tests.{TestRules, AtMost}
use Rattle.feasibility.specs.Windows.{least, fits}
use Rattle.feasibility.specs.WholeJobs.{whole_job, whole_job_answers}
use Rattle.model.proofs.Ticks.{counts, higher, higher_up, busy}
use Rattle.model.proofs.Jobs.{all_in_time, whole_in_time}
use Rattle.feasibility.specs.Least.{least_found, least_sooner}
use Rattle.feasibility.specs.Above.{sum_reordered, lawful_reordered, sum_part, lawful_part, cond_some, above_bound}

pub all_allowed : {R : Type 0} (kind : Kind R) (x : R) → kind.lawful x ≡ true → (jobs : List Job)
    → AllByRecursion (λ j. kind.allows x j.pattern ≡ true) jobs → AllByRecursion (λ j. (costs j.pattern ≤ kind.compute x) × (suspensions j.pattern ≤ kind.suspend x)) jobs
all_allowed kind x l [] a = tt
all_allowed kind x l (j ∷ js) (a, rest) = (kind.r2 x j.pattern l a, all_allowed kind x l js rest)

module _ {R : Type 0} (kind : Kind R) (w : Workload R) (rules : CurveRules kind w) where
  record Bound (x : R) (A : List R) (b : ℕ) : Type 0 where
    lawful : all_lawful kind (x ∷ A) ≡ true
    row_lawful : kind.lawful x ≡ true
    in_deadline : b ≤ kind.deadline x
    enough : kind.compute x + kind.suspend x + sum_by (λ y. w.ticks y b) A ≤ b

  bound : (x : R) (A : List R) (b : ℕ) → whole_job kind w.ticks x A ≡ Some b → Bound x A b
  bound x A b e =
      let (l, e') = cond_some (all_lawful kind (x ∷ A)) _ b e in
      let found = least_found (fits w.ticks (kind.compute x + kind.suspend x) A) (kind.deadline x) b e' in
      record {
        lawful = l;
        row_lawful = (and_parts (kind.lawful x) (all_lawful kind A) l).0;
        in_deadline = found.within;
        enough = leb-true _ b found.passes;
      }

  holds : (run : Run R) → Lawful kind run → (k : ℕ) (task : Task R) → Level run k task
      → ((i : ℕ) (other : Task R) → i < k → Level run i other → NoLate kind run i other)
      → (b : ℕ) → whole_job kind w.ticks task.row (above run k) ≡ Some b → Kept run k task b
  holds run law k task at no_late b e =
      let ok = bound task.row (above run k) b e in
      let mine = law.tasks k task at in
      let limits = kind.r1 task.row ok.row_lawful in
      let sums : (s : ℕ) → kind.compute task.row + kind.suspend task.row + higher run.ticks k (s + b) ≤ b + higher run.ticks k s =
      λ s. omega (arith, ok.enough, above_bound kind w rules run law k task at no_late s b (omega (arith, ok.in_deadline, limits.in_period, limits.period_fits))) in
      all_in_time (ran run.ticks k) (higher run.ticks k) (λ p. (costs p ≤ kind.compute task.row) × (suspensions p ≤ kind.suspend task.row))
      (length run.ticks) (kind.period task.row) b (omega (arith, ok.in_deadline, limits.in_period))
      (whole_in_time (ran run.ticks k) (higher run.ticks k) (counts run.ticks k) (higher_up run.ticks k) (length run.ticks)
      (kind.compute task.row) (kind.suspend task.row) b (λ s lasts. sums s))
      task.jobs 0 0 (omega arith) mine.spaced (all_allowed kind task.row ok.row_lawful task.jobs mine.allowed)
      (busy kind run law k task at)

  any_order : (x : R) (A B : List R) → A ~ B → whole_job kind w.ticks x A ≡ whole_job kind w.ticks x B
  any_order x A B r =
      ap₂ (λ (l : Bool) (s : ℕ → ℕ). cond (kind.lawful x && l) (least (λ t. nat_le (kind.compute x + kind.suspend x + s t) t) (kind.deadline x)) None)
      (lawful_reordered kind r) (fun_ext (λ t. sum_reordered (λ y. w.ticks y t) r))

  fewer : (x : R) (A B : List R) (b : ℕ) → whole_job kind w.ticks x A ≡ Some b → Part B A → AtMost (whole_job kind w.ticks x B) b
  fewer x A B b e part =
      let own = kind.compute x + kind.suspend x in
      let (l, e') = cond_some (all_lawful kind (x ∷ A)) _ b e in
      let (lx, lA) = and_parts (kind.lawful x) (all_lawful kind A) l in
      let (c, found, small) = least_sooner (fits w.ticks own A) (fits w.ticks own B) (kind.deadline x) b
      (λ u ok. le-leb _ u (omega (arith, leb-true (own + sum_by (λ y. w.ticks y u) A) u ok, sum_part (λ y. w.ticks y u) part))) e' in
      (c, ap (λ v. cond v (least (fits w.ticks own B) (kind.deadline x)) None) (and_from (kind.lawful x) (all_lawful kind B) lx (lawful_part kind part lA)) ∙ found, small)

  in_deadline : (x : R) (A : List R) (b : ℕ) → whole_job kind w.ticks x A ≡ Some b → (1 ≤ b) × (b ≤ kind.deadline x)
  in_deadline x A b e =
      let ok = bound x A b e in
      let limits = kind.r1 x ok.row_lawful in
      (omega (arith, ok.enough, limits.some_cost), ok.in_deadline)

  lawful_rows : (x : R) (A : List R) (b : ℕ) → whole_job kind w.ticks x A ≡ Some b → all_lawful kind (x ∷ A) ≡ true
  lawful_rows x A b e = (bound x A b e).lawful

  pub whole_job_test : TestRules kind (whole_job_answers kind w)
  whole_job_test = record { lawful_rows = lawful_rows; any_order = any_order; fewer = fewer; in_deadline = in_deadline; holds = holds }
