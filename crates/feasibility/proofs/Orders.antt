-- An order in which each task has a bound keeps all its bounds. Assumes nothing.
use Rattle.std.proofs.Common.{◌≡◌, ℕ, zero, suc, ◌<◌, ◌≤◌, Some, arith}
use Rattle.model.specs.Rows.{Kind}
use Rattle.model.specs.Runs.{Task, Run, Level, Kept, above}
use Rattle.model.specs.LawfulRuns.{Lawful, NoLate}
use Rattle.feasibility.specs.Tests.{Answers, TestRules}
use Rattle.feasibility.specs.Laws.{Bounded}

pub kept_longer : {R : Type 0} (run : Run R) (i : ℕ) (task : Task R) (b d : ℕ) → b ≤ d → Kept run i task b → Kept run i task d
kept_longer run i task b d l kept n j at lasts =
    let (m, ends, before) = kept n j at (omega arith) in
    (m, ends, omega arith)

module _ {R : Type 0} (kind : Kind R) (test : Answers R) (rules : TestRules kind test) (run : Run R) (law : Lawful kind run) (bounded : Bounded test run) where
  in_time : (n i : ℕ) (task : Task R) → i < n → Level run i task → NoLate kind run i task
  in_time zero i task l at = absurd (omega arith)
  in_time (suc n) i task l at =
      let (b, e) = bounded i task at in
      kept_longer run i task b (kind.deadline task.row) (rules.in_deadline task.row (above run i) b e).1
      (rules.holds run law i task at (λ j other j<i there. in_time n j other (omega arith) there) b e)

  pub all_kept : (k : ℕ) (task : Task R) → Level run k task → (b : ℕ) → test.answer task.row (above run k) ≡ Some b → Kept run k task b × NoLate kind run k task
  all_kept k task at b e = (rules.holds run law k task at (λ j other j<k there. in_time k j other j<k there) b e, in_time (suc k) k task (omega arith) at)
