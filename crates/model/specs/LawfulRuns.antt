-- Which runs are lawful. Assumes nothing.
use Rattle.std.specs.Prelude.{◌≡◌, ℕ, ◌<◌, true, Some, None}
use Rattle.std.specs.List.{slice_get, AllByRecursion}
use Rattle.model.specs.Runs.{Task, Run, Spaced, Level, Waiting, Kept}
use Rattle.model.specs.Rows.{Kind}

pub record LawfulTask {R : Type 0} (kind : Kind R) (task : Task R) : Type 0 where
  pub row_lawful : kind.lawful task.row ≡ true
  pub spaced : Spaced (kind.period task.row) 0 task.jobs
  pub allowed : AllByRecursion (λ j. kind.allows task.row j.pattern ≡ true) task.jobs

pub record Lawful {R : Type 0} (kind : Kind R) (run : Run R) : Type 0 where
  pub tasks : (i : ℕ) (task : Task R) → Level run i task → LawfulTask kind task
  -- in each tick the highest level that waits runs, and nobody if none does
  pub runs : (t i : ℕ) → slice_get run.ticks t ≡ Some (Some i) → Waiting run i t × ((j : ℕ) → j < i → ¬ Waiting run j t)
  pub idles : (t : ℕ) → slice_get run.ticks t ≡ Some None → (i : ℕ) → ¬ Waiting run i t

-- no job of level i is late
abbrev pub NoLate : {R : Type 0} → Kind R → Run R → ℕ → Task R → Type 0
NoLate kind run i task = Kept run i task (kind.deadline task.row)
