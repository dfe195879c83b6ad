-- Workload curves, and the rules that every curve keeps. Assumes nothing.
use Rattle.std.specs.Prelude.{◌≡◌, ℕ, ◌≤◌, false}
use Rattle.model.specs.Rows.{Kind, limit}
use Rattle.model.specs.Runs.{Task, Run, used, Level}
use Rattle.model.specs.LawfulRuns.{Lawful, NoLate}

-- a curve: the letter of the whole-job test over it, and how many ticks a row's task can run in a window of t ticks
pub record Workload (R : Type 0) : Type 0 where
  pub letter : ℕ
  pub ticks : R → ℕ → ℕ

pub record CurveRules {R : Type 0} (kind : Kind R) (w : Workload R) : Type 0 where
  -- it never falls, and stays small up to the longest window
  pub rises : (x : R) (t u : ℕ) → t ≤ u → w.ticks x t ≤ w.ticks x u
  pub small : (x : R) (t : ℕ) → t ≤ limit → w.ticks x t ≤ 4000000
  -- in a lawful run with no late job of the task, the task runs at most that many ticks in every window
  pub holds : (run : Run R) → Lawful kind run → (i : ℕ) (task : Task R) → Level run i task → NoLate kind run i task
      → (a t : ℕ) → t ≤ limit → used run.ticks i a t ≤ w.ticks task.row t

-- a row that is not lawful gives 0, and past the longest window the curve gives what it gives there
pub record CurveEdges {R : Type 0} (kind : Kind R) (w : Workload R) : Type 0 where
  pub unlawful : (x : R) (t : ℕ) → kind.lawful x ≡ false → w.ticks x t ≡ 0
  pub flat : (x : R) (t : ℕ) → limit ≤ t → w.ticks x t ≡ w.ticks x limit
