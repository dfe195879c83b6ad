-- Feasibility tests, and the rules that every test keeps. Assumes nothing.
use Rattle.std.specs.Prelude.{◌≡◌, ℕ, ◌<◌, ◌≤◌, true, List, ◌∷◌, Some, Option}
use Rattle.model.specs.Bags.{◌~◌, Part}
use Rattle.model.specs.Rows.{Kind, all_lawful}
use Rattle.model.specs.Runs.{Task, Run, Level, Kept, above}
use Rattle.model.specs.LawfulRuns.{Lawful, NoLate}

-- a test: its letter, and the bound of a task by its row and the rows above it, or none
pub record Answers (R : Type 0) : Type 0 where
  pub letter : ℕ
  pub answer : R → List R → Option ℕ

-- a bound no larger than b
abbrev pub AtMost : Option ℕ → ℕ → Type 0
AtMost o b = (c : ℕ) × (o ≡ Some c) × (c ≤ b)

pub record TestRules {R : Type 0} (kind : Kind R) (test : Answers R) : Type 0 where
  -- there is a bound only if every row asked about is lawful
  pub lawful_rows : (x : R) (A : List R) (b : ℕ) → test.answer x A ≡ Some b → all_lawful kind (x ∷ A) ≡ true
  -- the order of the rows above does not matter
  pub any_order : (x : R) (A B : List R) → A ~ B → test.answer x A ≡ test.answer x B
  -- a bound means a bound, no larger, under every part of the rows above
  pub fewer : (x : R) (A B : List R) (b : ℕ) → test.answer x A ≡ Some b → Part B A → AtMost (test.answer x B) b
  -- a bound is 1 to the deadline
  pub in_deadline : (x : R) (A : List R) (b : ℕ) → test.answer x A ≡ Some b → (1 ≤ b) × (b ≤ kind.deadline x)
  -- in a lawful run with these rows above the task, none of their jobs late, every job of the task is finished one bound after its release
  pub holds : (run : Run R) → Lawful kind run → (k : ℕ) (task : Task R) → Level run k task
      → ((i : ℕ) (other : Task R) → i < k → Level run i other → NoLate kind run i other)
      → (b : ℕ) → test.answer task.row (above run k) ≡ Some b → Kept run k task b
