-- What is proved of the assignment, for every kind of row, every test and every table. Assumes nothing.
use Rattle.std.specs.Prelude.{◌≡◌, ℕ, ◌↔◌, List, map, length, slice_index}
use Rattle.model.specs.Runs.{Task, Run, Level, Kept}
use Rattle.model.specs.LawfulRuns.{Lawful}
use Rattle.model.specs.Bags.{◌~◌, Part}
use Rattle.model.specs.Rows.{Kind}
use Rattle.feasibility.specs.Tests.{Answers, TestRules}
use Rattle.feasibility.specs.Masks.{row_of, places}
use Rattle.assign.specs.Assignment.{Outcome, accepted, stuck, Stuck, Assigned, Fits, Unfit}

-- all places of the table
abbrev pub all_places : {R : Type 0} → List R → List ℕ
all_places table = places (length table)

-- by this test the assignment for the table has this outcome
abbrev pub Arranges : {R : Type 0} → Kind R → Answers R → List R → Outcome → Type 0
Arranges kind test table o = Assigned test.answer (row_of kind table) (all_places table) o

-- every order of the table leaves some task without a bound under the tasks above it
abbrev pub NoneFits : {R : Type 0} → Kind R → Answers R → List R → Type 0
NoneFits kind test table = (order : List ℕ) → order ~ all_places table → Unfit test.answer (row_of kind table) order

-- In every lawful run of the rows in this order, whatever its length, releases and patterns, each job is finished when its level's bound has
-- passed since its release, if the run lasts that long
abbrev pub BoundsHold : {R : Type 0} → Kind R → List R → List ℕ → List ℕ → Type 0
BoundsHold {R} kind table order bounds =
    (run : Run R) → Lawful kind run → map (λ task. task.row) run.tasks ≡ map (row_of kind table) order
    → (k : ℕ) (task : Task R) → Level run k task → Kept run k task (slice_index bounds k)

pub record Laws {R : Type 0} (kind : Kind R) (test : Answers R) (table : List R) : Type 0 where
  -- there is exactly one outcome
  pub one_outcome : (o : Outcome) × Arranges kind test table o × ((other : Outcome) → Arranges kind test table other → other ≡ o)
  -- an accepted order has each place once, and each level's bound is the answer under the levels above it
  pub accepted_fits : (order bounds : List ℕ) (questions : ℕ) → Arranges kind test table (accepted order bounds questions) → (order ~ all_places table) × Fits test.answer (row_of kind table) order bounds
  -- and its bounds hold in every lawful run of it
  pub accepted_holds : (order bounds : List ℕ) (questions : ℕ) → Arranges kind test table (accepted order bounds questions) → BoundsHold kind table order bounds
  -- the outcome is stuck exactly when every order leaves some task without a bound under the tasks above it
  pub stuck_exactly : ((left : List ℕ) × (questions : ℕ) × Arranges kind test table (stuck left questions)) ↔ NoneFits kind test table
  -- what is left is a stuck set
  pub left_stuck : (left : List ℕ) (questions : ℕ) → Arranges kind test table (stuck left questions) → Part left (all_places table) × Stuck test.answer (row_of kind table) left
  -- and it contains every stuck set
  pub left_largest : (left : List ℕ) (questions : ℕ) → Arranges kind test table (stuck left questions) → (set : List ℕ) → Part set (all_places table) → Stuck test.answer (row_of kind table) set → Part set left
  -- with its rows in any other order the table is stuck too, and the same rows are left
  pub same_left : (left : List ℕ) (questions : ℕ) → Arranges kind test table (stuck left questions) → (other : List R) → other ~ table → (left' : List ℕ) × (questions' : ℕ) × Arranges kind test other (stuck left' questions') × (map (row_of kind other) left' ~ map (row_of kind table) left)

abbrev pub AssignmentLaws : Type 0 → Type 0
AssignmentLaws R = (kind : Kind R) (test : Answers R) → TestRules kind test → (table : List R) → Laws kind test table
