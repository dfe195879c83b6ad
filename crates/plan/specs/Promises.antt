-- What a plan promises. Assumes nothing.
use Rattle.std.specs.Prelude.{◌≡◌, ℕ, ◌<◌, ◌≤◌, ◌↔◌, List, map, length, take, Some, slice_index, slice_index_or}
use Rattle.model.specs.Bags.{◌~◌}
use Rattle.model.specs.Rows.{Kind}
use Rattle.model.specs.Runs.{Task, Run, Level, Kept}
use Rattle.model.specs.LawfulRuns.{Lawful, NoLate}
use Rattle.feasibility.specs.Tests.{Answers, TestRules}
use Rattle.feasibility.specs.Masks.{places, row_of}
use Rattle.table.specs.declared.refusal.Refusal.TheVariants.{NoTaskFits}
use Rattle.table.specs.Tables.{capacity, LawfulTable}
use Rattle.assign.specs.Laws.{NoneFits}
use Rattle.plan.specs.States.{State, opened, arranged, Answer, refusal_of}
use Rattle.plan.specs.Calls.{Arrange}
use Rattle.plan.specs.Sequences.{Reading, Call, Reached, ArrangedBy}

-- the rows of the table in the order held in memory, the highest level first
abbrev pub in_order : {R : Type 0} → Kind R → ℕ → List R → List ℕ → List R
in_order kind n rows order = map (row_of kind (take n rows)) (take n order)

-- The order and the bounds that the memories hold for n tasks, by a test.
pub record Holds {R : Type 0} (kind : Kind R) (test : Answers R) (n : ℕ) (rows : List R) (order bounds : List ℕ) : Type 0 where
  -- the order has each task once
  pub each_once : take n order ~ places n
  -- the bound of each level is what the test answers of its task under the tasks above it
  pub answered : (i : ℕ) → i < n → test.answer (slice_index_or (in_order kind n rows order) i kind.blank) (take i (in_order kind n rows order)) ≡ Some (slice_index bounds i)
  -- in every lawful run of these rows in this order, each job of a level is finished when the level's bound has passed since its release, if the
  -- run lasts that long; and no job is late
  pub kept : (run : Run R) → Lawful kind run → map (λ task. task.row) run.tasks ≡ in_order kind n rows order → (i : ℕ) (task : Task R) → Level run i task → Kept run i task (slice_index bounds i) × NoLate kind run i task

-- (a) An accepted order holds, by the test that was handed to arrange.
abbrev pub AcceptedHolds : {R : Type 0} → Kind R → Type 0
AcceptedHolds {R} kind =
    (test : Answers R) → TestRules kind test → (n n' questions : ℕ) (rows rows' : List R) (order bounds order' bounds' : List ℕ) (a : Answer) → n ≤ capacity
    → Arrange kind test (opened n rows order bounds) a (arranged n' questions rows' order' bounds') → Holds kind test n' rows' order' bounds'

-- (b) On every lawful table, in memory that is long enough, arrange is refused for want of a task that fits exactly when every order of the
-- tasks leaves some task without a bound under the tasks above it.
abbrev pub RefusedExactly : {R : Type 0} → Kind R → Type 0
RefusedExactly {R} kind =
    (test : Answers R) → TestRules kind test → (n : ℕ) (rows : List R) (order bounds : List ℕ) (a : Answer) (t : State R)
    → capacity ≤ length rows → capacity ≤ length order → capacity ≤ length bounds → LawfulTable kind (take n rows)
    → Arrange kind test (opened n rows order bounds) a t → (refusal_of a ≡ Some NoTaskFits) ↔ NoneFits kind test (take n rows)

-- (c) Whatever sheets mean, whatever the memories hold at first and whichever calls are made, refused ones counted: where they bring a new plan
-- to an arranged stage, the order held there holds by the test of the last arrange.
abbrev pub SequencesHold : {R : Type 0} → Kind R → Type 0
SequencesHold {R} kind =
    (reading : Reading R) (rows : List R) (order bounds : List ℕ) (calls : List (Call kind × Answer)) (n questions : ℕ) (rows' : List R) (order' bounds' : List ℕ)
    → Reached kind reading (opened 0 rows order bounds) calls (arranged n questions rows' order' bounds')
    → (test : Answers R) × TestRules kind test × ArrangedBy test calls × Holds kind test n rows' order' bounds'

abbrev pub Promise : {R : Type 0} → Kind R → Type 0
Promise kind = AcceptedHolds kind × RefusedExactly kind × SequencesHold kind
