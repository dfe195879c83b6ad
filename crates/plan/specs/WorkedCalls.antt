-- A sequence of calls worked out: rows of which only the totals are known, and the whole-job test over the ceiling curve. Assumes nothing.
use Rattle.std.specs.Prelude.{ℕ, List, [], ◌∷◌, ◌++◌, replicate}
use Rattle.model.specs.declared.whole.Whole.{Whole}
use Rattle.model.specs.WholeRows.{whole_kind}
use Rattle.curves.specs.CeilingCurve.{ceiling_workload}
use Rattle.feasibility.specs.Tests.{Answers, TestRules}
use Rattle.feasibility.specs.WholeJobs.{whole_job_answers}
use Rattle.table.specs.declared.fault.Fault.TheVariants.{Assignment}
use Rattle.table.specs.declared.refusal.Refusal.TheVariants.{IdTaken}
use Rattle.plan.specs.States.{State, opened, arranged, done, told, refused, refused_beside}
use Rattle.plan.specs.Calls.{in_plan, Enter, Amend, Arrange, Reopen, Read}
use Rattle.plan.specs.Sequences.{Reading, Reached}
use Rattle.plan.specs.Sequences as calls

-- a row with its deadline at the period
abbrev pub row : ℕ → ℕ → ℕ → ℕ → Whole
row id period compute suspend = record { id = id; period = period; deadline = period; compute = compute; suspend = suspend }

abbrev pub ceiling_test : Answers Whole
ceiling_test = whole_job_answers whole_kind (ceiling_workload whole_kind)

-- 33 entries of each memory, in use before
abbrev pub old_rows : ℕ → List Whole
old_rows n = replicate n (row 1 5 1 0)

abbrev pub old_order : List ℕ
old_order = replicate 33 200

abbrev pub old_bounds : List ℕ
old_bounds = replicate 33 77

-- task 7 may be arranged above task 9, and not above task 9 as amended
abbrev pub task_7 : Whole
task_7 = row 7 8 2 6

abbrev pub task_9 : Whole
task_9 = row 9 40 14 4

abbrev pub tighter_9 : Whole
tighter_9 = row 9 20 14 4

-- the states, one after the other
abbrev pub made_new : State Whole
made_new = opened 0 (old_rows 33) old_order old_bounds

abbrev pub one_task : State Whole
one_task = opened 1 (task_7 ∷ old_rows 32) old_order old_bounds

abbrev pub two_tasks : State Whole
two_tasks = opened 2 (task_7 ∷ task_9 ∷ old_rows 31) old_order old_bounds

abbrev pub in_order : State Whole
in_order = arranged 2 3 (task_7 ∷ task_9 ∷ old_rows 31) (0 ∷ 1 ∷ replicate 30 0 ++ 200 ∷ []) (8 ∷ 26 ∷ replicate 30 0 ++ 77 ∷ [])

abbrev pub open_again : State Whole
open_again = opened 2 (task_7 ∷ task_9 ∷ old_rows 31) (0 ∷ 1 ∷ replicate 30 0 ++ 200 ∷ []) (8 ∷ 26 ∷ replicate 30 0 ++ 77 ∷ [])

abbrev pub amended : State Whole
amended = opened 2 (task_7 ∷ tighter_9 ∷ old_rows 31) (0 ∷ 1 ∷ replicate 30 0 ++ 200 ∷ []) (8 ∷ 26 ∷ replicate 30 0 ++ 77 ∷ [])

abbrev pub without_order : State Whole
without_order = opened 2 (task_7 ∷ tighter_9 ∷ old_rows 31) (replicate 32 0 ++ 200 ∷ []) (replicate 32 0 ++ 77 ∷ [])

pub record Worked : Type 0 where
  pub test_keeps : TestRules whole_kind ceiling_test
  pub enter_7 : Enter whole_kind task_7 made_new done one_task
  pub enter_9 : Enter whole_kind task_9 one_task done two_tasks
  -- the id stands in the table already
  pub enter_9_again : Enter whole_kind tighter_9 two_tasks (refused (in_plan IdTaken 2)) two_tasks
  -- task 7 is tried for the lowest level first, and task 9 takes it
  pub arrange : Arrange whole_kind ceiling_test two_tasks done in_order
  pub read_lowest : Read whole_kind 2 in_order (told 9 26) in_order
  pub reopen : Reopen whole_kind in_order done open_again
  pub amend_9 : Amend whole_kind tighter_9 open_again done amended
  -- neither has a bound under the other
  pub arrange_again : Arrange whole_kind ceiling_test amended (refused_beside (Assignment 2) 3 2) without_order
  -- so these calls, the last one first, lead from the new plan to the last state
  pub sequence : (reading : Reading Whole) → Reached whole_kind reading made_new
      ((calls.arrange ceiling_test test_keeps, refused_beside (Assignment 2) 3 2)
      ∷ (calls.amend tighter_9, done)
      ∷ (calls.reopen, done)
      ∷ (calls.read 2, told 9 26)
      ∷ (calls.arrange ceiling_test test_keeps, done)
      ∷ (calls.enter tighter_9, refused (in_plan IdTaken 2))
      ∷ (calls.enter task_9, done)
      ∷ (calls.enter task_7, done)
      ∷ [])
      without_order
