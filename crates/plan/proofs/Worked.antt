-- The worked sequence of calls. Assumes nothing.
use Rattle.std.proofs.Common.{[], ◌∷◌, refl, ap, inl, inr}
use mathlib.Core.List.Memᴰ
use mathlib.Core.List.{cons≢nil}
use Rattle.model.specs.WholeRows.{whole_kind}
use Rattle.feasibility.specs.Tests.{TestRules}
use Rattle.feasibility.specs.Masks.{row_of}
use Rattle.table.specs.declared.fault.Fault.TheVariants.{Assignment}
use Rattle.table.specs.declared.refusal.Refusal.TheVariants.{IdTaken}
use Rattle.assign.specs.Assignment.{under_others, finished, level, empty_level, accepted, stuck}
use Rattle.assign.specs.Laws.{Arranges}
use Rattle.curves.specs.CeilingCurve.{ceiling_workload}
use Rattle.curves.specs.CeilingRules.{ceiling_keeps}
use Rattle.feasibility.specs.WholeJobsLemmas.{whole_job_test}
use Rattle.plan.specs.Calls.{in_plan, Enter, entered, not_entered, Amend, amended as was_amended, Arrange, given, none_fits, reopened, Read, read_at}
use Rattle.plan.specs.Sequences.{none_yet, next}
use Rattle.plan.specs.Sequences as calls
use Rattle.plan.specs.States.{done, told, refused, refused_beside}
use Rattle.plan.specs.WorkedCalls.{ceiling_test, task_7, task_9, tighter_9, made_new, one_task, two_tasks, in_order, open_again, amended, without_order, Worked}

two_levels : Arranges whole_kind ceiling_test (task_7 ∷ task_9 ∷ []) (accepted (0 ∷ 1 ∷ []) (8 ∷ 26 ∷ []) 3)
two_levels =
    level {p = 1} {bound = 26} {questions = 2} (record { before = 0 ∷ []; after = []; stands = refl; failed = λ x m. ap (under_others ceiling_test.answer (row_of whole_kind (task_7 ∷ task_9 ∷ [])) (0 ∷ 1 ∷ [])) (Memᴰ.eq_of_singleton m); fits = refl; count = refl })
    (level {p = 0} {bound = 8} {questions = 1} (record { before = []; after = []; stands = refl; failed = λ x m. elim m [ ]; fits = refl; count = refl }) finished)

two_left : Arranges whole_kind ceiling_test (task_7 ∷ tighter_9 ∷ []) (stuck (0 ∷ 1 ∷ []) 2)
two_left = empty_level (record {
  some_left = cons≢nil;
  no_bound = λ x m.
      elim (Memᴰ.cases_cons m) [
        | inl e ↦ ap (under_others ceiling_test.answer (row_of whole_kind (task_7 ∷ tighter_9 ∷ [])) (0 ∷ 1 ∷ [])) e
        | inr k ↦ ap (under_others ceiling_test.answer (row_of whole_kind (task_7 ∷ tighter_9 ∷ [])) (0 ∷ 1 ∷ [])) (Memᴰ.eq_of_singleton k)
      ];
})

keeps : TestRules whole_kind ceiling_test
keeps = whole_job_test whole_kind (ceiling_workload whole_kind) (ceiling_keeps whole_kind)

entered_7 : Enter whole_kind task_7 made_new done one_task
entered_7 = entered (refl, (refl, (refl, (refl, tt))))

entered_9 : Enter whole_kind task_9 one_task done two_tasks
entered_9 = entered (refl, (refl, (refl, (refl, tt))))

refused_9 : Enter whole_kind tighter_9 two_tasks (refused (in_plan IdTaken 2)) two_tasks
refused_9 = not_entered (inr (refl, inr (refl, inr (refl, inl (refl, refl)))))

arranged_first : Arrange whole_kind ceiling_test two_tasks done in_order
arranged_first = given (refl, (refl, (refl, (refl, (refl, tt))))) two_levels

read_second : Read whole_kind 2 in_order (told 9 26) in_order
read_second = read_at (refl, (refl, (refl, tt)))

amended_9 : Amend whole_kind tighter_9 open_again done amended
amended_9 = was_amended (refl, (refl, (refl, tt)))

none_arranged : Arrange whole_kind ceiling_test amended (refused_beside (Assignment 2) 3 2) without_order
none_arranged = none_fits (refl, (refl, (refl, (refl, (refl, tt))))) two_left

pub worked : Worked
worked = record {
  test_keeps = keeps;
  enter_7 = entered_7;
  enter_9 = entered_9;
  enter_9_again = refused_9;
  arrange = arranged_first;
  read_lowest = read_second;
  reopen = reopened;
  amend_9 = amended_9;
  arrange_again = none_arranged;
  sequence = λ reading.
      next (calls.arrange ceiling_test keeps)
      (next (calls.amend tighter_9)
      (next calls.reopen
      (next (calls.read 2)
      (next (calls.arrange ceiling_test keeps)
      (next (calls.enter tighter_9) (next (calls.enter task_9) (next (calls.enter task_7) none_yet entered_7) entered_9) refused_9)
      arranged_first)
      read_second)
      reopened)
      amended_9)
      none_arranged;
}
