-- What the calls of a plan return, in the words of their relations. Assumes nothing.
use Rattle.std.specs.Prelude.{◌≡◌, ℕ, Bool, ◌↔◌, List, Ok, Err, Result}
use Rattle.model.specs.Rows.{Kind}
use Rattle.feasibility.specs.Tests.{Answers}
use Rattle.table.specs.declared.fault.Fault.{Fault}
use Rattle.table.specs.Tables.{append_refusal}
use Rattle.sheet.specs.Language.{Grammar}
use Rattle.sheet.specs.Sheets.{Verdict, Sheet}
use Rattle.plan.specs.declared.stage.Open.{Open}
use Rattle.plan.specs.declared.stage.Arranged.{Arranged}
use Rattle.plan.specs.declared.stage.NotArranged.{NotArranged}
use Rattle.plan.specs.States.{State, opened, arranged, Answer, done, letter, told, refused, refused_beside}
use Rattle.plan.specs.Calls.{Load, Arrange, Reopen}

abbrev pub done_or_refused : Result (Unit {0}) Fault → Answer
done_or_refused (Ok u) = done
done_or_refused (Err f) = refused f

abbrev pub letter_or_refused : Result ℕ Fault → Answer
letter_or_refused (Ok byte) = letter byte
letter_or_refused (Err f) = refused f

abbrev pub told_or_refused : Result (ℕ × ℕ) Fault → Answer
told_or_refused (Ok (id, bound)) = told id bound
told_or_refused (Err f) = refused f

-- a call on an open plan that is lent the rows alone; whatever order and bounds the other memories hold, they stay
abbrev pub OnRows : {R : Type 0} → (State R → Answer → State R → Type 0) → Open → List R → Answer → Open → List R → Type 0
OnRows call plan rows a plan' rows' = (order bounds : List ℕ) → call (opened plan.tasks rows order bounds) a (opened plan'.tasks rows' order bounds)

-- a load, by the verdict on the sheet
pub record Loads {S R : Type 0} (kind : Kind R) (g : Grammar S R) (mark : ℕ) (letters : ℕ → Bool) (bytes : List ℕ) (plan : Open) (rows : List R) (a : Answer) (plan' : Open) (rows' : List R) : Type 0 where
  pub verdict : Verdict R
  pub sheet : Sheet g (append_refusal kind) mark letters bytes verdict
  pub loads : OnRows (Load kind verdict) plan rows a plan' rows'

-- an arrange, which writes order and bounds alone
abbrev pub ArrangeReturns : {R : Type 0} → Kind R → Answers R → Open → List R → List ℕ → List ℕ → List ℕ → List ℕ → Result Arranged NotArranged → Type 0
ArrangeReturns kind test plan rows order order' bounds bounds' (Ok after) =
    Arrange kind test (opened plan.tasks rows order bounds) done (arranged after.tasks after.questions rows order' bounds')
ArrangeReturns kind test plan rows order order' bounds bounds' (Err e) =
    Arrange kind test (opened plan.tasks rows order bounds) (refused_beside e.fault e.left e.questions) (opened e.plan.tasks rows order' bounds')

-- the state of an arranged plan
abbrev pub state_of : {R : Type 0} → Arranged → List R → List ℕ → List ℕ → State R
state_of plan rows order bounds = arranged plan.tasks plan.questions rows order bounds

-- reopening: the numbers say the whole of it, whatever rows the memory holds
abbrev pub ReopenMeans : Type 0 → Type 0
ReopenMeans R =
    (kind : Kind R) (plan : Arranged) (after : Open) (rows : List R) (order bounds : List ℕ)
    → (after.tasks ≡ plan.tasks) ↔ Reopen kind (state_of plan rows order bounds) done (opened after.tasks rows order bounds)
