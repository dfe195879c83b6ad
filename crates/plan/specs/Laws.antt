-- What is proved of the calls of a plan and of their sequences, over rows of any type R. Assumes nothing.
use Rattle.std.specs.Prelude.{◌≡◌, ℕ, ◌-◌, ◌≤◌, Bool, List, take, slice_index}
use Rattle.model.specs.Rows.{Kind}
use Rattle.feasibility.specs.Tests.{Answers}
use Rattle.feasibility.specs.Masks.{row_of}
use Rattle.table.specs.Tables.{capacity, append_refusal, LawfulTable}
use Rattle.sheet.specs.Language.{Grammar}
use Rattle.sheet.specs.Sheets.{Verdict, Sheet}
use Rattle.plan.specs.States.{State, opened, arranged, Answer, told, tasks_of, table_of, past_capacity}
use Rattle.plan.specs.Calls.{Enter, Amend, Withdraw, Load, Arrange, Reopen, Read, short}
use Rattle.plan.specs.Sequences.{Reading, Call, Leads, Reached, made, Alike}
use Rattle.plan.specs.Promises.{Promise}

-- one answer, and one state after
abbrev pub ExactlyOne : {R : Type 0} → (Answer → State R → Type 0) → Type 0
ExactlyOne {R} Q = (a : Answer) × (t : State R) × Q a t × ((b : Answer) (u : State R) → Q b u → (b ≡ a) × (u ≡ t))

-- each call on its stage has exactly one answer and one state after
pub record Determined {R : Type 0} (kind : Kind R) (n questions : ℕ) (rows : List R) (order bounds : List ℕ) : Type 0 where
  pub enter : (x : R) → ExactlyOne (Enter kind x (opened n rows order bounds))
  pub amend : (x : R) → ExactlyOne (Amend kind x (opened n rows order bounds))
  pub withdraw : (id : ℕ) → ExactlyOne (Withdraw kind id (opened n rows order bounds))
  pub load : (v : Verdict R) → ExactlyOne (Load kind v (opened n rows order bounds))
  pub arrange : (test : Answers R) → ExactlyOne (Arrange kind test (opened n rows order bounds))
  pub reopen : ExactlyOne (Reopen kind (arranged n questions rows order bounds))
  pub read : (level : ℕ) → ExactlyOne (Read kind level (arranged n questions rows order bounds))

abbrev pub CallsDetermined : Type 0 → Type 0
CallsDetermined R = (kind : Kind R) (n questions : ℕ) (rows : List R) (order bounds : List ℕ) → Determined kind n questions rows order bounds

-- over a sequence of calls on a new plan the table is what they make of an empty one
abbrev pub TablesMade : Type 0 → Type 0
TablesMade R =
    (kind : Kind R) (reading : Reading R) (rows : List R) (order bounds : List ℕ) (calls : List (Call kind × Answer)) (s : State R)
    → Reached kind reading (opened 0 rows order bounds) calls s → table_of s ≡ made kind reading (short rows) calls

-- entries past the tasks have no influence on any answer, of the call and of the calls after it
abbrev pub OnlyTasksMatter : Type 0 → Type 0
OnlyTasksMatter R =
    (kind : Kind R) (reading : Reading R) (call : Call kind) (s s' t t' : State R) (a a' : Answer) → Alike s s'
    → Leads kind reading call s a t → Leads kind reading call s' a' t' → (a' ≡ a) × Alike t t'

-- a plan never has more than 32 tasks, and no call writes an entry from place 32 on
abbrev pub NothingWrittenPast : Type 0 → Type 0
NothingWrittenPast R =
    (kind : Kind R) (reading : Reading R) (call : Call kind) (s t : State R) (a : Answer) → tasks_of s ≤ capacity
    → Leads kind reading call s a t → (tasks_of t ≤ capacity) × (past_capacity t ≡ past_capacity s)

-- an arranged plan that a sequence of calls reaches has a lawful table, and every level of it can be read
pub record Readable {R : Type 0} (kind : Kind R) (n questions : ℕ) (rows : List R) (order bounds : List ℕ) : Type 0 where
  pub lawful : LawfulTable kind (take n rows)
  pub levels : (level : ℕ) → 1 ≤ level → level ≤ n → (a : Answer) (t : State R) → Read kind level (arranged n questions rows order bounds) a t → a ≡ told (kind.ident (row_of kind (take n rows) (slice_index order (level - 1)))) (slice_index bounds (level - 1))

abbrev pub ArrangedReadable : Type 0 → Type 0
ArrangedReadable R =
    (kind : Kind R) (reading : Reading R) (start_rows : List R) (start_order start_bounds : List ℕ) (calls : List (Call kind × Answer)) (n questions : ℕ) (rows : List R) (order bounds : List ℕ)
    → Reached kind reading (opened 0 start_rows start_order start_bounds) calls (arranged n questions rows order bounds) → Readable kind n questions rows order bounds

-- every kind of row has the promise
abbrev pub Promises : Type 0 → Type 0
Promises R = (kind : Kind R) → Promise kind

-- the one verdict on each sheet of a grammar is a reading of sheets
abbrev pub SheetsRead : Type 0 → Type 0 → Type 0
SheetsRead S R =
    (kind : Kind R) (g : Grammar S R) (mark : ℕ) (letters : ℕ → Bool)
    → (reading : Reading R) × ((bytes : List ℕ) → Sheet g (append_refusal kind) mark letters bytes (reading.read bytes) × ((v : Verdict R) → Sheet g (append_refusal kind) mark letters bytes v → v ≡ reading.read bytes))
