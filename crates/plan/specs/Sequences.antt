-- Sequences of calls: the states that they reach, what they make of the table, and which entries matter to them. Assumes nothing.
use Rattle.std.specs.Prelude.{◌≡◌, ℕ, ◌≤◌, Bool, cond, List, [], ◌∷◌, ◌++◌, length, take}
use Rattle.model.specs.Rows.{Kind}
use Rattle.feasibility.specs.Tests.{Answers, TestRules}
use Rattle.table.specs.Tables.{capacity, replaced, removed}
use Rattle.sheet.specs.Sheets.{Verdict, rows_of}
use Rattle.plan.specs.States.{State, opened, arranged, Answer, done, letter, told, refused, refused_beside}
use Rattle.plan.specs.Calls.{Enter, Amend, Withdraw, Load, Arrange, Reopen, Read, short}

-- a reading of sheets: a verdict for every byte string, with at most 32 rows
pub record Reading (R : Type 0) : Type 0 where
  pub read : List ℕ → Verdict R
  pub small : (bytes : List ℕ) → length (rows_of (read bytes)) ≤ capacity

-- a call with its arguments; an arrange may have any test that keeps the rules
pub data Call {R : Type 0} (kind : Kind R) : Type 0 where
  enter : (row : R) → Call kind
  amend : (row : R) → Call kind
  withdraw : (id : ℕ) → Call kind
  load : (sheet : List ℕ) → Call kind
  arrange : (test : Answers R) → TestRules kind test → Call kind
  reopen : Call kind
  read : (level : ℕ) → Call kind

module _ {R : Type 0} (kind : Kind R) (reading : Reading R) where
  -- the call leads from one state to another with this answer; on the wrong stage it is turned down before it runs, and leads nowhere
  abbrev pub Leads : Call kind → State R → Answer → State R → Type 0
  Leads (enter x) s a t = Enter kind x s a t
  Leads (amend x) s a t = Amend kind x s a t
  Leads (withdraw id) s a t = Withdraw kind id s a t
  Leads (load bytes) s a t = Load kind (reading.read bytes) s a t
  Leads (arrange test rules) s a t = Arrange kind test s a t
  Leads reopen s a t = Reopen kind s a t
  Leads (read level) s a t = Read kind level s a t

  -- the states that calls reach from a state on, each from what the last one left; the calls stand with their answers, the last one first
  pub data Reached (start : State R) : List (Call kind × Answer) → State R → Type 0 where
    none_yet : Reached start [] start
    next : {s t : State R} {a : Answer} {calls : List (Call kind × Answer)} (call : Call kind) → Reached start calls s → Leads call s a t → Reached start ((call, a) ∷ calls) t

  -- What a call makes of the table if it is not refused, and if it is. A load that is refused makes it empty, unless the memory is short; every
  -- other refusal leaves it.
  abbrev pub makes : Call kind → List R → List R
  makes (enter x) table = table ++ x ∷ []
  makes (amend x) table = replaced kind x table
  makes (withdraw id) table = removed kind id table
  makes (load bytes) table = rows_of (reading.read bytes)
  makes (arrange test rules) table = table
  makes reopen table = table
  makes (read level) table = table

  abbrev pub leaves : Bool → Call kind → List R → List R
  leaves is_short (enter x) table = table
  leaves is_short (amend x) table = table
  leaves is_short (withdraw id) table = table
  leaves is_short (load bytes) table = cond is_short table []
  leaves is_short (arrange test rules) table = table
  leaves is_short reopen table = table
  leaves is_short (read level) table = table

  abbrev pub changed : Bool → Call kind → Answer → List R → List R
  changed is_short call done table = makes call table
  changed is_short call (letter byte) table = makes call table
  changed is_short call (told id bound) table = makes call table
  changed is_short call (refused f) table = leaves is_short call table
  changed is_short call (refused_beside f left questions) table = leaves is_short call table

  -- what a sequence of calls makes of an empty table
  abbrev pub made : Bool → List (Call kind × Answer) → List R
  made is_short [] = []
  made is_short ((call, a) ∷ calls) = changed is_short call a (made is_short calls)

-- the last calls are an arrange with this test, and reads after it
pub data ArrangedBy {R : Type 0} {kind : Kind R} (test : Answers R) : List (Call kind × Answer) → Type 0 where
  by_arrange : {rules : TestRules kind test} {a : Answer} {calls : List (Call kind × Answer)} → ArrangedBy test ((arrange test rules, a) ∷ calls)
  then_read : {level : ℕ} {a : Answer} {calls : List (Call kind × Answer)} → ArrangedBy test calls → ArrangedBy test ((read level, a) ∷ calls)

-- Two memories of rows, orders and bounds with the same table of at most 32 tasks, alike in which of them are too short.
pub record SameTable {R : Type 0} (n : ℕ) (rows rows' : List R) (order order' bounds bounds' : List ℕ) : Type 0 where
  pub few : n ≤ capacity
  pub table : take n rows ≡ take n rows'
  pub short_rows : short rows ≡ short rows'
  pub short_order : short order ≡ short order'
  pub short_bounds : short bounds ≡ short bounds'

-- Two plans that differ in entries past the tasks at most; an open one also in its order and bounds.
pub data Alike {R : Type 0} : State R → State R → Type 0 where
  both_open : {n : ℕ} {rows rows' : List R} {order order' bounds bounds' : List ℕ} → SameTable n rows rows' order order' bounds bounds' → Alike (opened n rows order bounds) (opened n rows' order' bounds')
  both_arranged : {n questions : ℕ} {rows rows' : List R} {order order' bounds bounds' : List ℕ} → SameTable n rows rows' order order' bounds bounds' → take n order ≡ take n order' → take n bounds ≡ take n bounds' → Alike (arranged n questions rows order bounds) (arranged n questions rows' order' bounds')
