-- The calls of a plan, each as a relation between the state before, the answer and the state after. Assumes nothing.
use Rattle.std.specs.Prelude.{◌≡◌, ℕ, ◌+◌, ◌-◌, Bool, true, false, not, ◌||◌, ◌⊎◌, List, [], ◌∷◌, ◌++◌, length, take, drop, nat_le, nat_lt, slice_index, slice_set}
use Rattle.std.specs.List.{flat_map}
use Rattle.model.specs.Rows.{Kind}
use Rattle.feasibility.specs.Tests.{Answers}
use Rattle.feasibility.specs.Masks.{row_of, mask_of}
use Rattle.table.specs.declared.fault.Fault.{Fault}
use Rattle.table.specs.declared.fault.Fault.TheVariants.{Plan, Assignment, InSheet}
use Rattle.table.specs.declared.refusal.Refusal.{Refusal}
use Rattle.table.specs.declared.refusal.Refusal.TheVariants.{ShortMemory, TableFull, RowUnlawful, IdTaken, NoSuchTask}
use Rattle.table.specs.Tables.{capacity, has_id, written, plan_fault, replaced, removed}
use Rattle.sheet.specs.Sheets.{Verdict, good, bad}
use Rattle.assign.specs.Assignment.{accepted, stuck}
use Rattle.assign.specs.Laws.{all_places, Arranges}
use Rattle.plan.specs.States.{State, opened, arranged, Answer, done, letter, told, refused, refused_beside}

-- Refusals. Each call checks those that it can meet, in order, and is refused with the first that is met.

-- no check is met
abbrev pub Passed : List (Bool × Fault) → Type 0
Passed [] = Unit {0}
Passed (c ∷ cs) = (c.0 ≡ false) × Passed cs

-- the first check that is met has this fault
abbrev pub Met : List (Bool × Fault) → Fault → Type 0
Met [] f = ⊥
Met (c ∷ cs) f = ((c.0 ≡ true) × (c.1 ≡ f)) ⊎ ((c.0 ≡ false) × Met cs f)

-- a fault of the plan at a table place
abbrev pub in_plan : Refusal → ℕ → Fault
in_plan why place = Plan (plan_fault why place)

-- a memory has fewer than 32 entries
abbrev pub short : {X : Type 0} → List X → Bool
short memory = nat_lt (length memory) capacity

abbrev pub some_short : {R : Type 0} → List R → List ℕ → List ℕ → Bool
some_short rows order bounds = short rows || (short order || short bounds)

module _ {R : Type 0} (kind : Kind R) where
  -- Enter adds a row at the end.
  abbrev pub enter_checks : ℕ → List R → R → List (Bool × Fault)
  enter_checks n rows x =
      (short rows, in_plan ShortMemory 0)
      ∷ (nat_le capacity n, in_plan TableFull capacity)
      ∷ (not (kind.lawful x), in_plan RowUnlawful n)
      ∷ (has_id kind (kind.ident x) (take n rows), in_plan IdTaken n)
      ∷ []

  pub data Enter (x : R) : State R → Answer → State R → Type 0 where
    entered : {n : ℕ} {rows : List R} {order bounds : List ℕ} → Passed (enter_checks n rows x) → Enter x (opened n rows order bounds) done (opened (n + 1) (slice_set rows n x) order bounds)
    not_entered : {n : ℕ} {rows : List R} {order bounds : List ℕ} {f : Fault} → Met (enter_checks n rows x) f → Enter x (opened n rows order bounds) (refused f) (opened n rows order bounds)

  -- Amend replaces the row that has the row's own id, the first if it stands twice.
  abbrev pub amend_checks : ℕ → List R → R → List (Bool × Fault)
  amend_checks n rows x =
      (short rows, in_plan ShortMemory 0)
      ∷ (not (kind.lawful x), in_plan RowUnlawful 0)
      ∷ (not (has_id kind (kind.ident x) (take n rows)), in_plan NoSuchTask 0)
      ∷ []

  pub data Amend (x : R) : State R → Answer → State R → Type 0 where
    amended : {n : ℕ} {rows : List R} {order bounds : List ℕ} → Passed (amend_checks n rows x) → Amend x (opened n rows order bounds) done (opened n (replaced kind x (take n rows) ++ drop n rows) order bounds)
    not_amended : {n : ℕ} {rows : List R} {order bounds : List ℕ} {f : Fault} → Met (amend_checks n rows x) f → Amend x (opened n rows order bounds) (refused f) (opened n rows order bounds)

  -- Withdraw removes the row with an id, the first if it stands twice: later rows move down one, and a blank row is left in the freed place.
  abbrev pub withdraw_checks : ℕ → List R → ℕ → List (Bool × Fault)
  withdraw_checks n rows id = (short rows, in_plan ShortMemory 0) ∷ (not (has_id kind id (take n rows)), in_plan NoSuchTask 0) ∷ []

  pub data Withdraw (id : ℕ) : State R → Answer → State R → Type 0 where
    withdrawn : {n : ℕ} {rows : List R} {order bounds : List ℕ} → Passed (withdraw_checks n rows id) → Withdraw id (opened n rows order bounds) done (opened (n - 1) (removed kind id (take n rows) ++ kind.blank ∷ drop n rows) order bounds)
    not_withdrawn : {n : ℕ} {rows : List R} {order bounds : List ℕ} {f : Fault} → Met (withdraw_checks n rows id) f → Withdraw id (opened n rows order bounds) (refused f) (opened n rows order bounds)

  -- Load replaces the whole table by a sheet's, by the verdict on the sheet. Blank rows stand after the tasks; a refused sheet leaves no task.
  abbrev pub load_checks : List R → List (Bool × Fault)
  load_checks rows = (short rows, InSheet ShortMemory 0) ∷ []

  pub data Load : Verdict R → State R → Answer → State R → Type 0 where
    loaded : {n byte : ℕ} {rows table : List R} {order bounds : List ℕ} → Passed (load_checks rows) → Load (good table byte) (opened n rows order bounds) (letter byte) (opened (length table) (written kind.blank table rows) order bounds)
    sheet_refused : {n : ℕ} {rows : List R} {order bounds : List ℕ} {f : Fault} → Passed (load_checks rows) → Load (bad f) (opened n rows order bounds) (refused f) (opened 0 (written kind.blank [] rows) order bounds)
    not_loaded : {v : Verdict R} {n : ℕ} {rows : List R} {order bounds : List ℕ} {f : Fault} → Met (load_checks rows) f → Load v (opened n rows order bounds) (refused f) (opened n rows order bounds)

  -- Arrange judges every row again, and then the assignment by a test decides. An accepted order and its bounds stand in the first entries, and
  -- the rest of the 32 are 0; if no task can take the next level, all 32 are 0.
  abbrev pub row_checks : List R → ℕ → List (Bool × Fault)
  row_checks table i =
      (not (kind.lawful (row_of kind table i)), in_plan RowUnlawful i)
      ∷ (has_id kind (kind.ident (row_of kind table i)) (take i table), in_plan IdTaken i)
      ∷ []

  abbrev pub arrange_checks : ℕ → List R → List ℕ → List ℕ → List (Bool × Fault)
  arrange_checks n rows order bounds =
      (some_short rows order bounds, in_plan ShortMemory 0) ∷ flat_map (row_checks (take n rows)) (all_places (take n rows))

  pub data Arrange (test : Answers R) : State R → Answer → State R → Type 0 where
    given : {n questions : ℕ} {rows : List R} {order bounds chosen answered : List ℕ} → Passed (arrange_checks n rows order bounds) → Arranges kind test (take n rows) (accepted chosen answered questions) → Arrange test (opened n rows order bounds) done (arranged n questions rows (written 0 chosen order) (written 0 answered bounds))
    none_fits : {n questions : ℕ} {rows : List R} {order bounds left : List ℕ} → Passed (arrange_checks n rows order bounds) → Arranges kind test (take n rows) (stuck left questions) → Arrange test (opened n rows order bounds) (refused_beside (Assignment (length left)) (mask_of left) questions) (opened n rows (written 0 [] order) (written 0 [] bounds))
    not_arranged : {n : ℕ} {rows : List R} {order bounds : List ℕ} {f : Fault} → Met (arrange_checks n rows order bounds) f → Arrange test (opened n rows order bounds) (refused_beside f 0 0) (opened n rows order bounds)

  -- Reopen writes nothing.
  pub data Reopen : State R → Answer → State R → Type 0 where
    reopened : {n questions : ℕ} {rows : List R} {order bounds : List ℕ} → Reopen (arranged n questions rows order bounds) done (opened n rows order bounds)

  -- Read tells the id and the bound at a level; 1 is the highest, and has the first entries.
  abbrev pub read_checks : ℕ → List R → List ℕ → List ℕ → ℕ → List (Bool × Fault)
  read_checks n rows order bounds level =
      (some_short rows order bounds, in_plan ShortMemory 0)
      ∷ (nat_le level 0 || nat_lt n level, in_plan NoSuchTask 0)
      ∷ (nat_le n (slice_index order (level - 1)), in_plan NoSuchTask 0)
      ∷ []

  pub data Read (level : ℕ) : State R → Answer → State R → Type 0 where
    read_at : {n questions : ℕ} {rows : List R} {order bounds : List ℕ} → Passed (read_checks n rows order bounds level) → Read level (arranged n questions rows order bounds) (told (kind.ident (row_of kind (take n rows) (slice_index order (level - 1)))) (slice_index bounds (level - 1))) (arranged n questions rows order bounds)
    not_read : {n questions : ℕ} {rows : List R} {order bounds : List ℕ} {f : Fault} → Met (read_checks n rows order bounds level) f → Read level (arranged n questions rows order bounds) (refused f) (arranged n questions rows order bounds)
