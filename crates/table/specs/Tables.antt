-- Tables of rows in memory: what bars a row from a table's end, what replaces and what removes a row, which tables are lawful, and memory
-- with blank entries after a table. Assumes nothing.
use Rattle.std.specs.Prelude.{◌≡◌, ℕ, ◌-◌, ◌<◌, min, Bool, true, false, cond, ◌&&◌, ◌||◌, List, [], ◌∷◌, ◌++◌, length, take, drop, replicate, Some, None, Ok, Err, Option, Result, ◌==◌, ◌≢◌, nat_le, position, slice_index_or, slice_set}
use Rattle.std.specs.Option.{option_map}
use Rattle.model.specs.Rows.{Kind}
use Rattle.table.specs.declared.fault.PlanFault.{PlanFault}
use Rattle.table.specs.declared.refusal.Refusal.{Refusal}
use Rattle.table.specs.declared.refusal.Refusal.TheVariants.{ShortMemory, TableFull, RowUnlawful, IdTaken, NoSuchTask}

-- how many tasks a table holds at most
abbrev pub capacity : ℕ
capacity = 32

-- some row has this id
abbrev pub has_id : {R : Type 0} → Kind R → ℕ → List R → Bool
has_id kind id [] = false
has_id kind id (x ∷ xs) = kind.ident x == id || has_id kind id xs

-- what is wrong with a row after these rows, if anything
abbrev pub row_refusal : {R : Type 0} → Kind R → List R → R → Option Refusal
row_refusal kind before row = cond (kind.lawful row) (cond (has_id kind (kind.ident row) before) (Some IdTaken) None) (Some RowUnlawful)

-- what bars a row from a table's end, if anything
abbrev pub append_refusal : {R : Type 0} → Kind R → List R → R → Option Refusal
append_refusal kind table row = cond (nat_le capacity (length table)) (Some TableFull) (row_refusal kind table row)

-- a table with its first row that has the row's id replaced
abbrev pub replaced : {R : Type 0} → Kind R → R → List R → List R
replaced kind row [] = []
replaced kind row (x ∷ xs) = cond (kind.ident x == kind.ident row) (row ∷ xs) (x ∷ replaced kind row xs)

-- a table without its first row that has this id
abbrev pub removed : {R : Type 0} → Kind R → ℕ → List R → List R
removed kind id [] = []
removed kind id (x ∷ xs) = cond (kind.ident x == id) xs (x ∷ removed kind id xs)

-- a table has only lawful rows, and no id twice
pub record LawfulTable {R : Type 0} (kind : Kind R) (table : List R) : Type 0 where
  pub rows : (i : ℕ) → i < length table → kind.lawful (slice_index_or table i kind.blank) ≡ true
  pub ids : (i j : ℕ) → i < j → j < length table → kind.ident (slice_index_or table i kind.blank) ≢ kind.ident (slice_index_or table j kind.blank)

-- the first row that is wrong after the rows before it
pub record FirstFault {R : Type 0} (kind : Kind R) (table : List R) (fault : PlanFault) : Type 0 where
  pub within : fault.place < length table
  pub before : LawfulTable kind (take fault.place table)
  pub here : row_refusal kind (take fault.place table) (slice_index_or table fault.place kind.blank) ≡ Some fault.refusal

-- judging a table's rows
abbrev pub Judged : {R : Type 0} → Kind R → List R → Result (Unit {0}) PlanFault → Type 0
Judged kind table (Ok done) = LawfulTable kind table
Judged kind table (Err fault) = FirstFault kind table fault

-- the place of the first row with an id, if one has it
abbrev pub place_with_id : {R : Type 0} → Kind R → ℕ → List R → Option ℕ
place_with_id kind id rows = position (λ row. kind.ident row == id) rows

-- the table of the first `count` rows of a memory, and the memory after it; more than 32 means 32
abbrev pub table_of : {X : Type 0} → ℕ → List X → List X
table_of count rows = take (min count capacity) rows

abbrev pub after_table : {X : Type 0} → ℕ → List X → List X
after_table count rows = drop (min count capacity) rows

-- memory of at least 32 entries, with these first and the rest of the 32 blank
abbrev pub written : {X : Type 0} → X → List X → List X → List X
written blank entries memory = entries ++ replicate (capacity - length entries) blank ++ drop capacity memory

-- the memory with its entries from a place to the 32nd blank, if it has as many and the place is not past them
abbrev pub blanked : {X : Type 0} → X → ℕ → List X → List X
blanked blank from memory = cond (nat_le capacity (length memory) && nat_le from capacity) (written blank (take from memory) memory) memory

-- the plan's fault at a table place
abbrev pub plan_fault : Refusal → ℕ → PlanFault
plan_fault why place = record { refusal = why; place = place }

-- what bars a row from the end of the table of the first `count` rows of a memory, and the place of the fault
abbrev pub append_fault : {R : Type 0} → Kind R → List R → ℕ → R → Option PlanFault
append_fault kind rows count row =
    cond (nat_le capacity (length rows)) (option_map (λ why. plan_fault why count) (append_refusal kind (take count rows) row)) (Some (plan_fault ShortMemory 0))

-- adding it: the memory after that, by the answer
abbrev pub Appended : {R : Type 0} → Kind R → List R → ℕ → R → List R → Result (Unit {0}) PlanFault → Type 0
Appended kind rows count row after (Ok done) = (append_fault kind rows count row ≡ None) × (after ≡ slice_set rows count row)
Appended kind rows count row after (Err fault) = (append_fault kind rows count row ≡ Some fault) × (after ≡ rows)

-- no row of a table has the id
abbrev pub absent_fault : {R : Type 0} → Kind R → ℕ → List R → Option PlanFault
absent_fault kind id table = cond (has_id kind id table) None (Some (plan_fault NoSuchTask 0))

-- finding the first row with an id: its place, by the answer
abbrev pub Found : {R : Type 0} → Kind R → ℕ → List R → Result ℕ PlanFault → Type 0
Found kind id table (Ok place) = place_with_id kind id table ≡ Some place
Found kind id table (Err fault) = absent_fault kind id table ≡ Some fault

-- what bars the removal of the row with an id
abbrev pub remove_fault : {R : Type 0} → Kind R → List R → ℕ → ℕ → Option PlanFault
remove_fault kind rows count id =
    cond (nat_le capacity (length rows)) (absent_fault kind id (table_of count rows)) (Some (plan_fault ShortMemory 0))

-- removing it: later rows of the table move down one, and the freed place is blank
abbrev pub Removed : {R : Type 0} → Kind R → List R → ℕ → ℕ → List R → Result (Unit {0}) PlanFault → Type 0
Removed kind rows count id after (Ok done) =
    (remove_fault kind rows count id ≡ None) × (after ≡ removed kind id (table_of count rows) ++ kind.blank ∷ after_table count rows)
Removed kind rows count id after (Err fault) = (remove_fault kind rows count id ≡ Some fault) × (after ≡ rows)

-- what bars a row from the place of the row with its id
abbrev pub replace_fault : {R : Type 0} → Kind R → List R → ℕ → R → Option PlanFault
replace_fault kind rows count row =
    cond (nat_le capacity (length rows)) (cond (kind.lawful row) (absent_fault kind (kind.ident row) (table_of count rows)) (Some (plan_fault RowUnlawful 0))) (Some (plan_fault ShortMemory 0))

-- replacing it: nothing else is written
abbrev pub Replaced : {R : Type 0} → Kind R → List R → ℕ → R → List R → Result (Unit {0}) PlanFault → Type 0
Replaced kind rows count row after (Ok done) =
    (replace_fault kind rows count row ≡ None) × (after ≡ replaced kind row (table_of count rows) ++ after_table count rows)
Replaced kind rows count row after (Err fault) = (replace_fault kind rows count row ≡ Some fault) × (after ≡ rows)
