-- Sheets as they are written down: a kind, a letter, one spelling of each row, the closing command. Assumes nothing.
use Rattle.std.specs.Prelude.{◌≡◌, ℕ, ◌+◌, ◌*◌, ◌≤◌, Bool, true, ◌↔◌, List, [], ◌∷◌, ◌++◌, length}
use Rattle.model.specs.Rows.{Kind}
use Rattle.table.specs.Tables.{capacity, append_refusal, LawfulTable}
use Rattle.sheet.specs.Bytes.{end_byte}
use Rattle.sheet.specs.Language.{Grammar}
use Rattle.sheet.specs.Sheets.{Sheet, good}

-- a number of two and of four bytes, high byte first
pub data Two : ℕ → List ℕ → Type 0 where
  two : (a b : ℕ) → Two (a * 256 + b) (a ∷ b ∷ [])

pub data Four : ℕ → List ℕ → Type 0 where
  four : (a b c d : ℕ) → Four (((a * 256 + b) * 256 + c) * 256 + d) (a ∷ b ∷ c ∷ d ∷ [])

-- one spelling of each row, in the table's order; Task says how one row is spelled
pub data Spelled {R : Type 0} (Task : R → List ℕ → Type 0) : List R → List ℕ → Type 0 where
  no_rows : Spelled Task [] []
  row_first : {row : R} {rows : List R} {bytes rest : List ℕ} → Task row bytes → Spelled Task rows rest → Spelled Task (row ∷ rows) (bytes ++ rest)

-- a sheet with this table: its kind, one of the kind's letters, a spelling of each row, the closing command, and nothing else; the table has
-- at most 32 rows, all lawful, and no id twice
pub record Written {R : Type 0} (Task : R → List ℕ → Type 0) (kind : Kind R) (mark : ℕ) (letters : ℕ → Bool) (bytes : List ℕ) (table : List R) (letter : ℕ) : Type 0 where
  pub tasks : List ℕ
  pub stands : bytes ≡ mark ∷ letter ∷ (tasks ++ end_byte ∷ [])
  pub allowed : letters letter ≡ true
  pub spelled : Spelled Task table tasks
  pub few : length table ≤ capacity
  pub lawful : LawfulTable kind table

-- accepted are exactly these, with the table and the letter that they have
abbrev pub GoodIsWritten : {S R : Type 0} → Grammar S R → (R → List ℕ → Type 0) → Kind R → Type 0
GoodIsWritten {S} {R} g Task kind =
    (mark : ℕ) (letters : ℕ → Bool) (bytes : List ℕ) (table : List R) (letter : ℕ)
    → (Sheet g (append_refusal kind) mark letters bytes (good table letter) ↔ Written Task kind mark letters bytes table letter)
