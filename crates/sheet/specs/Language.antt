-- Sheets: command by command, each a byte with its operands. Assumes nothing.
use Rattle.std.specs.Prelude.{◌≡◌, ℕ, ◌+◌, ◌<◌, List, [], ◌∷◌, ◌++◌, length, Some, None, Option}
use Rattle.table.specs.declared.refusal.Refusal.{Refusal}
use Rattle.table.specs.declared.fault.Fault.{Fault}
use Rattle.table.specs.Faults.{not_allowed_at, cut_at, too_many_segments_at, row_refused_at, bytes_after_at}
use Rattle.sheet.specs.declared.command.Effect.{Effect}
use Rattle.sheet.specs.declared.command.Effect.TheVariants.{Continues, Completes, Ends, TooManySegments}

-- The grammar of a kind of rows: S is what has been read of a row, with the stage.
pub record Grammar (S R : Type 0) : Type 0 where
  -- before the first command
  pub start : S
  -- how many operand bytes the command has that begins with this byte; none where no command may begin so
  pub takes : S → ℕ → Option ℕ
  -- what it does, given its operands, and what has been read after it
  pub effect : S → ℕ → List ℕ → Effect R
  pub next : S → ℕ → List ℕ → S

pub data Outcome (R : Type 0) : Type 0 where
  accepted : (rows : List R) → Outcome R
  refused : Fault → Outcome R

-- After one command: the end, or what is read next, with the table, the place and the bytes left.
pub data After (S R : Type 0) : Type 0 where
  stops : Outcome R → After S R
  moves : (state : S) (table : List R) (place : ℕ) (left : List ℕ) → After S R

module _ {S R : Type 0} (g : Grammar S R) (judge : List R → R → Option Refusal) where
  -- the bytes begin with a whole command that is allowed here
  pub record Command (s : S) (bytes : List ℕ) (tag : ℕ) (operands rest : List ℕ) : Type 0 where
    pub stand : bytes ≡ tag ∷ (operands ++ rest)
    pub allowed : g.takes s tag ≡ Some (length operands)

  -- One command, or the fault there.
  pub data Step (s : S) (table : List R) (place : ℕ) (bytes : List ℕ) : After S R → Type 0 where
    missing : bytes ≡ [] → Step s table place bytes (stops (refused (cut_at place)))
    strange : {tag : ℕ} {rest : List ℕ} → bytes ≡ tag ∷ rest → g.takes s tag ≡ None → Step s table place bytes (stops (refused (not_allowed_at place)))
    -- a proper part of a command that is allowed
    cut : {tag width : ℕ} {rest : List ℕ} → bytes ≡ tag ∷ rest → g.takes s tag ≡ Some width → length rest < width → Step s table place bytes (stops (refused (cut_at place)))
    ninth : {tag : ℕ} {operands rest : List ℕ} → Command s bytes tag operands rest → g.effect s tag operands ≡ TooManySegments → Step s table place bytes (stops (refused (too_many_segments_at place)))
    goes : {tag : ℕ} {operands rest : List ℕ} → Command s bytes tag operands rest → g.effect s tag operands ≡ Continues → Step s table place bytes (moves (g.next s tag operands) table (place + 1 + length operands) rest)
    enters : {tag : ℕ} {operands rest : List ℕ} {row : R} → Command s bytes tag operands rest → g.effect s tag operands ≡ Completes row → judge table row ≡ None → Step s table place bytes (moves (g.next s tag operands) (table ++ row ∷ []) (place + 1 + length operands) rest)
    barred : {tag : ℕ} {operands rest : List ℕ} {row : R} {why : Refusal} → Command s bytes tag operands rest → g.effect s tag operands ≡ Completes row → judge table row ≡ Some why → Step s table place bytes (stops (refused (row_refused_at why (length table) place)))
    ends : {tag : ℕ} {operands : List ℕ} → Command s bytes tag operands [] → g.effect s tag operands ≡ Ends → Step s table place bytes (stops (accepted table))
    trailing : {tag more : ℕ} {operands rest : List ℕ} → Command s bytes tag operands (more ∷ rest) → g.effect s tag operands ≡ Ends → Step s table place bytes (stops (refused (bytes_after_at (place + 1 + length operands))))

  -- Command after command, up to the end or the first fault.
  pub data Parses : S → List R → ℕ → List ℕ → Outcome R → Type 0 where
    stop : {s : S} {table : List R} {place : ℕ} {bytes : List ℕ} {o : Outcome R} → Step s table place bytes (stops o) → Parses s table place bytes o
    move : {s t : S} {table table₂ : List R} {place place₂ : ℕ} {bytes left : List ℕ} {o : Outcome R} → Step s table place bytes (moves t table₂ place₂ left) → Parses t table₂ place₂ left o → Parses s table place bytes o

-- Every byte string has exactly one outcome.
pub record Unique {S R : Type 0} (g : Grammar S R) (judge : List R → R → Option Refusal) (s : S) (table : List R) (place : ℕ) (bytes : List ℕ) : Type 0 where
  pub outcome : Outcome R
  pub reads : Parses g judge s table place bytes outcome
  pub only : (o : Outcome R) → Parses g judge s table place bytes o → o ≡ outcome

abbrev pub OneOutcome : (S R : Type 0) → Type 0
OneOutcome S R = (g : Grammar S R) (judge : List R → R → Option Refusal) (s : S) (table : List R) (place : ℕ) (bytes : List ℕ) → Unique g judge s table place bytes
