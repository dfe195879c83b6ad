-- A whole sheet: the kind, a letter, the commands. Assumes nothing.
use Rattle.std.specs.Prelude.{◌≡◌, ℕ, ◌<◌, ◌≤◌, Bool, true, false, List, [], ◌∷◌, ◌++◌, length, Ok, Err, Option, Result, ◌≢◌}
use Rattle.model.specs.Rows.{Kind}
use Rattle.table.specs.declared.refusal.Refusal.{Refusal}
use Rattle.table.specs.declared.fault.Fault.{Fault}
use Rattle.table.specs.Faults.{not_allowed_at, cut_at, bytes_after_at}
use Rattle.sheet.specs.Language.{Grammar, Parses, accepted, refused}
use Rattle.table.specs.declared.fault.Fault.TheVariants.{InSheet}
use Rattle.table.specs.declared.refusal.Refusal.TheVariants.{ShortMemory}
use Rattle.table.specs.Tables.{capacity, append_refusal, written, LawfulTable}

pub data Verdict (R : Type 0) : Type 0 where
  good : (table : List R) (letter : ℕ) → Verdict R
  bad : Fault → Verdict R

pub data Sheet {S R : Type 0} (g : Grammar S R) (judge : List R → R → Option Refusal) (kind : ℕ) (letters : ℕ → Bool) (bytes : List ℕ) : Verdict R → Type 0 where
  no_kind : bytes ≡ [] → Sheet g judge kind letters bytes (bad (cut_at 0))
  other_kind : {tag : ℕ} {rest : List ℕ} → bytes ≡ tag ∷ rest → (tag ≢ kind) → Sheet g judge kind letters bytes (bad (not_allowed_at 0))
  no_letter : bytes ≡ kind ∷ [] → Sheet g judge kind letters bytes (bad (cut_at 1))
  other_letter : {letter : ℕ} {rest : List ℕ} → bytes ≡ kind ∷ letter ∷ rest → letters letter ≡ false → Sheet g judge kind letters bytes (bad (not_allowed_at 1))
  body : {letter : ℕ} {rest : List ℕ} {table : List R} → bytes ≡ kind ∷ letter ∷ rest → letters letter ≡ true → Parses g judge g.start [] 2 rest (accepted table) → Sheet g judge kind letters bytes (good table letter)
  body_refused : {letter : ℕ} {rest : List ℕ} {fault : Fault} → bytes ≡ kind ∷ letter ∷ rest → letters letter ≡ true → Parses g judge g.start [] 2 rest (refused fault) → Sheet g judge kind letters bytes (bad fault)

abbrev pub rows_of : {R : Type 0} → Verdict R → List R
rows_of (good table letter) = table
rows_of (bad f) = []

abbrev pub answer_of : {R : Type 0} → Verdict R → Result (ℕ × ℕ) Fault
answer_of (good table letter) = Ok (length table, letter)
answer_of (bad f) = Err f

-- Replacing a table by a sheet, in memory that is long enough: the sheet's verdict is the answer, and its rows are the memory's first.
pub record Replaced {S R : Type 0} (g : Grammar S R) (judge : List R → R → Option Refusal) (kind : ℕ) (letters : ℕ → Bool) (blank : R) (bytes : List ℕ) (before after : List R) (answer : Result (ℕ × ℕ) Fault) : Type 0 where
  pub verdict : Verdict R
  pub sheet : Sheet g judge kind letters bytes verdict
  pub answered : answer ≡ answer_of verdict
  pub memory : after ≡ written blank (rows_of verdict) before

-- and in memory of any length
pub record Replaces {S R : Type 0} (g : Grammar S R) (judge : List R → R → Option Refusal) (kind : ℕ) (letters : ℕ → Bool) (blank : R) (bytes : List ℕ) (before after : List R) (answer : Result (ℕ × ℕ) Fault) : Type 0 where
  pub short : length before < capacity → (answer ≡ Err (InSheet ShortMemory 0)) × (after ≡ before)
  pub long : capacity ≤ length before → Replaced g judge kind letters blank bytes before after answer

-- Every byte string has exactly one verdict.
pub record One {S R : Type 0} (g : Grammar S R) (judge : List R → R → Option Refusal) (kind : ℕ) (letters : ℕ → Bool) (bytes : List ℕ) : Type 0 where
  pub verdict : Verdict R
  pub sheet : Sheet g judge kind letters bytes verdict
  pub only : (v : Verdict R) → Sheet g judge kind letters bytes v → v ≡ verdict

abbrev pub OneVerdict : (S R : Type 0) → Type 0
OneVerdict S R = (g : Grammar S R) (judge : List R → R → Option Refusal) (kind : ℕ) (letters : ℕ → Bool) (bytes : List ℕ) → One g judge kind letters bytes

-- A byte after an accepted sheet is refused where it stands.
abbrev pub NothingFollows : (S R : Type 0) → Type 0
NothingFollows S R =
    (g : Grammar S R) (judge : List R → R → Option Refusal) (kind : ℕ) (letters : ℕ → Bool) (bytes : List ℕ) (table : List R) (letter more : ℕ) (rest : List ℕ)
    → Sheet g judge kind letters bytes (good table letter) → Sheet g judge kind letters (bytes ++ more ∷ rest) (bad (bytes_after_at (length bytes)))

-- The table of an accepted sheet has at most 32 rows, all lawful, and no id twice.
abbrev pub GoodIsLawful : (S R : Type 0) → Kind R → Type 0
GoodIsLawful S R row_kind =
    (g : Grammar S R) (kind : ℕ) (letters : ℕ → Bool) (bytes : List ℕ) (table : List R) (letter : ℕ)
    → Sheet g (append_refusal row_kind) kind letters bytes (good table letter) → (length table ≤ capacity) × LawfulTable row_kind table
