-- Writing tables down as sheets. Assumes nothing.
use Rattle.std.specs.Prelude.{◌≡◌, ℕ, ◌/◌, ◌%◌, ◌^◌, ◌<◌, ◌≤◌, Bool, true, List, [], ◌∷◌, ◌++◌, length, slice_index_or}
use Rattle.std.specs.List.{flat_map}
use Rattle.model.specs.declared.segmented.Segmented.{Segmented}
use Rattle.model.specs.declared.whole.Whole.{Whole}
use Rattle.model.specs.Rows.{Kind}
use Rattle.model.specs.Segments.{Segments, last, more}
use Rattle.model.specs.SegmentedRows.{segments_of}
use Rattle.table.specs.Tables.{capacity, append_refusal, LawfulTable}
use Rattle.sheet.specs.Bytes.{open_byte, segment_byte, suspension_byte, task_end_byte, whole_task_byte, end_byte}
use Rattle.sheet.specs.Language.{Grammar}
use Rattle.sheet.specs.Sheets.{Sheet, good}

-- a number in two and in four bytes, high byte first
abbrev pub two_bytes : ℕ → List ℕ
two_bytes n = n / 256 ∷ n % 256 ∷ []

abbrev pub four_bytes : ℕ → List ℕ
four_bytes n = two_bytes (n / 65536) ++ two_bytes (n % 65536)

-- a whole row's task
abbrev pub whole_code : Whole → List ℕ
whole_code x = whole_task_byte ∷ (two_bytes x.id ++ (four_bytes x.period ++ (four_bytes x.deadline ++ (four_bytes x.compute ++ four_bytes x.suspend))))

-- a segmented row's task: the opening with its deadline, and the segments with the ranges of the suspensions
abbrev pub opening_code : Segmented → List ℕ
opening_code x = open_byte ∷ (two_bytes x.id ++ (four_bytes x.period ++ four_bytes x.deadline))

abbrev pub suspension_code : ℕ → ℕ → List ℕ
suspension_code low high = suspension_byte ∷ (four_bytes low ++ four_bytes high)

abbrev pub segments_code : Segments → List ℕ
segments_code (last c) = segment_byte ∷ (four_bytes c ++ task_end_byte ∷ [])
segments_code (more c lo hi s) = segment_byte ∷ (four_bytes c ++ (suspension_code lo hi ++ segments_code s))

abbrev pub segmented_code : Segmented → List ℕ
segmented_code x = opening_code x ++ segments_code (segments_of x)

-- the sheet of a table
abbrev pub sheet_of : {R : Type 0} → (R → List ℕ) → ℕ → ℕ → List R → List ℕ
sheet_of code mark letter table = mark ∷ letter ∷ (flat_map code table ++ end_byte ∷ [])

-- each is a byte
pub data AllBytes : List ℕ → Type 0 where
  no_bytes : AllBytes []
  byte_first : {x : ℕ} {xs : List ℕ} → x < 2 ^ 8 → AllBytes xs → AllBytes (x ∷ xs)

-- the row's id is of 16 bits, and its arrays are as long as they should be
pub record WholeFits (x : Whole) : Type 0 where
  pub id : x.id < 2 ^ 16

pub record SegmentedFits (x : Segmented) : Type 0 where
  pub id : x.id < 2 ^ 16
  pub costs : length x.costs ≡ 8
  pub least : length x.least ≡ 7
  pub most : length x.most ≡ 7

-- what is written of a lawful table of at most 32 rows are bytes, and an accepted sheet with that table
abbrev pub TableIsWritten : {S R : Type 0} → Grammar S R → Kind R → (R → Type 0) → (R → List ℕ) → Type 0
TableIsWritten {S} {R} g kind Fits code =
    (mark : ℕ) (letters : ℕ → Bool) (table : List R) (letter : ℕ) → mark < 2 ^ 8 → letter < 2 ^ 8 → letters letter ≡ true → length table ≤ capacity → LawfulTable kind table
    → ((i : ℕ) → i < length table → Fits (slice_index_or table i kind.blank))
    → AllBytes (sheet_of code mark letter table) × Sheet g (append_refusal kind) mark letters (sheet_of code mark letter table) (good table letter)
