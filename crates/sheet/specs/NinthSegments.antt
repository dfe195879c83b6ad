-- Sheets in which a suspension follows the eighth segment. Assumes nothing.
use Rattle.std.specs.Prelude.{◌≡◌, ℕ, ◌+◌, Bool, true, ◌↔◌, List, [], ◌∷◌, ◌++◌, length}
use Rattle.model.specs.declared.segmented.Segmented.{Segmented}
use Rattle.model.specs.SegmentedRows.{segmented_kind}
use Rattle.table.specs.Faults.{too_many_segments_at}
use Rattle.table.specs.Tables.{append_refusal}
use Rattle.sheet.specs.declared.segmented.SegmentedDraft.{SegmentedDraft}
use Rattle.sheet.specs.declared.segmented.Stage.TheVariants.{AfterSegment}
use Rattle.sheet.specs.Cuts.{Commands}
use Rattle.sheet.specs.SegmentedSheets.{segmented_grammar}
use Rattle.sheet.specs.SegmentedTasks.{Suspension}
use Rattle.sheet.specs.Sheets.{Sheet, bad}

-- up to a place stand whole commands, the last of them the eighth segment of a row, and there stands a suspension
pub record NinthSegment (bytes : List ℕ) (place : ℕ) : Type 0 where
  pub whole : List ℕ
  pub suspension : List ℕ
  pub rest : List ℕ
  pub stands : bytes ≡ whole ++ (suspension ++ rest)
  pub at_suspension : place ≡ length whole
  pub draft : SegmentedDraft
  pub rows : List Segmented
  pub commands : Commands segmented_grammar segmented_kind segmented_grammar.start [] whole draft rows
  pub after_segment : draft.stage ≡ AfterSegment
  pub eighth : draft.row.count ≡ 8
  pub least : ℕ
  pub most : ℕ
  pub suspends : Suspension least most suspension

-- the same of a sheet
pub record NinthSheet (mark : ℕ) (letters : ℕ → Bool) (bytes : List ℕ) (place : ℕ) : Type 0 where
  pub letter : ℕ
  pub rest : List ℕ
  pub stands : bytes ≡ mark ∷ letter ∷ rest
  pub allowed : letters letter ≡ true
  pub p : ℕ
  pub ninth : NinthSegment rest p
  pub at_place : place ≡ 2 + p

-- the sheets that are refused for too many segments at a place are exactly these
abbrev pub TooManyIsNinth : Type 0
TooManyIsNinth =
    (mark : ℕ) (letters : ℕ → Bool) (bytes : List ℕ) (place : ℕ) → (Sheet segmented_grammar (append_refusal segmented_kind) mark letters bytes (bad (too_many_segments_at place)) ↔ NinthSheet mark letters bytes place)
