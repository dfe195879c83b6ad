-- Accepted sheets are the sheets that are written down as they should be. Assumes nothing.
use Rattle.std.proofs.Common.{ℕ, Bool, List, [], ◌∷◌, ap, ◌∙◌, arith}
use Rattle.model.specs.Rows.{Kind}
use Rattle.model.specs.SegmentedRows.{segmented_blank, segmented_kind}
use Rattle.model.specs.WholeRows.{whole_kind}
use Rattle.table.specs.Tables.{append_refusal}
use Rattle.table.proofs.Judges.{lawful_none}
use Rattle.sheet.specs.Language.{Grammar, Parses, accepted}
use Rattle.sheet.specs.Sheets.{Sheet, good, body}
use Rattle.sheet.specs.Spelling.{Written, GoodIsWritten}
use Rattle.sheet.specs.SegmentedSheets.{segmented_grammar}
use Rattle.sheet.specs.SegmentedTasks.{SegmentedTask}
use Rattle.sheet.specs.WholeSheets.{whole_grammar}
use Rattle.sheet.specs.WholeTasks.{WholeTask}
use Rattle.sheet.proofs.SegmentedSpelling as segmented
use Rattle.sheet.proofs.WholeSpelling as whole
use Rattle.sheet.proofs.Follows.{Follows, rows_from, follows_from}

module _ {S R : Type 0} (g : Grammar S R) (Task : R → List ℕ → Type 0) (kind : Kind R) where
  module _ (accepts : (all : List R) (bytes : List ℕ) → Follows Task (append_refusal kind) [] all bytes → Parses g (append_refusal kind) g.start [] 2 bytes (accepted all)) (follows : (all : List R) (bytes : List ℕ) → Parses g (append_refusal kind) g.start [] 2 bytes (accepted all) → Follows Task (append_refusal kind) [] all bytes) where
    written_good : (mark : ℕ) (letters : ℕ → Bool) (bytes : List ℕ) (table : List R) (letter : ℕ) → Written Task kind mark letters bytes table letter → Sheet g (append_refusal kind) mark letters bytes (good table letter)
    written_good mark letters bytes table letter w =
        body w.stands w.allowed (accepts table _ (follows_from Task kind [] w.spelled w.few w.lawful))

    good_written : {mark : ℕ} {letters : ℕ → Bool} {bytes : List ℕ} {table : List R} {letter : ℕ} → Sheet g (append_refusal kind) mark letters bytes (good table letter) → Written Task kind mark letters bytes table letter
    good_written {mark} {letters} {bytes} {table} {letter} (body {rest = rest} e n r) =
        let w = rows_from Task kind (follows table rest r) (omega arith) (lawful_none kind) in
        record {
          tasks = w.tasks;
          stands = e ∙ ap (λ (xs : List ℕ). mark ∷ letter ∷ xs) w.stands;
          allowed = n;
          spelled = rw (← w.is) at w.spelled;
          few = w.few;
          lawful = w.lawful;
        }

    pub good_is_written : GoodIsWritten g Task kind
    good_is_written mark letters bytes table letter = (good_written, written_good mark letters bytes table letter)

-- both kinds of rows
pub segmented_written : GoodIsWritten segmented_grammar SegmentedTask segmented_kind
segmented_written =
    good_is_written segmented_grammar SegmentedTask segmented_kind (λ all bytes f. segmented.accepts (append_refusal segmented_kind) segmented_blank 2 f)
    (λ all bytes r. segmented.follows (append_refusal segmented_kind) segmented_blank [] all 2 bytes r)

pub whole_written : GoodIsWritten whole_grammar WholeTask whole_kind
whole_written =
    good_is_written whole_grammar WholeTask whole_kind (λ all bytes f. whole.accepts (append_refusal whole_kind) whole_grammar.start 2 f) (λ all bytes r. whole.follows (append_refusal whole_kind) r)
