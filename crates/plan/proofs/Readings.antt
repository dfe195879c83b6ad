-- The verdicts on sheets are a reading of sheets. Assumes nothing.
use Rattle.std.proofs.Common.{ℕ, ◌≤◌, Bool, List, length, arith}
use Rattle.model.specs.Rows.{Kind}
use Rattle.table.specs.Tables.{append_refusal}
use Rattle.sheet.specs.Language.{Grammar}
use Rattle.sheet.specs.Sheets.{Verdict, Sheet, no_kind, other_kind, no_letter, other_letter, body, body_refused, rows_of}
use Rattle.sheet.proofs.Follows.{sheet_lawful}
use Rattle.sheet.proofs.Sheets.{one_verdict}
use Rattle.plan.specs.Laws.{SheetsRead}

module _ {S R : Type 0} (kind : Kind R) (g : Grammar S R) where
  pub sheet_few : {mark : ℕ} {letters : ℕ → Bool} {bytes : List ℕ} {v : Verdict R} → Sheet g (append_refusal kind) mark letters bytes v → length (rows_of v) ≤ 32
  sheet_few (no_kind e) = omega arith
  sheet_few (other_kind e n) = omega arith
  sheet_few (no_letter e) = omega arith
  sheet_few (other_letter e n) = omega arith
  sheet_few {letters = letters} (body e n r) = (sheet_lawful g kind {letters = letters} (body e n r)).0
  sheet_few (body_refused e n r) = omega arith

pub sheets_read : {S R : Type 0} → SheetsRead S R
sheets_read {S} {R} kind g mark letters = (
  record {
    read = λ bytes. (one_verdict S R g (append_refusal kind) mark letters bytes).verdict;
    small = λ bytes. sheet_few kind g (one_verdict S R g (append_refusal kind) mark letters bytes).sheet;
  },
  λ bytes. ((one_verdict S R g (append_refusal kind) mark letters bytes).sheet, (one_verdict S R g (append_refusal kind) mark letters bytes).only),
)
