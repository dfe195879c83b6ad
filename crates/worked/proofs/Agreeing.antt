-- Values from an independent implementation, computed. Assumes nothing.
use Rattle.std.proofs.Common.{◌≡◌, ℕ, Bool, true, false, cond, eqb, List, [], ◌∷◌, map, get_or, Some, None, Option, refl, ap, subst}
use Rattle.std.specs.List.{AllByRecursion}
use Rattle.model.specs.Rows.{Kind}
use Rattle.model.specs.SegmentedRows.{segmented_shape, segmented_kind}
use Rattle.model.specs.WholeRows.{whole_kind}
use Rattle.model.specs.declared.segmented.Segmented.{Segmented}
use Rattle.curves.specs.CeilingCurve.{ceiling}
use Rattle.curves.specs.SegmentCurve.{segment_peak}
use Rattle.feasibility.specs.Masks.{asked}
use Rattle.feasibility.specs.Tests.{Answers}
use Rattle.table.specs.Tables.{append_refusal}
use Rattle.sheet.specs.Bytes.{segmented_byte, whole_byte}
use Rattle.sheet.specs.Language.{Grammar}
use Rattle.sheet.specs.SegmentedSheets.{segmented_grammar, segmented_letters}
use Rattle.sheet.specs.Sheets.{Verdict, good, bad, Sheet}
use Rattle.sheet.specs.WholeSheets.{whole_grammar, whole_letters}
use Rattle.planning.specs.Planned.{segmented_test, test_j}
use Rattle.worked.specs.Worked.{segmented_sheet}
use Rattle.worked.specs.Outside.{CurveValue, curve, AnswerValue, answer, ReportValue, report, bytes, letter_of, lines, CurveAgrees, Answered, AnswerAgrees, ReportAgrees}
use Rattle.worked.proofs.Computed.{none_some, verdict_by, verdict_holds, plan_by, planned}

-- if what is computed for each element of a list is what is given for it, all of them agree
pub all_agree : {X Y : Type 0} (computed given : X → Y) (Agrees : X → Type 0) → ((x : X) → computed x ≡ given x → Agrees x) → (xs : List X) → map computed xs ≡ map given xs → AllByRecursion Agrees xs
all_agree computed given Agrees f [] e = tt
all_agree computed given Agrees f (x ∷ xs) e =
    let one : computed x ≡ given x = cc in
    let others : map computed xs ≡ map given xs = cc in
    (f x one, all_agree computed given Agrees f xs others)

by_case : {X : Type 0} {x y z : X} {P Q : Type 0} → (b : Bool) → (x ≡ z → P) → (y ≡ z → Q) → cond b x y ≡ z → cond b P Q
by_case true f g e = f e
by_case false f g e = g e

-- no sheet here has more commands
abbrev commands : ℕ
commands = 100

-- ---- curves

abbrev row_values : ℕ → Option (Verdict Segmented) → Option (ℕ × (ℕ × ℕ) × ℕ)
row_values window None = None
row_values window (Some (bad f)) = None
row_values window (Some (good [] letter)) = None
row_values window (Some (good (row ∷ []) letter)) = Some (letter, segment_peak segmented_shape row window, ceiling segmented_kind row window)
row_values window (Some (good (row ∷ next ∷ rest) letter)) = None

abbrev curve_verdict : List ℕ → Option (Verdict Segmented)
curve_verdict task = verdict_by segmented_grammar segmented_kind segmented_byte segmented_letters commands (segmented_sheet 0x43 task)

abbrev pub curve_computed : CurveValue → Option (ℕ × (ℕ × ℕ) × ℕ)
curve_computed (curve task window work phase most) = row_values window (curve_verdict (bytes task))

abbrev pub curve_given : CurveValue → Option (ℕ × (ℕ × ℕ) × ℕ)
curve_given (curve task window work phase most) = Some (0x43, (work, phase), most)

pub curve_agrees : (v : CurveValue) → curve_computed v ≡ curve_given v → CurveAgrees v
curve_agrees (curve task window work phase most) e = go (curve_verdict (bytes task)) refl e
  where
    go : (o : Option (Verdict Segmented)) → curve_verdict (bytes task) ≡ o → row_values window o ≡ Some (0x43, (work, phase), most) → CurveAgrees (curve task window work phase most)
    go None p h = absurd (none_some h)
    go (Some (bad f)) p h = absurd (none_some h)
    go (Some (good [] letter)) p h = absurd (none_some h)
    go (Some (good (row ∷ next ∷ rest) letter)) p h = absurd (none_some h)
    go (Some (good (row ∷ []) letter)) p h =
        let all : ◌≡◌ {A = ℕ × (ℕ × ℕ) × ℕ} (letter, segment_peak segmented_shape row window, ceiling segmented_kind row window) (0x43, (work, phase), most) = cc in
        let read = verdict_holds segmented_grammar segmented_kind segmented_byte segmented_letters commands (segmented_sheet 0x43 (bytes task)) (good (row ∷ []) letter) p in
        let same : letter ≡ 0x43 = ap (λ x. x.0) all in (
          row,
          subst (λ l. Sheet segmented_grammar (append_refusal segmented_kind) segmented_byte segmented_letters (segmented_sheet 0x43 (bytes task)) (good (row ∷ []) l)) same read,
          ap (λ x. x.1) all,
          ap (λ x. x.2) all,
        )

-- ---- answers

module _ {S R : Type 0} (g : Grammar S R) (kind : Kind R) (mark : ℕ) (letters : ℕ → Bool) (tests : ℕ → Answers R) where
  abbrev table_answer : ℕ → ℕ → Option (Verdict R) → Option (ℕ × Option ℕ)
  table_answer place above None = None
  table_answer place above (Some (bad f)) = None
  table_answer place above (Some (good table letter)) = Some (letter, asked kind (tests letter) table place above)

  abbrev answer_by : List ℕ → ℕ → ℕ → Option (ℕ × Option ℕ)
  answer_by sheet place above = table_answer place above (verdict_by g kind mark letters commands sheet)

  answered : (letter : ℕ) (sheet : List ℕ) (place above : ℕ) (bound : Option ℕ) → answer_by sheet place above ≡ Some (letter, bound) → Answered g kind mark letters tests letter sheet place above bound
  answered letter sheet place above bound e = go (verdict_by g kind mark letters commands sheet) refl e
    where
      go : (o : Option (Verdict R)) → verdict_by g kind mark letters commands sheet ≡ o → table_answer place above o ≡ Some (letter, bound) → Answered g kind mark letters tests letter sheet place above bound
      go None p h = absurd (none_some h)
      go (Some (bad f)) p h = absurd (none_some h)
      go (Some (good table l)) p h =
          let both : ◌≡◌ {A = ℕ × Option ℕ} (l, asked kind (tests l) table place above) (letter, bound) = cc in
          subst (λ x. Answered g kind mark letters tests x sheet place above bound) (ap (λ x. x.0) both)
          (table, verdict_holds g kind mark letters commands sheet (good table l) p, ap (λ x. x.1) both)

abbrev pub answer_computed : AnswerValue → Option (ℕ × Option ℕ)
answer_computed (answer letter sheet place above bound) =
    cond (eqb (get_or (bytes sheet) 0 0) whole_byte)
    (answer_by whole_grammar whole_kind whole_byte whole_letters (λ l. test_j whole_kind) (bytes sheet) place above)
    (answer_by segmented_grammar segmented_kind segmented_byte segmented_letters segmented_test (bytes sheet) place above)

abbrev pub answer_given : AnswerValue → Option (ℕ × Option ℕ)
answer_given (answer letter sheet place above bound) = Some (letter_of letter, bound)

pub answer_agrees : (v : AnswerValue) → answer_computed v ≡ answer_given v → AnswerAgrees v
answer_agrees (answer letter sheet place above bound) e =
    by_case (eqb (get_or (bytes sheet) 0 0) whole_byte)
    (answered whole_grammar whole_kind whole_byte whole_letters (λ l. test_j whole_kind) (letter_of letter) (bytes sheet) place above bound)
    (answered segmented_grammar segmented_kind segmented_byte segmented_letters segmented_test (letter_of letter) (bytes sheet) place above bound)
    e

-- ---- reports

abbrev pub report_computed : ReportValue → Option (List ℕ)
report_computed (report sheet text) =
    cond (eqb (get_or (bytes sheet) 0 0) whole_byte)
    (plan_by whole_grammar whole_kind whole_byte whole_letters (λ l. test_j whole_kind) commands (bytes sheet))
    (plan_by segmented_grammar segmented_kind segmented_byte segmented_letters segmented_test commands (bytes sheet))

abbrev pub report_given : ReportValue → Option (List ℕ)
report_given (report sheet text) = Some (lines text)

pub report_agrees : (v : ReportValue) → report_computed v ≡ report_given v → ReportAgrees v
report_agrees (report sheet text) e =
    by_case (eqb (get_or (bytes sheet) 0 0) whole_byte)
    (planned whole_grammar whole_kind whole_byte whole_letters (λ l. test_j whole_kind) commands (bytes sheet) (lines text))
    (planned segmented_grammar segmented_kind segmented_byte segmented_letters segmented_test commands (bytes sheet) (lines text))
    e
