use Rattle.std.proofs.Common.{◌≡◌, ℕ, List, [], Some, refl}
use Rattle.model.specs.SegmentedRows.{segmented_kind}
use Rattle.model.specs.WholeRows.{whole_kind}
use Rattle.sheet.specs.Bytes.{segmented_byte, whole_byte}
use Rattle.sheet.specs.SegmentedSheets.{segmented_grammar, segmented_letters}
use Rattle.sheet.specs.WholeSheets.{whole_grammar, whole_letters}
use Rattle.planning.specs.Planned.{Planned, segmented_test, test_j}
use Rattle.std.specs.Fmt.{digits}
use Rattle.worked.proofs.Computed.{plan_by, planned}
use Rattle.worked.specs.Worked.{pair, twins, three_whole, exact_fit, segmented_sheet}
use Rattle.worked.proofs.examples_stand.Goals as goal

-- a sheet of segmented rows, by at most 20 commands
segmented : (sheet report : List ℕ) → plan_by segmented_grammar segmented_kind segmented_byte segmented_letters segmented_test 20 sheet ≡ Some report
    → Planned segmented_grammar segmented_kind segmented_byte segmented_letters segmented_test sheet report
segmented sheet report e = planned segmented_grammar segmented_kind segmented_byte segmented_letters segmented_test 20 sheet report e

pub returns : goal.returns
unfolding digits
returns c = record {
  pair_planned = segmented (pair 8) _ refl;
  pair_refused = segmented (pair 7) _ refl;
  curve_0 = refl;
  curve_2 = refl;
  curve_10 = refl;
  wait_c = refl;
  wait_a = refl;
  wait_j = refl;
  wait_b = refl;
  tight_c = refl;
  tight_a = refl;
  tight_j = refl;
  tight_b = refl;
  twins_c = segmented (twins 0x43) _ refl;
  twins_a = segmented (twins 0x41) _ refl;
  twins_j = segmented (twins 0x4A) _ refl;
  twins_b = segmented (twins 0x42) _ refl;
  none_planned = segmented (segmented_sheet 0x43 []) _ refl;
  second_whole = refl;
  whole_refused = planned whole_grammar whole_kind whole_byte whole_letters (λ letter. test_j whole_kind) 20 three_whole _ refl;
  fit_planned = segmented (exact_fit 8) _ refl;
  fit_refused = segmented (exact_fit 7) _ refl;
}
