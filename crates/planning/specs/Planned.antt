-- The report of a sheet. Assumes nothing.
use Rattle.std.specs.Prelude.{ℕ, Bool, cond, List, length, Result, ◌==◌, slice_index}
use Rattle.model.specs.Rows.{Kind}
use Rattle.model.specs.SegmentedRows.{segmented_shape, segmented_kind}
use Rattle.model.specs.WholeRows.{whole_kind}
use Rattle.model.specs.declared.segmented.Segmented.{Segmented}
use Rattle.curves.specs.CeilingCurve.{ceiling_workload}
use Rattle.curves.specs.SegmentCurve.{segment_workload}
use Rattle.feasibility.specs.Tests.{Answers}
use Rattle.feasibility.specs.WholeJobs.{whole_job_answers}
use Rattle.feasibility.specs.Pieces.{piecewise_answers}
use Rattle.feasibility.specs.Betters.{better_answers}
use Rattle.assign.specs.Assignment.{Outcome, accepted, stuck}
use Rattle.assign.specs.Laws.{Arranges}
use Rattle.table.specs.declared.fault.Fault.{Fault}
use Rattle.table.specs.declared.fault.Fault.TheVariants.{Assignment}
use Rattle.table.specs.Tables.{append_refusal}
use Rattle.sheet.specs.Language.{Grammar}
use Rattle.sheet.specs.Sheets.{good, bad, Sheet}
use Rattle.sheet.specs.Bytes.{segmented_byte, whole_byte}
use Rattle.sheet.specs.SegmentedSheets.{segmented_grammar, segmented_letters}
use Rattle.sheet.specs.WholeSheets.{whole_grammar, whole_letters}
use Rattle.report.specs.Reports.{Writes, order_bytes, refused_bytes}

-- what is reported of an assignment
abbrev pub outcome_report : {R : Type 0} → Kind R → List R → Outcome → List ℕ
outcome_report kind table (accepted order bounds questions) = order_bytes kind table order bounds (length table) questions
outcome_report kind table (stuck left questions) = refused_bytes (Assignment (length left))

-- A refused sheet's report tells its fault, and an accepted sheet's what the assignment comes to, by the test that its letter names.
pub data Planned {S R : Type 0} (g : Grammar S R) (kind : Kind R) (mark : ℕ) (letters : ℕ → Bool) (tests : ℕ → Answers R) (sheet : List ℕ) : List ℕ → Type 0 where
  refused : {fault : Fault} → Sheet g (append_refusal kind) mark letters sheet (bad fault) → Planned g kind mark letters tests sheet (refused_bytes fault)
  arranged : {table : List R} {letter : ℕ} {o : Outcome} → Sheet g (append_refusal kind) mark letters sheet (good table letter) → Arranges kind (tests letter) table o → Planned g kind mark letters tests sheet (outcome_report kind table o)

-- arranging a table by a test, and writing what is reported of it into a memory
abbrev pub ReportsArranged : {R : Type 0} → Kind R → Answers R → List R → List ℕ → List ℕ → Result ℕ Fault → Type 0
ReportsArranged kind test table before after r = (o : Outcome) × Arranges kind test table o × Writes (outcome_report kind table o) before after r

-- the tests of segmented rows: C and J are the whole-job tests over the segment and the ceiling curve, A is the piecewise test, and B the better of C and A
abbrev pub test_c : Answers Segmented
test_c = whole_job_answers segmented_kind (segment_workload segmented_shape)

abbrev pub test_a : Answers Segmented
test_a = piecewise_answers segmented_shape (segment_workload segmented_shape)

abbrev pub test_j : {R : Type 0} → Kind R → Answers R
test_j kind = whole_job_answers kind (ceiling_workload kind)

abbrev pub test_b : Answers Segmented
test_b = better_answers test_c test_a

abbrev pub segmented_test : ℕ → Answers Segmented
segmented_test letter = cond (letter == 0x43) test_c (cond (letter == 0x41) test_a (cond (letter == 0x4A) (test_j segmented_kind) test_b))

abbrev pub SegmentedPlanned : List ℕ → List ℕ → Type 0
SegmentedPlanned sheet report = Planned segmented_grammar segmented_kind segmented_byte segmented_letters segmented_test sheet report

abbrev pub WholePlanned : List ℕ → List ℕ → Type 0
WholePlanned sheet report = Planned whole_grammar whole_kind whole_byte whole_letters (λ letter. test_j whole_kind) sheet report

-- the kind of a sheet is its first byte
abbrev pub Planning : List ℕ → List ℕ → Type 0
Planning sheet report = cond (slice_index sheet 0 == whole_byte) (WholePlanned sheet report) (SegmentedPlanned sheet report)

-- the sheet's report is written into a memory
abbrev pub Plans : (List ℕ → List ℕ → Type 0) → List ℕ → List ℕ → List ℕ → Result ℕ Fault → Type 0
Plans planned sheet before after r = (report : List ℕ) × planned sheet report × Writes report before after r

abbrev pub PlansSheet : List ℕ → List ℕ → List ℕ → Result ℕ Fault → Type 0
PlansSheet sheet before after r = Plans Planning sheet before after r
