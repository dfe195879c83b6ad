-- The commands of segmented rows. Assumes nothing.
use Rattle.std.specs.Prelude.{ℕ, ◌+◌, ◌-◌, Bool, cond, ◌||◌, List, replicate, Some, None, Option, ◌==◌, nat_le, slice_set}
use Rattle.model.specs.declared.segmented.Segmented.{Segmented}
use Rattle.model.specs.SegmentedRows.{segmented_blank}
use Rattle.sheet.specs.declared.command.Effect.{Effect}
use Rattle.sheet.specs.declared.command.Effect.TheVariants.{Continues, Completes, Ends, TooManySegments}
use Rattle.sheet.specs.declared.segmented.SegmentedDraft.{SegmentedDraft}
use Rattle.sheet.specs.declared.segmented.Stage.{Stage}
use Rattle.sheet.specs.declared.segmented.Stage.TheVariants.{BetweenTasks, BeforeSegment, AfterSegment}
use Rattle.sheet.specs.Bytes.{open_byte, open_short_byte, end_byte, segment_byte, suspension_byte, suspension_short_byte, task_end_byte}
use Rattle.sheet.specs.Language.{Grammar}
use Rattle.sheet.specs.Operands.{two_at, four_at}

-- the letters of the tests for segmented rows: C, A, J and B
abbrev pub segmented_letters : ℕ → Bool
segmented_letters l = l == 0x43 || (l == 0x41 || (l == 0x4A || l == 0x42))

-- which commands may stand at a stage, and how many bytes their operands have
abbrev pub segmented_takes : Stage → ℕ → Option ℕ
segmented_takes BetweenTasks b = cond (b == open_byte) (Some 10) (cond (b == open_short_byte) (Some 6) (cond (b == end_byte) (Some 0) None))
segmented_takes BeforeSegment b = cond (b == segment_byte) (Some 4) None
segmented_takes AfterSegment b = cond (b == suspension_byte) (Some 8) (cond (b == suspension_short_byte) (Some 4) (cond (b == task_end_byte) (Some 0) None))

-- a row that is opened, has no segment yet
abbrev pub opened : ℕ → ℕ → ℕ → SegmentedDraft
opened id period deadline =
    record { stage = BeforeSegment; row = record { id = id; period = period; deadline = deadline; count = 0; costs = replicate 8 0; least = replicate 7 0; most = replicate 7 0 } }

-- and one segment more
abbrev pub with_segment : SegmentedDraft → ℕ → SegmentedDraft
with_segment d ticks =
    record { stage = AfterSegment; row = record { id = d.row.id; period = d.row.period; deadline = d.row.deadline; count = d.row.count + 1; costs = slice_set d.row.costs d.row.count ticks; least = d.row.least; most = d.row.most } }

-- and a suspension after the last segment
abbrev pub with_suspension : SegmentedDraft → ℕ → ℕ → SegmentedDraft
with_suspension d low high =
    record { stage = BeforeSegment; row = record { id = d.row.id; period = d.row.period; deadline = d.row.deadline; count = d.row.count; costs = d.row.costs; least = slice_set d.row.least (d.row.count - 1) low; most = slice_set d.row.most (d.row.count - 1) high } }

abbrev pub closed : SegmentedDraft → SegmentedDraft
closed d = record { stage = BetweenTasks; row = d.row }

abbrev pub segmented_effect : SegmentedDraft → Stage → ℕ → Effect Segmented
segmented_effect d BetweenTasks b = cond (b == end_byte) Ends Continues
segmented_effect d BeforeSegment b = cond (nat_le 8 d.row.count) TooManySegments Continues
segmented_effect d AfterSegment b = cond (b == task_end_byte) (Completes d.row) (cond (nat_le 8 d.row.count) TooManySegments Continues)

abbrev pub segmented_next : SegmentedDraft → Stage → ℕ → List ℕ → SegmentedDraft
segmented_next d BetweenTasks b xs =
    cond (b == open_byte) (opened (two_at xs 0) (four_at xs 2) (four_at xs 6)) (cond (b == open_short_byte) (opened (two_at xs 0) (four_at xs 2) (four_at xs 2)) d)
segmented_next d BeforeSegment b xs = cond (nat_le 8 d.row.count) d (with_segment d (four_at xs 0))
segmented_next d AfterSegment b xs =
    cond (b == task_end_byte) (closed d) (cond (nat_le 8 d.row.count) d (cond (b == suspension_byte) (with_suspension d (four_at xs 0) (four_at xs 4)) (with_suspension d (four_at xs 0) (four_at xs 0))))

abbrev pub segmented_grammar : Grammar SegmentedDraft Segmented
segmented_grammar = record {
  start = record { stage = BetweenTasks; row = segmented_blank };
  takes = λ d b. segmented_takes d.stage b;
  effect = λ d b xs. segmented_effect d d.stage b;
  next = λ d b xs. segmented_next d d.stage b xs;
}
