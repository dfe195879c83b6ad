-- The commands of segmented rows. Assumes nothing.
use Rattle.std.proofs.Common.{◌≡◌, ℕ, Some, None}
use Rattle.sheet.specs.declared.segmented.Stage.{Stage}
use Rattle.sheet.specs.declared.segmented.Stage.TheVariants.{BetweenTasks, BeforeSegment, AfterSegment}
use Rattle.sheet.specs.Bytes.{open_byte, open_short_byte, end_byte, segment_byte, suspension_byte, suspension_short_byte, task_end_byte}
use Rattle.sheet.specs.SegmentedSheets.{segmented_takes}
use Rattle.sheet.proofs.Lengths.{pick}

-- the commands by stage, first byte and number of operand bytes
pub data View : Stage → ℕ → ℕ → Type 0 where
  open_view : View BetweenTasks open_byte 10
  short_view : View BetweenTasks open_short_byte 6
  end_view : View BetweenTasks end_byte 0
  segment_view : View BeforeSegment segment_byte 4
  range_view : View AfterSegment suspension_byte 8
  equal_view : View AfterSegment suspension_short_byte 4
  task_end_view : View AfterSegment task_end_byte 0

pub view : (s : Stage) (tag n : ℕ) → segmented_takes s tag ≡ Some n → View s tag n
view BetweenTasks tag n e =
    pick (View BetweenTasks) tag 10 n _ open_byte e open_view (λ f. pick (View BetweenTasks) tag 6 n _ open_short_byte f short_view (λ h. pick (View BetweenTasks) tag 0 n None end_byte h end_view (λ k. cc)))
view BeforeSegment tag n e = pick (View BeforeSegment) tag 4 n None segment_byte e segment_view (λ k. cc)
view AfterSegment tag n e =
    pick (View AfterSegment) tag 8 n _ suspension_byte e range_view (λ f. pick (View AfterSegment) tag 4 n _ suspension_short_byte f equal_view (λ h. pick (View AfterSegment) tag 0 n None task_end_byte h task_end_view (λ k. cc)))
