use Rattle.std.proofs.Common.{◌≡◌, ◌-◌}
use Rattle.model.specs.SegmentedRows.{segmented_shape}
use Rattle.curves.specs.SegmentCurve.{greatest, row_work}
use Rattle.curves.proofs.segment_curve.SegmentCurve.peak.Given as goal

abbrev pub invariant-loop-phase : goal.invariant-loop-phase
invariant-loop-phase l = l.best ≡ greatest (row_work segmented_shape l.row l.window) (l.phase - 1)
