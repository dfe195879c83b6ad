use Rattle.std.proofs.Common.{◌≡◌, ℕ, ◌+◌, ◌-◌, ◌≤◌}
use Rattle.model.specs.SegmentedRows.{segmented_shape}
use Rattle.curves.specs.SegmentCurve.{row_work_from}
use Rattle.curves.proofs.segment_curve.phases.Phases.work_between.Given as goal

abbrev pub invariant-loop-j : goal.invariant-loop-j
invariant-loop-j l =
    (l.work + l.left ≤ l.time)
    × ((n : ℕ)
    → row_work_from segmented_shape l.self.row.now ((l.to - l.from) + n) l.from l.time
    ≡ l.work + row_work_from segmented_shape l.self.row.now ((l.to - l.j) + n) l.j l.left)
