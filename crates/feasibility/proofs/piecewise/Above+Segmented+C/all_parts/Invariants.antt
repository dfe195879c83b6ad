-- The sum over the segments passed so far.
use Rattle.std.proofs.Common.{◌≡◌, ℕ, ◌*◌, ◌≤◌, Some, Option}
use Rattle.model.specs.SegmentedRows.{segmented_kind}
use Rattle.feasibility.specs.Masks.{rows_in}
use Rattle.feasibility.specs.Pieces.{part}
use Rattle.feasibility.proofs.Parts.{parts_below}
use Rattle.feasibility.proofs.piecewise.Above+Segmented+C.all_parts.Given as goal

abbrev pub invariant-loop-j : goal.invariant-loop-j
invariant-loop-j g l =
    (l.total ≤ l.j * 4294967295)
    × ◌≡◌ {A = Option ℕ} (Some l.total) (parts_below (part g.C.Curve.workload.ticks l.row.deadline (rows_in segmented_kind l.self.rows.now l.self.set)) l.row l.j)
