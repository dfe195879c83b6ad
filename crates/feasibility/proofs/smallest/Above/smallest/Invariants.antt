-- Nothing below t fits, and t goes up to the limit.
use Rattle.std.proofs.Common.{◌+◌, ◌-◌, ◌≤◌}
use Rattle.feasibility.specs.Masks.{rows_in}
use Rattle.feasibility.specs.Windows.{fits}
use Rattle.feasibility.proofs.Jumps.{NoneBelow}
use Rattle.feasibility.proofs.smallest.Above.smallest.Given as goal

abbrev pub invariant-loop-t : goal.invariant-loop-t
invariant-loop-t g l =
    (l.own ≤ l.t) × NoneBelow (fits g.C.Curve.workload.ticks l.own (rows_in g.R.Row.meaning l.self.rows.now l.self.set)) l.t

abbrev pub decreases-loop-t : goal.decreases-loop-t
decreases-loop-t g l = l.limit + 1 - l.t
