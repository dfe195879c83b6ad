use Rattle.std.proofs.Common.{◌+◌, ◌*◌, ◌≤◌, length}
use Rattle.report.specs.Memory.{Appends}
use Rattle.report.specs.Reports.{order_lines}
use Rattle.report.proofs.order.report_plan.Given as goal

abbrev pub invariant-loop-i : goal.invariant-loop-i
invariant-loop-i g l =
    record {
      short : l.writer.at ≤ 20 + 31 * length l.yielded;
      written : Appends l.initial.writer (order_lines g.R.Row.meaning l.rows l.order l.bounds (length l.yielded)) l.writer;
    }
