use Rattle.std.proofs.Common.{length}
use Rattle.report.proofs.order.+names_each_once.Given as goal

abbrev pub decreases-names_each_once : goal.decreases-names_each_once
decreases-names_each_once l = length l.entries.now
