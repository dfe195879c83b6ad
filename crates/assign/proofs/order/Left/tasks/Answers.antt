use Rattle.std.proofs.Common.{arith}
use Rattle.feasibility.proofs.Masks.{ones_in}
use Rattle.assign.specs.Counts.{tasks_in}
use Rattle.assign.proofs.order.Left.tasks.Goals as goal

pub returns : goal.returns
unfolding tasks_in
returns c = ones_in c.args.self.now.mask 32 (omega arith)
