use Rattle.std.proofs.Common.{arith}
use Rattle.model.proofs.Places.{ranged_are}
use Rattle.model.proofs.segmented.Segmented.is_ranged.Goals as goal

pub returns : goal.returns
returns c = rw (c.in_order.ensures, c.suspensions.ensures) (ranged_are c.args.self.now (omega arith) (omega arith))
