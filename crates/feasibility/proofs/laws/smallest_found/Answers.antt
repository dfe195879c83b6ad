-- By induction on the limit.
use Rattle.feasibility.specs.Least.{least_is}
use Rattle.feasibility.proofs.laws.smallest_found.Goals as goal

pub returns : goal.returns
returns c = least_is
