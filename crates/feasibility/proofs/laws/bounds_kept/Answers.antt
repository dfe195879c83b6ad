-- The proof of the theorem.
use Rattle.feasibility.proofs.Orders.{all_kept}
use Rattle.feasibility.proofs.laws.bounds_kept.Goals as goal

pub returns : goal.returns
returns g c = all_kept
