-- The proof of the theorem.
use Rattle.curves.proofs.Rates.{rate}
use Rattle.curves.proofs.laws.rates_are_reached.Goals as goal

pub returns : goal.returns
returns g c = rate
