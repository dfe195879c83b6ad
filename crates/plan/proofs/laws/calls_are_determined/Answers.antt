use Rattle.plan.proofs.Determined.{determined}
use Rattle.plan.proofs.laws.calls_are_determined.Goals as goal

pub returns : goal.returns
returns g c = determined
