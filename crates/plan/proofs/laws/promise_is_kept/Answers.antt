use Rattle.plan.proofs.Promises.{promise}
use Rattle.plan.proofs.laws.promise_is_kept.Goals as goal

pub returns : goal.returns
returns g c = promise
