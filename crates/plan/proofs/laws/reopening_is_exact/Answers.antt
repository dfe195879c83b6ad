use Rattle.plan.proofs.Returns.{reopen_means}
use Rattle.plan.proofs.laws.reopening_is_exact.Goals as goal

pub returns : goal.returns
returns g c = reopen_means
