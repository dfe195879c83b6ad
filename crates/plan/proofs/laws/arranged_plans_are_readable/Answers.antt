use Rattle.plan.proofs.Sequences.{arranged_readable}
use Rattle.plan.proofs.laws.arranged_plans_are_readable.Goals as goal

pub returns : goal.returns
returns g c = arranged_readable
