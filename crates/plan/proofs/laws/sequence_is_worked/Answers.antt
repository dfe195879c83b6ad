use Rattle.plan.proofs.Worked.{worked}
use Rattle.plan.proofs.laws.sequence_is_worked.Goals as goal

pub returns : goal.returns
returns c = worked
