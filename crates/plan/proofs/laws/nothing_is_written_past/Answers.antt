use Rattle.plan.proofs.Sequences.{nothing_past}
use Rattle.plan.proofs.laws.nothing_is_written_past.Goals as goal

pub returns : goal.returns
returns g c = nothing_past
