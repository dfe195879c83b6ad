use Rattle.assign.proofs.Optimal.{laws}
use Rattle.assign.proofs.laws.assignment_stands.Goals as goal

pub returns : goal.returns
returns g c = λ kind test rules table. laws kind test rules table
