use Rattle.plan.proofs.Sequences.{tables_made}
use Rattle.plan.proofs.laws.tables_are_made.Goals as goal

pub returns : goal.returns
returns g c = tables_made
