use Rattle.plan.proofs.Readings.{sheets_read}
use Rattle.plan.proofs.laws.sheets_are_read.Goals as goal

pub returns : goal.returns
returns g c = sheets_read
