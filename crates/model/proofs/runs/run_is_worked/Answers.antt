use Rattle.model.proofs.HandRun.{worked_out}
use Rattle.model.proofs.runs.run_is_worked.Goals as goal

pub returns : goal.returns
returns c = worked_out
