use Rattle.plan.proofs.Alike.{only_tasks}
use Rattle.plan.proofs.laws.only_tasks_matter.Goals as goal

pub returns : goal.returns
returns g c = only_tasks
