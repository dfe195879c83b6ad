use Rattle.plan.proofs.Returns.{was_removed, not_removed}
use Rattle.plan.proofs.Through.{through}
use Rattle.plan.proofs.stage.Open.withdraw.Goals as goal

pub returns : goal.returns
returns g c order bounds = let (e, is) = c.in_ok-remove.ensures in was_removed c.args.self.now.few e is

pub returns-in_err-remove : goal.returns-in_err-remove
returns-in_err-remove g c order bounds = let (e, is) = c.in_err-remove.ensures in rw (through c.from_residual.result _ c.from_residual.ensures.1) (not_removed c.args.self.now.few e is)
