use Rattle.plan.proofs.Returns.{was_replaced, not_replaced}
use Rattle.plan.proofs.Through.{through}
use Rattle.plan.proofs.stage.Open.amend.Goals as goal

pub returns : goal.returns
returns g c order bounds = let (e, is) = c.in_ok-replace.ensures in was_replaced c.args.self.now.few e is

pub returns-in_err-replace : goal.returns-in_err-replace
returns-in_err-replace g c order bounds = let (e, is) = c.in_err-replace.ensures in rw (through c.from_residual.result _ c.from_residual.ensures.1) (not_replaced c.args.self.now.few e is)
