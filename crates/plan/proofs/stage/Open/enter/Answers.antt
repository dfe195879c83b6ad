use Rattle.plan.proofs.Returns.{appended, not_appended}
use Rattle.plan.proofs.Through.{through}
use Rattle.plan.proofs.stage.Open.enter.Goals as goal

pub returns : goal.returns
returns g c order bounds = let (e, is) = c.in_ok-append.ensures in appended c.args.self.now.few e is

pub returns-in_err-append : goal.returns-in_err-append
returns-in_err-append g c order bounds = let (e, is) = c.in_err-append.ensures in rw (through c.from_residual.result _ c.from_residual.ensures.1) (not_appended c.args.self.now.few e is)
