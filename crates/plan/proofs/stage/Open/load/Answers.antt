use Rattle.std.proofs.Common.{refl, arith}
use Rattle.plan.proofs.Loads.{load_short, load_few, load_accepted, load_refused}
use Rattle.plan.proofs.Through.{through}
use Rattle.plan.proofs.stage.Open.load.Goals as goal

pub returns-then-rows-lt-CAPACITY : goal.returns-then-rows-lt-CAPACITY
returns-then-rows-lt-CAPACITY g c = load_short g.R.Row.meaning (omega arith)

pub invariant_of-self-2 : goal.invariant_of-self-2
invariant_of-self-2 g c = record { few = load_few g.R.Row.meaning (omega arith) c.in_ok-tasks.ensures }

pub returns : goal.returns
returns g c = load_accepted g.R.Row.meaning (omega arith) refl c.in_ok-tasks.ensures

pub returns-in_err-tasks : goal.returns-in_err-tasks
returns-in_err-tasks g c = rw (through c.from_residual.result c.in_err-tasks.field-0.0 c.from_residual.ensures.1) (load_refused g.R.Row.meaning (omega arith) refl c.in_err-tasks.ensures)
