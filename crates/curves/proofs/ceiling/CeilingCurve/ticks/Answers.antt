use Rattle.std.proofs.Common.{arith, rules}
use Rattle.curves.specs.CeilingRules.{product, small_always}
use Rattle.curves.proofs.ceiling.CeilingCurve.ticks.Goals as goal

pub overflow_mul-result : goal.overflow_mul-result
overflow_mul-result g c =
    omega (arith, product g.R.Row.meaning c.args.row.now c.args.t c.div_ceil.result c.compute-compute.result (search rules) (search rules) (search rules), small_always g.R.Row.meaning c.args.row.now c.args.t)

pub returns : goal.returns
returns g c =
    product g.R.Row.meaning c.args.row.now c.args.t c.div_ceil.result c.compute-compute.result
    (search rules) (search rules) (search rules)
