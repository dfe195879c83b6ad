use Rattle.std.proofs.Common.{length, arith, rules}
use Rattle.plan.proofs.Memories.{filled_from}
use Rattle.plan.proofs.Orders.{order_found, no_order_found}
use Rattle.plan.proofs.order.find_order.Goals as goal

pub returns-in-Ok : goal.returns-in-Ok
returns-in-Ok g c =
    order_found g.R.Row.meaning g.Q.Test.answers g.met.Q.Test.keeps c.args.rows.now c.args.order.now c.args.bounds.now c.assign.new.order c.assign.new.bounds c.requires.few c.requires.ordered c.requires.bounded c.in-Ok.questions c.in-Ok.ensures.searched
    (filled_from c.assign.new.order c.fill.new.self (length c.args.rows.now) c.requires.few (omega arith) (c.fill.ensures.after (λ y h. h)))
    (filled_from c.assign.new.bounds c.fill-in-Ok.new.self (length c.args.rows.now) c.requires.few (omega arith) (c.fill-in-Ok.ensures.after (λ y h. h)))

pub returns-in-Err-Stuck : goal.returns-in-Err-Stuck
returns-in-Err-Stuck g c =
    no_order_found g.R.Row.meaning g.Q.Test.answers g.met.Q.Test.keeps c.args.rows.now c.args.order.now c.args.bounds.now c.assign.new.order c.assign.new.bounds c.requires.few c.requires.ordered c.requires.bounded c.in-Err-Stuck.left (search rules) c.in-Err-Stuck.ensures.searched
    (filled_from c.assign.new.order c.fill-in-Err-Stuck.new.self 0 (omega arith) (omega arith) (c.fill-in-Err-Stuck.ensures.after (λ y h. h)))
    (filled_from c.assign.new.bounds c.fill-in-Err-Stuck-2.new.self 0 (omega arith) (omega arith) (c.fill-in-Err-Stuck-2.ensures.after (λ y h. h)))
