use Rattle.std.proofs.Common.{◌≡◌, suc, ◌+◌, length, get_or, sym, add-one, arith, rules}
use Rattle.std.proofs.lemmas.List.{get_or_read, length_push}
use Rattle.report.specs.Reports.{order_line, row_at}
use Rattle.report.proofs.Memory.{appends_join}
use Rattle.report.proofs.Orders.{level_turn, levels_end}
use Rattle.report.proofs.order.report_plan.Goals as goal

pub offset_bounds-rows-place : goal.offset_bounds-rows-place
offset_bounds-rows-place g c = omega (arith, (level_turn c.args.plan.now.tasks c.args.order.now c.args.bounds.now c.into_iter-i-iterator.result c.loop-i.i-iterator c.next.new.self c.loop-i.yielded _ (omega arith) (omega arith) (cc) (cc) (cc) c.loop-i.yielded_by c.next.ensures.steps _ c.in-Some.is (cc)).1)

pub bounds-rows-place : goal.bounds-rows-place
bounds-rows-place g c = omega (arith, (level_turn c.args.plan.now.tasks c.args.order.now c.args.bounds.now c.into_iter-i-iterator.result c.loop-i.i-iterator c.next.new.self c.loop-i.yielded _ (omega arith) (omega arith) (cc) (cc) (cc) c.loop-i.yielded_by c.next.ensures.steps _ c.in-Some.is (cc)).1)

pub loop-i-preserved : goal.loop-i-preserved
loop-i-preserved g c =
    let kind = g.R.Row.meaning in
    let rows = c.args.rows.now in
    let order = c.args.order.now in
    let bounds = c.args.bounds.now in
    let i = length c.loop-i.yielded in
    let (index, below, place, bound) = level_turn c.args.plan.now.tasks c.args.order.now c.args.bounds.now c.into_iter-i-iterator.result c.loop-i.i-iterator c.next.new.self c.loop-i.yielded _ (omega arith) (omega arith) (cc) (cc) (cc) c.loop-i.yielded_by c.next.ensures.steps _ c.in-Some.is (cc) in
    let row : c.index-rows-place.result ≡ row_at kind rows order bounds i = rw place at (get_or_read rows c.in-Some.place.now c.index-rows-place.result (omega (arith, below)) c.index-rows-place.is kind.blank) in
    let line : order_line (c.in-Some.i + 1) c.id.result c.in-Some.bound.now c.deadline.result ≡ order_line (suc i) (kind.ident (row_at kind rows order bounds i)) (get_or bounds i 0) (kind.deadline (row_at kind rows order bounds i)) = cc (add-one i, c.id.ensures, c.deadline.ensures) in
    let all = rw line at (appends_join c.loop-i.invariant.written c.put_line.ensures.appends) in
    let next = length_push c.loop-i.yielded (c.in-Some.i, (c.in-Some.place, c.in-Some.bound)) in
    record { short = omega (arith, next); written = rw (next, add-one) all }

pub returns-clause-reported : goal.returns-clause-reported
returns-clause-reported g c =
    let long = levels_end c.args.plan.now.tasks c.args.order.now c.args.bounds.now c.into_iter-i-iterator.result c.loop-i.i-iterator c.next.new.self c.loop-i.yielded _ (omega arith) (omega arith) (cc) (cc) (cc) c.loop-i.yielded_by c.next.ensures.steps c.in-None.is in
    let all = rw (c.tasks-tasks.ensures, c.questions.ensures, long) at (appends_join c.put_head.ensures.appends c.loop-i.invariant.written) in
    (search rules, omega (arith, all.puts.place), let tie = sym all.same in search rules)
