-- Each jump passes over nothing that fits.
use Rattle.std.proofs.Common.{◌≡◌, ◌+◌, true, arith}
use Rattle.std.proofs.lemmas.Bool.{le-leb}
use Rattle.feasibility.specs.Masks.{rows_in}
use Rattle.feasibility.specs.Windows.{fits, demand}
use Rattle.feasibility.proofs.Jumps.{least_found_at, least_none, jump}
use Rattle.feasibility.proofs.smallest.Above.smallest.Goals as goal

pub loop-t-preserved : goal.loop-t-preserved
loop-t-preserved g c =
    let A = rows_in g.R.Row.meaning c.args.self.now.rows.now c.args.self.now.set in
    let none = jump g.R.Row.meaning g.C.Curve.workload g.met.C.Curve.keeps c.args.own A c.loop-t.t c.loop-t.invariant.1 in
    (omega arith, λ u l. none u (omega (arith, c.demand.ensures.sum)))

pub returns-then-next-t : goal.returns-then-next-t
returns-then-next-t g c =
    let ticks = g.C.Curve.workload.ticks in
    let A = rows_in g.R.Row.meaning c.args.self.now.rows.now c.args.self.now.set in
    let fit : fits ticks c.args.own A c.loop-t.t ≡ true = le-leb (c.args.own + demand ticks A c.loop-t.t) c.loop-t.t (omega (arith, c.demand.ensures.sum)) in
    least_found_at (fits ticks c.args.own A) c.args.limit c.loop-t.t (omega arith) fit c.loop-t.invariant.1

pub returns : goal.returns
returns g c =
    let A = rows_in g.R.Row.meaning c.args.self.now.rows.now c.args.self.now.set in
    least_none (fits g.C.Curve.workload.ticks c.args.own A) c.args.limit c.loop-t.t (omega arith) c.loop-t.invariant.1
