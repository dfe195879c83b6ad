-- The chain goes over the numbered rows of the table.
use Rattle.std.proofs.Common.{◌≡◌, sum_by, cond, length, min, take, ◌∙◌, arith, rules}
use borrow.Author.Tests.{tests}
use Rattle.std.proofs.lemmas.Iterator.{YieldsList-from_slice, YieldsList-from_map}
use Rattle.std.proofs.lemmas.Iterator.Consumers.{YieldsList-at, YieldsList-from_enumerate, sum_by_from_yields_List, fits_by_from_yields_list}
use Rattle.feasibility.specs.Masks.{has}
use Rattle.feasibility.proofs.Sets.{numbered_32, counted_demand, counted_small}
use Rattle.feasibility.proofs.smallest.Above.demand.Goals as goal

pub sum-requires-clause-fits : goal.sum-requires-clause-fits
sum-requires-clause-fits g c =
    let rows = c.args.self.now.rows.now in
    let set = c.args.self.now.set in
    let w = g.C.Curve.workload in
    fits_by_from_yields_list (λ p. cond (has set p.0) (w.ticks p.1 c.args.t) 0) (numbered_32 g.R.Row.meaning rows set) c.map.result _
    (YieldsList-from_map _ (λ p. cond (has set p.0) (w.ticks p.1 c.args.t) 0) (YieldsList-at c.map.ensures.source (YieldsList-from_enumerate (YieldsList-at c.enumerate.ensures.source (YieldsList-from_slice (take (min (length rows) 32) rows) cc)) c.enumerate.ensures.count)) c.map.ensures.closure (λ x r q k. search (rules, tests)))
    (omega (arith, counted_small g.R.Row.meaning rows set w g.met.C.Curve.keeps g.met.C.Curve.edges c.args.t))

pub returns : goal.returns
returns g c =
    let rows = c.args.self.now.rows.now in
    let set = c.args.self.now.set in
    let w = g.C.Curve.workload in
    let total : c.sum.result ≡ sum_by (λ p. cond (has set p.0) (w.ticks p.1 c.args.t) 0) (numbered_32 g.R.Row.meaning rows set) =
    sum_by_from_yields_List (λ p. cond (has set p.0) (w.ticks p.1 c.args.t) 0) (numbered_32 g.R.Row.meaning rows set) c.map.result c.sum.result c.sum.ensures.ran
    (YieldsList-from_map _ (λ p. cond (has set p.0) (w.ticks p.1 c.args.t) 0) (YieldsList-at c.map.ensures.source (YieldsList-from_enumerate (YieldsList-at c.enumerate.ensures.source (YieldsList-from_slice (take (min (length rows) 32) rows) cc)) c.enumerate.ensures.count)) c.map.ensures.closure (λ x r q k. search (rules, tests))) in
    record {
      small = omega (arith, counted_small g.R.Row.meaning rows set w g.met.C.Curve.keeps g.met.C.Curve.edges c.args.t);
      sum = total ∙ counted_demand g.R.Row.meaning rows set w g.met.C.Curve.keeps g.met.C.Curve.edges c.args.t (omega arith);
    }
