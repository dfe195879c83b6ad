-- A missing part, and all segments.
use Rattle.std.proofs.Common.{◌≡◌, ℕ, ◌<◌, None, Option, sym, ap, ◌∙◌, arith}
use Rattle.model.specs.SegmentedRows.{segmented_kind, segment_cost}
use Rattle.feasibility.specs.Masks.{rows_in}
use Rattle.feasibility.specs.Pieces.{part}
use Rattle.feasibility.proofs.Parts.{parts_below, parts_none, all_parts}
use Rattle.feasibility.proofs.piecewise.Above+Segmented+C.all_parts.Goals as goal

pub returns-in_err-smallest-clause-sum : goal.returns-in_err-smallest-clause-sum
returns-in_err-smallest-clause-sum g c =
    let x = c.args.row.now in
    let r : ℕ → Option ℕ = part g.C.Curve.workload.ticks x.deadline (rows_in segmented_kind c.args.self.now.rows.now c.args.self.now.set) in
    let own : segment_cost x c.loop-j.j ≡ c.from-own.result = omega arith in
    let none : r (segment_cost x c.loop-j.j) ≡ None = ap r own ∙ sym c.smallest.ensures ∙ c.in_err-smallest.was in
    let inside : c.loop-j.j < x.count = omega arith in
    c.from_residual.ensures ∙ sym (parts_none r x c.loop-j.j x.count none inside) ∙ all_parts r x c.requires

pub returns-clause-sum : goal.returns-clause-sum
returns-clause-sum g c =
    let x = c.args.row.now in
    let r : ℕ → Option ℕ = part g.C.Curve.workload.ticks x.deadline (rows_in segmented_kind c.args.self.now.rows.now c.args.self.now.set) in
    let end : c.loop-j.j ≡ x.count = omega arith in
    c.loop-j.invariant.1 ∙ ap (parts_below r x) end ∙ all_parts r x c.requires
