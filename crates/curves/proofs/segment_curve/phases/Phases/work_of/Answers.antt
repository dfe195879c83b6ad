use Rattle.std.proofs.Common.{arith}
use Rattle.curves.proofs.RowSegments.{phase_found, phase_fits}
use Rattle.curves.proofs.segment_curve.phases.Phases.work_of.Goals as goal

pub returns : goal.returns
returns c =
    phase_found c.args.self.now.row.now c.args.self.now.lawful c.args.window c.args.phase c.work_between-first.result.0 c.work_between-first.result.1
    c.work_between-last.result.0 c.work_between-last.result.1 c.compute.result c.requires.known (omega (arith, c.work_between-first.ensures.within))
    c.compute.ensures c.work_between-first.ensures.parts c.work_between-last.ensures.parts

-- the three parts together are no more than the window
pub overflow_add-result-2 : goal.overflow_add-result-2
overflow_add-result-2 c =
    let fits = phase_fits c.args.self.now.row.now c.args.self.now.lawful c.args.window c.work_between-first.result.0 c.work_between-first.result.1
    c.work_between-last.result.0 c.compute.result c.work_between-first.ensures.within c.compute.ensures (omega (arith, c.work_between-last.ensures.within)) in
    omega (arith, c.requires.short)

pub overflow_mul-result : goal.overflow_mul-result
overflow_mul-result c = omega (arith, overflow_add-result-2 c)
