use Rattle.std.proofs.Common.{rules, sym}
use Rattle.std.proofs.lemmas.Result.{err_from_is_err_and}
use Rattle.sheet.proofs.Steps.{mapped_err, mapped_ok}
use Rattle.plan.proofs.Arranges.{arrange_short, arrange_judged, arrange_given, arrange_stuck}
use Rattle.plan.proofs.Promises.{promise}
use Rattle.plan.proofs.stage.Open.arrange.Goals as goal

pub returns-then-some_short : goal.returns-then-some_short
returns-then-some_short g c = record {
  arranges = arrange_short c.args.self.few (sym c.if-some_short.ensures) c.at.ensures c.not_arranged.ensures;
  promise = promise g.R.Row.meaning;
}

pub returns-in_err-map_err : goal.returns-in_err-map_err
returns-in_err-map_err g c =
    let p = err_from_is_err_and c.from_residual.result c.from_residual.ensures.1 in
    let (fault, is, maps) = mapped_err _ c.in_err-map_err.was c.map_err.ensures.cases in
    rw (p.1, p.2) record {
      arranges = arrange_judged c.args.self.few (sym c.if-some_short.ensures) (rw is at c.judge_rows.ensures) (search rules);
      promise = promise g.R.Row.meaning;
    }

pub returns-in-Ok : goal.returns-in-Ok
returns-in-Ok g c = record {
  arranges = arrange_given c.args.self.few (sym c.if-some_short.ensures) (rw (mapped_ok _ c.in_ok-map_err.was c.map_err.ensures.cases) at c.judge_rows.ensures) c.in-Ok.ensures;
  promise = promise g.R.Row.meaning;
}

pub returns-in-Err : goal.returns-in-Err
returns-in-Err g c = record {
  arranges = arrange_stuck c.args.self.few (sym c.if-some_short.ensures) (rw (mapped_ok _ c.in_ok-map_err.was c.map_err.ensures.cases) at c.judge_rows.ensures) c.in-Err.ensures c.tasks.ensures;
  promise = promise g.R.Row.meaning;
}
