use Rattle.std.proofs.Common.{arith}
use Rattle.planning.proofs.Arranged.{given_reports, refused_reports}
use Rattle.planning.proofs.tested.report_arranged.Goals as goal

pub returns-in-Ok : goal.returns-in-Ok
returns-in-Ok g c = given_reports _ _ c.report_plan.result g.met.Q.Test.keeps c.args.plan.few c.in-Ok.ensures.arranges c.report_plan.ensures.reported

pub returns-in-Err : goal.returns-in-Err
returns-in-Err g c =
    refused_reports _ _ c.report_refusal.result c.requires (omega arith) (omega arith) (omega arith) c.in-Err.ensures.arranges c.report_refusal.ensures.reported
