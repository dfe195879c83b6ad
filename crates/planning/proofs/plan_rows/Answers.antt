use Rattle.std.proofs.Common.{arith}
use Rattle.planning.specs.Planned.{arranged, refused}
use Rattle.planning.proofs.Loads.{load_accepted, load_refused}
use Rattle.planning.proofs.plan_rows.Goals as goal

pub report_by_letter-requires : goal.report_by_letter-requires
report_by_letter-requires g c = (omega arith, (load_accepted c.in-Ok.ensures).1)

pub returns-in-Ok : goal.returns-in-Ok
returns-in-Ok g c = let (o, d, w) = c.report_by_letter.ensures in (_, arranged (load_accepted c.in-Ok.ensures).0 d, w)

pub returns-in-Err : goal.returns-in-Err
returns-in-Err g c = (_, refused (load_refused (omega arith) c.in-Err.ensures), c.report_refusal.ensures.reported)
