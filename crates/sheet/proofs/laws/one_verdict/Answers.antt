use Rattle.sheet.proofs.Sheets.{one_verdict, nothing_follows}
use Rattle.sheet.proofs.laws.one_verdict.Goals as goal

pub returns : goal.returns
returns g c = record { one = one_verdict _ _; alone = nothing_follows _ _ }
