use Rattle.report.proofs.Memory.{appends_join}
use Rattle.report.proofs.refused.put_site.Goals as goal

pub returns-clause-appends : goal.returns-clause-appends
returns-clause-appends c = rw c.letter.ensures at (appends_join c.text.ensures c.number.ensures.appends)
