use Rattle.sheet.proofs.Follows.{good_is_lawful}
use Rattle.sheet.proofs.laws.good_is_lawful.Goals as goal

pub returns : goal.returns
returns g c = good_is_lawful _ _ g.R.Row.meaning
