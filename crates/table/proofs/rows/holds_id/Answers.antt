use Rattle.std.proofs.Common.{is_some, ap, ◌∙◌}
use Rattle.table.proofs.Ids.{found}
use Rattle.table.proofs.rows.holds_id.Goals as goal

pub returns : goal.returns
returns g c = c.is_some.ensures ∙ (ap is_some c.place_of.ensures ∙ found g.R.Row.meaning c.args.id c.args.rows.now)
