use Rattle.table.proofs.Ids.{found_or_absent}
use Rattle.table.proofs.rows.place_in_table.Goals as goal

pub returns : goal.returns
returns g c = rw (c.ok_or.ensures.value, c.place_of.ensures, c.table.ensures, c.at.ensures) (found_or_absent g.R.Row.meaning c.args.id _)
