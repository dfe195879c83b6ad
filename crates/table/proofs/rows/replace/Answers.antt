use Rattle.std.proofs.Common.{rules, min, rules}
use Rattle.std.proofs.lemmas.List.Quantifiers.{position-Some}
use Rattle.table.specs.Tables.{table_of}
use Rattle.table.proofs.Ids.{not_absent, replaced_at}
use Rattle.table.proofs.Parts.{set_front}
use Rattle.table.proofs.rows.replace.Goals as goal

pub returns : goal.returns
returns g c =
    let kind = g.R.Row.meaning in
    let rows = c.args.rows.now in
    let table = table_of c.args.count rows in
    let place = c.in_ok-place.place in
    let found = rw c.id.ensures at c.in_ok-place.ensures in
    let absent = not_absent kind _ table place found in
    let (inside, _, _) = position-Some _ table place kind.blank found in
    (search rules, rw (replaced_at kind c.args.row table place found) (set_front rows (min c.args.count 32) place c.args.row inside))
