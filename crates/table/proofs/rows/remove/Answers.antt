use Rattle.std.proofs.Common.{rules, ◌<◌, min, arith, length-take}
use Rattle.std.proofs.lemmas.List.Quantifiers.{position-Some}
use Rattle.table.specs.Tables.{table_of}
use Rattle.table.proofs.Ids.{not_absent, removed_at}
use Rattle.table.proofs.Parts.{moved_last}
use Rattle.table.proofs.rows.remove.Goals as goal

pub returns : goal.returns
returns g c =
    let kind = g.R.Row.meaning in
    let rows = c.args.rows.now in
    let table = table_of c.args.count rows in
    let place = c.in_ok-place.place in
    let absent = not_absent kind c.args.id table place c.in_ok-place.ensures in
    let (inside, _, _) = position-Some _ table place kind.blank c.in_ok-place.ensures in
    let within : place < min c.args.count 32 = omega (arith, length-take (min c.args.count 32) rows) in
    (search rules, rw (c.rotate_left.ensures.after, c.blank.ensures, c.min.ensures, removed_at kind c.args.id table place c.in_ok-place.ensures) (moved_last rows place (min c.args.count 32) kind.blank within (omega arith)))
