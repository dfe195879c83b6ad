-- A mask below 2 to the number of rows.
use Rattle.std.proofs.Common.{◌^◌, ◌<◌, sym, ◌∙◌, arith}
use Rattle.std.proofs.lemmas.Bool.{le-leb, lt-ltb}
use Rattle.feasibility.proofs.Masks.{pow_le, of_table_by}
use Rattle.feasibility.proofs.mask.is_of_table.Goals as goal

pub returns-then-count-ge-PLACES : goal.returns-then-count-ge-PLACES
returns-then-count-ge-PLACES c =
    let small : c.args.mask < 2 ^ c.args.count = omega (arith, pow_le 32 c.args.count c.if-count-ge-PLACES.true) in
    le-leb 32 c.args.count c.if-count-ge-PLACES.true ∙ sym (lt-ltb c.args.mask (2 ^ c.args.count) small)

pub returns-else-count-ge-PLACES : goal.returns-else-count-ge-PLACES
returns-else-count-ge-PLACES c = of_table_by c.args.mask c.args.count
