-- There is no bit past the 32.
use Rattle.std.proofs.Common.{◌^◌, ◌<◌, ◌≤◌, sym, ◌∙◌, arith}
use Rattle.std.proofs.lemmas.Bool.{le-ltb}
use Rattle.feasibility.proofs.Masks.{has_past}
use Rattle.feasibility.proofs.mask.holds.Goals as goal

pub returns-else-place-lt-PLACES : goal.returns-else-place-lt-PLACES
returns-else-place-lt-PLACES c =
    let small : c.args.mask < 2 ^ 32 = omega arith in
    let past : 32 ≤ c.args.place = omega arith in
    le-ltb c.args.place 32 past ∙ sym (has_past c.args.mask c.args.place 32 small past)
