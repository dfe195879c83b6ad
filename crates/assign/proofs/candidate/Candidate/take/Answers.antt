use Rattle.std.proofs.Common.{◌≡◌, ℕ, ◌*◌, ◌%◌, ◌^◌, ◌<◌, Some, ap, arith}
use Rattle.std.proofs.lemmas.Nat.{one_shl}
use Rattle.assign.proofs.Steps.{taken_is}
use Rattle.assign.proofs.candidate.Candidate.take.Goals as goal

pub returns-clause-made : goal.returns-clause-made
returns-clause-made c =
    let p : ℕ = c.args.place in
    let shift : (1 * 2 ^ p) % 2 ^ 32 ≡ 2 ^ p = one_shl p 32 c.requires.small in
    let small : c.args.pool.now < 2 ^ 32 = omega arith in
    (taken_is c.args.pool.now p ((1 * 2 ^ p) % 2 ^ 32) c.requires.small small c.requires.inside shift, ap Some shift)
