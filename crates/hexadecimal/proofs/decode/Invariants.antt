-- The bytes before `i` are spelled, and those from `count` on are as they were.
use Rattle.std.proofs.Common.{◌≡◌, ℕ, ◌+◌, ◌*◌, ◌<◌, get_or, drop}
use Rattle.hexadecimal.specs.Hexadecimal.{SpellsByte}
use Rattle.hexadecimal.proofs.decode.Given as goal

abbrev pub invariant-loop-i : goal.invariant-loop-i
invariant-loop-i l =
    ((k : ℕ) → k < l.i → SpellsByte (get_or l.memory k 0) (get_or l.text (2 * k) 0) (get_or l.text (2 * k + 1) 0))
    × (drop l.count l.memory ≡ drop l.count l.initial.memory)
