-- How many places a 32-bit set of them holds. Assumes nothing.
use Rattle.std.specs.Prelude.{ℕ, length}
use Rattle.feasibility.specs.Masks.{in_mask}

unfoldable pub tasks_in : ℕ → ℕ
tasks_in mask = length (in_mask mask 32)
