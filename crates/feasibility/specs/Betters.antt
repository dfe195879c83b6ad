-- The better of two tests. Assumes nothing.
use Rattle.std.specs.Prelude.{ℕ, cond, Some, None, Option, nat_le}
use Rattle.feasibility.specs.Tests.{Answers}

-- the smaller of two bounds, and none only if both are none
abbrev pub better : Option ℕ → Option ℕ → Option ℕ
better None o = o
better (Some a) None = Some a
better (Some a) (Some b) = cond (nat_le a b) (Some a) (Some b)

-- the test: its letter is B, whatever the two are
abbrev pub better_answers : {R : Type 0} → Answers R → Answers R → Answers R
better_answers one two = record { letter = 0x42; answer = λ x A. better (one.answer x A) (two.answer x A) }
