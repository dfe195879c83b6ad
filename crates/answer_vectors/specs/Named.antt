-- Tests by their letters.
use Rattle.std.specs.Prelude.{◌≡◌, ℕ, List, Ok, Option, Result}
use Rattle.model.specs.Rows.{Kind}
use Rattle.feasibility.specs.Masks.{asked}
use Rattle.feasibility.specs.Tests.{Answers}

-- If the test has this name, the answer is the test's.
abbrev pub Named : {R E : Type 0} → Kind R → Answers R → ℕ → List R → ℕ → ℕ → Result (Option ℕ) E → Type 0
Named kind test name rows place above answer = test.letter ≡ name → answer ≡ Ok (asked kind test rows place above)
