-- The proof of the theorem.
use Rattle.feasibility.specs.BettersLemmas.{better_test}
use Rattle.feasibility.proofs.laws.better_keeps.Goals as goal

pub returns : goal.returns
returns g c = better_test
