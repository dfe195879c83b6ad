-- The proof of the theorem.
use Rattle.feasibility.specs.PiecesLemmas.{piecewise_test}
use Rattle.feasibility.proofs.laws.piecewise_keeps.Goals as goal

pub returns : goal.returns
returns g c = piecewise_test
