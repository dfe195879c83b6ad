-- The proof of the theorem.
use Rattle.feasibility.specs.WholeJobsLemmas.{whole_job_test}
use Rattle.feasibility.proofs.laws.whole_job_keeps.Goals as goal

pub returns : goal.returns
returns g c = whole_job_test
