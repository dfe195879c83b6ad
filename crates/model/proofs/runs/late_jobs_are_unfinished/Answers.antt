use Rattle.model.proofs.LateJobs.{late_jobs}
use Rattle.model.proofs.runs.late_jobs_are_unfinished.Goals as goal

pub returns : goal.returns
returns g c = late_jobs
