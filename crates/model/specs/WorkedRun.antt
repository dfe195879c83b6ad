-- A run of two tasks, worked out by hand. Assumes nothing.
use Rattle.std.specs.Prelude.{[], ◌∷◌, Some, None}
use Rattle.model.specs.Patterns.{final, step}
use Rattle.model.specs.Runs.{Task, Run, ran, JobEnds}
use Rattle.model.specs.LawfulRuns.{Lawful, NoLate}
use Rattle.model.specs.WholeRows.{whole_kind}
use Rattle.model.specs.RunLaws.{Late}
use Rattle.model.specs.declared.whole.Whole.{Whole}

-- T = 6, D = 4: its job is released at 2, computes 1, suspends itself for 2 and computes 1
abbrev pub upper : Task Whole
upper = record {
  row = record { id = 1; period = 6; deadline = 4; compute = 2; suspend = 2 };
  jobs = record { release = 2; pattern = step 1 2 (final 1) } ∷ [];
}

-- T = 8, D = 4: its job is released at 0, has a first cost of 0, suspends itself for 1 and computes 3
abbrev pub lower : Task Whole
lower = record {
  row = record { id = 2; period = 8; deadline = 4; compute = 3; suspend = 1 };
  jobs = record { release = 0; pattern = step 0 1 (final 3) } ∷ [];
}

-- The lower task suspends itself in tick 0 and runs in tick 1. In tick 2 it is preempted, and it runs on while the upper task suspends itself
abbrev pub worked_run : Run Whole
worked_run = record { tasks = upper ∷ lower ∷ []; ticks = None ∷ Some 1 ∷ Some 0 ∷ Some 1 ∷ Some 1 ∷ Some 0 ∷ None ∷ [] }

-- the run is lawful. The upper job finishes at 6, just in time, and the lower one at 5, one tick late
pub record WorkedRun : Type 0 where
  pub lawful : Lawful whole_kind worked_run
  pub upper_ends : JobEnds (ran worked_run.ticks 0) 0 upper.jobs 0 6
  pub lower_ends : JobEnds (ran worked_run.ticks 1) 0 lower.jobs 0 5
  pub upper_in_time : NoLate whole_kind worked_run 0 upper
  pub lower_late : Late whole_kind worked_run 1 lower 0
