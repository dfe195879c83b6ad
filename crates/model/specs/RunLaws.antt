-- What is proved of runs. Assumes nothing.
use Rattle.std.specs.Prelude.{◌≡◌, ℕ, ◌+◌, ◌<◌, ◌≤◌, ◌⊎◌, ◌↔◌, List, length, Some, Option}
use Rattle.std.specs.List.{AllByRecursion, slice_get}
use Rattle.model.specs.Patterns.{Pattern}
use Rattle.model.specs.Rows.{Kind}
use Rattle.model.specs.Runs.{Job, Task, Run, ran, used, sum_to, Ends, JobEnds}
use Rattle.model.specs.LawfulRuns.{LawfulTask, Lawful, NoLate}

-- what counts of ticks keep, in any list of ticks
pub record Counted (ticks : List (Option ℕ)) : Type 0 where
  pub grows : (i a b : ℕ) → a ≤ b → ran ticks i a ≤ ran ticks i b
  pub adds : (i a m n : ℕ) → used ticks i a (m + n) ≡ used ticks i a m + used ticks i (a + m) n
  -- at most one level runs in a tick
  pub one_level : (k a n : ℕ) → sum_to (λ i. used ticks i a n) k ≤ n
  -- a pattern ends at one moment at the most, and whether it has ended by e is decided
  pub ends_once : (i : ℕ) (p : Pattern) (s m n : ℕ) → Ends (ran ticks i) s p m → Ends (ran ticks i) s p n → m ≡ n
  pub ends_by : (i : ℕ) (p : Pattern) (s e : ℕ)
      → ((m : ℕ) × Ends (ran ticks i) s p m × (m ≤ e)) ⊎ ((m : ℕ) → Ends (ran ticks i) s p m → e < m)

abbrev pub TicksCounted : Type 0
TicksCounted = (ticks : List (Option ℕ)) → Counted ticks

-- Tasks run in one lawful way: there is a lawful run of each length, and two of one length are the same
pub record OneRun {R : Type 0} (kind : Kind R) (tasks : List (Task R)) : Type 0 where
  pub exists : AllByRecursion (λ task. LawfulTask kind task) tasks → (H : ℕ) → (run : Run R) × (run.tasks ≡ tasks) × (length run.ticks ≡ H) × Lawful kind run
  pub once : (one two : Run R) → Lawful kind one → Lawful kind two → one.tasks ≡ tasks → two.tasks ≡ tasks
      → length one.ticks ≡ length two.ticks → one.ticks ≡ two.ticks

abbrev pub RunsDetermined : Type 0 → Type 0
RunsDetermined R = (kind : Kind R) (tasks : List (Task R)) → OneRun kind tasks

-- job n of level i is late: D ticks after its release the run has lasted that long, and the job is unfinished
pub record Late {R : Type 0} (kind : Kind R) (run : Run R) (i : ℕ) (task : Task R) (n : ℕ) : Type 0 where
  pub job : Job
  pub is : slice_get task.jobs n ≡ Some job
  pub lasts : job.release + kind.deadline task.row ≤ length run.ticks
  pub unfinished : (m : ℕ) → JobEnds (ran run.ticks i) 0 task.jobs n m → job.release + kind.deadline task.row < m

-- every job of level i is finished in time exactly if none of them is late
abbrev pub LateJobs : Type 0 → Type 0
LateJobs R = (kind : Kind R) (run : Run R) (i : ℕ) (task : Task R) → NoLate kind run i task ↔ ((n : ℕ) → ¬ Late kind run i task n)
