-- What is proved of feasibility tests, over rows of any type R. Assumes nothing.
use Rattle.std.specs.Prelude.{◌≡◌, ℕ, Bool, Some}
use Rattle.model.specs.Rows.{Kind}
use Rattle.model.specs.Runs.{Task, Run, Level, Kept, above}
use Rattle.model.specs.LawfulRuns.{Lawful, NoLate}
use Rattle.model.specs.Segments.{Shape, segmented}
use Rattle.curves.specs.Curves.{Workload, CurveRules}
use Rattle.feasibility.specs.Tests.{Answers, TestRules}
use Rattle.feasibility.specs.Windows.{least, Least}
use Rattle.feasibility.specs.WholeJobs.{whole_job_answers}
use Rattle.feasibility.specs.Betters.{better_answers}
use Rattle.feasibility.specs.Pieces.{piecewise_answers}

-- `least` gives the smallest number that passes, and none only if there is none
abbrev pub SmallestFound : Type 0
SmallestFound = (p : ℕ → Bool) (d : ℕ) → Least p d (least p d)

-- over a curve that keeps its rules, the whole-job test keeps the rules of a test
abbrev pub WholeJobTests : Type 0 → Type 0
WholeJobTests R = (kind : Kind R) (w : Workload R) → CurveRules kind w → TestRules kind (whole_job_answers kind w)

-- and so does the piecewise test, for segmented rows
abbrev pub PiecewiseTests : Type 0 → Type 0
PiecewiseTests R = (shape : Shape R) (w : Workload R) → CurveRules (segmented shape) w → TestRules (segmented shape) (piecewise_answers shape w)

-- the better of two tests is a test
abbrev pub BetterTests : Type 0 → Type 0
BetterTests R = (kind : Kind R) (one two : Answers R) → TestRules kind one → TestRules kind two → TestRules kind (better_answers one two)

-- each task of the run has a bound under the rows above it
abbrev pub Bounded : {R : Type 0} → Answers R → Run R → Type 0
Bounded {R} test run = (k : ℕ) (task : Task R) → Level run k task → (b : ℕ) × (test.answer task.row (above run k) ≡ Some b)

-- in a lawful run of such an order every bound is kept, and no job is late
abbrev pub BoundsKept : Type 0 → Type 0
BoundsKept R =
    (kind : Kind R) (test : Answers R) → TestRules kind test → (run : Run R) → Lawful kind run → Bounded test run
    → (k : ℕ) (task : Task R) → Level run k task → (b : ℕ) → test.answer task.row (above run k) ≡ Some b → Kept run k task b × NoLate kind run k task
