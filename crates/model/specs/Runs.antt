-- Runs on one processor: jobs that compute and suspend themselves, and for each tick the task that ran. Assumes nothing.
-- A moment t stands between tick t - 1 and tick t. Level 0 is the highest.
use Rattle.std.specs.Prelude.{◌≡◌, ℕ, zero, suc, ◌+◌, ◌-◌, ◌<◌, ◌≤◌, max, cond, ◌⊎◌, List, [], ◌∷◌, map, length, take, Some, None, Option, ◌==◌}
use Rattle.std.specs.List.{slice_get}
use Rattle.model.specs.Patterns.{Pattern, final, step}

pub record Job : Type 0 where
  pub release : ℕ
  pub pattern : Pattern

pub record Task (R : Type 0) : Type 0 where
  pub row : R
  pub jobs : List Job

-- the tasks in their order, the highest first, and for each tick the level that ran, or nobody
pub record Run (R : Type 0) : Type 0 where
  pub tasks : List (Task R)
  pub ticks : List (Option ℕ)

-- 1 if level i ran in the tick; nobody runs past the end
abbrev pub hit : ℕ → Option (Option ℕ) → ℕ
hit i None = 0
hit i (Some None) = 0
hit i (Some (Some j)) = cond (i == j) 1 0

-- how many ticks level i has run by moment t
abbrev pub ran : List (Option ℕ) → ℕ → ℕ → ℕ
ran ticks i zero = 0
ran ticks i (suc t) = ran ticks i t + hit i (slice_get ticks t)

-- and how many in the window of n ticks from moment a on
abbrev pub used : List (Option ℕ) → ℕ → ℕ → ℕ → ℕ
used ticks i a n = ran ticks i (a + n) - ran ticks i a

-- u 0 + u 1 + .. of n terms
abbrev pub sum_to : (ℕ → ℕ) → ℕ → ℕ
sum_to u zero = 0
sum_to u (suc n) = u 0 + sum_to (λ i. u (suc i)) n

-- Below, `f t` is how many ticks the task has run by moment t.

-- a cost c that became ready at s is finished at m: the first moment by which the task has run c ticks since s
pub record Done (f : ℕ → ℕ) (s c m : ℕ) : Type 0 where
  pub after : s ≤ m
  pub enough : f m ≡ f s + c
  pub first : (n : ℕ) → s ≤ n → n < m → f n < f s + c

-- a pattern whose first cost became ready at s ends at m; the next cost is ready one suspension after the one before
abbrev pub Ends : (ℕ → ℕ) → ℕ → Pattern → ℕ → Type 0
Ends f s (final c) m = Done f s c m
Ends f s (step c w p) m = (n : ℕ) × Done f s c n × Ends f (n + w) p m

-- a cost c that became ready at s is unfinished at t
pub record Unmet (f : ℕ → ℕ) (s c t : ℕ) : Type 0 where
  pub after : s ≤ t
  pub lacks : f t < f s + c

-- at moment t the pattern has a ready, unfinished cost
abbrev pub Waits : (ℕ → ℕ) → ℕ → Pattern → ℕ → Type 0
Waits f s (final c) t = Unmet f s c t
Waits f s (step c w p) t = Unmet f s c t ⊎ ((n : ℕ) × Done f s c n × Waits f (n + w) p t)

-- a job's first cost is ready at its release, or when the job before it ended (`free`), if that is later
abbrev pub start : ℕ → Job → ℕ
start free j = max j.release free

-- job n of the list ends at m
abbrev pub JobEnds : (ℕ → ℕ) → ℕ → List Job → ℕ → ℕ → Type 0
JobEnds f free [] n m = ⊥
JobEnds f free (j ∷ js) zero m = Ends f (start free j) j.pattern m
JobEnds f free (j ∷ js) (suc n) m = (e : ℕ) × Ends f (start free j) j.pattern e × JobEnds f e js n m

-- at moment t some job of the list has a ready, unfinished cost
abbrev pub JobsWait : (ℕ → ℕ) → ℕ → List Job → ℕ → Type 0
JobsWait f free [] t = ⊥
JobsWait f free (j ∷ js) t = Waits f (start free j) j.pattern t ⊎ ((e : ℕ) × Ends f (start free j) j.pattern e × JobsWait f e js t)

-- released from x on, and each T or more after the one before
abbrev pub Spaced : ℕ → ℕ → List Job → Type 0
Spaced T x [] = Unit {0}
Spaced T x (j ∷ js) = (x ≤ j.release) × Spaced T (j.release + T) js

abbrev pub Level : {R : Type 0} → Run R → ℕ → Task R → Type 0
Level run i task = slice_get run.tasks i ≡ Some task

-- level i has a ready, unfinished cost at moment t
abbrev pub Waiting : {R : Type 0} → Run R → ℕ → ℕ → Type 0
Waiting {R} run i t = (task : Task R) × Level run i task × JobsWait (ran run.ticks i) 0 task.jobs t

-- every job of level i is finished when b ticks have passed since its release, if the run lasts that long
abbrev pub Kept : {R : Type 0} → Run R → ℕ → Task R → ℕ → Type 0
Kept run i task b =
    (n : ℕ) (j : Job) → slice_get task.jobs n ≡ Some j → j.release + b ≤ length run.ticks
    → (m : ℕ) × JobEnds (ran run.ticks i) 0 task.jobs n m × (m ≤ j.release + b)

-- the rows of the levels above level k
abbrev pub above : {R : Type 0} → Run R → ℕ → List R
above run k = map (λ task. task.row) (take k run.tasks)
