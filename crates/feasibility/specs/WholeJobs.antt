-- The whole-job test: what it answers, over any curve. Assumes nothing.
use Rattle.std.specs.Prelude.{ℕ, ◌+◌, cond, List, ◌∷◌, None, Option}
use Rattle.model.specs.Rows.{Kind, all_lawful}
use Rattle.curves.specs.Curves.{Workload}
use Rattle.feasibility.specs.Tests.{Answers}
use Rattle.feasibility.specs.Windows.{least, fits}

-- the smallest t ≤ D with C + S + (curves of A at t) ≤ t
abbrev pub whole_job : {R : Type 0} → Kind R → (R → ℕ → ℕ) → R → List R → Option ℕ
whole_job kind ticks x A = cond (all_lawful kind (x ∷ A)) (least (fits ticks (kind.compute x + kind.suspend x) A) (kind.deadline x)) None

-- the test, with the letter of its curve
abbrev pub whole_job_answers : {R : Type 0} → Kind R → Workload R → Answers R
whole_job_answers kind w = record { letter = w.letter; answer = whole_job kind w.ticks }
