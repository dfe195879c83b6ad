-- What is proved of curves, over rows of any type R. Assumes nothing.
use Rattle.std.specs.Prelude.{◌≡◌, ℕ, ◌*◌, ◌≤◌, true}
use Rattle.model.specs.Rows.{Kind, limit}
use Rattle.curves.specs.Curves.{Workload, CurveRules}

-- a curve that keeps its rules gives each task at least C / T of every window
abbrev pub Rates : Type 0 → Type 0
Rates R =
    (kind : Kind R) (w : Workload R) → CurveRules kind w → (x : R) → kind.lawful x ≡ true → (t : ℕ) → t ≤ limit
    → kind.compute x * t ≤ kind.period x * w.ticks x t
