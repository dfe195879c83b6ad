-- The ceiling curve, for every kind of row. Assumes nothing.
use Rattle.std.specs.Prelude.{ℕ, ◌+◌, ◌-◌, ◌*◌, ◌/◌, ◌%◌, min, cond}
use Rattle.model.specs.Rows.{Kind, limit}
use Rattle.curves.specs.Curves.{Workload}

-- n / d, rounded up
abbrev pub ceil : ℕ → ℕ → ℕ
ceil n d = n / d + min 1 (n % d)

-- (t + D − C) / T rounded up, times C: 0 for a row that is not lawful, and past the limit what it is there
abbrev pub ceiling : {R : Type 0} → Kind R → R → ℕ → ℕ
ceiling kind x t = cond (kind.lawful x) (ceil ((min t limit + kind.deadline x) - kind.compute x) (kind.period x) * kind.compute x) 0

-- under the letter J
abbrev pub ceiling_workload : {R : Type 0} → Kind R → Workload R
ceiling_workload kind = record { letter = 0x4A; ticks = ceiling kind }
