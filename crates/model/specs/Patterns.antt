-- What one job does: it computes, suspends itself, and computes again. Assumes nothing.
use Rattle.std.specs.Prelude.{ℕ, ◌+◌}

-- one job's costs in ticks, with a suspension between each and the next
pub data Pattern : Type 0 where
  final : ℕ → Pattern  -- the last cost
  step : ℕ → ℕ → Pattern → Pattern  -- a cost, the suspension after it, and the rest

-- its costs in all
abbrev pub costs : Pattern → ℕ
costs (final c) = c
costs (step c w p) = c + costs p

-- its suspensions in all
abbrev pub suspensions : Pattern → ℕ
suspensions (final c) = 0
suspensions (step c w p) = w + suspensions p
