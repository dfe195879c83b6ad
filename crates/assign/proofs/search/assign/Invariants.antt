use Rattle.std.proofs.Common.{◌≡◌, ◌+◌, ◌-◌, ◌*◌, ◌^◌, ◌<◌, ◌≤◌, length}
use Rattle.feasibility.specs.Masks.{in_mask}
use Rattle.assign.proofs.Invariants.{Levels, Failed}
use Rattle.assign.proofs.search.assign.Given as goal

abbrev pub invariant-candidates : goal.invariant-candidates
invariant-candidates g l = (l.places.end ≡ l.count) × (l.places.start ≤ l.count) × (l.pool ≡ l.initial.pool) × (l.questions ≡ l.initial.questions + length (in_mask l.initial.pool l.places.start)) × (length (in_mask l.initial.pool l.places.start) ≤ l.places.start) × Failed g.R.Row.meaning g.Q.Test.answers l.rows l.initial.pool l.places.start

abbrev pub decreases-candidates : goal.decreases-candidates
decreases-candidates g l = l.places.end - l.places.start

abbrev pub invariant-levels : goal.invariant-levels
invariant-levels g l = (l.level ≤ l.count) × (l.questions + 32 * l.level ≤ 32 * l.count) × (l.pool < 2 ^ l.count) × (length (in_mask l.pool l.count) ≡ l.level) × Levels g.R.Row.meaning g.Q.Test.answers l.rows l.initial.order l.initial.bounds l.level l.pool l.questions l.order l.bounds
