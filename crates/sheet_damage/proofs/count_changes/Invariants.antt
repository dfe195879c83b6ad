-- With the byte put back, the sheet is as it was.
use Rattle.std.proofs.Common.{◌≡◌, set}
use Rattle.sheet_damage.proofs.count_changes.Given as goal

abbrev pub invariant-loop-step : goal.invariant-loop-step
invariant-loop-step l = set l.sheet l.place l.original ≡ l.initial.sheet
