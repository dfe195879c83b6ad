-- The lines of a report.
use Rattle.std.specs.Prelude.{ℕ, ◌+◌}
use Rattle.sheet_damage.specs.declared.read_back.Report.{Report}
use Rattle.sheet_damage.specs.declared.read_back.Report.TheVariants.{Order, Refused}

-- How many there are: a head and a line for each task in order, or the refusal.
abbrev pub line_count : Report → ℕ
line_count (Order tasks) = tasks + 1
line_count (Refused refused) = 1
