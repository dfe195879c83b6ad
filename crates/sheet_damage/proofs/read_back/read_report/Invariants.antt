-- The levels so far and the lines that are left are as many as the text has newlines.
use Rattle.std.proofs.Common.{◌≡◌, ℕ, ◌+◌, ◌≤◌, ◌==◌, count_by}
use Rattle.sheet_damage.proofs.Lines.{Left}
use Rattle.sheet_damage.proofs.read_back.read_report.Given as goal

abbrev pub invariant-loop-level : goal.invariant-loop-level
invariant-loop-level l = (n : ℕ) × Left l.lines n × (n + l.level ≡ count_by (λ b. b == 10) l.fn.text) × (l.level ≤ l.tasks + 1)
