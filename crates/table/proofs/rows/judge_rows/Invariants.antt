use Rattle.std.proofs.Common.{take}
use Rattle.table.specs.Tables.{LawfulTable}
use Rattle.table.proofs.rows.judge_rows.Given as goal

abbrev pub invariant-loop-place : goal.invariant-loop-place
invariant-loop-place g l = LawfulTable g.R.Row.meaning (take l.place l.rows)
