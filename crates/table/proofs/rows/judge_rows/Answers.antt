use Rattle.std.proofs.Common.{sym}
use Rattle.std.proofs.lemmas.List.{take_all}
use Rattle.table.proofs.Judges.{lawful_more}
use Rattle.table.proofs.rows.judge_rows.Goals as goal

pub loop-place-preserved : goal.loop-place-preserved
loop-place-preserved g c = lawful_more g.R.Row.meaning _ _ _ c.loop-place-test.true c.index-rows-place.is c.loop-place.invariant (cc) (rw (← c.id.ensures) (sym c.if-holds_id.ensures))

pub returns : goal.returns
returns g c = rw (← c.table-rows.ensures, ← take_all c.loop-place.place c.table-rows.result.now c.loop-place-test.false) c.loop-place.invariant
