use Rattle.std.proofs.Common.{sym}
use Rattle.plan.proofs.Lookups.{read_short, level_zero, level_past, task_past, task_read}
use Rattle.plan.proofs.Through.{through_none}
use Rattle.plan.proofs.stage.Arranged.read.Goals as goal

pub returns-then-some_short : goal.returns-then-some_short
returns-then-some_short g c = rw (c.into.ensures, c.at.ensures) (read_short (sym c.if-some_short.ensures))

pub returns-in_err-entry : goal.returns-in_err-entry
returns-in_err-entry g c =
    rw (through_none _ _ _ c.from_residual.result c.in_err-entry.ensures.value c.in_err-entry.ensures.ok_part c.from_residual.ensures.1, c.at-no_task.ensures)
    (level_zero c.args.self.now.few (sym c.if-some_short.ensures) c.checked_sub.ensures c.in_err-entry.ensures.ok_part)

pub returns-in_err-place : goal.returns-in_err-place
returns-in_err-place g c =
    rw (through_none _ _ _ c.from_residual-in_err-place.result c.in_err-place.ensures.value c.in_err-place.ensures.ok_part c.from_residual-in_err-place.ensures.1, c.at-no_task.ensures)
    (level_past c.args.self.now.few (sym c.if-some_short.ensures) c.checked_sub.ensures c.in_ok-entry.ensures.ok_part c.get.ensures.lookup c.in_err-place.ensures.ok_part)

pub returns-in_err-row : goal.returns-in_err-row
returns-in_err-row g c =
    rw (through_none _ _ _ c.from_residual-in_err-row.result c.in_err-row.ensures.value c.in_err-row.ensures.ok_part c.from_residual-in_err-row.ensures.1, c.at-no_task.ensures)
    (task_past c.args.self.now.few (sym c.if-some_short.ensures) c.checked_sub.ensures c.in_ok-entry.ensures.ok_part c.get.ensures.lookup c.in_ok-place.ensures.ok_part c.get-2.ensures.lookup c.in_err-row.ensures.ok_part)

pub returns : goal.returns
returns g c = task_read c.args.self.now.few (sym c.if-some_short.ensures) c.checked_sub.ensures c.in_ok-entry.ensures.ok_part c.get.ensures.lookup c.in_ok-place.ensures.ok_part c.get-2.ensures.lookup c.in_ok-row.ensures.ok_part c.id.ensures
