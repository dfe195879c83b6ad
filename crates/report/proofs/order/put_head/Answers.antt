use Rattle.std.proofs.Common.{ℕ, arith}
use Rattle.std.proofs.lemmas.Fmt.{length-decimal-le}
use Rattle.std.proofs.lemmas.List.{length-append}
use Rattle.report.proofs.Memory.{appends_join}
use Rattle.report.proofs.order.put_head.Goals as goal

pub returns-clause-appends : goal.returns-clause-appends
returns-clause-appends c = appends_join c.text.ensures (appends_join c.field.ensures.appends c.field-2.ensures.appends)

pub returns-clause-short : goal.returns-clause-short
returns-clause-short c = omega (arith, length-decimal-le 2 c.args.tasks (omega arith) (omega arith) (omega arith), length-append {A = ℕ})
