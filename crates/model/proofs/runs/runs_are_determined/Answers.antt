use Rattle.std.proofs.Common.{sym, ◌∙◌}
use Rattle.model.proofs.Exists.{exists, once}
use Rattle.model.proofs.runs.runs_are_determined.Goals as goal

pub returns : goal.returns
returns g c =
    λ kind tasks.
    record { exists = exists kind tasks; once = λ one two law law' e e' len. once kind one two law law' (e ∙ sym e') len }
