-- Only the byte at the place is written.
use Rattle.std.proofs.Common.{ℕ, List, get_or, set, ap, ◌∙◌}
use Rattle.std.proofs.lemmas.List.{set-set}
use Rattle.sheet_damage.proofs.count_changes.Goals as goal
use Rattle.sheet_damage.proofs.count_changes.Goals.{else-loop-step-test, then-loop-step-test+else-step-lt255}

pub returns : goal.returns
returns c =
    let put_back : List ℕ → List ℕ = λ sheet. set sheet c.args.place (get_or c.args.sheet.now c.args.place 0) in
    elim c.loop-step-test.branch [
      | else-loop-step-test w ↦ ap put_back w.sheet-is ∙ c.loop-step.invariant
      | then-loop-step-test+else-step-lt255 w ↦ ap put_back w.sheet-is ∙ set-set c.loop-step.sheet c.args.place _ _ ∙ c.loop-step.invariant
    ]
