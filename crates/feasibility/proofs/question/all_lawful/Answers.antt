-- The chain goes over the rows of the set.
use Rattle.std.proofs.Common.{◌∙◌, arith, rules}
use borrow.Author.Tests.{tests}
use Rattle.std.proofs.lemmas.Iterator.{YieldsList-from_slice, YieldsList-from_take}
use Rattle.std.proofs.lemmas.Iterator.Consumers.{YieldsList-at, YieldsList-from_enumerate, YieldsList-from_filter}
use Rattle.std.proofs.lemmas.Iterator.Search.{all_from_yields_List}
use Rattle.feasibility.specs.Masks.{has}
use Rattle.feasibility.proofs.Sets.{picked_lawful}
use Rattle.feasibility.proofs.question.all_lawful.Goals as goal

pub returns : goal.returns
returns g c =
    let kind = g.R.Row.meaning in
    all_from_yields_List (λ p. kind.lawful p.1) _ _ c.all.result c.all.ensures.ran
    (YieldsList-from_filter _ (λ p. has c.args.above p.0) (YieldsList-at c.filter.ensures.source (YieldsList-from_enumerate (YieldsList-at c.enumerate.ensures.source (YieldsList-from_take 32 (YieldsList-from_slice c.args.rows.now cc) c.take.ensures.count)) c.enumerate.ensures.count)) c.filter.ensures.closure (λ x b q k. search (rules, tests)))
    (λ x b q k. search (rules, tests))
    ∙ picked_lawful kind c.args.rows.now c.args.above (omega arith)
