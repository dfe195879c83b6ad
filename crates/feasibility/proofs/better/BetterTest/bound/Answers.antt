-- The smallest of the bounds that the two tests give.
use Rattle.std.proofs.Common.{◌≡◌, ℕ, min, Bool, true, false, cond, ◌++◌, length, Some, None, Option, refl, sym, ap, ◌∙◌, ap₂, inl, inr, arith}
use Rattle.std.specs.List.{reduce}
use Rattle.std.specs.Option.{option_to_list}
use Rattle.std.proofs.lemmas.Bool.{cases_lt, le-leb, lt-leb}
use Rattle.std.proofs.lemmas.Iterator.Adapters.{YieldsList-from_once, option_map_id}
use Rattle.std.proofs.lemmas.Iterator.Consumers.{YieldsList-from_chain, min_from_yields_List}
use Rattle.feasibility.specs.Masks.{row_of, rows_in, askable}
use Rattle.feasibility.specs.Betters.{better}
use Rattle.feasibility.proofs.better.BetterTest.bound.Goals as goal

smallest_is : (o p : Option ℕ) → reduce min (option_to_list o ++ option_to_list p) ≡ better o p
smallest_is None None = refl
smallest_is None (Some b) = refl
smallest_is (Some a) None = refl
smallest_is (Some a) (Some b) = elim (cases_lt b a) [
  | inl l ↦ let e : min a b ≡ b = omega arith in ap Some e ∙ sym (ap (λ (t : Bool). cond t (Some a) (Some b)) (lt-leb a b l))
  | inr g ↦ let e : min a b ≡ a = omega arith in ap Some e ∙ sym (ap (λ (t : Bool). cond t (Some a) (Some b)) (le-leb a b g))
]

where_asked : (t : Bool) (o p q r : Option ℕ) → q ≡ cond t o None → r ≡ cond t p None → better q r ≡ cond t (better o p) None
where_asked true o p q r e f = ap₂ better e f
where_asked false o p q r e f = ap₂ better e f

pub returns : goal.returns
returns g c =
    let kind = g.R.Row.meaning in
    let rows = c.args.rows.now in
    let x = row_of kind rows c.args.place in
    let A = rows_in kind rows c.args.above in
    let first : Option ℕ = c.bound-first.result in
    let second : Option ℕ = c.bound-second.result in
    sym (option_map_id c.min.result)
    ∙ min_from_yields_List c.chain.result c.min.result c.min.ensures.ran (YieldsList-from_chain (YieldsList-from_once first (cc)) (YieldsList-from_once second c.chain.ensures.second.0) c.chain.ensures.first_done c.chain.ensures.second_done)
    ∙ smallest_is first second ∙ where_asked (askable (length rows) c.args.place c.args.above) (g.P.Test.answers.answer x A) (g.Q.Test.answers.answer x A) first second c.bound-first.ensures c.bound-second.ensures
