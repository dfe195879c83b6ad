-- The better of two tests keeps the rules of a test. Assumes nothing.
use Rattle.std.specs.Prelude.{◌≡◌, ℕ, ◌≤◌, Bool, true, false, cond, ◌⊎◌, List, Some, None, Option, nat_le, refl}
use Rattle.std.proofs.Common.{ap₂, inl, inr, ⊎_elim, arith}
use Rattle.std.proofs.lemmas.Bool.{leb-true, leb-false}
use Rattle.std.proofs.lemmas.Option.{same_Some}
use Rattle.model.specs.Rows.{Kind}
use Rattle.model.specs.Runs.{above}
use Rattle.feasibility.specs.Tests.{Answers, TestRules, AtMost}
use Rattle.feasibility.specs.Betters.{better, better_answers}

pub better_is : (o p : Option ℕ) (t : ℕ) → better o p ≡ Some t → (o ≡ Some t) ⊎ (p ≡ Some t)
better_is None p t e = inr e
better_is (Some a) None t e = inl e
better_is (Some a) (Some b) t e = go (nat_le a b) e
  where
    go : (v : Bool) → cond v (Some a) (Some b) ≡ Some t → (◌≡◌ {A = Option ℕ} (Some a) (Some t)) ⊎ (◌≡◌ {A = Option ℕ} (Some b) (Some t))
    go true e = inl e
    go false e = inr e

-- the two answers, one of which is at most t
pub better_most : (o p : Option ℕ) (t : ℕ) → AtMost o t ⊎ AtMost p t → AtMost (better o p) t
better_most None p t (inl (c, e, l)) = absurd (cc)
better_most None p t (inr h) = h
better_most (Some a) None t (inl h) = h
better_most (Some a) None t (inr (c, e, l)) = absurd (cc)
better_most (Some a) (Some b) t h = go (nat_le a b) refl
  where
    small : (a ≤ t) ⊎ (b ≤ t)
    small = elim h [
      | inl (c, e, l) ↦ inl (omega (arith, same_Some a c e))
      | inr (c, e, l) ↦ inr (omega (arith, same_Some b c e))
    ]

    go : (v : Bool) → nat_le a b ≡ v → AtMost (cond v (Some a) (Some b)) t
    go true e = (a, refl, omega (arith, small, leb-true a b e))
    go false e = (b, refl, omega (arith, small, leb-false a b e))

module _ {R : Type 0} (kind : Kind R) (one two : Answers R) (first : TestRules kind one) (second : TestRules kind two) where
  -- a bound of the two is a bound of one of them
  either : (x : R) (A : List R) (b : ℕ) → (better_answers one two).answer x A ≡ Some b → (one.answer x A ≡ Some b) ⊎ (two.answer x A ≡ Some b)
  either x A b e = better_is (one.answer x A) (two.answer x A) b e

  pub better_test : TestRules kind (better_answers one two)
  better_test = record {
    lawful_rows = λ x A b e. ⊎_elim (first.lawful_rows x A b) (second.lawful_rows x A b) (either x A b e);
    any_order = λ x A B same. ap₂ better (first.any_order x A B same) (second.any_order x A B same);
    fewer = λ x A B b e part.
        ⊎_elim (λ e'. better_most (one.answer x B) (two.answer x B) b (inl (first.fewer x A B b e' part)))
        (λ e'. better_most (one.answer x B) (two.answer x B) b (inr (second.fewer x A B b e' part))) (either x A b e);
    in_deadline = λ x A b e. ⊎_elim (first.in_deadline x A b) (second.in_deadline x A b) (either x A b e);
    holds = λ run law k task at no_late b e.
        ⊎_elim (first.holds run law k task at no_late b) (second.holds run law k task at no_late b) (either task.row (above run k) b e);
  }
