-- The smallest t ≤ d at which a test passes. Assumes nothing.
use Rattle.std.specs.Prelude.{◌≡◌, ℕ, zero, suc, ◌≤◌, Bool, true, false, cond, Some, None, Option, refl}
use Rattle.std.proofs.Common.{ap, ◌∙◌, inl, inr, arith}
use Rattle.std.proofs.lemmas.Bool.{cases_lt, both_ways}
use Rattle.feasibility.specs.Windows.{least, or_else, Found, Least}

pub least_is : (p : ℕ → Bool) (d : ℕ) → Least p d (least p d)
least_is p zero = go (p zero) refl
  where
    go : (b : Bool) → p zero ≡ b → Least p zero (cond b (Some zero) None)
    go true e = record { within = omega arith; passes = e; smallest = λ u l. absurd (omega arith) }
    go false e = λ u l. ap p (omega arith) ∙ e
least_is p (suc d) = go (least p d) (p (suc d)) (least_is p d) refl
  where
    go : (o : Option ℕ) (b : Bool) → Least p d o → p (suc d) ≡ b → Least p (suc d) (or_else o (cond b (Some (suc d)) None))
    go (Some t) b h e = record { within = omega (arith, h.within); passes = h.passes; smallest = h.smallest }
    go None true h e = record { within = omega arith; passes = e; smallest = λ u l. h u (omega arith) }
    go None false h e = λ u l. elim (cases_lt u (suc d)) [ inl l' ↦ h u (omega arith) | inr g ↦ ap p (omega arith) ∙ e ]

pub least_found : (p : ℕ → Bool) (d t : ℕ) → least p d ≡ Some t → Found p d t
least_found p d t e = rw e at (least_is p d)

-- a test that passes wherever another does finds a number no larger
pub least_sooner : (p q : ℕ → Bool) (d t : ℕ) → ((u : ℕ) → p u ≡ true → q u ≡ true) → least p d ≡ Some t → (u : ℕ) × (least q d ≡ Some u) × (u ≤ t)
least_sooner p q d t more e = go (least q d) refl (least_is q d)
  where
    here : Found p d t
    here = least_found p d t e

    go : (o : Option ℕ) → least q d ≡ o → Least q d o → (u : ℕ) × (least q d ≡ Some u) × (u ≤ t)
    go None e' h = absurd (both_ways (q t) (h t here.within) (more t here.passes))
    go (Some u) e' h =
        elim (cases_lt t u) [
          | inl l ↦ absurd (both_ways (q t) (h.smallest t l) (more t here.passes))
          | inr g ↦ (u, e', g)
        ]
