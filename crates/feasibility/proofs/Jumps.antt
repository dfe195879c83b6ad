-- The search for the smallest window by jumps: where some ticks do not fit, nothing below what is asked for there fits. Assumes nothing.
use Rattle.std.proofs.Common.{◌≡◌, ℕ, ◌+◌, ◌<◌, ◌≤◌, Bool, true, false, List, [], ◌∷◌, Some, None, Option, refl, ap, inl, inr, arith}
use Rattle.std.proofs.lemmas.List.Sums.{sum_by-cons}
use Rattle.std.proofs.lemmas.Bool.{cases_lt, both_ways, lt-leb}
use Rattle.model.specs.Rows.{Kind}
use Rattle.curves.specs.Curves.{Workload, CurveRules}
use Rattle.feasibility.specs.Windows.{least, fits, demand, Least}
use Rattle.feasibility.specs.Least.{least_is}

-- nothing below t passes
abbrev pub NoneBelow : (ℕ → Bool) → ℕ → Type 0
NoneBelow p t = (u : ℕ) → u < t → p u ≡ false

-- a smallest number that passes is the answer
pub least_found_at : (p : ℕ → Bool) (d t : ℕ) → t ≤ d → p t ≡ true → NoneBelow p t → Some t ≡ least p d
least_found_at p d t within passes none = go (least p d) (least_is p d)
  where
    go : (o : Option ℕ) → Least p d o → Some t ≡ o
    go None h = absurd (both_ways (p t) (h t within) passes)
    go (Some u) h =
        elim (cases_lt u t) [
          | inl before ↦ absurd (both_ways (p u) (none u before) h.passes)
          | inr after ↦ elim (cases_lt t u) [
            | inl before ↦ absurd (both_ways (p t) (h.smallest t before) passes)
            | inr same ↦ let e : t ≡ u = omega arith in ap Some e
          ]
        ]

-- and none if nothing up to the limit passes
pub least_none : (p : ℕ → Bool) (d t : ℕ) → d < t → NoneBelow p t → None ≡ least p d
least_none p d t past none = go (least p d) (least_is p d)
  where
    go : (o : Option ℕ) → Least p d o → None ≡ o
    go None h = refl
    go (Some u) h = absurd (both_ways (p u) (none u (omega (arith, h.within))) h.passes)

module _ {R : Type 0} (kind : Kind R) (w : Workload R) (rules : CurveRules kind w) where
  pub demand_rises : (A : List R) (t u : ℕ) → t ≤ u → demand w.ticks A t ≤ demand w.ticks A u
  demand_rises [] t u l = omega arith
  demand_rises (x ∷ A) t u l = omega (arith, sum_by-cons (λ y. w.ticks y t) x A, sum_by-cons (λ y. w.ticks y u) x A, rules.rises x t u l, demand_rises A t u l)

  module _ (own : ℕ) (A : List R) where
    -- less than the task's own ticks does not do
    pub none_yet : NoneBelow (fits w.ticks own A) own
    none_yet u l = lt-leb (own + demand w.ticks A u) u (omega arith)

    -- nor does anything below what is asked for at t, if nothing below t did
    pub jump : (t : ℕ) → NoneBelow (fits w.ticks own A) t → NoneBelow (fits w.ticks own A) (own + demand w.ticks A t)
    jump t none u l =
        elim (cases_lt u t) [
          | inl before ↦ none u before
          | inr after ↦ lt-leb (own + demand w.ticks A u) u (omega (arith, demand_rises A t u after))
        ]
