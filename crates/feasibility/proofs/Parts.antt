-- The sum of r[j] over the segments of a segmented row, place by place. Assumes nothing.
use Rattle.std.proofs.Common.{◌≡◌, ℕ, zero, suc, ◌+◌, ◌-◌, ◌<◌, ◌≤◌, Some, None, Option, sym, refl, ap, ◌∙◌, inl, inr, arith}
use Rattle.std.proofs.lemmas.Bool.{cases_lt}
use Rattle.model.specs.SegmentedRows.{segment_cost, segments_from, segments_of}
use Rattle.model.specs.declared.segmented.Segmented.{Segmented}
use Rattle.feasibility.specs.Pieces.{plus, sum_of}

plus_assoc : (o p q : Option ℕ) → plus o (plus p q) ≡ plus (plus o p) q
plus_assoc None p q = refl
plus_assoc (Some a) None q = refl
plus_assoc (Some a) (Some b) None = refl
plus_assoc (Some a) (Some b) (Some c) = let e : a + (b + c) ≡ (a + b) + c = omega arith in ap Some e

plus_zero : (o : Option ℕ) → plus (Some 0) o ≡ o
plus_zero None = refl
plus_zero (Some a) = let e : 0 + a ≡ a = omega arith in ap Some e

plus_none : (o : Option ℕ) → plus o None ≡ None
plus_none None = refl
plus_none (Some a) = refl

module _ (r : ℕ → Option ℕ) (x : Segmented) where
  -- r[0] + r[1] + .. of the first n segments
  abbrev pub parts_below : ℕ → Option ℕ
  parts_below zero = Some 0
  parts_below (suc n) = plus (parts_below n) (r (segment_cost x n))

  -- a missing part is missing in the sum
  pub parts_none : (j n : ℕ) → r (segment_cost x j) ≡ None → j < n → parts_below n ≡ None
  parts_none j zero e l = absurd (omega arith)
  parts_none j (suc n) e l =
      elim (cases_lt j n) [
        | inl before ↦ ap (λ o. plus o (r (segment_cost x n))) (parts_none j n e before)
        | inr here ↦
            let same : n ≡ j = omega arith in
            ap (λ k. plus (parts_below n) (r (segment_cost x k))) same ∙ ap (plus (parts_below n)) e ∙ plus_none (parts_below n)
      ]

  parts_from : (n j : ℕ) → plus (parts_below j) (sum_of r (segments_from x n j)) ≡ parts_below (suc (n + j))
  parts_from zero j = ap (λ k. parts_below (suc k)) (let e : j ≡ 0 + j = omega arith in e)
  parts_from (suc n) j =
      plus_assoc (parts_below j) (r (segment_cost x j)) (sum_of r (segments_from x n (suc j))) ∙ parts_from n (suc j)
      ∙ ap (λ k. parts_below (suc k)) (let e : n + suc j ≡ suc n + j = omega arith in e)

  pub all_parts : 1 ≤ x.count → parts_below x.count ≡ sum_of r (segments_of x)
  all_parts some =
      ap parts_below (let e : x.count ≡ suc ((x.count - 1) + 0) = omega arith in e) ∙ sym (parts_from (x.count - 1) 0) ∙ plus_zero (sum_of r (segments_of x))
