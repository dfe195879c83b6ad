-- What a stuck set is to an order, and what an order found is. Assumes nothing.
use Rattle.std.proofs.Common.{◌≡◌, ℕ, zero, suc, ◌+◌, ◌<◌, ◌≤◌, ◌⊎◌, List, [], ◌∷◌, ◌++◌, map, length, get_or, take, Some, None, Option, sym, refl, ap, ◌∙◌, subst, inl, inr, arith, take-suc, take_at}
use mathlib.Core.List.Permᴰ
use lib.Seq.{take-append-le, get_or_at}
use Rattle.std.proofs.lemmas.Bool.{cases_lt}
use Rattle.std.proofs.lemmas.List.{get_or_append_left, length_push}
use Rattle.model.specs.Bags.{◌∈◌, ◌~◌, Part}
use Rattle.model.specs.Rows.{Kind}
use Rattle.feasibility.specs.Tests.{Answers, TestRules}
use Rattle.assign.specs.Assignment.{others, Outcome, accepted, stuck, over, Takes, Stuck, Assigned, finished, level, empty_level, Fits, Unfit}
use Rattle.assign.proofs.Outcomes.{not_both, takes_in}
use Rattle.assign.proofs.Bags.{map-~, snoc-~, part-~, part_all, part_map, part_empty, part_cases, part_more}

-- the places that an outcome leaves
abbrev pub left_of : Outcome → List ℕ
left_of (accepted order bounds questions) = []
left_of (stuck left questions) = left

pub left_of_over : (p b n : ℕ) (o : Outcome) → left_of (over p b n o) ≡ left_of o
left_of_over p b n (accepted order bounds questions) = refl
left_of_over p b n (stuck left questions) = refl

module _ {R : Type 0} {kind : Kind R} (test : Answers R) (rules : TestRules kind test) (row : ℕ → R) where
  -- a task with a bound under some tasks is in no stuck set of it and them
  pub stays : (p b : ℕ) {set above : List ℕ} → Stuck test.answer row set → test.answer (row p) (map row above) ≡ Some b → Part set (p ∷ above) → Part set above
  stays p b {set} {above} s e h = go (part_cases p h)
    where
      go : ((p ∈ set) × Part (others p set) above) ⊎ Part set above → Part set above
      go (inl m) = absurd (not_both (s.no_bound p m.0) (rules.fewer (row p) (map row above) (map row (others p set)) b e (part_map row m.1)).1)
      go (inr k) = k

  -- no member of a stuck set is ever placed
  pub stays_left : {pool : List ℕ} {o : Outcome} → Assigned test.answer row pool o → (set : List ℕ) → Stuck test.answer row set → Part set pool → Part set (left_of o)
  stays_left finished set s h = h
  stays_left (level {p = p} {bound = b} {questions = n} {above = o} t d) set s h =
      subst (λ (l : List ℕ). Part set l) (sym (left_of_over p b n o)) (stays_left d set s (stays p b s t.fits (part-~ h (takes_in test.answer row t))))
  stays_left (empty_level k) set s h = h

  -- an order that has all of a stuck set is unfit
  pub unfit : (order : List ℕ) (k : ℕ) {set : List ℕ} → k ≤ length order → Stuck test.answer row set → Part set (take k order) → Unfit test.answer row order
  unfit order zero {set} w s h = absurd (s.some_left (part_empty h))
  unfit order (suc k) {set} w s h = go (test.answer (row p) (map row (take k order))) refl (λ g. unfit order k (omega arith) s g)
    where
      p : ℕ
      p = get_or order k 0

      last : take (suc k) order ~ p ∷ take k order
      last = subst (λ (l : List ℕ). l ~ p ∷ take k order) (sym (take-suc order k 0 w)) (snoc-~ p (take k order))

      go : (a : Option ℕ) → test.answer (row p) (map row (take k order)) ≡ a → (Part set (take k order) → Unfit test.answer row order) → Unfit test.answer row order
      go None e ih = (k, omega arith, e)
      go (Some b) e ih = ih (stays p b s e (part-~ h last))

  -- what an outcome says of the pool
  abbrev pub Found : List ℕ → Outcome → Type 0
  Found pool (accepted order bounds questions) = (order ~ pool) × Fits test.answer row order bounds
  Found pool (stuck left questions) = Part left pool × Stuck test.answer row left

  fits_none : Fits test.answer row [] []
  fits_none = record { as_many = refl; fits = λ i h. absurd (omega arith) }

  fits_more : (p b : ℕ) (order bounds : List ℕ) → Fits test.answer row order bounds → test.answer (row p) (map row order) ≡ Some b → Fits test.answer row (order ++ p ∷ []) (bounds ++ b ∷ [])
  fits_more p b order bounds f e = record { as_many = length_push bounds b ∙ (ap (λ (n : ℕ). n + 1) f.as_many ∙ sym (length_push order p)); fits = λ i h. at i h (cases_lt i (length order)) }
    where
      at : (i : ℕ) → i < length (order ++ p ∷ []) → (i < length order) ⊎ (length order ≤ i) → test.answer (row (get_or (order ++ p ∷ []) i 0)) (map row (take i (order ++ p ∷ []))) ≡ Some (get_or (bounds ++ b ∷ []) i 0)
      at i h (inl k) =
          let k₂ : i < length bounds = omega (arith, f.as_many) in
          let k₃ : i ≤ length order = omega arith in
          rw (get_or_append_left order (p ∷ []) 0 i k, get_or_append_left bounds (b ∷ []) 0 i k₂, take-append-le i order (p ∷ []) k₃) (f.fits i k)
      at i h (inr k) =
          let same : length order ≡ i = omega (arith, length_push order p) in
          let same₂ : length bounds ≡ i = f.as_many ∙ same in
          rw (get_or_at order p [] 0 i same, get_or_at bounds b [] 0 i same₂, take_at order (p ∷ []) i same) e

  found_more : {pool : List ℕ} {p b n : ℕ} (o : Outcome) → Takes test.answer row pool p b n → Found (others p pool) o → Found pool (over p b n o)
  found_more {pool} {p} {b} (accepted order bounds questions) t (same, f) = (
    Permᴰ.trans (snoc-~ p order) (Permᴰ.trans (Permᴰ.cons refl same) (Permᴰ.symm (takes_in test.answer row t))),
    fits_more p b order bounds f (rules.any_order (row p) (map row order) (map row (others p pool)) (map-~ row same) ∙ t.fits),
  )
  found_more {pool} {p} (stuck left questions) t (part, s) = (part-~ (part_more p part) (Permᴰ.symm (takes_in test.answer row t)), s)

  pub found : {pool : List ℕ} {o : Outcome} → Assigned test.answer row pool o → Found pool o
  found finished = (Permᴰ.nil, fits_none)
  found (level {above = o} t d) = found_more o t (found d)
  found (empty_level {pool = pool} s) = (part_all pool, s)
