-- An order that the assignment gives, as the report needs it. Assumes nothing.
use Rattle.std.proofs.Common.{◌≡◌, ℕ, zero, suc, ◌<◌, ◌≤◌, true, false, cond, eqb, List, [], ◌∷◌, ◌++◌, length, get_or, take, sum_by, sym, refl, inl, inr, arith}
use mathlib.Core.List.Memᴰ
use Rattle.std.proofs.lemmas.List.Sums.{sum_by-cons, sum_by-append}
use Rattle.std.proofs.lemmas.List.{get_or_append_left, get_or-take}
use Rattle.std.proofs.lemmas.Bool.{cases_Bool, cond-true, cond-false, eqb-true, eq-eqb, ne_eqb, lt-ltb, and_from, or_from, not_from_false}
use Rattle.model.specs.Bags.{◌∈◌, ◌~◌}
use Rattle.model.specs.Rows.{Kind}
use Rattle.feasibility.specs.Masks.{places}
use Rattle.feasibility.specs.Above.{sum_reordered}
use Rattle.assign.proofs.Bags.{mem-~}
use Rattle.report.specs.Reports.{occurs, each_once, order_lines}

-- how often a place stands in a list
abbrev hit : ℕ → ℕ → ℕ
hit p q = cond (eqb q p) 1 0

abbrev times : ℕ → List ℕ → ℕ
times p xs = sum_by (hit p) xs

none_past : (n p : ℕ) → n ≤ p → times p (places n) ≡ 0
none_past zero p l = refl
none_past (suc n) p l =
    let other : hit p n ≡ 0 = cond-false (eqb n p) 1 0 (ne_eqb n p (λ e. omega arith)) in
    omega (arith, sum_by-append (hit p) (places n) (n ∷ []), sum_by-cons (hit p) n [], none_past n p (omega arith))

once_at_most : (n p : ℕ) → times p (places n) ≤ 1
once_at_most zero p = omega arith
once_at_most (suc n) p =
    let all = sum_by-append (hit p) (places n) (n ∷ []) in
    let last = sum_by-cons (hit p) n [] in
    elim (cases_Bool (eqb n p)) [
      | inl e ↦ let here : hit p n ≡ 1 = cond-true (eqb n p) 1 0 e in omega (arith, all, last, none_past n p (omega (arith, eqb-true n p e)))
      | inr e ↦ let here : hit p n ≡ 0 = cond-false (eqb n p) 1 0 e in omega (arith, all, last, once_at_most n p)
    ]

pub places_below : (n x : ℕ) → x ∈ places n → x < n
places_below zero x m = elim m [ ]
places_below (suc n) x m = elim (Memᴰ.append_cases (places n) m) [ inl k ↦ omega (arith, places_below n x k) | inr k ↦ omega (arith, Memᴰ.eq_of_singleton k) ]

not_there : (p : ℕ) (xs : List ℕ) → times p xs ≡ 0 → occurs p xs ≡ false
not_there p [] e = refl
not_there p (x ∷ xs) e =
    let all = sum_by-cons (hit p) x xs in
    elim (cases_Bool (eqb x p)) [
      | inl f ↦ let here : hit p x ≡ 1 = cond-true (eqb x p) 1 0 f in absurd (omega (arith, all))
      | inr f ↦ or_from _ _ f (not_there p xs (omega (arith, all)))
    ]

once : (n : ℕ) (xs : List ℕ) → ((p : ℕ) → times p xs ≤ 1) → ((x : ℕ) → x ∈ xs → x < n) → each_once n xs ≡ true
once n [] few small = refl
once n (x ∷ xs) few small =
    let here : hit x x ≡ 1 = cond-true (eqb x x) 1 0 (eq-eqb x x refl) in
    let none : times x xs ≡ 0 = omega (arith, sum_by-cons (hit x) x xs, few x) in
    and_from _ _ (lt-ltb x n (small x (Memᴰ.head refl)))
    (and_from _ _ (not_from_false _ (not_there x xs none)) (once n xs (λ p. omega (arith, sum_by-cons (hit p) x xs, few p)) (λ y m. small y (Memᴰ.tail m))))

-- an order of all places names each of them once
pub names_once : (n : ℕ) (order : List ℕ) → order ~ places n → each_once n order ≡ true
names_once n order same =
    once n order (λ p. omega (arith, sum_reordered (hit p) same, once_at_most n p)) (λ x m. places_below n x (mem-~ same m))

module _ {R : Type 0} (kind : Kind R) (rows : List R) (order bounds more_order more_bounds : List ℕ) where
  -- the lines of an order are the same from longer memories
  pub same_lines : (n m : ℕ) → m ≤ n → n ≤ length rows → length order ≡ n → length bounds ≡ n → ((i : ℕ) → i < n → get_or order i 0 < n)
      → order_lines kind rows (order ++ more_order) (bounds ++ more_bounds) m ≡ order_lines kind (take n rows) order bounds m
  same_lines n zero l long lo lb small = refl
  same_lines n (suc m) l long lo lb small =
      let o : get_or (order ++ more_order) m 0 ≡ get_or order m 0 = get_or_append_left order more_order 0 m (omega arith) in
      let b : get_or (bounds ++ more_bounds) m 0 ≡ get_or bounds m 0 = get_or_append_left bounds more_bounds 0 m (omega arith) in
      let r : get_or rows (get_or order m 0) kind.blank ≡ get_or (take n rows) (get_or order m 0) kind.blank = sym (get_or-take n rows (get_or order m 0) kind.blank (small m (omega arith))) in
      let ih = same_lines n m (omega arith) long lo lb small in
      rw (o, b, r, ih) refl
