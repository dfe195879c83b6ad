-- What the code finds over the used places of a segmented row's arrays is what the definitions say of its segments. Assumes nothing.
use Rattle.std.proofs.Common.{◌≡◌, ℕ, zero, suc, ◌+◌, ◌-◌, ◌<◌, ◌≤◌, ◌&&◌, ◌==◌, leb, ltb, get_or, List, [], ◌∷◌, length, take, drop, replicate, sum, refl, ap, ◌∙◌, inl, inr, arith, drop-cons}
use Rattle.std.specs.Array.{AllOfLen}
use Rattle.std.specs.List.{list_all, zip}
use Rattle.std.proofs.lemmas.Grind.{elements}
use Rattle.std.proofs.lemmas.Bool.{cases_lt, cond-true, cond-false, lt-ltb, le-ltb}
use Rattle.std.proofs.lemmas.List.Sums.{sum_by-cons}
use Rattle.model.specs.Segments.{all_ticks, least_gaps, most_gaps, ranged}
use Rattle.model.specs.SegmentedRows.{all_zero, segments_from, segments_of}
use Rattle.model.specs.declared.segmented.Segmented.{Segmented}

-- an array of zeros, as a derived `default` makes it
pub zero_array : (ns : List ℕ) (n : ℕ) → AllOfLen (λ k. k ≡ 0) ns n → ns ≡ replicate n 0
zero_array ns n h = grind (arith, elements, h.long, h.at)

pub zeros : (ns : List ℕ) → list_all (λ n. n == 0) ns ≡ all_zero ns
zeros [] = refl
zeros (n ∷ ns) = ap (λ b. n == 0 && b) (zeros ns)

-- a sum of values from place j on, the first apart
sum_from : (ns : List ℕ) (n j : ℕ) → sum (take (suc n) (drop j ns)) ≡ get_or ns j 0 + sum (take n (drop (suc j) ns))
sum_from [] n zero = elim n as (λ m. 0 ≡ 0 + sum (take m [])) [ zero ↦ refl | suc m ↦ refl ]
sum_from [] n (suc j) = elim n as (λ m. 0 ≡ 0 + sum (take m [])) [ zero ↦ refl | suc m ↦ refl ]
sum_from (x ∷ xs) n zero = sum_by-cons (λ k. k) x (take n xs)
sum_from (x ∷ xs) n (suc j) = sum_from xs n j

ticks_from : (x : Segmented) (n j : ℕ) → n + j < x.count → sum (take (suc n) (drop j x.costs)) ≡ all_ticks (segments_from x n j)
ticks_from x zero j l = omega (arith, sum_from x.costs 0 j, cond-true (ltb j x.count) (get_or x.costs j 0) 0 (lt-ltb j x.count (omega arith)))
ticks_from x (suc n) j l =
    omega (arith, sum_from x.costs (suc n) j, cond-true (ltb j x.count) (get_or x.costs j 0) 0 (lt-ltb j x.count (omega arith)), ticks_from x n (suc j) (omega arith))

most_from : (x : Segmented) (n j : ℕ) → n + j ≡ x.count - 1 → sum (take n (drop j x.most)) ≡ most_gaps (segments_from x n j)
most_from x zero j l = refl
most_from x (suc n) j l =
    omega (arith, sum_from x.most n j, cond-true (ltb j (x.count - 1)) (get_or x.most j 0) 0 (lt-ltb j (x.count - 1) (omega arith)), most_from x n (suc j) (omega arith))

least_from : (x : Segmented) (n j : ℕ) → sum (take n (drop j x.least)) ≡ least_gaps (segments_from x n j)
least_from x zero j = refl
least_from x (suc n) j = omega (arith, sum_from x.least n j, least_from x n (suc j))

pub ticks_are : (x : Segmented) → sum (take x.count x.costs) ≡ all_ticks (segments_of x)
ticks_are x =
    elim (cases_lt 0 x.count) [
      | inl some ↦ ap (λ k. sum (take k x.costs)) (let e : x.count ≡ suc (x.count - 1) = omega arith in e) ∙ ticks_from x (x.count - 1) 0 (omega arith)
      | inr none ↦
          let z : x.count ≡ 0 = omega arith in
          let n = cond-false (ltb 0 x.count) (get_or x.costs 0 0) 0 (le-ltb 0 x.count none) in
          omega (arith, ap (λ k. sum (take k x.costs)) z, ap (λ k. all_ticks (segments_from x (k - 1) 0)) z)
    ]

pub most_are : (x : Segmented) → sum (take (x.count - 1) x.most) ≡ most_gaps (segments_of x)
most_are x = most_from x (x.count - 1) 0 (omega arith)

pub least_are : (x : Segmented) → sum (take (x.count - 1) x.least) ≡ least_gaps (segments_of x)
least_are x = least_from x (x.count - 1) 0

ranged_from : (x : Segmented) (n j : ℕ) → n + j ≡ x.count - 1 → x.count - 1 ≤ length x.least → x.count - 1 ≤ length x.most
    → list_all (λ p. leb p.0 p.1) (take n (zip (drop j x.least) (drop j x.most))) ≡ ranged (segments_from x n j)
ranged_from x zero j l a b = refl
ranged_from x (suc n) j l a b =
    rw (drop-cons x.least j 0 (omega arith), drop-cons x.most j 0 (omega arith), cond-true (ltb j (x.count - 1)) (get_or x.most j 0) 0 (lt-ltb j (x.count - 1) (omega arith)))
    (ap (λ b. leb (get_or x.least j 0) (get_or x.most j 0) && b) (ranged_from x n (suc j) (omega arith) a b))

pub ranged_are : (x : Segmented) → x.count - 1 ≤ length x.least → x.count - 1 ≤ length x.most
    → list_all (λ p. leb p.0 p.1) (take (x.count - 1) (zip x.least x.most)) ≡ ranged (segments_of x)
ranged_are x a b = ranged_from x (x.count - 1) 0 (omega arith) a b
