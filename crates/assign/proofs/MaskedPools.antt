-- Masks as lists of places, and a question under the others of a pool. Assumes nothing.
use Rattle.std.proofs.Common.{◌≡◌, ℕ, zero, suc, ◌-◌, ◌^◌, ◌<◌, Bool, true, false, cond, eqb, ltb, ◌≢◌, ◌⊎◌, List, [], ◌∷◌, ◌++◌, map, length, None, sym, refl, ap, ◌∙◌, inl, inr, arith}
use Rattle.std.proofs.lemmas.Bool.{cases_Bool, eqb-true, eqb-false, lt-ltb}
use Rattle.std.proofs.lemmas.Nat.Bits.{bit_at_ones}
use Rattle.model.specs.Rows.{Kind}
use Rattle.feasibility.specs.Tests.{Answers}
use Rattle.feasibility.specs.Masks.{row_of, places, pool_of, bit_at, has, in_mask, rows_in, askable, asked}
use Rattle.assign.specs.Assignment.{others, under_others}
use Rattle.assign.proofs.Pools.{but, others_pool}
use Rattle.feasibility.proofs.Bits.{out_same, out_other}
use Rattle.feasibility.proofs.Masks.{pool_suc, pool_same, has_true, has_false}

pool_true : (n : ℕ) → pool_of (λ j. true) n ≡ places n
pool_true zero = refl
pool_true (suc n) = pool_suc (λ j. true) n ∙ ap (λ (l : List ℕ). l ++ n ∷ []) (pool_true n)

-- the mask of all places
pub in_full : (n : ℕ) → in_mask (2 ^ n - 1) n ≡ places n
in_full n = pool_same (has (2 ^ n - 1)) (λ j. true) n (λ j l. has_true (2 ^ n - 1) j (bit_at_ones n j l)) ∙ pool_true n

-- the mask with a place taken out
pub in_out : (mask p n : ℕ) → bit_at mask p ≡ 1 → in_mask (mask - 2 ^ p) n ≡ others p (in_mask mask n)
in_out mask p n h = pool_same (has (mask - 2 ^ p)) (but p (has mask)) n (λ j l. at j (cases_Bool (eqb p j))) ∙ sym (others_pool (has mask) p n)
  where
    at : (j : ℕ) → (eqb p j ≡ true) ⊎ (eqb p j ≡ false) → has (mask - 2 ^ p) j ≡ but p (has mask) j
    at j (inl e) =
        let same : p ≡ j = eqb-true p j e in
        let z : bit_at (mask - 2 ^ p) j ≡ 0 = ap (bit_at (mask - 2 ^ p)) (sym same) ∙ out_same mask p h in
        has_false (mask - 2 ^ p) j z ∙ ap (λ (b : Bool). cond b false (has mask j)) (sym e)
    at j (inr e) =
        let ne : j ≢ p = λ d. eqb-false p j e (sym d) in
        ap (λ (b : ℕ). eqb b 1) (out_other mask p h j ne) ∙ ap (λ (b : Bool). cond b false (has mask j)) (sym e)

-- the question about a place of the pool, with the others of the pool above it
pub asked_others : {R : Type 0} (kind : Kind R) (test : Answers R) (rows : List R) (pool p : ℕ) → p < length rows → pool < 2 ^ length rows → bit_at pool p ≡ 1 → asked kind test rows p (pool - 2 ^ p) ≡ under_others test.answer (row_of kind rows) (in_mask pool (length rows)) p
asked_others {R} kind test rows pool p lt small h =
    let a : ltb p (length rows) ≡ true = lt-ltb p (length rows) lt in
    let b : ltb (pool - 2 ^ p) (2 ^ length rows) ≡ true = lt-ltb (pool - 2 ^ p) (2 ^ length rows) (omega arith) in
    let c : has (pool - 2 ^ p) p ≡ false = has_false (pool - 2 ^ p) p (out_same pool p h) in
    let ok : askable (length rows) p (pool - 2 ^ p) ≡ true = rw (a, b, c) refl in
    ap (λ (t : Bool). cond t (test.answer (row_of kind rows p) (rows_in kind rows (pool - 2 ^ p))) None) ok ∙ ap (λ (l : List ℕ). test.answer (row_of kind rows p) (map (row_of kind rows) l)) (in_out pool p (length rows) h)
