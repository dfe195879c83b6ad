-- Masks as lists of places. Assumes nothing.
use Rattle.std.proofs.Common.{◌≡◌, ℕ, zero, suc, ◌+◌, ◌-◌, ◌*◌, ◌/◌, ◌%◌, ◌^◌, ◌<◌, ◌≤◌, min, Bool, true, false, cond, eqb, ltb, ◌⊎◌, List, [], ◌∷◌, ◌++◌, sym, refl, ap, ◌∙◌, inl, inr, append-nil, length, length-append, mod-eq_of_lt, add-one, arith}
use native.Mathlib.Nat.{div-eq_of_lt}
use lib.Count.{ones, ones_cat, ones-ones}
use Rattle.std.proofs.lemmas.Nat.{mod-pow-add, pow_pos, pow_below, mod_below, shr_split}
use Rattle.std.proofs.lemmas.Bool.{cases_Bool, cases_lt, eqb-true, eqb-false, ne_eqb, eq-eqb, lt-ltb, le-ltb}
use Rattle.feasibility.specs.Masks.{places, pool_of, bit_at, has, in_mask, mask_of}
use Rattle.std.proofs.lemmas.List.Elements.{filter-append}

pub pool_suc : (test : ℕ → Bool) (n : ℕ) → pool_of test (suc n) ≡ pool_of test n ++ cond (test n) (n ∷ []) []
pool_suc test n = filter-append test (places n) (n ∷ [])

-- two tests that agree below n
pub pool_same : (f g : ℕ → Bool) (n : ℕ) → ((j : ℕ) → j < n → f j ≡ g j) → pool_of f n ≡ pool_of g n
pool_same f g zero h = refl
pool_same f g (suc n) h =
    let ih : pool_of f n ≡ pool_of g n = pool_same f g n (λ j l. h j (omega arith)) in
    let last : f n ≡ g n = h n (omega arith) in
    pool_suc f n ∙ ap (λ (l : List ℕ). l ++ cond (f n) (n ∷ []) []) ih ∙ ap (λ (b : Bool). pool_of g n ++ cond b (n ∷ []) []) last ∙ sym (pool_suc g n)

pub has_true : (mask p : ℕ) → bit_at mask p ≡ 1 → has mask p ≡ true
has_true mask p e = eq-eqb (bit_at mask p) 1 e

pub has_false : (mask p : ℕ) → bit_at mask p ≡ 0 → has mask p ≡ false
has_false mask p e = ne_eqb (bit_at mask p) 1 (λ d. omega arith)

-- one place more
pub in_more_yes : (mask p : ℕ) → bit_at mask p ≡ 1 → in_mask mask (p + 1) ≡ in_mask mask p ++ p ∷ []
in_more_yes mask p h = ap (in_mask mask) (add-one p) ∙ pool_suc (has mask) p ∙ ap (λ (b : Bool). in_mask mask p ++ cond b (p ∷ []) []) (has_true mask p h)

mask_append : (xs ys : List ℕ) → mask_of (xs ++ ys) ≡ mask_of xs + mask_of ys
mask_append [] ys = omega arith
mask_append (x ∷ xs) ys = omega (arith, mask_append xs ys)

-- the places of a mask make the mask
pub mask_in : (mask n : ℕ) → mask_of (in_mask mask n) ≡ mask % 2 ^ n
mask_in mask zero = omega arith
mask_in mask (suc n) =
    let ih : mask_of (in_mask mask n) ≡ mask % 2 ^ n = mask_in mask n in
    let e : mask_of (in_mask mask (suc n)) ≡ mask_of (in_mask mask n) + mask_of (cond (has mask n) (n ∷ []) []) = ap mask_of (pool_suc (has mask) n) ∙ mask_append (in_mask mask n) (cond (has mask n) (n ∷ []) []) in
    let s : 1 + n ≡ suc n = omega arith in
    let m : mask % 2 ^ suc n ≡ (mask / 2 ^ n % 2) * 2 ^ n + mask % 2 ^ n = ap (λ (k : ℕ). mask % 2 ^ k) (sym s) ∙ mod-pow-add mask 1 n in
    e ∙ go (cases_Bool (has mask n)) ih ∙ sym m
  where
    go : (has mask n ≡ true) ⊎ (has mask n ≡ false) → mask_of (in_mask mask n) ≡ mask % 2 ^ n → mask_of (in_mask mask n) + mask_of (cond (has mask n) (n ∷ []) []) ≡ (mask / 2 ^ n % 2) * 2 ^ n + mask % 2 ^ n
    go (inl h) ih =
        let one : bit_at mask n ≡ 1 = eqb-true (bit_at mask n) 1 h in
        ap (λ (b : Bool). mask_of (in_mask mask n) + mask_of (cond b (n ∷ []) [])) h ∙ omega (arith, ap (λ (k : ℕ). k * 2 ^ n) one)
    go (inr h) ih =
        let none : bit_at mask n ≡ 0 = (let ne = eqb-false (bit_at mask n) 1 h in let sm : bit_at mask n < 2 = omega arith in let d : bit_at mask n ≡ 1 → ⊥ = ne in omega arith) in
        ap (λ (b : Bool). mask_of (in_mask mask n) + mask_of (cond b (n ∷ []) [])) h ∙ omega (arith, ap (λ (k : ℕ). k * 2 ^ n) none)

pub mask_whole : (mask n : ℕ) → mask < 2 ^ n → mask_of (in_mask mask n) ≡ mask
mask_whole mask n h = mask_in mask n ∙ mod-eq_of_lt h

-- a place past the bits of a mask
pub has_past : (mask p w : ℕ) → mask < 2 ^ w → w ≤ p → has mask p ≡ false
has_past mask p w small le =
    let lt : mask < 2 ^ p = elim (cases_lt w p) [ inl h ↦ (let q : 2 ^ w < 2 ^ p = pow_below w p h in omega arith) | inr h ↦ (let e : w ≡ p = omega arith in omega (arith, ap (λ (k : ℕ). 2 ^ k) e)) ] in
    has_false mask p (ap (λ (k : ℕ). k % 2) (div-eq_of_lt lt))

below_by : (mask n : ℕ) → mask / 2 ^ n ≡ 0 → mask < 2 ^ n
below_by mask n h = let m : mask % 2 ^ n < 2 ^ n = mod_below mask (2 ^ n) (pow_pos n) in let z : mask / 2 ^ n * 2 ^ n ≡ 0 = ap (λ (k : ℕ). k * 2 ^ n) h ∙ omega arith in omega (arith, shr_split mask n)

pub of_table_by : (mask n : ℕ) → eqb (mask / 2 ^ n) 0 ≡ ltb mask (2 ^ n)
of_table_by mask n =
    elim (cases_lt mask (2 ^ n)) [
      | inl l ↦ eq-eqb (mask / 2 ^ n) 0 (div-eq_of_lt l) ∙ sym (lt-ltb mask (2 ^ n) l)
      | inr g ↦ ne_eqb (mask / 2 ^ n) 0 (λ e. let l : mask < 2 ^ n = below_by mask n e in omega arith) ∙ sym (le-ltb mask (2 ^ n) g)
    ]

-- past the bits of a mask there are no more places
pub in_past : (mask w k : ℕ) → mask < 2 ^ w → in_mask mask (w + k) ≡ in_mask mask w
in_past mask w zero small = let e : w + 0 ≡ w = omega arith in ap (in_mask mask) e
in_past mask w (suc k) small =
    let s : w + suc k ≡ suc (w + k) = omega arith in
    ap (in_mask mask) s ∙ pool_suc (has mask) (w + k) ∙ ap (λ (b : Bool). in_mask mask (w + k) ++ cond b ((w + k) ∷ []) []) (has_past mask (w + k) w small (omega arith)) ∙ append-nil (in_mask mask (w + k)) ∙ in_past mask w k small

-- the code's `min`
pub in_min : (mask n w : ℕ) → mask < 2 ^ w → in_mask mask n ≡ in_mask mask (min n w)
in_min mask n w small = elim (cases_lt n w) [ inl h ↦ (let e : n ≡ min n w = omega arith in ap (in_mask mask) e) | inr h ↦ (let e : n ≡ w + (n - w) = omega arith in let m : w ≡ min n w = omega arith in ap (in_mask mask) e ∙ in_past mask w (n - w) small ∙ ap (in_mask mask) m) ]

-- 2 to a power that is as large at least
pub pow_le : (i j : ℕ) → i ≤ j → 2 ^ i ≤ 2 ^ j
pow_le i j le = elim (cases_lt i j) [ inl h ↦ (let q : 2 ^ i < 2 ^ j = pow_below i j h in omega arith) | inr h ↦ (let e : i ≡ j = omega arith in omega (arith, ap (λ (k : ℕ). 2 ^ k) e)) ]

-- a mask has as many bits as places
bits_in : (mask n : ℕ) → ones (mask % 2 ^ n) ≡ length (in_mask mask n)
bits_in mask zero = let z : mask % 2 ^ zero ≡ 0 = omega arith in ap ones z ∙ ones-ones 0
bits_in mask (suc n) =
    let s : 1 + n ≡ suc n = omega arith in
    let split : mask % 2 ^ suc n ≡ bit_at mask n * 2 ^ n + mask % 2 ^ n = ap (λ (k : ℕ). mask % 2 ^ k) (sym s) ∙ mod-pow-add mask 1 n in
    ap ones split ∙ ones_cat n (bit_at mask n) (mask % 2 ^ n) (mod_below mask (2 ^ n) (pow_pos n)) ∙ go (cases_lt (bit_at mask n) 1) (bits_in mask n) ∙ sym (ap length (pool_suc (has mask) n))
  where
    go : (bit_at mask n < 1) ⊎ (1 ≤ bit_at mask n) → ones (mask % 2 ^ n) ≡ length (in_mask mask n) → ones (bit_at mask n) + ones (mask % 2 ^ n) ≡ length (in_mask mask n ++ cond (has mask n) (n ∷ []) [])
    go (inl h) ih =
        let bit : bit_at mask n ≡ 0 = omega arith in
        rw (has_false mask n bit) (omega (arith, ap ones bit ∙ ones-ones 0, length-append (in_mask mask n) []))
    go (inr h) ih =
        let bit : bit_at mask n ≡ 1 = omega arith in
        rw (has_true mask n bit) (omega (arith, ap ones bit ∙ ones-ones 1, length-append (in_mask mask n) (n ∷ [])))

pub ones_in : (mask n : ℕ) → mask < 2 ^ n → ones mask ≡ length (in_mask mask n)
ones_in mask n small = ap ones (sym (mod-eq_of_lt small)) ∙ bits_in mask n
