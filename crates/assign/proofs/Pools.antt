-- What a program that searches can hold on to in its loops. Assumes nothing.
use Rattle.std.proofs.Common.{◌≡◌, ℕ, zero, suc, ◌+◌, ◌<◌, ◌≤◌, Bool, true, false, cond, eqb, ◌⊎◌, List, [], ◌∷◌, ◌++◌, length, Option, sym, refl, ap, ◌∙◌, subst, inl, inr, append_assoc, append-nil, add_assoc, zero-add, arith}
use mathlib.Core.List.Memᴰ
use Rattle.std.proofs.lemmas.Bool.{cases_lt, cases_Bool, eqb-true, ne_eqb, eqb-false}
use Rattle.model.specs.Bags.{◌∈◌}
use Rattle.feasibility.proofs.Masks.{pool_suc}
use Rattle.feasibility.specs.Masks.{pool_of}
use Rattle.assign.specs.Assignment.{others, Outcome, accepted, stuck, over, Stuck, Assigned, finished, level, empty_level, Filled, none_yet, one_more}

-- the levels that are filled, lowest last, below the outcome for the rest
abbrev pub below : List ℕ → List ℕ → ℕ → Outcome → Outcome
below order bounds asked (accepted os bs q) = accepted (os ++ order) (bs ++ bounds) (asked + q)
below order bounds asked (stuck left q) = stuck left (asked + q)

module _ {R : Type 0} (answer : R → List R → Option ℕ) (row : ℕ → R) where
  below_none : (o : Outcome) → o ≡ below [] [] 0 o
  below_none (accepted os bs q) = let a = append-nil os in let b = append-nil bs in let c = zero-add q in cc
  below_none (stuck left q) = ap (stuck left) (sym (zero-add q))

  below_more : (p b n : ℕ) (order bounds : List ℕ) (asked : ℕ) (o : Outcome) → below order bounds asked (over p b n o) ≡ below (p ∷ order) (b ∷ bounds) (asked + n) o
  below_more p b n order bounds asked (accepted os bs q) = let c = append_assoc os (p ∷ []) order in let d = append_assoc bs (b ∷ []) bounds in let e = add_assoc asked n q in cc
  below_more p b n order bounds asked (stuck left q) = ap (stuck left) (sym (add_assoc asked n q))

  -- the outcome for what is left, with the filled levels below it
  pub goes_on : {start pool order bounds : List ℕ} {asked : ℕ} → Filled answer row start pool order bounds asked → (o : Outcome) → Assigned answer row pool o → Assigned answer row start (below order bounds asked o)
  goes_on {start} none_yet o d = subst (Assigned answer row start) (below_none o) d
  goes_on {start} (one_more {order = order} {bounds = bounds} {asked = asked} {p = p} {bound = b} {questions = n} f t) o d = subst (Assigned answer row start) (below_more p b n order bounds asked o) (goes_on f (over p b n o) (level t d))

  pub filled_all : {start order bounds : List ℕ} {asked : ℕ} → Filled answer row start [] order bounds asked → Assigned answer row start (accepted order bounds asked)
  filled_all {start} {order} {bounds} {asked} f = subst (λ (q : ℕ). Assigned answer row start (accepted order bounds q)) (omega arith) (goes_on f (accepted [] [] 0) finished)

  pub filled_stuck : {start pool order bounds : List ℕ} {asked : ℕ} → Filled answer row start pool order bounds asked → Stuck answer row pool → Assigned answer row start (stuck pool (asked + length pool))
  filled_stuck {pool} f s = goes_on f (stuck pool (length pool)) (empty_level s)

-- a pool that is told by a test of each place, as by the bits of a number

others_absent : (p : ℕ) (xs : List ℕ) → (p ∈ xs → ⊥) → others p xs ≡ xs
others_absent p [] h = refl
others_absent p (x ∷ xs) h =
    let other : eqb p x ≡ false = ne_eqb p x (λ e. h (Memᴰ.head e)) in
    rw other (ap {B = List ℕ} (λ l. x ∷ l) (others_absent p xs (λ m. h (Memᴰ.tail m))))

others_left : (p : ℕ) (xs ys : List ℕ) → (p ∈ ys → ⊥) → others p (xs ++ ys) ≡ others p xs ++ ys
others_left p [] ys h = others_absent p ys h
others_left p (x ∷ xs) ys h = go (eqb p x) (others_left p xs ys h)
  where
    go : (t : Bool) → others p (xs ++ ys) ≡ others p xs ++ ys → cond t (xs ++ ys) (x ∷ others p (xs ++ ys)) ≡ cond t xs (x ∷ others p xs) ++ ys
    go true ih = refl
    go false ih = ap {B = List ℕ} (λ l. x ∷ l) ih

others_right : (p : ℕ) (xs ys : List ℕ) → (p ∈ xs → ⊥) → others p (xs ++ ys) ≡ xs ++ others p ys
others_right p [] ys h = refl
others_right p (x ∷ xs) ys h =
    let other : eqb p x ≡ false = ne_eqb p x (λ e. h (Memᴰ.head e)) in
    rw other (ap {B = List ℕ} (λ l. x ∷ l) (others_right p xs ys (λ m. h (Memᴰ.tail m))))

-- the test with p taken out
abbrev pub but : ℕ → (ℕ → Bool) → ℕ → Bool
but p test x = cond (eqb p x) false (test x)

end_is : (t : Bool) (n x : ℕ) → x ∈ cond t (n ∷ []) [] → x ≡ n
end_is true n x m = Memᴰ.eq_of_singleton m
end_is false n x m = elim m [ ]

pub pool_below : (test : ℕ → Bool) (n x : ℕ) → x ∈ pool_of test n → x < n
pool_below test zero x m = elim m [ ]
pool_below test (suc n) x m = go (Memᴰ.append_cases (pool_of test n) (subst (λ (l : List ℕ). x ∈ l) (pool_suc test n) m)) (pool_below test n x)
  where
    go : (x ∈ pool_of test n) ⊎ (x ∈ cond (test n) (n ∷ []) []) → (x ∈ pool_of test n → x < n) → x < suc n
    go (inl k) ih = omega (arith, ih k)
    go (inr k) ih = omega (arith, end_is (test n) n x k)

pub others_pool : (test : ℕ → Bool) (p n : ℕ) → others p (pool_of test n) ≡ pool_of (but p test) n
others_pool test p zero = refl
others_pool test p (suc n) = ap (others p) (pool_suc test n) ∙ (go (cases_Bool (eqb p n)) (others_pool test p n) ∙ sym (pool_suc (but p test) n))
  where
    front : List ℕ
    front = pool_of test n

    out_front : p ≡ n → p ∈ front → ⊥
    out_front e m = omega (arith, pool_below test n p m)

    last_out : (t : Bool) → eqb p n ≡ true → others p (cond t (n ∷ []) []) ≡ []
    last_out true e = rw e
    last_out false e = refl

    go : (eqb p n ≡ true) ⊎ (eqb p n ≡ false) → others p front ≡ pool_of (but p test) n → others p (front ++ cond (test n) (n ∷ []) []) ≡ pool_of (but p test) n ++ cond (but p test n) (n ∷ []) []
    go (inl e) ih =
        let out = out_front (eqb-true p n e) in
        others_right p front (cond (test n) (n ∷ []) []) out ∙ (ap (λ (l : List ℕ). front ++ l) (last_out (test n) e) ∙ (ap (λ (l : List ℕ). l ++ []) (sym (others_absent p front out) ∙ ih) ∙ ap (λ (t : Bool). pool_of (but p test) n ++ cond (cond t false (test n)) (n ∷ []) []) (sym e)))
    go (inr e) ih =
        let apart : p ∈ cond (test n) (n ∷ []) [] → ⊥ = λ m. eqb-false p n e (end_is (test n) n p m) in
        others_left p front (cond (test n) (n ∷ []) []) apart ∙ (ap (λ (l : List ℕ). l ++ cond (test n) (n ∷ []) []) ih ∙ ap (λ (t : Bool). pool_of (but p test) n ++ cond (cond t false (test n)) (n ∷ []) []) (sym e))

-- the pool at a place that passes: what was tried before it, it, and what comes after
pub pool_at : (test : ℕ → Bool) (n p : ℕ) → p < n → test p ≡ true → (after : List ℕ) × (pool_of test n ≡ pool_of test p ++ p ∷ after)
pool_at test zero p h e = absurd (omega arith)
pool_at test (suc n) p h e = go (cases_lt p n) (pool_at test n p)
  where
    go : (p < n) ⊎ (n ≤ p) → (p < n → test p ≡ true → (after : List ℕ) × (pool_of test n ≡ pool_of test p ++ p ∷ after)) → (after : List ℕ) × (pool_of test (suc n) ≡ pool_of test p ++ p ∷ after)
    go (inl l) ih =
        let r = ih l e in
        (r.0 ++ cond (test n) (n ∷ []) [], pool_suc test n ∙ (ap (λ (l : List ℕ). l ++ cond (test n) (n ∷ []) []) r.1 ∙ append_assoc (pool_of test p) (p ∷ r.0) (cond (test n) (n ∷ []) [])))
    go (inr l) ih =
        let same : n ≡ p = omega arith in
        ([], pool_suc test n ∙ subst (λ (k : ℕ). pool_of test n ++ cond (test n) (n ∷ []) [] ≡ pool_of test k ++ k ∷ []) same (ap (λ (t : Bool). pool_of test n ++ cond t (n ∷ []) []) (ap test same ∙ e)))
