-- Each pool has exactly one outcome, whatever is answered. Assumes nothing.
use Rattle.std.proofs.Common.{◌≡◌, ℕ, zero, suc, ◌+◌, ◌⊎◌, List, [], ◌∷◌, ◌++◌, length, Some, None, Option, sym, refl, ap, ◌∙◌, subst, inl, inr, append_assoc, append-nil, arith}
use mathlib.Core.List.Memᴰ
use mathlib.Core.List.{cons≢nil, head-eq_of_cons-eq, tail-eq_of_cons-eq}
use Rattle.model.specs.Bags.{◌∈◌, ◌~◌}
use Rattle.assign.specs.Assignment.{others, Outcome, accepted, stuck, over, under_others, Takes, Assigned, finished, level, empty_level}
use Rattle.assign.proofs.Bags.{length-~, others_front}

pub not_both : {A : Type 0} {o : Option A} {a : A} → o ≡ None → o ≡ Some a → ⊥
not_both {A} {o} {a} e f = let z : ◌≡◌ {A = ℕ} 0 1 = cc in omega arith

-- the first that fails P is one
first_same : (P : ℕ → Type 0) (xs ys us vs : List ℕ) (p q : ℕ) → xs ++ p ∷ us ≡ ys ++ q ∷ vs → ((x : ℕ) → x ∈ xs → P x) → (P p → ⊥) → ((x : ℕ) → x ∈ ys → P x) → (P q → ⊥) → (xs ≡ ys) × (p ≡ q)
first_same P [] [] us vs p q e f n g m = (refl, head-eq_of_cons-eq e)
first_same P [] (y ∷ ys) us vs p q e f n g m = absurd (n (g p (Memᴰ.head (head-eq_of_cons-eq e))))
first_same P (x ∷ xs) [] us vs p q e f n g m = absurd (m (f q (Memᴰ.head (sym (head-eq_of_cons-eq e)))))
first_same P (x ∷ xs) (y ∷ ys) us vs p q e f n g m =
    let r : (xs ≡ ys) × (p ≡ q) = first_same P xs ys us vs p q (tail-eq_of_cons-eq e) (λ z k. f z (Memᴰ.tail k)) n (λ z k. g z (Memᴰ.tail k)) m in
    let h : x ≡ y = head-eq_of_cons-eq e in
    let t : xs ≡ ys = r.0 in
    (cc, r.1)

module _ {R : Type 0} (answer : R → List R → Option ℕ) (row : ℕ → R) where
  takes_mem : {pool : List ℕ} {p b n : ℕ} → Takes answer row pool p b n → p ∈ pool
  takes_mem {p} t = subst (λ (l : List ℕ). p ∈ l) (sym t.stands) (Memᴰ.append_right t.before (Memᴰ.head refl))

  pub takes_in : {pool : List ℕ} {p b n : ℕ} → Takes answer row pool p b n → pool ~ p ∷ others p pool
  takes_in {pool} {p} t = others_front p pool (takes_mem t)

  takes_same : {pool : List ℕ} {p b n q c m : ℕ} → Takes answer row pool p b n → Takes answer row pool q c m → (p ≡ q) × (b ≡ c) × (n ≡ m)
  takes_same {pool} {p} {b} {n} {q} {c} {m} t u =
      let r : (t.before ≡ u.before) × (p ≡ q) = first_same (λ x. under_others answer row pool x ≡ None) t.before u.before t.after u.after p q (sym t.stands ∙ u.stands)
      t.failed (λ e. not_both e t.fits) u.failed (λ e. not_both e u.fits) in
      let same : p ≡ q = r.1 in
      let bound : Some b ≡ Some c = sym t.fits ∙ (ap (under_others answer row pool) same ∙ u.fits) in
      (same, cc, t.count ∙ (ap (λ (l : List ℕ). length l + 1) r.0 ∙ sym u.count))

  takes_none : {p b n : ℕ} → Takes answer row [] p b n → ⊥
  takes_none t = elim (takes_mem t) [ ]

  -- one outcome
  pub unique : {pool : List ℕ} {o other : Outcome} → Assigned answer row pool o → Assigned answer row pool other → other ≡ o
  unique finished finished = refl
  unique finished (level u e) = absurd (takes_none u)
  unique finished (empty_level s) = absurd (s.some_left refl)
  unique (level t d) finished = absurd (takes_none t)
  unique (level {pool = pool} {p = p} {bound = b} {questions = n} {above = o} t d) (level {p = q} {bound = c} {questions = m} {above = o₂} u e) =
      let r = takes_same t u in
      let e₂ : Assigned answer row (others p pool) o₂ = subst (λ (x : ℕ). Assigned answer row (others x pool) o₂) (sym r.0) e in
      let same : o₂ ≡ o = unique d e₂ in
      let same₁ : p ≡ q = r.0 in
      let same₂ : b ≡ c = r.1 in
      let same₃ : n ≡ m = r.2 in
      cc
  unique (level {p = p} t d) (empty_level s) = absurd (not_both (s.no_bound p (takes_mem t)) t.fits)
  unique (empty_level s) finished = absurd (s.some_left refl)
  unique (empty_level s) (level {p = p} u e) = absurd (not_both (s.no_bound p (takes_mem u)) u.fits)
  unique (empty_level s) (empty_level r) = refl

  -- a level is taken, or every task of the pool is tried in vain
  Either : List ℕ → Type 0
  Either pool = ((p : ℕ) × (b : ℕ) × (n : ℕ) × Takes answer row pool p b n) ⊎ ((x : ℕ) → x ∈ pool → under_others answer row pool x ≡ None)

  tried : (pool before after : List ℕ) → pool ≡ before ++ after → ((x : ℕ) → x ∈ before → under_others answer row pool x ≡ None) → Either pool
  unfolding Either
  tried pool before [] e f = inr (λ x m. f x (subst (λ (l : List ℕ). x ∈ l) (e ∙ append-nil before) m))
  tried pool before (p ∷ after) e f = go (under_others answer row pool p) refl (tried pool (before ++ p ∷ []) after)
    where
      go : (a : Option ℕ) → under_others answer row pool p ≡ a → (pool ≡ before ++ p ∷ [] ++ after → ((x : ℕ) → x ∈ before ++ p ∷ [] → under_others answer row pool x ≡ None) → Either pool) → Either pool
      go (Some b) h ih = inl (p, b, length before + 1, record { before = before; after = after; stands = e; failed = f; fits = h; count = refl })
      go None h ih = ih (e ∙ sym (append_assoc before (p ∷ []) after)) (λ x m. elim (Memᴰ.append_cases before m) [ inl k ↦ f x k | inr k ↦ ap (under_others answer row pool) (Memᴰ.eq_of_singleton k) ∙ h ])

  -- an outcome
  pub outcome : (n : ℕ) (pool : List ℕ) → length pool ≡ n → (o : Outcome) × Assigned answer row pool o
  unfolding Either
  outcome n [] e = (accepted [] [] 0, finished)
  outcome zero (x ∷ xs) e = absurd (omega arith)
  outcome (suc n) (x ∷ xs) e = go (tried (x ∷ xs) [] (x ∷ xs) refl (λ z m. elim m [ ])) (outcome n)
    where
      go : Either (x ∷ xs) → ((pool : List ℕ) → length pool ≡ n → (o : Outcome) × Assigned answer row pool o) → (o : Outcome) × Assigned answer row (x ∷ xs) o
      go (inl (p, b, m, t)) ih =
          let r = ih (others p (x ∷ xs)) (omega (arith, length-~ (takes_in t))) in
          (over p b m r.0, level t r.1)
      go (inr f) ih = (stuck (x ∷ xs) (length (x ∷ xs)), empty_level (record { some_left = cons≢nil; no_bound = f }))
