-- Ordered checks. Assumes nothing.
use Rattle.std.proofs.Common.{◌≡◌, ℕ, zero, suc, ◌<◌, ◌≤◌, Bool, true, false, ◌⊎◌, List, [], ◌∷◌, ◌++◌, sym, refl, ◌∙◌, subst, inl, inr, arith}
use Rattle.std.proofs.lemmas.List.{flat_map_more}
use Rattle.std.proofs.lemmas.Bool.{both_ways, cases_lt}
use Rattle.std.specs.List.{flat_map}
use Rattle.feasibility.specs.Masks.{places}
use Rattle.table.specs.declared.fault.Fault.{Fault}
use Rattle.plan.specs.Calls.{Passed, Met}

pub checked : (cs : List (Bool × Fault)) → Passed cs ⊎ ((f : Fault) × Met cs f)
checked [] = inl tt
checked (c ∷ cs) = go c.0 refl (checked cs)
  where
    go : (b : Bool) → c.0 ≡ b → Passed cs ⊎ ((f : Fault) × Met cs f) → Passed (c ∷ cs) ⊎ ((f : Fault) × Met (c ∷ cs) f)
    go true e r = inr (c.1, inl (e, refl))
    go false e (inl r) = inl (e, r)
    go false e (inr r) = inr (r.0, inr (e, r.1))

pub met_same : (cs : List (Bool × Fault)) {f g : Fault} → Met cs f → Met cs g → g ≡ f
met_same [] m k = absurd m
met_same (c ∷ cs) (inl a) (inl b) = sym b.1 ∙ a.1
met_same (c ∷ cs) (inl a) (inr b) = absurd (both_ways c.0 b.0 a.0)
met_same (c ∷ cs) (inr a) (inl b) = absurd (both_ways c.0 a.0 b.0)
met_same (c ∷ cs) (inr a) (inr b) = met_same cs a.1 b.1

pub not_met : (cs : List (Bool × Fault)) (f : Fault) → Passed cs → Met cs f → ⊥
not_met [] f p m = m
not_met (c ∷ cs) f p (inl a) = both_ways c.0 p.0 a.0
not_met (c ∷ cs) f p (inr a) = not_met cs f p.1 a.1

-- checks after checks

pub passed_append : (cs ds : List (Bool × Fault)) → Passed (cs ++ ds) → Passed cs × Passed ds
passed_append [] ds p = (tt, p)
passed_append (c ∷ cs) ds p = let r = passed_append cs ds p.1 in ((p.0, r.0), r.1)

passed_both : (cs ds : List (Bool × Fault)) → Passed cs → Passed ds → Passed (cs ++ ds)
passed_both [] ds p q = q
passed_both (c ∷ cs) ds p q = (p.0, passed_both cs ds p.1 q)

met_left : (cs ds : List (Bool × Fault)) (f : Fault) → Met cs f → Met (cs ++ ds) f
met_left [] ds f m = absurd m
met_left (c ∷ cs) ds f (inl m) = inl m
met_left (c ∷ cs) ds f (inr m) = inr (m.0, met_left cs ds f m.1)

met_right : (cs ds : List (Bool × Fault)) (f : Fault) → Passed cs → Met ds f → Met (cs ++ ds) f
met_right [] ds f p m = m
met_right (c ∷ cs) ds f p m = inr (p.0, met_right cs ds f p.1 m)

-- the checks of place after place
module _ (f : ℕ → List (Bool × Fault)) where
  joined_suc : (n : ℕ) → flat_map f (places (suc n)) ≡ flat_map f (places n) ++ f n
  joined_suc n = sym (flat_map_more f [] (places n) n)

  pub passed_at : (n i : ℕ) → i < n → Passed (flat_map f (places n)) → Passed (f i)
  passed_at zero i h p = absurd (omega arith)
  passed_at (suc n) i h p = go (cases_lt i n) (passed_append (flat_map f (places n)) (f n) (subst Passed (joined_suc n) p)) (passed_at n i)
    where
      go : (i < n) ⊎ (n ≤ i) → Passed (flat_map f (places n)) × Passed (f n) → (i < n → Passed (flat_map f (places n)) → Passed (f i)) → Passed (f i)
      go (inl l) q ih = ih l q.0
      go (inr l) q ih = let same : n ≡ i = omega arith in subst (λ (k : ℕ). Passed (f k)) same q.1

  pub passed_all : (n : ℕ) → ((i : ℕ) → i < n → Passed (f i)) → Passed (flat_map f (places n))
  passed_all zero each = tt
  passed_all (suc n) each = subst Passed (sym (joined_suc n)) (passed_both (flat_map f (places n)) (f n) (passed_all n (λ i h. each i (omega arith))) (each n (omega arith)))

  -- the first place whose checks are met
  pub met_at : (g : Fault) (n i : ℕ) → i < n → Passed (flat_map f (places i)) → Met (f i) g → Met (flat_map f (places n)) g
  met_at g zero i h p m = absurd (omega arith)
  met_at g (suc n) i h p m = subst (λ (cs : List (Bool × Fault)). Met cs g) (sym (joined_suc n)) (go (cases_lt i n) (met_at g n i))
    where
      go : (i < n) ⊎ (n ≤ i) → (i < n → Passed (flat_map f (places i)) → Met (f i) g → Met (flat_map f (places n)) g) → Met (flat_map f (places n) ++ f n) g
      go (inl l) ih = met_left (flat_map f (places n)) (f n) g (ih l p m)
      go (inr l) ih =
          let same : i ≡ n = omega arith in
          subst (λ (k : ℕ). Met (flat_map f (places k) ++ f k) g) same (met_right (flat_map f (places i)) (f i) g p m)
