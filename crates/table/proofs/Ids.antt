-- Ids in a table, and the first row with one. Assumes nothing.
use Rattle.std.proofs.Common.{◌≡◌, ℕ, zero, suc, ◌+◌, ◌<◌, true, false, eqb, List, [], ◌∷◌, ◌++◌, length, get_or, take, drop, set, is_some, Some, None, Option, sym, refl, ap, ◌∙◌, arith}
use Rattle.std.proofs.lemmas.Bool.{eq-eqb, ne_eqb, cond-true, cond-false}
use Rattle.std.proofs.lemmas.Grind.{common_steps}
use Rattle.std.proofs.lemmas.List.Quantifiers.{position-Some}
use Rattle.std.proofs.lemmas.List.Recursion.{or_at, or_from_places}
use Rattle.std.specs.Option.{ok_or}
use Rattle.model.specs.Rows.{Kind}
use Rattle.table.specs.declared.refusal.Refusal.TheVariants.{NoSuchTask}
use Rattle.table.specs.Tables.{Found, absent_fault, has_id, place_with_id, plan_fault, replaced, removed}

module _ {R : Type 0} (kind : Kind R) (id : ℕ) where
  pub one_at : (rows : List R) (i : ℕ) (d : R) → i < length rows → kind.ident (get_or rows i d) ≡ id → has_id kind id rows ≡ true
  one_at rows i d l e = or_at (has_id kind id) (λ x. eqb (kind.ident x) id) refl (λ _ _. refl) rows i d l (eq-eqb _ _ e)

  pub none_at : (rows : List R) (d : R) → ((i : ℕ) → i < length rows → kind.ident (get_or rows i d) ≡ id → ⊥) → has_id kind id rows ≡ false
  none_at rows d n = or_from_places (has_id kind id) (λ x. eqb (kind.ident x) id) refl (λ _ _. refl) rows d (λ i l. ne_eqb _ _ (n i l))

  -- a row has the id exactly if one is found
  pub found : (rows : List R) → is_some (place_with_id kind id rows) ≡ has_id kind id rows
  found [] = refl
  found (x ∷ xs) = grind (arith, common_steps, found xs)

  pub not_absent : (rows : List R) (place : ℕ) → place_with_id kind id rows ≡ Some place → absent_fault kind id rows ≡ None
  not_absent rows place e = rw (← found rows, e) refl

  pub found_or_absent : (rows : List R) → Found kind id rows (ok_or (place_with_id kind id rows) (plan_fault NoSuchTask 0))
  found_or_absent rows = go (place_with_id kind id rows) refl
    where
      go : (o : Option ℕ) → place_with_id kind id rows ≡ o → Found kind id rows (ok_or o (plan_fault NoSuchTask 0))
      go None e = rw (← found rows, e) refl
      go (Some place) e = e

  -- the table without its first row that has the id
  pub removed_at : (rows : List R) (place : ℕ) → place_with_id kind id rows ≡ Some place → removed kind id rows ≡ take place rows ++ drop (place + 1) rows
  removed_at rows place e = let (l, here, before) = position-Some _ rows place kind.blank e in from rows place l here before
    where
      from : (rows : List R) (place : ℕ) → place < length rows → eqb (kind.ident (get_or rows place kind.blank)) id ≡ true → ((k : ℕ) → k < place → eqb (kind.ident (get_or rows k kind.blank)) id ≡ false) → removed kind id rows ≡ take place rows ++ drop (place + 1) rows
      from [] place l here before = absurd (omega arith)
      from (x ∷ xs) zero l here before = cond-true _ _ _ here
      from (x ∷ xs) (suc place) l here before =
          let k : suc place + 1 ≡ suc (place + 1) = omega arith in
          cond-false _ _ _ (before 0 (omega arith)) ∙ (ap (λ (ys : List R). x ∷ ys) (from xs place (omega arith) here (λ k l. before (suc k) (omega arith))) ∙ ap (λ (m : ℕ). x ∷ (take place xs ++ drop m (x ∷ xs))) (sym k))

-- the table with its first row that has the row's id replaced
pub replaced_at : {R : Type 0} (kind : Kind R) (row : R) (rows : List R) (place : ℕ) → place_with_id kind (kind.ident row) rows ≡ Some place → replaced kind row rows ≡ set rows place row
replaced_at {R} kind row rows place e = let (l, here, before) = position-Some _ rows place kind.blank e in from rows place l here before
  where
    from : (rows : List R) (place : ℕ) → place < length rows → eqb (kind.ident (get_or rows place kind.blank)) (kind.ident row) ≡ true → ((k : ℕ) → k < place → eqb (kind.ident (get_or rows k kind.blank)) (kind.ident row) ≡ false) → replaced kind row rows ≡ set rows place row
    from [] place l here before = absurd (omega arith)
    from (x ∷ xs) zero l here before = cond-true _ _ _ here
    from (x ∷ xs) (suc place) l here before =
        cond-false _ _ _ (before 0 (omega arith)) ∙ ap (λ (ys : List _). x ∷ ys) (from xs place (omega arith) here (λ k l. before (suc k) (omega arith)))
