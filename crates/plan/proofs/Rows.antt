-- Rows of a table: replaced, removed, judged. Assumes nothing.
use Rattle.std.proofs.Common.{◌≡◌, ℕ, zero, suc, ◌+◌, ◌<◌, Bool, true, false, cond, ◌||◌, eqb, List, [], ◌∷◌, length, take, sym, refl, ap, ◌∙◌, inl, inr, arith, length-take}
use Rattle.std.proofs.lemmas.List.{get_or-take}
use Rattle.std.proofs.lemmas.Bool.{cases_Bool, both_ways, eqb-true, not-false, not_from_true}
use Rattle.std.specs.List.{flat_map}
use Rattle.model.specs.Rows.{Kind}
use Rattle.feasibility.specs.Masks.{row_of}
use Rattle.assign.specs.Laws.{all_places}
use Rattle.table.specs.Tables.{has_id, replaced, removed, LawfulTable}
use Rattle.table.proofs.Ids.{one_at}
use Rattle.plan.specs.Calls.{Passed, row_checks}
use Rattle.plan.proofs.Checks.{passed_at, passed_all}

module _ {R : Type 0} (kind : Kind R) where
  pub length_replaced : (x : R) (table : List R) → length (replaced kind x table) ≡ length table
  length_replaced x [] = refl
  length_replaced x (y ∷ ys) = go (eqb (kind.ident y) (kind.ident x)) (length_replaced x ys)
    where
      go : (b : Bool) → length (replaced kind x ys) ≡ length ys → length (cond b (x ∷ ys) (y ∷ replaced kind x ys)) ≡ suc (length ys)
      go true ih = refl
      go false ih = ap suc ih

  pub length_removed : (id : ℕ) (table : List R) → has_id kind id table ≡ true → length (removed kind id table) + 1 ≡ length table
  length_removed id [] e = let z : ◌≡◌ {A = ℕ} 0 1 = cc in absurd (omega arith)
  length_removed id (y ∷ ys) e = go (eqb (kind.ident y) id) e (length_removed id ys)
    where
      go : (b : Bool) → (b || has_id kind id ys) ≡ true → (has_id kind id ys ≡ true → length (removed kind id ys) + 1 ≡ length ys) → length (cond b ys (y ∷ removed kind id ys)) + 1 ≡ suc (length ys)
      go true h ih = omega arith
      go false h ih = omega (arith, ih h)

  -- a row with the id
  pub some_id : (id : ℕ) (table : List R) → has_id kind id table ≡ true → (j : ℕ) × (j < length table) × (kind.ident (row_of kind table j) ≡ id)
  some_id id [] e = let z : ◌≡◌ {A = ℕ} 0 1 = cc in absurd (omega arith)
  some_id id (y ∷ ys) e = go (eqb (kind.ident y) id) refl e (some_id id ys)
    where
      go : (b : Bool) → eqb (kind.ident y) id ≡ b → (b || has_id kind id ys) ≡ true → (has_id kind id ys ≡ true → (j : ℕ) × (j < length ys) × (kind.ident (row_of kind ys j) ≡ id)) → (j : ℕ) × (j < length (y ∷ ys)) × (kind.ident (row_of kind (y ∷ ys) j) ≡ id)
      go true h k ih = (zero, omega arith, eqb-true (kind.ident y) id h)
      go false h k ih = let (j, l, f) = ih k in (suc j, omega arith, f)

  -- the rows of a lawful table pass, and a table whose rows pass is lawful
  pub lawful_passes : (table : List R) → LawfulTable kind table → Passed (flat_map (row_checks kind table) (all_places table))
  lawful_passes table t = passed_all (row_checks kind table) (length table) each
    where
      first : (i : ℕ) → i < length table → has_id kind (kind.ident (row_of kind table i)) (take i table) ≡ false
      first i h =
          elim (cases_Bool (has_id kind (kind.ident (row_of kind table i)) (take i table))) [
            | inl e ↦
                let (j, l, f) = some_id (kind.ident (row_of kind table i)) (take i table) e in
                let below : j < i = omega (arith, length-take i table) in
                absurd (t.ids j i below h (ap kind.ident (sym (get_or-take i table j kind.blank below)) ∙ f))
            | inr e ↦ e
          ]

      each : (i : ℕ) → i < length table → Passed (row_checks kind table i)
      each i h = (not_from_true _ (t.rows i h), (first i h, tt))

  pub passes_lawful : (table : List R) → Passed (flat_map (row_checks kind table) (all_places table)) → LawfulTable kind table
  passes_lawful table p = record { rows = λ i h. not-false _ (each i h).0; ids = apart }
    where
      each : (i : ℕ) → i < length table → Passed (row_checks kind table i)
      each i h = passed_at (row_checks kind table) (length table) i h p

      apart : (i j : ℕ) → i < j → j < length table → kind.ident (row_of kind table i) ≡ kind.ident (row_of kind table j) → ⊥
      apart i j l h e =
          let inside : i < length (take j table) = omega (arith, length-take j table) in
          both_ways _ (each j h).1.0 (one_at kind (kind.ident (row_of kind table j)) (take j table) i kind.blank inside (ap kind.ident (get_or-take j table i kind.blank l) ∙ e))
