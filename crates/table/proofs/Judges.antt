-- Lawful tables, row by row. Assumes nothing.
use Rattle.std.proofs.Common.{◌≡◌, ℕ, ◌+◌, ◌<◌, true, false, List, [], ◌∷◌, ◌++◌, length, get_or, take, Some, sym, ap, ◌∙◌, inl, inr, arith}
use Rattle.std.proofs.lemmas.List.{take_more, length_push, get_or_push, get_or_append_left, get_or_read}
use Rattle.std.proofs.lemmas.Bool.{cases_lt, both_ways}
use Rattle.model.specs.Rows.{Kind}
use Rattle.table.specs.declared.refusal.Refusal.{Refusal}
use Rattle.table.specs.Tables.{has_id, row_refusal, plan_fault, LawfulTable, FirstFault}
use Rattle.table.proofs.Ids.{one_at}

module _ {R : Type 0} (kind : Kind R) where
  pub lawful_none : LawfulTable kind []
  lawful_none = record { rows = λ i l. absurd (omega arith); ids = λ i j l m e. omega arith }

  -- one row more
  pub lawful_push : (table : List R) (row : R) → LawfulTable kind table → kind.lawful row ≡ true → has_id kind (kind.ident row) table ≡ false → LawfulTable kind (table ++ row ∷ [])
  lawful_push table row t l n = record { rows = rows_more; ids = ids_more }
    where
      earlier : (i : ℕ) → i < length table → get_or (table ++ row ∷ []) i kind.blank ≡ get_or table i kind.blank
      earlier i m = get_or_append_left table (row ∷ []) kind.blank i m

      newest : (i : ℕ) → length table ≡ i → get_or (table ++ row ∷ []) i kind.blank ≡ row
      newest i m = get_or_push table row kind.blank i m

      rows_more : (i : ℕ) → i < length (table ++ row ∷ []) → kind.lawful (get_or (table ++ row ∷ []) i kind.blank) ≡ true
      rows_more i m =
          elim (cases_lt i (length table)) [
            | inl below ↦ ap kind.lawful (earlier i below) ∙ t.rows i below
            | inr above ↦ ap kind.lawful (newest i (omega (arith, length_push table row))) ∙ l
          ]

      ids_more : (i j : ℕ) → i < j → j < length (table ++ row ∷ []) → kind.ident (get_or (table ++ row ∷ []) i kind.blank) ≡ kind.ident (get_or (table ++ row ∷ []) j kind.blank) → ⊥
      ids_more i j p m e =
          elim (cases_lt j (length table)) [
            | inl below ↦ t.ids i j p below (ap kind.ident (sym (earlier i (omega arith))) ∙ (e ∙ ap kind.ident (earlier j below)))
            | inr above ↦
                let at_i : i < length table = omega (arith, length_push table row) in
                both_ways _ n (one_at kind (kind.ident row) table i kind.blank at_i (ap kind.ident (sym (earlier i at_i)) ∙ (e ∙ ap kind.ident (newest j (omega (arith, length_push table row))))))
          ]

  -- a row judged after lawful rows
  module _ (rows : List R) (i : ℕ) (row : R) (l : i < length rows) (at : row ≡ get_or rows i row) (before : LawfulTable kind (take i rows)) where
    pub lawful_more : kind.lawful row ≡ true → has_id kind (kind.ident row) (take i rows) ≡ false → LawfulTable kind (take (i + 1) rows)
    lawful_more m n = rw (take_more rows i row l, ← at) (lawful_push (take i rows) row before m n)

    pub first_fault : (why : Refusal) → row_refusal kind (take i rows) row ≡ Some why → FirstFault kind rows (plan_fault why i)
    first_fault why e = record { within = l; before = before; here = rw (← get_or_read rows i row l at kind.blank) e }
