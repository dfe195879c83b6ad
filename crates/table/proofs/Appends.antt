-- What bars a row from a table's end. Assumes nothing.
use Rattle.std.proofs.Common.{◌≡◌, ℕ, ◌<◌, ◌≤◌, true, leb, List, length, take, Some, None, Option, sym, refl, ◌∙◌, inl, inr, arith, length-take}
use Rattle.std.proofs.lemmas.Bool.{cases_lt, le-leb}
use Rattle.std.specs.Option.{option_map}
use Rattle.model.specs.Rows.{Kind}
use Rattle.table.specs.declared.fault.PlanFault.{PlanFault}
use Rattle.table.specs.declared.refusal.Refusal.{Refusal}
use Rattle.table.specs.declared.refusal.Refusal.TheVariants.{TableFull}
use Rattle.table.specs.Tables.{append_refusal, append_fault, plan_fault}

-- a table of 32 rows is full
pub full : {R : Type 0} (kind : Kind R) (rows : List R) (count : ℕ) (row : R) → 32 ≤ length rows → 32 ≤ count → append_fault kind rows count row ≡ Some (plan_fault TableFull count)
full kind rows count row m l =
    let long : leb 32 (length (take count rows)) ≡ true = le-leb _ _ (omega (arith, length-take count rows)) in
    let enough : leb 32 (length rows) ≡ true = le-leb _ _ m in
    rw (enough, long) refl

module _ {R : Type 0} (kind : Kind R) (rows : List R) (count : ℕ) (row : R) (room : 32 ≤ length rows) where
  by_refusal : append_fault kind rows count row ≡ option_map (λ why. plan_fault why count) (append_refusal kind (take count rows) row)
  by_refusal = let enough : leb 32 (length rows) ≡ true = le-leb _ _ room in rw enough refl

  -- a row that is not barred finds a place below the 32nd
  pub not_full : append_fault kind rows count row ≡ None → count < 32
  not_full e =
      elim (cases_lt count 32) [
        | inl l ↦ l
        | inr g ↦ let f = full kind rows count row room g in let z : ◌≡◌ {A = ℕ} 0 1 = cc in absurd (omega arith)
      ]

  pub not_barred : append_fault kind rows count row ≡ None → append_refusal kind (take count rows) row ≡ None
  not_barred e = go (append_refusal kind (take count rows) row) (sym by_refusal ∙ e)
    where
      go : (o : Option Refusal) → option_map (λ why. plan_fault why count) o ≡ None → o ≡ None
      go None f = refl
      go (Some why) f = let z : ◌≡◌ {A = ℕ} 0 1 = cc in absurd (omega arith)

  pub barred : (fault : PlanFault) → append_fault kind rows count row ≡ Some fault → (why : Refusal) × (append_refusal kind (take count rows) row ≡ Some why) × (fault ≡ plan_fault why count)
  barred fault e = go (append_refusal kind (take count rows) row) (sym by_refusal ∙ e)
    where
      go : (o : Option Refusal) → option_map (λ why. plan_fault why count) o ≡ Some fault → (why : Refusal) × (o ≡ Some why) × (fault ≡ plan_fault why count)
      go None f = let z : ◌≡◌ {A = ℕ} 0 1 = cc in absurd (omega arith)
      go (Some why) f = (why, refl, cc)
