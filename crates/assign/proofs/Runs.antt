-- The bounds of an order in its lawful runs. Assumes nothing.
use Rattle.std.proofs.Common.{◌≡◌, ℕ, zero, suc, ◌<◌, List, [], ◌∷◌, map, length, get_or, take, Some, sym, refl, ap, ◌∙◌, ap₂, arith}
use Rattle.std.specs.List.{slice_get}
use Rattle.model.specs.Rows.{Kind}
use Rattle.model.specs.Runs.{Task, Level, above}
use Rattle.feasibility.specs.Masks.{row_of}
use Rattle.feasibility.specs.Tests.{Answers, TestRules}
use Rattle.feasibility.proofs.Orders.{all_kept}
use Rattle.assign.specs.Assignment.{Fits}
use Rattle.assign.specs.Laws.{BoundsHold}

-- the task at a level of a run whose rows are those that an order names
pub record Lined {R : Type 0} (row : ℕ → R) (tasks : List (Task R)) (order : List ℕ) (k : ℕ) (task : Task R) : Type 0 where
  pub within : k < length order
  pub row_is : task.row ≡ row (get_or order k 0)
  pub above_are : map (λ t. t.row) (take k tasks) ≡ map row (take k order)

pub lined : {R : Type 0} (row : ℕ → R) (tasks : List (Task R)) (order : List ℕ) → map (λ t. t.row) tasks ≡ map row order
    → (k : ℕ) (task : Task R) → slice_get tasks k ≡ Some task → Lined row tasks order k task
lined row [] order e k task at = let z : ◌≡◌ {A = ℕ} 0 1 = cc in absurd (omega arith)
lined row (t ∷ ts) [] e k task at = let z : ◌≡◌ {A = ℕ} 0 1 = cc in absurd (omega arith)
lined row (t ∷ ts) (p ∷ ps) e zero task at =
    let here : t ≡ task = cc in
    let first : t.row ≡ row p = cc in
    record { within = omega arith; row_is = ap (λ x. x.row) (sym here) ∙ first; above_are = refl }
lined row (t ∷ ts) (p ∷ ps) e (suc k) task at =
    let first : t.row ≡ row p = cc in
    let rest : map (λ x. x.row) ts ≡ map row ps = cc in
    let more = lined row ts ps rest k task at in
    record { within = omega (arith, more.within); row_is = more.row_is; above_are = ap₂ (λ x xs. x ∷ xs) first more.above_are }

pub bounds_hold : {R : Type 0} (kind : Kind R) (test : Answers R) → TestRules kind test → (table : List R) (order bounds : List ℕ)
    → Fits test.answer (row_of kind table) order bounds → BoundsHold kind table order bounds
bounds_hold {R} kind test rules table order bounds f run law same k task at = (all_kept kind test rules run law (λ i other there. (get_or bounds i 0, answered i other there)) k task at (get_or bounds k 0) (answered k task at)).0
  where
    answered : (i : ℕ) (other : Task R) → Level run i other → test.answer other.row (above run i) ≡ Some (get_or bounds i 0)
    answered i other there =
        let l = lined (row_of kind table) run.tasks order same i other there in
        ap₂ test.answer l.row_is l.above_are ∙ f.fits i l.within
