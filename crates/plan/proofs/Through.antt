-- Faults that come through a `?`, and entries that are looked up. Assumes nothing.
use Rattle.std.proofs.Common.{◌≡◌, ℕ, ◌<◌, ◌≤◌, List, length, get_or, Some, None, Err, Option, Result, ap, ◌∙◌, Bor}
use Rattle.std.proofs.lemmas.Result.{err_from_is_err_and}
use Rattle.std.specs.Option.{ok_or}
use Rattle.std.specs.Result.{IsErrAnd}
use Rattle.std.specs.Slice.{IsItemAt}
use Rattle.table.specs.declared.fault.Fault.{Fault}
use Rattle.table.specs.declared.fault.Fault.TheVariants.{Plan}
use Rattle.table.specs.declared.fault.PlanFault.{PlanFault}

-- what a `?` returns
pub through : {T E : Type 0} (r : Result T E) (e : E) → IsErrAnd r (λ k. k ≡ e) → r ≡ Err e
through r e told = let (k, is, at) = err_from_is_err_and r told in is ∙ ap (λ (x : _). Err x) at

-- what it returns where there is no value
pub through_none : {X T : Type 0} (o : Option X) (why f : PlanFault) (r : Result T Fault) → Err f ≡ ok_or o why → o ≡ None → IsErrAnd r (λ k. k ≡ Plan f) → r ≡ Err (Plan why)
through_none o why f r told none past = let both : Err f ≡ ok_or None why = rw none at told in let same : f ≡ why = cc in through r (Plan f) past ∙ ap (λ (k : PlanFault). Err (Plan k)) same

module _ {X : Type 0} (xs : List X) (i : ℕ) (o : Option (Bor X)) (it : IsItemAt xs i o) where
  pub lent : (x : Bor X) → o ≡ Some x → (i < length xs) × (x.now ≡ get_or xs i x.now)
  lent x e = let some : IsItemAt xs i (Some x) = rw e at it in (some.3.0, some.1)

  pub not_lent : o ≡ None → length xs ≤ i
  not_lent e = let none : IsItemAt xs i None = rw e at it in none.3
