-- One command at a place of the sheet. Assumes nothing.
use Rattle.std.proofs.Common.{◌≡◌, ℕ, ◌+◌, ◌<◌, ◌≤◌, Bool, true, false, cond, ltb, List, [], ◌∷◌, length, set, take, drop, Some, None, Ok, Err, Option, Result, refl, ap, subst, arith}
use Rattle.std.proofs.lemmas.List.{nil_from_length, length-take-le, take_more_set}
use Rattle.model.specs.Rows.{Kind}
use Rattle.table.specs.declared.fault.Fault.TheVariants.{RowInSheet}
use Rattle.table.specs.declared.fault.PlanFault.{PlanFault}
use Rattle.table.specs.Tables.{append_fault, append_refusal}
use Rattle.table.proofs.Appends.{barred, not_barred, not_full}
use Rattle.std.proofs.lemmas.Result.{err_from_is_err_and}
use Rattle.std.specs.Result.{MatchResult, IsErrAnd}
use Rattle.sheet.specs.declared.command.CommandFault.{CommandFault}
use Rattle.sheet.specs.declared.command.CommandFault.TheVariants as command_fault
use Rattle.table.specs.declared.refusal.Refusal.{Refusal}
use Rattle.table.specs.Faults.{bytes_after_at, cut_at}
use Rattle.sheet.specs.declared.command.Effect.{Effect}
use Rattle.sheet.specs.declared.command.Effect.TheVariants.{Completes, Ends}
use Rattle.sheet.specs.Commands.{command_answer, command_left, answer_with, left_with, fault_at}
use Rattle.sheet.specs.Language.{Grammar, accepted, refused, After, stops, moves, Step}
use Rattle.sheet.proofs.Total.{begun, acted, ended, step_holds}

module _ {S R : Type 0} (g : Grammar S R) (j : List R → R → Option Refusal) (s : S) (table : List R) (place : ℕ) where
  bad_with : (tag : ℕ) (rest : List ℕ) (o : Option ℕ) (b : CommandFault) → Err b ≡ answer_with g s tag rest o → stops (refused (fault_at b place)) ≡ begun g j s table place o tag rest
  bad_with tag rest None b e = let f : b ≡ command_fault.NotAllowed = cc in rw f refl
  bad_with tag rest (Some n) b e = on (ltb (length rest) n) e
    where
      on : (t : Bool) → ◌≡◌ {A = Result (Effect R × ℕ) CommandFault} (Err b) (cond t (Err command_fault.Cut) (Ok (g.effect s tag (take n rest), n))) → ◌≡◌ {A = After S R} (stops (refused (fault_at b place))) (cond t (stops (refused (cut_at place))) (acted g j s table place (g.effect s tag (take n rest)) (g.next s tag (take n rest)) n (drop n rest)))
      on true f = let h : b ≡ command_fault.Cut = cc in rw h refl
      on false f = cc

  good_with : (tag : ℕ) (rest : List ℕ) (o : Option ℕ) (f : Effect R) (n : ℕ) → Ok (f, n) ≡ answer_with g s tag rest o → acted g j s table place f (left_with g s tag rest o) n (drop n rest) ≡ begun g j s table place o tag rest
  good_with tag rest None f n e = cc
  good_with tag rest (Some m) f n e = on (ltb (length rest) m) e
    where
      on : (t : Bool) → ◌≡◌ {A = Result (Effect R × ℕ) CommandFault} (Ok (f, n)) (cond t (Err command_fault.Cut) (Ok (g.effect s tag (take m rest), m))) → ◌≡◌ {A = After S R} (acted g j s table place f (cond t s (g.next s tag (take m rest))) n (drop n rest)) (cond t (stops (refused (cut_at place))) (acted g j s table place (g.effect s tag (take m rest)) (g.next s tag (take m rest)) m (drop m rest)))
      on true h = cc
      on false h =
          let both : ◌≡◌ {A = Effect R × ℕ} (f, n) (g.effect s tag (take m rest), m) = cc in
          let p : f ≡ g.effect s tag (take m rest) = ap (λ (x : Effect R × ℕ). x.0) both in
          let q : n ≡ m = ap (λ (x : Effect R × ℕ). x.1) both in
          rw (p, q) refl

  module _ {bytes : List ℕ} {tag : ℕ} {rest : List ℕ} (stand : bytes ≡ tag ∷ rest) where
    from_step : (x : After S R) → x ≡ begun g j s table place (g.takes s tag) tag rest → Step g j s table place bytes x
    from_step x e = rw (stand, e) (step_holds g j s table place (tag ∷ rest))

    pub bad_at : (b : CommandFault) → Err b ≡ command_answer g s tag rest → Step g j s table place bytes (stops (refused (fault_at b place)))
    bad_at b e = from_step (stops (refused (fault_at b place))) (bad_with tag rest (g.takes s tag) b e)

    pub good_at : (f : Effect R) (n : ℕ) → Ok (f, n) ≡ command_answer g s tag rest → Step g j s table place bytes (acted g j s table place f (command_left g s tag rest) n (drop n rest))
    good_at f n e = from_step (acted g j s table place f (command_left g s tag rest) n (drop n rest)) (good_with tag rest (g.takes s tag) f n e)

    pub ended_at : (n : ℕ) → Ok (Ends, n) ≡ command_answer g s tag rest → length (drop n rest) ≡ 0 → Step g j s table place bytes (stops (accepted table))
    ended_at n e l = let k : drop n rest ≡ [] = nil_from_length _ l in rw k at (good_at Ends n e)

    pub trailing_at : (n : ℕ) → Ok (Ends, n) ≡ command_answer g s tag rest → 0 < length (drop n rest) → Step g j s table place bytes (stops (refused (bytes_after_at (place + 1 + n))))
    trailing_at n e l = on (drop n rest) l (good_at Ends n e)
      where
        on : (left : List ℕ) → 0 < length left → Step g j s table place bytes (ended g j s table place n left) → Step g j s table place bytes (stops (refused (bytes_after_at (place + 1 + n))))
        on [] l d = absurd (omega arith)
        on (x ∷ xs) l d = d

-- a command that completes a row, which is added to the table of the first rows of a memory
module _ {S R : Type 0} (g : Grammar S R) (kind : Kind R) (s : S) (rows : List R) (count place : ℕ) (room : 32 ≤ length rows) (few : count ≤ 32) {bytes : List ℕ} {tag : ℕ} {rest : List ℕ} (stand : bytes ≡ tag ∷ rest) (row : R) (n : ℕ) (does : Ok (Completes row, n) ≡ command_answer g s tag rest) where
  pub barred_at : (fault : PlanFault) → append_fault kind rows count row ≡ Some fault → Step g (append_refusal kind) s (take count rows) place bytes (stops (refused (RowInSheet fault place)))
  barred_at fault f =
      let (why, judged, made) = barred kind rows count row room fault f in
      let l : length (take count rows) ≡ count = length-take-le count rows (omega arith) in
      rw (judged, l, ← made) at (good_at g (append_refusal kind) s (take count rows) place stand (Completes row) n does)

  pub enters_at : append_fault kind rows count row ≡ None → Step g (append_refusal kind) s (take count rows) place bytes (moves (command_left g s tag rest) (take (count + 1) (set rows count row)) (place + 1 + n) (drop n rest))
  enters_at f =
      let l : count < 32 = not_full kind rows count row room f in
      rw (take_more_set rows count row (omega arith)) (rw (not_barred kind rows count row room f) at (good_at g (append_refusal kind) s (take count rows) place stand (Completes row) n does))

-- a call's result, of which `map_err` made m
module _ {T E D : Type 0} {r : Result T E} {m : Result T D} (Q : E → D → Type 0) where
  pub mapped_ok : {x : T} → m ≡ Ok x → MatchResult r (λ y. m ≡ Ok y) (λ e. IsErrAnd m (Q e)) → r ≡ Ok x
  mapped_ok {x} is h = on r h
    where
      on : (r : Result T E) → MatchResult r (λ y. m ≡ Ok y) (λ e. IsErrAnd m (Q e)) → r ≡ Ok x
      on (Ok y) h = cc
      on (Err e) h = let (d, k, q) = err_from_is_err_and m h in cc

  pub mapped_err : {d : D} → m ≡ Err d → MatchResult r (λ y. m ≡ Ok y) (λ e. IsErrAnd m (Q e)) → (e : E) × (r ≡ Err e) × Q e d
  mapped_err {d} is h = on r h
    where
      on : (r : Result T E) → MatchResult r (λ y. m ≡ Ok y) (λ e. IsErrAnd m (Q e)) → (e : E) × (r ≡ Err e) × Q e d
      on (Ok y) h = cc
      on (Err e) h = let (c, k, q) = err_from_is_err_and m h in let same : c ≡ d = cc in (e, refl, subst (Q e) same q)
