-- A memory whose first 32 rows a sheet was read into. Assumes nothing.
use Rattle.std.proofs.Common.{◌≡◌, ℕ, ◌≤◌, Bool, true, leb, List, ◌++◌, length, take, drop, Ok, Err, Option, Result, sym, refl, ap, arith}
use Rattle.std.proofs.lemmas.List.{drop_at, length-append, length-take-le, take-append-le}
use Rattle.std.proofs.lemmas.Bool.{le-leb}
use Rattle.std.specs.Result.{MatchResult, IfOk}
use Rattle.table.specs.declared.fault.Fault.{Fault}
use Rattle.table.specs.declared.refusal.Refusal.{Refusal}
use Rattle.table.specs.Tables.{blanked, written}
use Rattle.sheet.specs.Language.{Grammar}
use Rattle.sheet.specs.Readers.{verdict_of}
use Rattle.sheet.specs.Sheets.{Sheet, good, bad, Replaces}

module _ {R : Type 0} (blank : R) (before first : List R) (room : 32 ≤ length before) (size : length first ≡ 32) where
  -- the first n of them stay, and the rest of the 32 is blank
  blanked_is : (n : ℕ) → n ≤ 32 → blanked blank n (first ++ drop 32 before) ≡ written blank (take n first) before
  blanked_is n l =
      let a : leb 32 (length (first ++ drop 32 before)) ≡ true = le-leb _ _ (omega (arith, length-append first (drop 32 before))) in
      let b : leb n 32 ≡ true = le-leb n 32 l in
      let d : drop 32 (first ++ drop 32 before) ≡ drop 32 before = drop_at first (drop 32 before) 32 size in
      let t : take n (first ++ drop 32 before) ≡ take n first = take-append-le n first (drop 32 before) (omega arith) in
      rw (a, b, t, d) refl

  pub replaces : {S : Type 0} {g : Grammar S R} {judge : List R → R → Option Refusal} {mark : ℕ} {letters : ℕ → Bool} {bytes : List ℕ} (n : ℕ) (r : Result (ℕ × ℕ) Fault) → Sheet g judge mark letters bytes (verdict_of first r) → IfOk r (λ x. x.0 ≤ 32) → MatchResult r (λ x. n ≡ x.0) (λ f. n ≡ 0) → Replaces g judge mark letters blank bytes before (blanked blank n (first ++ drop 32 before)) r
  replaces n (Ok (count, letter)) sheet few e =
      record {
        short = λ l. absurd (omega arith);
        long = λ l. record { verdict = good (take count first) letter; sheet = sheet; answered = ap (λ (k : ℕ). Ok (k, letter)) (sym (length-take-le count first (omega arith))); memory = rw e (blanked_is count few) };
      }
  replaces n (Err fault) sheet few e =
      record {
        short = λ l. absurd (omega arith);
        long = λ l. record { verdict = bad fault; sheet = sheet; answered = refl; memory = rw e (blanked_is 0 (omega arith)) };
      }
