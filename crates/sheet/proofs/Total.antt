-- Every byte string has exactly one outcome. Assumes nothing.
use Rattle.std.proofs.Common.{◌≡◌, ℕ, zero, suc, ◌+◌, ◌<◌, ◌≤◌, Bool, true, false, cond, ltb, List, [], ◌∷◌, ◌++◌, length, take, drop, Some, None, Option, sym, refl, ap, ◌∙◌, subst, arith}
use Rattle.std.proofs.lemmas.List.{take_at, drop_at, take-append-drop, length-take-le, length-append}
use Rattle.std.proofs.lemmas.Bool.{ltb-true, ltb-false, lt-ltb, le-ltb}
use Rattle.table.specs.declared.refusal.Refusal.{Refusal}
use Rattle.table.specs.Faults.{not_allowed_at, cut_at, too_many_segments_at, row_refused_at, bytes_after_at}
use Rattle.sheet.specs.declared.command.Effect.{Effect}
use Rattle.sheet.specs.declared.command.Effect.TheVariants.{Continues, Completes, Ends, TooManySegments}
use Rattle.sheet.specs.Language.{Grammar, Outcome, accepted, refused, After, stops, moves, Command, Step, missing, strange, cut, ninth, goes, enters, barred, ends, trailing, Parses, stop, move, OneOutcome}

module _ {S R : Type 0} (g : Grammar S R) (judge : List R → R → Option Refusal) where
  module _ (s : S) (table : List R) (place : ℕ) where
    -- the same, computed
    abbrev pub judged : Option Refusal → R → S → ℕ → List ℕ → After S R
    judged None row t n rest = moves t (table ++ row ∷ []) (place + 1 + n) rest
    judged (Some why) row t n rest = stops (refused (row_refused_at why (length table) place))

    abbrev pub ended : ℕ → List ℕ → After S R
    ended n [] = stops (accepted table)
    ended n (x ∷ xs) = stops (refused (bytes_after_at (place + 1 + n)))

    abbrev pub acted : Effect R → S → ℕ → List ℕ → After S R
    acted Continues t n rest = moves t table (place + 1 + n) rest
    acted (Completes row) t n rest = judged (judge table row) row t n rest
    acted Ends t n rest = ended n rest
    acted TooManySegments t n rest = stops (refused (too_many_segments_at place))

    abbrev pub begun : Option ℕ → ℕ → List ℕ → After S R
    begun None tag rest = stops (refused (not_allowed_at place))
    begun (Some n) tag rest = cond (ltb (length rest) n) (stops (refused (cut_at place))) (acted (g.effect s tag (take n rest)) (g.next s tag (take n rest)) n (drop n rest))

    abbrev pub step : List ℕ → After S R
    step [] = stops (refused (cut_at place))
    step (tag ∷ rest) = begun (g.takes s tag) tag rest

    -- a whole command, acted on
    whole : (bytes : List ℕ) (tag : ℕ) (operands rest : List ℕ) → Command g judge s bytes tag operands rest → step bytes ≡ acted (g.effect s tag operands) (g.next s tag operands) (length operands) rest
    whole bytes tag operands rest c =
        let w : take (length operands) (operands ++ rest) ≡ operands = take_at operands rest (length operands) refl in
        let d : drop (length operands) (operands ++ rest) ≡ rest = drop_at operands rest (length operands) refl in
        let l : ltb (length (operands ++ rest)) (length operands) ≡ false = le-ltb (length (operands ++ rest)) (length operands) (omega (arith, length-append operands rest)) in
        rw (c.stand, c.allowed, l, w, d) refl

    pub only_step : {bytes : List ℕ} {x : After S R} → Step g judge s table place bytes x → x ≡ step bytes
    only_step (missing e) = rw e refl
    only_step (strange e n) = rw (e, n) refl
    only_step {bytes} (cut {tag = tag} {width = width} {rest = rest} e n l) =
        let t : ltb (length rest) width ≡ true = lt-ltb (length rest) width l in
        rw (e, n, t) refl
    only_step {bytes} (ninth {tag = b} {operands = xs} {rest = r} c e) = rw (whole bytes b xs r c, e) refl
    only_step {bytes} (goes {tag = b} {operands = xs} {rest = r} c e) = rw (whole bytes b xs r c, e) refl
    only_step {bytes} (enters {tag = b} {operands = xs} {rest = r} c e j) = rw (whole bytes b xs r c, e, j) refl
    only_step {bytes} (barred {tag = b} {operands = xs} {rest = r} c e j) = rw (whole bytes b xs r c, e, j) refl
    only_step {bytes} (ends {tag = b} {operands = xs} c e) = rw (whole bytes b xs [] c, e) refl
    only_step {bytes} (trailing {tag = b} {more = m} {operands = xs} {rest = r} c e) = rw (whole bytes b xs (m ∷ r) c, e) refl

    whole_command : (tag n : ℕ) (rest : List ℕ) → g.takes s tag ≡ Some n → n ≤ length rest → Command g judge s (tag ∷ rest) tag (take n rest) (drop n rest)
    whole_command tag n rest e l =
        record { stand = ap (λ (xs : List ℕ). tag ∷ xs) (sym (take-append-drop n rest)); allowed = e ∙ ap (λ (m : ℕ). Some m) (sym (length-take-le n rest l)) }

    pub step_holds : (bytes : List ℕ) → Step g judge s table place bytes (step bytes)
    step_holds [] = missing refl
    step_holds (tag ∷ rest) = from (g.takes s tag) refl
      where
        from_judged : (o : Option Refusal) (row : R) (operands left : List ℕ) → judge table row ≡ o → Command g judge s (tag ∷ rest) tag operands left → g.effect s tag operands ≡ Completes row → Step g judge s table place (tag ∷ rest) (judged o row (g.next s tag operands) (length operands) left)
        from_judged None row operands left j c e = enters c e j
        from_judged (Some why) row operands left j c e = barred c e j

        from_ended : (operands left : List ℕ) → Command g judge s (tag ∷ rest) tag operands left → g.effect s tag operands ≡ Ends → Step g judge s table place (tag ∷ rest) (ended (length operands) left)
        from_ended operands [] c e = ends c e
        from_ended operands (x ∷ xs) c e = trailing c e

        from_acted : (f : Effect R) (operands left : List ℕ) → g.effect s tag operands ≡ f → Command g judge s (tag ∷ rest) tag operands left → Step g judge s table place (tag ∷ rest) (acted f (g.next s tag operands) (length operands) left)
        from_acted Continues operands left e c = goes c e
        from_acted (Completes row) operands left e c = from_judged (judge table row) row operands left refl c e
        from_acted Ends operands left e c = from_ended operands left c e
        from_acted TooManySegments operands left e c = ninth c e

        from_cut : (n : ℕ) (b : Bool) → g.takes s tag ≡ Some n → ltb (length rest) n ≡ b → Step g judge s table place (tag ∷ rest) (cond b (stops (refused (cut_at place))) (acted (g.effect s tag (take n rest)) (g.next s tag (take n rest)) n (drop n rest)))
        from_cut n true e l = cut refl e (ltb-true (length rest) n l)
        from_cut n false e l =
            let m : n ≤ length rest = ltb-false (length rest) n l in
            let w : length (take n rest) ≡ n = length-take-le n rest m in
            subst (λ (k : ℕ). Step g judge s table place (tag ∷ rest) (acted (g.effect s tag (take n rest)) (g.next s tag (take n rest)) k (drop n rest))) w
            (from_acted (g.effect s tag (take n rest)) (take n rest) (drop n rest) refl (whole_command tag n rest e m))

        from : (o : Option ℕ) → g.takes s tag ≡ o → Step g judge s table place (tag ∷ rest) (begun o tag rest)
        from None e = strange refl e
        from (Some n) e = from_cut n (ltb (length rest) n) e refl

  pub shorter : {s t : S} {table table₂ : List R} {place place₂ : ℕ} {bytes left : List ℕ} → Step g judge s table place bytes (moves t table₂ place₂ left) → length left < length bytes
  shorter (goes {tag = b} {operands = xs} {rest = r} c e) = omega (arith, ap length c.stand, length-append xs r)
  shorter (enters {tag = b} {operands = xs} {rest = r} c e j) = omega (arith, ap length c.stand, length-append xs r)

  total : (fuel : ℕ) (s : S) (table : List R) (place : ℕ) (bytes : List ℕ) → length bytes < fuel → (o : Outcome R) × Parses g judge s table place bytes o
  total zero s table place bytes l = absurd (omega arith)
  total (suc k) s table place bytes l = on (total k) (step s table place bytes) (step_holds s table place bytes)
    where
      on : ((t : S) (more : List R) (p : ℕ) (left : List ℕ) → length left < k → (o : Outcome R) × Parses g judge t more p left o) → (x : After S R) → Step g judge s table place bytes x → (o : Outcome R) × Parses g judge s table place bytes o
      on ih (stops o) d = (o, stop d)
      on ih (moves t more p left) d = let (o, r) = ih t more p left (omega (arith, shorter d)) in (o, move d r)

  pub same : {s : S} {table : List R} {place : ℕ} {bytes : List ℕ} {o o₂ : Outcome R} → Parses g judge s table place bytes o → Parses g judge s table place bytes o₂ → o₂ ≡ o
  same {s} {table} {place} {bytes} {o} {o₂} (stop d) (stop e) =
      let x : ◌≡◌ {A = After S R} (stops o) (step s table place bytes) = only_step s table place d in
      let y : ◌≡◌ {A = After S R} (stops o₂) (step s table place bytes) = only_step s table place e in
      cc
  same {s} {table} {place} {bytes} {o} {o₂} (stop d) (move {t = t} {table₂ = more} {place₂ = p} {left = left} e r) =
      let x : ◌≡◌ {A = After S R} (stops o) (step s table place bytes) = only_step s table place d in
      let y : ◌≡◌ {A = After S R} (moves t more p left) (step s table place bytes) = only_step s table place e in
      cc
  same {s} {table} {place} {bytes} {o} {o₂} (move {t = t} {table₂ = more} {place₂ = p} {left = left} d r) (stop e) =
      let x : ◌≡◌ {A = After S R} (stops o₂) (step s table place bytes) = only_step s table place e in
      let y : ◌≡◌ {A = After S R} (moves t more p left) (step s table place bytes) = only_step s table place d in
      cc
  same {s} {table} {place} {bytes} {o} {o₂} (move {t = t} {table₂ = more} {place₂ = p} {left = left} d r) (move {t = u} {table₂ = more₂} {place₂ = p₂} {left = left₂} e q) =
      let x : ◌≡◌ {A = After S R} (moves t more p left) (step s table place bytes) = only_step s table place d in
      let y : ◌≡◌ {A = After S R} (moves u more₂ p₂ left₂) (step s table place bytes) = only_step s table place e in
      let e₁ : u ≡ t = cc in
      let e₂ : more₂ ≡ more = cc in
      let e₃ : p₂ ≡ p = cc in
      let e₄ : left₂ ≡ left = cc in
      same r (rw (← e₁, ← e₂, ← e₃, ← e₄) q)

pub one_outcome : (S R : Type 0) → OneOutcome S R
one_outcome S R g judge s table place bytes =
    let (o, r) = total g judge (suc (length bytes)) s table place bytes (omega arith) in
    record { outcome = o; reads = r; only = λ o₂ r₂. same g judge r r₂ }
