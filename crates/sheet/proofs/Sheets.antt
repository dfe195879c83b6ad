-- Whole sheets: one verdict each. Assumes nothing.
use Rattle.std.proofs.Common.{◌≡◌, ℕ, ◌+◌, Bool, true, false, cond, eqb, List, [], ◌∷◌, ◌++◌, length, Option, sym, refl, ap, ◌∙◌, arith}
use Rattle.std.proofs.lemmas.List.{append_assoc, length-append}
use Rattle.std.proofs.lemmas.Bool.{eq-eqb, ne_eqb, eqb-true, eqb-false}
use Rattle.table.specs.declared.refusal.Refusal.{Refusal}
use Rattle.table.specs.Faults.{not_allowed_at, cut_at, bytes_after_at}
use Rattle.sheet.specs.Language.{Grammar, Outcome, accepted, refused, Parses, stop, move, Command, goes, enters, ends, trailing}
use Rattle.sheet.specs.Sheets.{Verdict, good, bad, Sheet, no_kind, other_kind, no_letter, other_letter, body, body_refused, OneVerdict, NothingFollows}
use Rattle.sheet.proofs.Total.{one_outcome}

module _ {S R : Type 0} (g : Grammar S R) (j : List R → R → Option Refusal) (kind : ℕ) (letters : ℕ → Bool) where
  abbrev of : ℕ → Outcome R → Verdict R
  of letter (accepted table) = good table letter
  of letter (refused f) = bad f

  outcome_of : List ℕ → Outcome R
  outcome_of rest = (one_outcome S R g j g.start [] 2 rest).outcome

  abbrev lettered : List ℕ → Verdict R
  lettered [] = bad (cut_at 1)
  lettered (l ∷ rest) = cond (letters l) (of l (outcome_of rest)) (bad (not_allowed_at 1))

  abbrev computed : List ℕ → Verdict R
  computed [] = bad (cut_at 0)
  computed (tag ∷ xs) = cond (eqb tag kind) (lettered xs) (bad (not_allowed_at 0))

  only_outcome : (rest : List ℕ) (o : Outcome R) → Parses g j g.start [] 2 rest o → outcome_of rest ≡ o
  unfolding outcome_of
  only_outcome rest o r = sym ((one_outcome S R g j g.start [] 2 rest).only o r)

  its_outcome : (rest : List ℕ) → Parses g j g.start [] 2 rest (outcome_of rest)
  unfolding outcome_of
  its_outcome rest = (one_outcome S R g j g.start [] 2 rest).reads

  only_verdict : {bytes : List ℕ} {v : Verdict R} → Sheet g j kind letters bytes v → v ≡ computed bytes
  only_verdict (no_kind e) = rw e refl
  only_verdict (other_kind {tag = tag} {rest = rest} e n) = let t : eqb tag kind ≡ false = ne_eqb tag kind n in rw (e, t) refl
  only_verdict (no_letter e) = let t : eqb kind kind ≡ true = eq-eqb kind kind refl in rw (e, t) refl
  only_verdict (other_letter {letter = l} {rest = rest} e n) = let t : eqb kind kind ≡ true = eq-eqb kind kind refl in rw (e, t, n) refl
  only_verdict (body {letter = l} {rest = rest} {table = table} e n r) =
      let t : eqb kind kind ≡ true = eq-eqb kind kind refl in
      let o : outcome_of rest ≡ accepted table = only_outcome rest (accepted table) r in
      rw (e, t, n, o) refl
  only_verdict (body_refused {letter = l} {rest = rest} {fault = f} e n r) =
      let t : eqb kind kind ≡ true = eq-eqb kind kind refl in
      let o : outcome_of rest ≡ refused f = only_outcome rest (refused f) r in
      rw (e, t, n, o) refl

  its_verdict : (bytes : List ℕ) → Sheet g j kind letters bytes (computed bytes)
  its_verdict [] = no_kind refl
  its_verdict (tag ∷ xs) = on (eqb tag kind) refl
    where
      by : (o : Outcome R) (l : ℕ) (rest : List ℕ) → tag ≡ kind → letters l ≡ true → Parses g j g.start [] 2 rest o → Sheet g j kind letters (tag ∷ l ∷ rest) (of l o)
      by (accepted table) l rest e n r = body (ap (λ (t : ℕ). t ∷ l ∷ rest) e) n r
      by (refused f) l rest e n r = body_refused (ap (λ (t : ℕ). t ∷ l ∷ rest) e) n r

      at_letter : (l : ℕ) (rest : List ℕ) (b : Bool) → letters l ≡ b → tag ≡ kind → Sheet g j kind letters (tag ∷ l ∷ rest) (cond b (of l (outcome_of rest)) (bad (not_allowed_at 1)))
      at_letter l rest true n e = by (outcome_of rest) l rest e n (its_outcome rest)
      at_letter l rest false n e = other_letter (ap (λ (t : ℕ). t ∷ l ∷ rest) e) n

      after_kind : (ys : List ℕ) → tag ≡ kind → Sheet g j kind letters (tag ∷ ys) (lettered ys)
      after_kind [] e = no_letter (ap (λ (t : ℕ). t ∷ []) e)
      after_kind (l ∷ rest) e = at_letter l rest (letters l) refl e

      on : (b : Bool) → eqb tag kind ≡ b → Sheet g j kind letters (tag ∷ xs) (cond b (lettered xs) (bad (not_allowed_at 0)))
      on true e = after_kind xs (eqb-true tag kind e)
      on false e = other_kind refl (eqb-false tag kind e)

  -- more bytes after a command
  command_more : {s : S} {bytes : List ℕ} {tag : ℕ} {operands rest : List ℕ} (xs : List ℕ) → Command g j s bytes tag operands rest → Command g j s (bytes ++ xs) tag operands (rest ++ xs)
  command_more {tag = tag} {operands = operands} {rest = rest} xs c =
      record { stand = ap (λ (b : List ℕ). b ++ xs) c.stand ∙ ap (λ (b : List ℕ). tag ∷ b) (append_assoc operands rest xs); allowed = c.allowed }

  size : {s : S} {bytes : List ℕ} {tag : ℕ} {operands rest : List ℕ} → Command g j s bytes tag operands rest → length bytes ≡ 1 + length operands + length rest
  size {operands = operands} {rest = rest} c = omega (arith, ap length c.stand, length-append operands rest)

  follows : {s : S} {table all : List R} {place : ℕ} {bytes : List ℕ} (more : ℕ) (xs : List ℕ) → Parses g j s table place bytes (accepted all) → Parses g j s table place (bytes ++ more ∷ xs) (refused (bytes_after_at (place + length bytes)))
  follows {s} {table} {all} {place} {bytes} more xs (stop (ends {operands = operands} c e)) =
      let n : place + length bytes ≡ place + 1 + length operands = omega (arith, size c) in
      rw n (stop (trailing (command_more (more ∷ xs) c) e))
  follows {s} {table} {all} {place} {bytes} more xs (move (goes {operands = operands} {rest = rest} c e) r) =
      let n : place + length bytes ≡ place + 1 + length operands + length rest = omega (arith, size c) in
      rw n (move (goes (command_more (more ∷ xs) c) e) (follows more xs r))
  follows {s} {table} {all} {place} {bytes} more xs (move (enters {operands = operands} {rest = rest} c e f) r) =
      let n : place + length bytes ≡ place + 1 + length operands + length rest = omega (arith, size c) in
      rw n (move (enters (command_more (more ∷ xs) c) e f) (follows more xs r))

pub one_verdict : (S R : Type 0) → OneVerdict S R
one_verdict S R g j kind letters bytes = record { verdict = computed g j kind letters bytes; sheet = its_verdict g j kind letters bytes; only = λ v d. only_verdict g j kind letters d }

pub nothing_follows : (S R : Type 0) → NothingFollows S R
nothing_follows S R g j kind letters bytes table letter more xs (body {rest = rest} e n r) =
    let l : length bytes ≡ 2 + length rest = omega (arith, ap length e) in
    rw l (body_refused (ap (λ (b : List ℕ). b ++ more ∷ xs) e) n (follows g j kind letters more xs r))
