-- The verdict and the report of a sheet, computed. Assumes nothing.
use Rattle.std.proofs.Common.{◌≡◌, ℕ, zero, suc, ◌+◌, ◌≤◌, Bool, true, false, cond, eqb, List, [], ◌∷◌, ◌++◌, length, Some, None, Option, sym, refl, ap, ◌∙◌, subst, inl, inr, append_assoc, append-nil, arith, length-append}
use mathlib.Core.List.Memᴰ
use mathlib.Core.List.{cons≢nil}
use Rattle.std.proofs.lemmas.Bool.{eqb-true, eqb-false}
use Rattle.std.specs.Option.{option_map}
use Rattle.model.specs.Bags.{◌∈◌}
use Rattle.model.specs.Rows.{Kind}
use Rattle.feasibility.specs.Tests.{Answers}
use Rattle.feasibility.specs.Masks.{row_of}
use Rattle.assign.specs.Assignment.{Outcome, accepted, stuck, over, others, under_others, Takes, Assigned, finished, level, empty_level}
use Rattle.assign.specs.Laws.{all_places}
use Rattle.assign.proofs.Bags.{length-~}
use Rattle.assign.proofs.Outcomes.{takes_in}
use Rattle.assign.proofs.Steps.{length_places}
use Rattle.table.specs.Faults.{not_allowed_at, cut_at}
use Rattle.table.specs.Tables.{append_refusal}
use Rattle.sheet.specs.Language.{Grammar, After, stops, moves, Parses, stop, move, Step}
use Rattle.sheet.specs.Language as language
use Rattle.sheet.specs.Sheets.{Verdict, good, bad, Sheet, no_kind, other_kind, no_letter, other_letter, body, body_refused}
use Rattle.sheet.proofs.Total.{step, step_holds}
use Rattle.report.specs.Reports.{refused_bytes}
use Rattle.planning.specs.Planned.{outcome_report, Planned, refused, arranged}

pub none_some : {X : Type 0} {x : X} → ◌≡◌ {A = Option X} None (Some x) → ⊥
none_some e = let z : ◌≡◌ {A = ℕ} 0 1 = cc in omega arith

-- ---- the assignment

module _ {R : Type 0} (answer : R → List R → Option ℕ) (row : ℕ → R) where
  abbrev pick : ℕ → ℕ → Option ℕ → Option (ℕ × ℕ × ℕ) → Option (ℕ × ℕ × ℕ)
  pick x k (Some b) rest = Some (x, b, k + 1)
  pick x k None rest = rest

  -- the first of the candidates with a bound, that bound, and the questions put
  abbrev first_fit : List ℕ → List ℕ → ℕ → Option (ℕ × ℕ × ℕ)
  first_fit pool [] k = None
  first_fit pool (x ∷ xs) k = pick x k (under_others answer row pool x) (first_fit pool xs (k + 1))

  abbrev emptied : List ℕ → Outcome
  emptied [] = accepted [] [] 0
  emptied (x ∷ xs) = stuck (x ∷ xs) (length (x ∷ xs))

  abbrev filled : (List ℕ → Outcome) → List ℕ → Option (ℕ × ℕ × ℕ) → Outcome
  filled above pool None = emptied pool
  filled above pool (Some (p, b, q)) = over p b q (above (others p pool))

  abbrev pub assigned : ℕ → List ℕ → Outcome
  assigned zero pool = accepted [] [] 0
  assigned (suc n) pool = filled (assigned n) pool (first_fit pool pool 0)

  Tried : List ℕ → Option (ℕ × ℕ × ℕ) → Type 0
  Tried pool None = (x : ℕ) → x ∈ pool → under_others answer row pool x ≡ None
  Tried pool (Some (p, b, q)) = Takes answer row pool p b q

  tries : (pool before after : List ℕ) (k : ℕ) → pool ≡ before ++ after → k ≡ length before → ((x : ℕ) → x ∈ before → under_others answer row pool x ≡ None) → Tried pool (first_fit pool after k)
  unfolding Tried
  tries pool before [] k e l f = λ x m. f x (subst (λ (xs : List ℕ). x ∈ xs) (e ∙ append-nil before) m)
  tries pool before (p ∷ after) k e l f = go (under_others answer row pool p) refl (tries pool (before ++ p ∷ []) after (k + 1))
    where
      go : (a : Option ℕ) → under_others answer row pool p ≡ a
          → (pool ≡ (before ++ p ∷ []) ++ after → k + 1 ≡ length (before ++ p ∷ []) → ((x : ℕ) → x ∈ before ++ p ∷ [] → under_others answer row pool x ≡ None) → Tried pool (first_fit pool after (k + 1)))
          → Tried pool (pick p k a (first_fit pool after (k + 1)))
      go (Some b) h ih = record { before = before; after = after; stands = e; failed = f; fits = h; count = ap (λ n. n + 1) l }
      go None h ih =
          ih (e ∙ sym (append_assoc before (p ∷ []) after)) (omega (arith, length-append before (p ∷ [])))
          (λ x m. elim (Memᴰ.append_cases before m) [ inl i ↦ f x i | inr i ↦ ap (under_others answer row pool) (Memᴰ.eq_of_singleton i) ∙ h ])

  pub assigned_is : (n : ℕ) (pool : List ℕ) → length pool ≤ n → Assigned answer row pool (assigned n pool)
  unfolding Tried
  assigned_is zero [] l = finished
  assigned_is zero (x ∷ xs) l = absurd (omega arith)
  assigned_is (suc n) pool l = go (first_fit pool pool 0) (tries pool [] pool 0 refl refl (λ z m. elim m [ ])) (assigned_is n)
    where
      go : (o : Option (ℕ × ℕ × ℕ)) → Tried pool o → ((rest : List ℕ) → length rest ≤ n → Assigned answer row rest (assigned n rest)) → Assigned answer row pool (filled (assigned n) pool o)
      go (Some (p, b, q)) t ih = level t (ih (others p pool) (omega (arith, length-~ (takes_in answer row t))))
      go None f ih = none pool f
        where
          none : (xs : List ℕ) → ((x : ℕ) → x ∈ xs → under_others answer row xs x ≡ None) → Assigned answer row xs (emptied xs)
          none [] f = finished
          none (x ∷ xs) f = empty_level (record { some_left = cons≢nil; no_bound = f })

-- ---- the verdict

module _ {S R : Type 0} (g : Grammar S R) (kind : Kind R) (mark : ℕ) (letters : ℕ → Bool) where
  abbrev goes_on : (S → List R → ℕ → List ℕ → Option (language.Outcome R)) → After S R → Option (language.Outcome R)
  goes_on rest (stops o) = Some o
  goes_on rest (moves s table place left) = rest s table place left

  -- the outcome, if at most n commands come to it
  abbrev parse_by : ℕ → S → List R → ℕ → List ℕ → Option (language.Outcome R)
  parse_by zero s table place bytes = None
  parse_by (suc n) s table place bytes = goes_on (parse_by n) (step g (append_refusal kind) s table place bytes)

  parses_by : (n : ℕ) (s : S) (table : List R) (place : ℕ) (bytes : List ℕ) (o : language.Outcome R) → parse_by n s table place bytes ≡ Some o → Parses g (append_refusal kind) s table place bytes o
  parses_by zero s table place bytes o e = absurd (none_some e)
  parses_by (suc n) s table place bytes o e = go (step g (append_refusal kind) s table place bytes) (step_holds g (append_refusal kind) s table place bytes) (parses_by n) e
    where
      go : (a : After S R) → Step g (append_refusal kind) s table place bytes a
          → ((t : S) (more : List R) (p : ℕ) (left : List ℕ) (o : language.Outcome R) → parse_by n t more p left ≡ Some o → Parses g (append_refusal kind) t more p left o)
          → goes_on (parse_by n) a ≡ Some o → Parses g (append_refusal kind) s table place bytes o
      go (stops x) d ih f = let same : x ≡ o = cc in subst (λ y. Parses g (append_refusal kind) s table place bytes y) same (stop d)
      go (moves t more p left) d ih f = move d (ih t more p left o f)

  abbrev verdict_of : ℕ → language.Outcome R → Verdict R
  verdict_of letter (language.accepted table) = good table letter
  verdict_of letter (language.refused f) = bad f

  -- the verdict, if at most n commands come to an outcome
  abbrev pub verdict_by : ℕ → List ℕ → Option (Verdict R)
  verdict_by n [] = Some (bad (cut_at 0))
  verdict_by n (k ∷ []) = Some (bad (cond (eqb k mark) (cut_at 1) (not_allowed_at 0)))
  verdict_by n (k ∷ l ∷ rest) =
      cond (eqb k mark) (cond (letters l) (option_map (verdict_of l) (parse_by n g.start [] 2 rest)) (Some (bad (not_allowed_at 1)))) (Some (bad (not_allowed_at 0)))

  abbrev Holds : List ℕ → Verdict R → Type 0
  Holds sheet v = Sheet g (append_refusal kind) mark letters sheet v

  same_verdict : (sheet : List ℕ) (v w : Verdict R) → Holds sheet v → Some v ≡ Some w → Holds sheet w
  same_verdict sheet v w d e = let same : v ≡ w = cc in subst (Holds sheet) same d

  by_outcome : (n k l : ℕ) (rest : List ℕ) (o : language.Outcome R) → k ≡ mark → letters l ≡ true → parse_by n g.start [] 2 rest ≡ Some o → Holds (k ∷ l ∷ rest) (verdict_of l o)
  by_outcome n k l rest (language.accepted table) e f h = body (ap (λ x. x ∷ l ∷ rest) e) f (parses_by n g.start [] 2 rest (language.accepted table) h)
  by_outcome n k l rest (language.refused fault) e f h = body_refused (ap (λ x. x ∷ l ∷ rest) e) f (parses_by n g.start [] 2 rest (language.refused fault) h)

  pub verdict_holds : (n : ℕ) (sheet : List ℕ) (v : Verdict R) → verdict_by n sheet ≡ Some v → Sheet g (append_refusal kind) mark letters sheet v
  verdict_holds n [] v e = same_verdict [] (bad (cut_at 0)) v (no_kind refl) e
  verdict_holds n (k ∷ []) v e = same_verdict (k ∷ []) (bad (cond (eqb k mark) (cut_at 1) (not_allowed_at 0))) v (go (eqb k mark) refl) e
    where
      go : (b : Bool) → eqb k mark ≡ b → Holds (k ∷ []) (bad (cond b (cut_at 1) (not_allowed_at 0)))
      go true f = no_letter (ap (λ x. x ∷ []) (eqb-true k mark f))
      go false f = other_kind refl (eqb-false k mark f)
  verdict_holds n (k ∷ l ∷ rest) v e = at_kind (eqb k mark) refl e
    where
      at_outcome : (o : Option (language.Outcome R)) → parse_by n g.start [] 2 rest ≡ o → k ≡ mark → letters l ≡ true → option_map (verdict_of l) o ≡ Some v → Holds (k ∷ l ∷ rest) v
      at_outcome None p f m h = absurd (none_some h)
      at_outcome (Some o) p f m h = same_verdict (k ∷ l ∷ rest) (verdict_of l o) v (by_outcome n k l rest o f m p) h

      at_letter : (b : Bool) → letters l ≡ b → k ≡ mark → cond b (option_map (verdict_of l) (parse_by n g.start [] 2 rest)) (Some (bad (not_allowed_at 1))) ≡ Some v → Holds (k ∷ l ∷ rest) v
      at_letter true m f h = at_outcome (parse_by n g.start [] 2 rest) refl f m h
      at_letter false m f h = same_verdict (k ∷ l ∷ rest) (bad (not_allowed_at 1)) v (other_letter (ap (λ x. x ∷ l ∷ rest) f) m) h

      at_kind : (b : Bool) → eqb k mark ≡ b → cond b (cond (letters l) (option_map (verdict_of l) (parse_by n g.start [] 2 rest)) (Some (bad (not_allowed_at 1)))) (Some (bad (not_allowed_at 0))) ≡ Some v → Holds (k ∷ l ∷ rest) v
      at_kind true f h = at_letter (letters l) refl (eqb-true k mark f) h
      at_kind false f h = same_verdict (k ∷ l ∷ rest) (bad (not_allowed_at 0)) v (other_kind refl (eqb-false k mark f)) h

-- ---- the report

module _ {S R : Type 0} (g : Grammar S R) (kind : Kind R) (mark : ℕ) (letters : ℕ → Bool) (tests : ℕ → Answers R) where
  abbrev reported : Verdict R → List ℕ
  reported (good table letter) = outcome_report kind table (assigned (tests letter).answer (row_of kind table) (length table) (all_places table))
  reported (bad f) = refused_bytes f

  -- the report, if at most n commands come to an outcome
  abbrev pub plan_by : ℕ → List ℕ → Option (List ℕ)
  plan_by n sheet = option_map reported (verdict_by g kind mark letters n sheet)

  by_verdict : (sheet : List ℕ) (v : Verdict R) → Sheet g (append_refusal kind) mark letters sheet v → Planned g kind mark letters tests sheet (reported v)
  by_verdict sheet (good table letter) d =
      arranged d (assigned_is (tests letter).answer (row_of kind table) (length table) (all_places table) (omega (arith, length_places (length table))))
  by_verdict sheet (bad f) d = refused d

  pub planned : (n : ℕ) (sheet report : List ℕ) → plan_by n sheet ≡ Some report → Planned g kind mark letters tests sheet report
  planned n sheet report e = go (verdict_by g kind mark letters n sheet) refl e
    where
      go : (o : Option (Verdict R)) → verdict_by g kind mark letters n sheet ≡ o → option_map reported o ≡ Some report → Planned g kind mark letters tests sheet report
      go None p h = absurd (none_some h)
      go (Some v) p h =
          let same : reported v ≡ report = cc in
          subst (λ r. Planned g kind mark letters tests sheet r) same (by_verdict sheet v (verdict_holds g kind mark letters n sheet v p))
