-- What a turn of the search's loops does. Assumes nothing.
use Rattle.std.proofs.Common.{◌≡◌, ℕ, zero, suc, ◌+◌, ◌-◌, ◌*◌, ◌^◌, ◌<◌, ◌≤◌, Bool, true, false, cond, ◌≢◌, ◌⊎◌, List, [], ◌∷◌, ◌++◌, length, get_or, take, drop, set, Some, None, sym, refl, ap, ◌∙◌, subst, inl, inr, append_assoc, append-nil, add-one, arith, length-append, take-append-drop, length-take-le, take-suc}
use mathlib.Core.List.Memᴰ
use lib.Bits.{bit_and}
use lib.Seq.{set_at}
use Rattle.std.proofs.lemmas.Bool.{eqb-true, eqb-false}
use Rattle.model.specs.Rows.{Kind}
use Rattle.feasibility.specs.Tests.{Answers}
use Rattle.feasibility.specs.Masks.{row_of, places, bit_at, has, in_mask, asked}
use Rattle.model.specs.Bags.{◌∈◌}
use Rattle.assign.specs.Assignment.{others, stuck, under_others, Takes, Stuck, Filled, none_yet, one_more}
use Rattle.assign.specs.Laws.{all_places, Arranges}
use Rattle.assign.proofs.Bags.{length-~, no_length}
use Rattle.feasibility.proofs.Bits.{and_out}
use Rattle.feasibility.proofs.Masks.{pool_suc, has_true, has_false, in_more_yes, mask_whole}
use Rattle.assign.proofs.Pools.{pool_at, filled_all, filled_stuck}
use Rattle.assign.proofs.MaskedPools.{in_full, in_out, asked_others}
use Rattle.assign.proofs.Outcomes.{takes_in}
use Rattle.assign.specs.Search.{has_room, Accepts, Sticks}
use Rattle.assign.proofs.Invariants.{Levels, Failed}

-- the code's way to take a place out of a pool
pub taken_is : (x p b : ℕ) → p < 32 → x < 2 ^ 32 → bit_at x p ≡ 1 → b ≡ 2 ^ p → bit_and x (2 ^ 32 - 1 - b) ≡ x - 2 ^ p
taken_is x p b h small e eb = ap (λ n. bit_and x (2 ^ 32 - 1 - n)) eb ∙ and_out x p e 32 h small

-- a place that the pool has or not
pub bit_in : (pool p : ℕ) → has pool p ≡ true → bit_at pool p ≡ 1
bit_in pool p e = eqb-true (bit_at pool p) 1 e

pub bit_out : (pool p : ℕ) → has pool p ≡ false → bit_at pool p ≡ 0
bit_out pool p e = let other : bit_at pool p ≢ 1 = eqb-false (bit_at pool p) 1 e in omega arith

-- the pool's places, one place further
pub in_more_no : (pool p : ℕ) → bit_at pool p ≡ 0 → in_mask pool (p + 1) ≡ in_mask pool p
in_more_no pool p h = ap (in_mask pool) (add-one p) ∙ pool_suc (has pool) p ∙ ap (λ (b : Bool). in_mask pool p ++ cond b (p ∷ []) []) (has_false pool p h) ∙ append-nil (in_mask pool p)

pub count_yes : (pool p : ℕ) → bit_at pool p ≡ 1 → length (in_mask pool (p + 1)) ≡ length (in_mask pool p) + 1
count_yes pool p h = ap length (in_more_yes pool p h) ∙ length-append (in_mask pool p) (p ∷ [])

pub count_no : (pool p : ℕ) → bit_at pool p ≡ 0 → length (in_mask pool (p + 1)) ≡ length (in_mask pool p)
count_no pool p h = ap length (in_more_no pool p h)

pub length_places : (n : ℕ) → length (places n) ≡ n
length_places zero = refl
length_places (suc n) = omega (arith, length-append (places n) (n ∷ []), length_places n)

pub count_full : (pool n : ℕ) → pool ≡ 2 ^ n - 1 → length (in_mask pool n) ≡ n
count_full pool n e = ap (λ (m : ℕ). length (in_mask m n)) e ∙ ap length (in_full n) ∙ length_places n

-- a memory: one entry more
laid_more : (old entries rest : List ℕ) (level p : ℕ) → level < length old → set (take (level + 1) old ++ entries ++ rest) level p ≡ take level old ++ p ∷ entries ++ rest
laid_more old entries rest level p h =
    let x : ℕ = get_or old level 0 in
    let front : take (level + 1) old ≡ take level old ++ x ∷ [] = ap (λ (k : ℕ). take k old) (add-one level) ∙ take-suc old level 0 h in
    let is : take (level + 1) old ++ entries ++ rest ≡ take level old ++ x ∷ (entries ++ rest) = ap (λ (l : List ℕ). l ++ entries ++ rest) front ∙ append_assoc (take level old ++ x ∷ []) entries rest ∙ append_assoc (take level old) (x ∷ []) (entries ++ rest) in
    let len : length (take level old) ≡ level = length-take-le level old (omega arith) in
    ap (λ (l : List ℕ). set l level p) is ∙ set_at (take level old) x (entries ++ rest) p level len ∙ sym (append_assoc (take level old) (p ∷ entries) rest)

module _ {R : Type 0} (kind : Kind R) (test : Answers R) (rows : List R) where
  pub begun : (order bounds : List ℕ) (pool : ℕ) → pool ≡ 2 ^ length rows - 1 → Levels kind test rows order bounds (length rows) pool 0 order bounds
  begun order bounds pool e =
      let all : all_places rows ≡ in_mask pool (length rows) = sym (ap (λ (m : ℕ). in_mask m (length rows)) e ∙ in_full (length rows)) in
      record {
        chosen = [];
        answered = [];
        filled = subst (λ (l : List ℕ). Filled test.answer (row_of kind rows) (all_places rows) l [] [] 0) all none_yet;
        order_is = whole order;
        bounds_is = whole bounds;
      }
    where
      whole : (memory : List ℕ) → memory ≡ take (length rows) memory ++ [] ++ drop (length rows) memory
      whole memory = sym (ap (λ (l : List ℕ). l ++ drop (length rows) memory) (append-nil (take (length rows) memory)) ∙ take-append-drop (length rows) memory)

  pub none_failed : (pool : ℕ) → Failed kind test rows pool 0
  none_failed pool = record { failed = λ x m. elim m [ ] }

  pub failed_yes : (pool p : ℕ) → Failed kind test rows pool p → bit_at pool p ≡ 1 → under_others test.answer (row_of kind rows) (in_mask pool (length rows)) p ≡ None → Failed kind test rows pool (p + 1)
  failed_yes pool p f h e = record { failed = λ x m. at x (Memᴰ.append_cases (in_mask pool p) (subst (λ (l : List ℕ). x ∈ l) (in_more_yes pool p h) m)) }
    where
      at : (x : ℕ) → (x ∈ in_mask pool p) ⊎ (x ∈ p ∷ []) → under_others test.answer (row_of kind rows) (in_mask pool (length rows)) x ≡ None
      at x (inl m) = f.failed x m
      at x (inr m) = ap (under_others test.answer (row_of kind rows) (in_mask pool (length rows))) (Memᴰ.eq_of_singleton m) ∙ e

  pub failed_no : (pool p : ℕ) → Failed kind test rows pool p → bit_at pool p ≡ 0 → Failed kind test rows pool (p + 1)
  failed_no pool p f h = record { failed = λ x m. f.failed x (subst (λ (l : List ℕ). x ∈ l) (in_more_no pool p h) m) }

  pub takes : (pool p b : ℕ) → Failed kind test rows pool p → p < length rows → bit_at pool p ≡ 1 → under_others test.answer (row_of kind rows) (in_mask pool (length rows)) p ≡ Some b → Takes test.answer (row_of kind rows) (in_mask pool (length rows)) p b (length (in_mask pool p) + 1)
  takes pool p b f lt h e =
      let r = pool_at (has pool) (length rows) p lt (has_true pool p h) in
      record { before = in_mask pool p; after = r.0; stands = r.1; failed = f.failed; fits = e; count = refl }

  pub count_after : {pool' : ℕ} (pool p b m : ℕ) → pool' ≡ pool - 2 ^ p → bit_at pool p ≡ 1 → Takes test.answer (row_of kind rows) (in_mask pool (length rows)) p b m → length (in_mask pool (length rows)) ≡ length (in_mask pool' (length rows)) + 1
  count_after {pool'} pool p b m e h t =
      let is : in_mask pool' (length rows) ≡ others p (in_mask pool (length rows)) = ap (λ (k : ℕ). in_mask k (length rows)) e ∙ in_out pool p (length rows) h in
      omega (arith, length-~ (takes_in test.answer (row_of kind rows) t), ap length is)

  pub levels_more : {pool' : ℕ} (order₀ bounds₀ order bounds : List ℕ) (level pool questions p b m questions' : ℕ) → Levels kind test rows order₀ bounds₀ (level + 1) pool questions order bounds → pool' ≡ pool - 2 ^ p → bit_at pool p ≡ 1 → Takes test.answer (row_of kind rows) (in_mask pool (length rows)) p b m → questions' ≡ questions + m → level < length order₀ → level < length bounds₀ → Levels kind test rows order₀ bounds₀ level pool' questions' (set order level p) (set bounds level b)
  levels_more {pool'} order₀ bounds₀ order bounds level pool questions p b m questions' s e h t q lo lb =
      let is : others p (in_mask pool (length rows)) ≡ in_mask pool' (length rows) = sym (ap (λ (k : ℕ). in_mask k (length rows)) e ∙ in_out pool p (length rows) h) in
      record {
        chosen = p ∷ s.chosen;
        answered = b ∷ s.answered;
        filled = subst (λ (l : List ℕ). Filled test.answer (row_of kind rows) (all_places rows) l (p ∷ s.chosen) (b ∷ s.answered) questions') is (subst (λ (k : ℕ). Filled test.answer (row_of kind rows) (all_places rows) (others p (in_mask pool (length rows))) (p ∷ s.chosen) (b ∷ s.answered) k) (sym q) (one_more s.filled t));
        order_is = ap (λ (l : List ℕ). set l level p) s.order_is ∙ laid_more order₀ s.chosen (drop (length rows) order₀) level p lo;
        bounds_is = ap (λ (l : List ℕ). set l level b) s.bounds_is ∙ laid_more bounds₀ s.answered (drop (length rows) bounds₀) level b lb;
      }

  pub accepts : (order₀ bounds₀ order bounds : List ℕ) (level pool questions : ℕ) → Levels kind test rows order₀ bounds₀ level pool questions order bounds → level ≡ 0 → length (in_mask pool (length rows)) ≡ level → has_room rows order₀ bounds₀ ≡ true → Accepts kind test rows order₀ order bounds₀ bounds questions
  accepts order₀ bounds₀ order bounds level pool questions s z len room =
      let none : in_mask pool (length rows) ≡ [] = no_length (in_mask pool (length rows)) (len ∙ z) in
      record {
        room = room;
        chosen = s.chosen;
        answered = s.answered;
        found = filled_all test.answer (row_of kind rows) (subst (λ (l : List ℕ). Filled test.answer (row_of kind rows) (all_places rows) l s.chosen s.answered questions) none s.filled);
        order_is = s.order_is ∙ ap (λ (k : ℕ). take k order₀ ++ s.chosen ++ drop (length rows) order₀) z;
        bounds_is = s.bounds_is ∙ ap (λ (k : ℕ). take k bounds₀ ++ s.answered ++ drop (length rows) bounds₀) z;
      }

  pub sticks : (order₀ bounds₀ order bounds : List ℕ) (level pool pool' questions questions' place : ℕ) → Levels kind test rows order₀ bounds₀ level pool questions order bounds → 0 < level → length (in_mask pool (length rows)) ≡ level → pool < 2 ^ length rows → pool' ≡ pool → place ≡ length rows → questions' ≡ questions + length (in_mask pool place) → Failed kind test rows pool place → has_room rows order₀ bounds₀ ≡ true → Sticks kind test rows order₀ order bounds₀ bounds (record { mask = pool'; questions = questions' })
  sticks order₀ bounds₀ order bounds level pool pool' questions questions' place s pos len small same all count f room =
      let some : in_mask pool (length rows) ≢ [] = λ e. omega (arith, ap length e) in
      let st : Stuck test.answer (row_of kind rows) (in_mask pool (length rows)) = record { some_left = some; no_bound = λ x m. f.failed x (subst (λ (k : ℕ). x ∈ in_mask pool k) (sym all) m) } in
      let q : questions + length (in_mask pool (length rows)) ≡ questions' = sym (count ∙ ap (λ (k : ℕ). questions + length (in_mask pool k)) all) in
      record {
        room = room;
        left = in_mask pool (length rows);
        found = subst (λ (k : ℕ). Arranges kind test rows (stuck (in_mask pool (length rows)) k)) q (filled_stuck test.answer (row_of kind rows) s.filled st);
        left_is = ap (λ (k : ℕ). in_mask k (length rows)) (sym same);
        mask_is = same ∙ sym (mask_whole pool (length rows) small);
        chosen = s.chosen;
        answered = s.answered;
        asked = questions;
        filled = s.filled;
        order_is = s.order_is ∙ ap (λ (k : ℕ). take k order₀ ++ s.chosen ++ drop (length rows) order₀) (sym len);
        bounds_is = s.bounds_is ∙ ap (λ (k : ℕ). take k bounds₀ ++ s.answered ++ drop (length rows) bounds₀) (sym len);
      }

  -- the loop over the levels, after a level is filled
  pub stepped : {pool' : ℕ} (order₀ bounds₀ order bounds : List ℕ) (level pool pool'' questions p b questions'' : ℕ) → Levels kind test rows order₀ bounds₀ level pool questions order bounds → pool' ≡ pool'' - 2 ^ p → pool'' ≡ pool → bit_at pool p ≡ 1 → p < length rows → pool < 2 ^ length rows → Failed kind test rows pool p → Some b ≡ asked kind test rows p (pool - 2 ^ p) → questions'' ≡ questions + length (in_mask pool p) → length (in_mask pool p) ≤ p → length rows ≤ 32 → 0 < level → level ≤ length rows → length rows ≤ length order₀ → length rows ≤ length bounds₀ → length (in_mask pool (length rows)) ≡ level → questions + 32 * level ≤ 32 * length rows → (level - 1 ≤ length rows) × (questions'' + 1 + 32 * (level - 1) ≤ 32 * length rows) × (pool' < 2 ^ length rows) × (length (in_mask pool' (length rows)) ≡ level - 1) × Levels kind test rows order₀ bounds₀ (level - 1) pool' (questions'' + 1) (set order (level - 1) p) (set bounds (level - 1) b)
  stepped {pool'} order₀ bounds₀ order bounds level pool pool'' questions p b questions'' s e same h lt small f ask count most n32 pos le lo lb len few =
      let e' : pool' ≡ pool - 2 ^ p = e ∙ ap (λ (k : ℕ). k - 2 ^ p) same in
      let t : Takes test.answer (row_of kind rows) (in_mask pool (length rows)) p b (length (in_mask pool p) + 1) = takes pool p b f lt h (sym (ask ∙ asked_others kind test rows pool p lt small h)) in
      let back : level - 1 + 1 ≡ level = omega arith in
      (omega arith, omega arith, omega arith, omega (arith, count_after pool p b (length (in_mask pool p) + 1) e' h t), levels_more order₀ bounds₀ order bounds (level - 1) pool questions p b (length (in_mask pool p) + 1) (questions'' + 1) (subst (λ (k : ℕ). Levels kind test rows order₀ bounds₀ k pool questions order bounds) (sym back) s) e' h t (omega arith) (omega arith) (omega arith))
