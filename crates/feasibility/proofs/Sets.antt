-- The rows of a set, as a chain over the numbered rows of the table gives them. Assumes nothing.
use Rattle.std.proofs.Common.{◌≡◌, ℕ, zero, suc, ◌+◌, ◌*◌, ◌^◌, ◌<◌, ◌≤◌, min, Bool, true, false, cond, ◌&&◌, ◌⊎◌, List, [], ◌∷◌, ◌++◌, map, length, take, filter, sum_by, sym, refl, ap, ◌∙◌, ap₂, inl, inr, arith, take-suc, length-take-le, length-take}
use Rattle.std.specs.List.{enumerate_from, list_all}
use Rattle.std.proofs.lemmas.List.{map-append, take_min}
use Rattle.std.proofs.lemmas.List.Elements.{filter-append}
use Rattle.std.proofs.lemmas.List.FromFn.{length-enumerate_from}
use Rattle.std.proofs.lemmas.List.Sums.{sum_by-cons, length-filter, count_by-le-length}
use Rattle.std.proofs.lemmas.Bool.{cases_Bool, cases_lt}
use Rattle.model.specs.Rows.{Kind, all_lawful, limit}
use Rattle.curves.specs.Curves.{Workload, CurveRules, CurveEdges}
use Rattle.feasibility.specs.Masks.{row_of, has, in_mask, rows_in}
use Rattle.feasibility.specs.Windows.{demand}
use Rattle.feasibility.proofs.Masks.{in_min, pool_suc}

-- a list that is numbered from n on, with one item more
numbered_more : {X : Type 0} (n : ℕ) (xs : List X) (x : X) → enumerate_from n (xs ++ x ∷ []) ≡ enumerate_from n xs ++ (n + length xs, x) ∷ []
numbered_more n [] x = ap (λ (k : ℕ). (k, x) ∷ []) (omega arith)
numbered_more n (y ∷ xs) x =
    ap (λ l. (n, y) ∷ l) (numbered_more (n + 1) xs x ∙ ap (λ (k : ℕ). enumerate_from (n + 1) xs ++ (k, x) ∷ []) (omega arith))

module _ {R : Type 0} (kind : Kind R) (rows : List R) (mask : ℕ) where
  abbrev pub without : List (ℕ × R) → List R
  without ps = map {A = ℕ × R} (λ p. p.1) ps

  -- those of the first n rows that are in the set, with their places
  abbrev pub picked : ℕ → List (ℕ × R)
  picked n = filter (λ p. has mask p.0) (enumerate_from 0 (take n rows))

  -- the first 32 rows, or all if there are fewer, with their places
  abbrev pub numbered_32 : List (ℕ × R)
  numbered_32 = enumerate_from 0 (take (min (length rows) 32) rows)

  numbered_32_is : numbered_32 ≡ enumerate_from 0 (take 32 rows)
  numbered_32_is = ap (enumerate_from 0) (ap (λ (k : ℕ). take k rows) (omega arith) ∙ take_min 32 rows)

  first_rows : (n : ℕ) → n ≤ length rows → without (picked n) ≡ map (row_of kind rows) (in_mask mask n)
  first_rows zero l = refl
  first_rows (suc n) l =
      let x : R = row_of kind rows n in
      let before : List (ℕ × R) = enumerate_from 0 (take n rows) in
      let last : enumerate_from 0 (take (suc n) rows) ≡ before ++ (n, x) ∷ [] =
      ap (enumerate_from 0) (take-suc rows n kind.blank (omega arith)) ∙ numbered_more 0 (take n rows) x
      ∙ ap (λ (k : ℕ). before ++ (k, x) ∷ []) (omega (arith, length-take-le n rows (omega arith))) in
      ap (λ (l : List (ℕ × R)). without (filter (λ p. has mask p.0) l)) last ∙ ap without (filter-append (λ p. has mask p.0) before ((n, x) ∷ []))
      ∙ map-append {A = ℕ × R} (λ p. p.1) (picked n) (cond (has mask n) ((n, x) ∷ []) []) ∙ ap₂ (λ (a b : List R). a ++ b) (first_rows n (omega arith)) (here (has mask n))
      ∙ sym (ap (map (row_of kind rows)) (pool_suc (has mask) n) ∙ map-append (row_of kind rows) (in_mask mask n) (cond (has mask n) (n ∷ []) []))
    where
      here : (b : Bool) → without (cond b ((n, row_of kind rows n) ∷ []) []) ≡ map (row_of kind rows) (cond b (n ∷ []) [])
      here true = refl
      here false = refl

  -- a set of 32 bits has no place from 32 on
  pub picked_rows : mask < 2 ^ 32 → without (picked 32) ≡ rows_in kind rows mask
  picked_rows small =
      ap (λ (l : List R). without (filter (λ p. has mask p.0) (enumerate_from 0 l))) (sym (take_min 32 rows) ∙ ap (λ (k : ℕ). take k rows) (omega arith))
      ∙ first_rows (min (length rows) 32) (omega arith) ∙ ap (map (row_of kind rows)) (sym (in_min mask (length rows) 32 small))

  pub picked_few : length (picked 32) ≤ 32
  picked_few =
      let numbered : List (ℕ × R) = enumerate_from 0 (take 32 rows) in
      omega (arith, length-filter (λ p. has mask p.0) numbered, count_by-le-length (λ p. has mask p.0) numbered, length-enumerate_from 0 (take 32 rows), length-take 32 rows)

  all_of : (ps : List (ℕ × R)) → list_all (λ p. kind.lawful p.1) ps ≡ all_lawful kind (without ps)
  all_of [] = refl
  all_of (p ∷ ps) = ap (λ b. kind.lawful p.1 && b) (all_of ps)

  pub picked_lawful : mask < 2 ^ 32 → list_all (λ p. kind.lawful p.1) (picked 32) ≡ all_lawful kind (rows_in kind rows mask)
  picked_lawful small = all_of (picked 32) ∙ ap (all_lawful kind) (picked_rows small)

  module _ (w : Workload R) (rules : CurveRules kind w) (edges : CurveEdges kind w) (t : ℕ) where
    sum_of : (ps : List (ℕ × R)) → sum_by (λ p. w.ticks p.1 t) ps ≡ demand w.ticks (without ps) t
    sum_of [] = refl
    sum_of (p ∷ ps) = omega (arith, sum_by-cons (λ p. w.ticks p.1 t) p ps, sum_by-cons (λ y. w.ticks y t) p.1 (without ps), sum_of ps)

    pub picked_demand : mask < 2 ^ 32 → sum_by (λ p. w.ticks p.1 t) (picked 32) ≡ demand w.ticks (rows_in kind rows mask) t
    picked_demand small = sum_of (picked 32) ∙ ap (λ A. demand w.ticks A t) (picked_rows small)

    -- a row counts if it is in the set
    abbrev pub counted : ℕ × R → ℕ
    counted p = cond (has mask p.0) (w.ticks p.1 t) 0

    counted_picked : (ps : List (ℕ × R)) → sum_by counted ps ≡ sum_by (λ p. w.ticks p.1 t) (filter (λ p. has mask p.0) ps)
    counted_picked [] = refl
    counted_picked (p ∷ ps) = go (cases_Bool (has mask p.0)) (counted_picked ps)
      where
        chosen : ℕ × R → Bool
        chosen q = has mask q.0

        ticks : ℕ × R → ℕ
        ticks q = w.ticks q.1 t

        go : (has mask p.0 ≡ true) ⊎ (has mask p.0 ≡ false) → sum_by counted ps ≡ sum_by ticks (filter chosen ps) → sum_by counted (p ∷ ps) ≡ sum_by ticks (filter chosen (p ∷ ps))
        go (inl h) ih =
            let counts : counted p ≡ ticks p = ap (λ (b : Bool). cond b (ticks p) 0) h in
            let keeps : filter chosen (p ∷ ps) ≡ p ∷ filter chosen ps = ap (λ (b : Bool). cond b (p ∷ filter chosen ps) (filter chosen ps)) h in
            sum_by-cons counted p ps ∙ ap₂ (λ (a b : ℕ). a + b) counts ih ∙ sym (sum_by-cons ticks p (filter chosen ps)) ∙ sym (ap (sum_by ticks) keeps)
        go (inr h) ih =
            let counts : counted p ≡ 0 = ap (λ (b : Bool). cond b (ticks p) 0) h in
            let drops : filter chosen (p ∷ ps) ≡ filter chosen ps = ap (λ (b : Bool). cond b (p ∷ filter chosen ps) (filter chosen ps)) h in
            let none : 0 + sum_by ticks (filter chosen ps) ≡ sum_by ticks (filter chosen ps) = omega arith in
            sum_by-cons counted p ps ∙ ap₂ (λ (a b : ℕ). a + b) counts ih ∙ none ∙ sym (ap (sum_by ticks) drops)

    pub counted_demand : mask < 2 ^ 32 → sum_by counted numbered_32 ≡ demand w.ticks (rows_in kind rows mask) t
    counted_demand small = ap (sum_by counted) numbered_32_is ∙ counted_picked (enumerate_from 0 (take 32 rows)) ∙ picked_demand small

    ticks_small : (x : R) → w.ticks x t ≤ 4000000
    ticks_small x = elim (cases_lt t limit) [ inl l ↦ rules.small x t (omega arith) | inr g ↦ omega (arith, edges.flat x t g, rules.small x limit (omega arith)) ]

    sum_small : (ps : List (ℕ × R)) → sum_by (λ p. w.ticks p.1 t) ps ≤ length ps * 4000000
    sum_small [] = omega arith
    sum_small (p ∷ ps) = omega (arith, sum_by-cons (λ p. w.ticks p.1 t) p ps, ticks_small p.1, sum_small ps)

    pub picked_small : sum_by (λ p. w.ticks p.1 t) (picked 32) < 2 ^ 37
    picked_small = omega (arith, sum_small (picked 32), picked_few)

    pub counted_small : sum_by counted numbered_32 < 2 ^ 37
    counted_small = omega (arith, ap (sum_by counted) numbered_32_is, counted_picked (enumerate_from 0 (take 32 rows)), picked_small)
