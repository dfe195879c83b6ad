-- The segments of a segmented row by number, as the code reads them. Assumes nothing.
use Rattle.std.proofs.Common.{◌≡◌, ℕ, zero, suc, ◌+◌, ◌-◌, ◌*◌, ◌/◌, ◌%◌, ◌<◌, ◌≤◌, min, true, cond, eqb, leb, get_or, sym, refl, ap, ◌∙◌, subst, ap₂, mod-lt, arith}
use Rattle.std.proofs.lemmas.Bool.{and_parts, leb-true, le-leb, lt-leb, eq-eqb, ne_eqb, cond-true, cond-false}
use Rattle.model.specs.Rows.{Bounds, limit}
use Rattle.model.specs.Segments.{Segments, count, all_ticks, least_gaps, most_gaps, segmented, segmented_lawful, lawful_ranged}
use Rattle.model.specs.SegmentedRows.{segment_cost, segments_from, segments_of, well_formed, segmented_shape}
use Rattle.model.specs.declared.segmented.Segmented.{Segmented}
use Rattle.curves.specs.SegmentCurve.{ticks_at, gap_at, phase_work, row_gap_after, row_work_from}
use Rattle.curves.proofs.Periods.{phase_parts, periods_fit}
use Rattle.curves.specs.Phases.{early}
use Rattle.curves.specs.SegmentRules.{gaps_ordered}

abbrev pub LawfulRow : Segmented → Type 0
LawfulRow x = segmented_lawful segmented_shape x ≡ true

-- what the code needs to know of a lawful row
pub record Limits (x : Segmented) : Type 0 where
  pub some : 1 ≤ x.count
  pub bounds : Bounds x.period x.deadline (all_ticks (segments_of x)) (most_gaps (segments_of x))
  pub gaps : least_gaps (segments_of x) ≤ most_gaps (segments_of x)

pub limits : (x : Segmented) → LawfulRow x → Limits x
limits x l =
    let formed : well_formed x ≡ true = (and_parts (well_formed x) _ l).0 in
    record {
      some = leb-true 1 x.count (and_parts (leb 1 x.count) _ formed).0;
      bounds = (segmented segmented_shape).r1 x l;
      gaps = gaps_ordered (segments_of x) (lawful_ranged segmented_shape x l);
    }

-- a job whose suspensions are all as short as they can be fits the period
pub shortest_fits : (x : Segmented) → LawfulRow x → (all_ticks (segments_of x) + least_gaps (segments_of x) ≤ x.period) × (x.period ≤ limit)
shortest_fits x l = let is = limits x l in (omega (arith, is.bounds, is.gaps), is.bounds.period_fits)

count_from : (x : Segmented) (n j : ℕ) → count (segments_from x n j) ≡ suc n
count_from x zero j = refl
count_from x (suc n) j = ap suc (count_from x n (suc j))

ticks_from : (x : Segmented) (n j i : ℕ) → i ≤ n → ticks_at (segments_from x n j) i ≡ segment_cost x (j + i)
ticks_from x zero j zero l = ap (segment_cost x) (omega arith)
ticks_from x zero j (suc i) l = absurd (omega arith)
ticks_from x (suc n) j zero l = ap (segment_cost x) (omega arith)
ticks_from x (suc n) j (suc i) l = ticks_from x n (suc j) i (omega arith) ∙ ap (segment_cost x) (omega arith)

gap_from : (x : Segmented) (n j i : ℕ) → i < n → gap_at (segments_from x n j) i ≡ get_or x.least (j + i) 0
gap_from x zero j i l = absurd (omega arith)
gap_from x (suc n) j zero l = ap (λ k. get_or x.least k 0) (omega arith)
gap_from x (suc n) j (suc i) l = gap_from x n (suc j) i (omega arith) ∙ ap (λ k. get_or x.least k 0) (omega arith)

pub count_is : (x : Segmented) → 1 ≤ x.count → count (segments_of x) ≡ x.count
count_is x some = omega (arith, count_from x (x.count - 1) 0)

pub cost_is : (x : Segmented) (j : ℕ) → j < x.count → ticks_at (segments_of x) j ≡ segment_cost x j
cost_is x j l = ticks_from x (x.count - 1) 0 j (omega arith) ∙ ap (segment_cost x) (omega arith)

pub gap_is : (x : Segmented) (j : ℕ) → suc j < x.count → gap_at (segments_of x) j ≡ get_or x.least j 0
gap_is x j l = gap_from x (x.count - 1) 0 j (omega arith) ∙ ap (λ k. get_or x.least k 0) (omega arith)

-- ---- the gap after segment j, and the work of one segment

module _ (x : Segmented) (l : LawfulRow x) where
  abbrev s : Segments
  s = segments_of x

  gap_by : (j : ℕ)
      → row_gap_after segmented_shape x j ≡ cond (eqb (suc (j % x.count)) x.count) (cond (early x.count j) (x.period - x.deadline) (x.period - (all_ticks s + least_gaps s))) (gap_at s (j % x.count))
  gap_by j =
      ap (λ m. cond (eqb (suc (j % m)) m) (cond (early m j) (x.period - x.deadline) (x.period - (all_ticks s + least_gaps s))) (gap_at s (j % m))) (count_is x (limits x l).some)

  pub gap_inside : (j : ℕ) → (j % x.count + 1 ≡ x.count → ⊥) → row_gap_after segmented_shape x j ≡ get_or x.least (j % x.count) 0
  gap_inside j no_end =
      gap_by j ∙ cond-false (eqb (suc (j % x.count)) x.count) _ _ (ne_eqb (suc (j % x.count)) x.count (λ e. no_end (omega arith)))
      ∙ gap_is x (j % x.count) (omega (arith, no_end, mod-lt j {m = x.count} (limits x l).some))

  gap_end : (j : ℕ) → j % x.count + 1 ≡ x.count → row_gap_after segmented_shape x j ≡ cond (early x.count j) (x.period - x.deadline) (x.period - (all_ticks s + least_gaps s))
  gap_end j e = gap_by j ∙ cond-true (eqb (suc (j % x.count)) x.count) _ _ (eq-eqb (suc (j % x.count)) x.count (omega arith))

  pub gap_early : (j : ℕ) → j % x.count + 1 ≡ x.count → j ≤ x.count → row_gap_after segmented_shape x j ≡ x.period - x.deadline
  gap_early j e b = gap_end j e ∙ cond-true (early x.count j) _ _ (le-leb j x.count b)

  pub gap_late : (j : ℕ) → j % x.count + 1 ≡ x.count → x.count < j → row_gap_after segmented_shape x j ≡ x.period - (all_ticks s + least_gaps s)
  gap_late j e b = gap_end j e ∙ cond-false (early x.count j) _ _ (lt-leb j x.count b)

  pub one_more : (N n j i u v : ℕ) → N ≡ suc n → i ≡ suc j → v ≡ u - (segment_cost x (j % x.count) + row_gap_after segmented_shape x j)
      → row_work_from segmented_shape x N j u ≡ min (segment_cost x (j % x.count)) u + row_work_from segmented_shape x n i v
  one_more N n j i u v e f g =
      let same : ticks_at s (j % count s) ≡ segment_cost x (j % x.count) =
      ap (λ m. ticks_at s (j % m)) (count_is x (limits x l).some) ∙ cost_is x (j % x.count) (mod-lt j {m = x.count} (limits x l).some) in
      let step : row_work_from segmented_shape x (suc n) j u ≡ min (segment_cost x (j % x.count)) u + row_work_from segmented_shape x n (suc j) (u - (segment_cost x (j % x.count) + row_gap_after segmented_shape x j)) =
      ap (λ c. min c u + row_work_from segmented_shape x n (suc j) (u - (c + row_gap_after segmented_shape x j))) same in
      ap (λ m. row_work_from segmented_shape x m j u) e ∙ step ∙ ap₂ (λ y w. min (segment_cost x (j % x.count)) u + row_work_from segmented_shape x n y w) (sym f) (sym g)

  -- the work of a phase, as the code finds it
  pub phase_found : (t h first left part rest compute : ℕ) → h < x.count → left ≤ t → compute ≡ all_ticks s
      → ((n : ℕ) → row_work_from segmented_shape x ((2 * x.count - h) + n) h t ≡ first + row_work_from segmented_shape x n (2 * x.count) left)
      → ((n : ℕ) → row_work_from segmented_shape x ((3 * x.count - 2 * x.count) + n) (2 * x.count) (left % x.period) ≡ part + row_work_from segmented_shape x n (3 * x.count) rest)
      → (first + (left / x.period) * compute) + part ≡ phase_work s x.period x.deadline t h
  phase_found t h first left part rest compute known shorter total before after =
      let is = limits x l in
      let same : x.count ≡ count s = sym (count_is x is.some) in
      let from : (n : ℕ) → row_work_from segmented_shape x ((2 * count s - h) + n) h t ≡ first + row_work_from segmented_shape x n (2 * count s) left =
      λ n. subst (λ m. row_work_from segmented_shape x ((2 * m - h) + n) h t ≡ first + row_work_from segmented_shape x n (2 * m) left) same (before n) in
      let one_job : row_work_from segmented_shape x (count s + 0) (2 * count s) (left % x.period) ≡ part =
      subst (λ m. row_work_from segmented_shape x (m + 0) (2 * m) (left % x.period) ≡ part) same
      (ap (λ m. row_work_from segmented_shape x m (2 * x.count) (left % x.period)) (let e : x.count + 0 ≡ (3 * x.count - 2 * x.count) + 0 = omega arith in e) ∙ omega (arith, after 0)) in
      let found = phase_parts s x.period x.deadline is.bounds.some_period (omega (arith, is.bounds, is.gaps)) is.bounds.some_cost t h first left part (omega arith) shorter from one_job in
      omega (arith, ap (λ m. (left / x.period) * m) total)

  -- and it fits
  pub phase_fits : (t first left part compute : ℕ) → first + left ≤ t → compute ≡ all_ticks s → part ≤ left % x.period → first + (left / x.period) * compute + part ≤ t
  phase_fits t first left part compute within total short =
      omega (arith, periods_fit left x.period compute (let is = limits x l in omega (arith, is.bounds)))

-- what the code of the gaps needs
pub ruleset gaps = (gap_inside, gap_early, gap_late, shortest_fits)
