-- The piecewise test over any curve for segmented rows keeps the rules of a test. Assumes nothing.
use Rattle.std.specs.Prelude.{◌≡◌, ℕ, suc, ◌+◌, ◌<◌, ◌≤◌, Bool, true, cond, ◌&&◌, leb, List, ◌∷◌, length, Some, None, sum_by, Option, nat_le, refl}
use Rattle.std.proofs.Common.{ap, ap₂, sym, subst, ◌∙◌, inl, inr, arith}
use Rattle.std.proofs.Math.Path.{fun_ext}
use Rattle.std.proofs.lemmas.Bool.{leb-true, le-leb, and_parts, and_from}
use Rattle.std.proofs.lemmas.Option.{same_Some}
use Rattle.model.specs.Bags.{◌~◌, Part}
use Rattle.model.specs.Patterns.{final, step}
use Rattle.model.specs.Rows.{Kind, Bounds, all_lawful}
use Rattle.model.specs.Segments.{Segments, last, more, all_ticks, most_gaps, Shape, segmented}
use Rattle.model.specs.Runs.{Task, Run, Done, Unmet, ran, Level, Kept, above}
use Rattle.model.specs.LawfulRuns.{Lawful, NoLate}
use Rattle.curves.specs.Curves.{Workload, CurveRules}
use Rattle.curves.specs.SegmentWindows.{Fits, all_fit}
use Rattle.feasibility.specs.Tests.{TestRules, AtMost}
use Rattle.feasibility.specs.Windows.{least, fits}
use Rattle.feasibility.specs.Pieces.{plus, sum_of, up_to, part, piecewise, piecewise_answers}
use Rattle.model.proofs.Marks.{Counts, met}
use Rattle.model.proofs.Ticks.{counts, higher, higher_up, busy}
use Rattle.model.proofs.Jobs.{EndIn, all_in_time}
use Rattle.feasibility.specs.Least.{least_found, least_sooner}
use Rattle.feasibility.specs.Above.{sum_reordered, lawful_reordered, sum_part, lawful_part, cond_some, above_bound}

-- ---- sums that may be missing

pub plus_parts : (o p : Option ℕ) (b : ℕ) → plus o p ≡ Some b → (t u : ℕ) × (o ≡ Some t) × (p ≡ Some u) × (b ≡ t + u)
plus_parts None p b e = absurd (cc)
plus_parts (Some t) None b e = absurd (cc)
plus_parts (Some t) (Some u) b e = (t, u, refl, refl, sym (same_Some (t + u) b e))

pub plus_most : (o p : Option ℕ) (b d : ℕ) → AtMost o b → AtMost p d → AtMost (plus o p) (b + d)
plus_most o p b d (t, e, l) (u, e', l') = (t + u, ap₂ plus e e', omega arith)

pub up_to_parts : (d : ℕ) (o : Option ℕ) (b : ℕ) → up_to d o ≡ Some b → (o ≡ Some b) × (b ≤ d)
up_to_parts d None b e = absurd (cc)
up_to_parts d (Some t) b e =
    let (l, e') = cond_some (nat_le t d) (Some t) b e in (e', omega (arith, leb-true t d l, same_Some t b e'))

pub up_to_most : (d : ℕ) (o : Option ℕ) (b : ℕ) → AtMost o b → b ≤ d → AtMost (up_to d o) b
up_to_most d o b (t, e, l) h =
    (t, ap (up_to d) e ∙ ap (λ (v : Bool). cond v (Some t) None) (le-leb t d (omega arith)), l)

module _ (r : ℕ → Option ℕ) where
  -- each part is as long as its segment
  sum_covers : ((c t : ℕ) → r c ≡ Some t → c ≤ t) → (s : Segments) (b : ℕ) → sum_of r s ≡ Some b → all_ticks s ≤ b
  sum_covers h (last c) b e = h c b e
  sum_covers h (more c lo hi s) b e =
      let (t, u, e₁, e₂, sums) = plus_parts (r c) (sum_of r s) b e in
      omega (arith, h c t e₁, sum_covers h s u e₂)

  sum_sooner : (r' : ℕ → Option ℕ) → ((c t : ℕ) → r c ≡ Some t → AtMost (r' c) t) → (s : Segments) (b : ℕ) → sum_of r s ≡ Some b → AtMost (sum_of r' s) b
  sum_sooner r' h (last c) b e = h c b e
  sum_sooner r' h (more c lo hi s) b e =
      let (t, u, e₁, e₂, sums) = plus_parts (r c) (sum_of r s) b e in
      let (v, e₃, l) = plus_most (r' c) (sum_of r' s) t u (h c t e₁) (sum_sooner r' h s u e₂) in
      (v, e₃, omega arith)

  -- each cost is finished in its own time, and so is the pattern in the sum of them and the suspensions
  module _ (f h : ℕ → ℕ) (c : Counts f) (above_up : (t : ℕ) → h t ≤ h (suc t)) (H : ℕ)
      (enough : (q t : ℕ) → r q ≡ Some t → (b : ℕ) → b + t ≤ H → q + h (b + t) ≤ t + h b) where
    cost_in_time : (q k t : ℕ) → r q ≡ Some t → k ≤ q → (b : ℕ) → b + t ≤ H
        → ((u : ℕ) → b ≤ u → u < b + t → Unmet f b k u → suc (f u + h u) ≤ f (suc u) + h (suc u)) → (m : ℕ) × Done f b k m × (m ≤ b + t)
    cost_in_time q k t e l b lasts busy =
        elim (met f c h above_up b k (b + t) (omega arith) busy) [
          | inl x ↦ (x.0, x.1, x.2)
          | inr late ↦ absurd (omega (arith, enough q t e b lasts, late.1))
        ]

    pub pieces_in_time : (s : Segments) (d : ℕ) → sum_of r s ≡ Some d → EndIn f h (Fits s) H (most_gaps s + d)
    pieces_in_time (last q) d e (final k) fit b lasts busy =
        let (m, done, before) = cost_in_time q k d e fit b (omega arith) (λ u x y v. busy u (omega arith) v) in
        (m, done, omega arith)
    pieces_in_time (last q) d e (step k w p) fit b lasts busy = absurd fit
    pieces_in_time (more q lo hi s) d e (final k) fit b lasts busy = absurd fit
    pieces_in_time (more q lo hi s) d e (step k w p) fit b lasts busy =
        let (t, u, e₁, e₂, sums) = plus_parts (r q) (sum_of r s) d e in
        let (m, done, before) = cost_in_time q k t e₁ fit.0 b (omega arith) (λ v x y z. busy v (omega arith) (inl z)) in
        let (n, ends, before') = pieces_in_time s u e₂ p fit.3 (m + w) (omega (arith, fit.2)) (λ v x z. busy v x (inr (m, done, z))) in
        (n, (m, done, ends), omega (arith, fit.2))

-- ---- the test

module _ {R : Type 0} (shape : Shape R) (w : Workload R) (rules : CurveRules (segmented shape) w) where
  abbrev kind : Kind R
  kind = segmented shape

  -- r[j] of the row, by the ticks of segment j
  abbrev part_of : R → List R → ℕ → Option ℕ
  part_of x A c = part w.ticks (shape.deadline x) A c

  abbrev total : R → List R → Option ℕ
  total x A = plus (Some (most_gaps (shape.segments x))) (sum_of (part_of x A) (shape.segments x))

  record Bound (x : R) (A : List R) (b : ℕ) : Type 0 where
    lawful : all_lawful kind (x ∷ A) ≡ true
    row_lawful : kind.lawful x ≡ true
    in_deadline : b ≤ shape.deadline x
    pieces : ℕ
    found : sum_of (part_of x A) (shape.segments x) ≡ Some pieces
    is : b ≡ most_gaps (shape.segments x) + pieces

  bound : (x : R) (A : List R) (b : ℕ) → piecewise shape w.ticks x A ≡ Some b → Bound x A b
  bound x A b e =
      let (l, e₁) = cond_some (all_lawful kind (x ∷ A)) _ b e in
      let (e₂, within) = up_to_parts (shape.deadline x) (total x A) b e₁ in
      let (t, u, e₃, e₄, sums) = plus_parts (Some (most_gaps (shape.segments x))) (sum_of (part_of x A) (shape.segments x)) b e₂ in
      record {
        lawful = l;
        row_lawful = (and_parts (kind.lawful x) (all_lawful kind A) l).0;
        in_deadline = within;
        pieces = u;
        found = e₄;
        is = omega (arith, same_Some (most_gaps (shape.segments x)) t e₃);
      }

  -- a part covers its segment and what the rows above run in it
  part_enough : (x : R) (A : List R) (c t : ℕ) → part_of x A c ≡ Some t → (c + sum_by (λ y. w.ticks y t) A ≤ t) × (t ≤ shape.deadline x)
  part_enough x A c t e =
      let found = least_found (fits w.ticks c A) (shape.deadline x) t e in
      (leb-true (c + sum_by (λ y. w.ticks y t) A) t found.passes, found.within)

  any_order : (x : R) (A B : List R) → A ~ B → piecewise shape w.ticks x A ≡ piecewise shape w.ticks x B
  any_order x A B r =
      ap₂ (λ (l : Bool) (sums : ℕ → ℕ). cond (kind.lawful x && l) (up_to (shape.deadline x) (plus (Some (most_gaps (shape.segments x)))
      (sum_of (λ c. least (λ t. leb (c + sums t) t) (shape.deadline x)) (shape.segments x)))) None)
      (lawful_reordered kind r) (fun_ext (λ t. sum_reordered (λ y. w.ticks y t) r))

  fewer : (x : R) (A B : List R) (b : ℕ) → piecewise shape w.ticks x A ≡ Some b → Part B A → AtMost (piecewise shape w.ticks x B) b
  fewer x A B b e r =
      let ok = bound x A b e in
      let (lx, lA) = and_parts (kind.lawful x) (all_lawful kind A) ok.lawful in
      let sooner : (c t : ℕ) → part_of x A c ≡ Some t → AtMost (part_of x B c) t =
      λ c t. least_sooner (fits w.ticks c A) (fits w.ticks c B) (shape.deadline x) t
      (λ u ok. le-leb (c + sum_by (λ y. w.ticks y u) B) u (omega (arith, leb-true (c + sum_by (λ y. w.ticks y u) A) u ok, sum_part (λ y. w.ticks y u) r))) in
      let (t, e₁, l) = plus_most (Some (most_gaps (shape.segments x))) (sum_of (part_of x B) (shape.segments x)) (most_gaps (shape.segments x)) ok.pieces
      (most_gaps (shape.segments x), refl, omega arith) (sum_sooner (part_of x A) (part_of x B) sooner (shape.segments x) ok.pieces ok.found) in
      let (t', e₂, l') = up_to_most (shape.deadline x) (total x B) b (t, e₁, omega (arith, ok.is)) ok.in_deadline in
      (t', ap (λ v. cond v (up_to (shape.deadline x) (total x B)) None) (and_from (kind.lawful x) (all_lawful kind B) lx (lawful_part kind r lA)) ∙ e₂, l')

  in_deadline : (x : R) (A : List R) (b : ℕ) → piecewise shape w.ticks x A ≡ Some b → (1 ≤ b) × (b ≤ shape.deadline x)
  in_deadline x A b e =
      let ok = bound x A b e in
      let covers = sum_covers (part_of x A) (λ c t e. omega (arith, part_enough x A c t e)) (shape.segments x) ok.pieces ok.found in
      (omega (arith, ok.is, (kind.r1 x ok.row_lawful).some_cost), ok.in_deadline)

  holds : (run : Run R) → Lawful kind run → (k : ℕ) (task : Task R) → Level run k task
      → ((i : ℕ) (other : Task R) → i < k → Level run i other → NoLate kind run i other)
      → (b : ℕ) → piecewise shape w.ticks task.row (above run k) ≡ Some b → Kept run k task b
  holds run law k task at no_late b e =
      let x = task.row in
      let ok = bound x (above run k) b e in
      let mine = law.tasks k task at in
      let limits : Bounds (shape.period x) (shape.deadline x) (all_ticks (shape.segments x)) (most_gaps (shape.segments x)) = kind.r1 x ok.row_lawful in
      let f : ℕ → ℕ = ran run.ticks k in
      let h : ℕ → ℕ = higher run.ticks k in
      let H : ℕ = length run.ticks in
      let enough : (q t : ℕ) → part_of x (above run k) q ≡ Some t → (s : ℕ) → s + t ≤ H → q + h (s + t) ≤ t + h s =
      λ q t found s lasts.
      let fits_in = part_enough x (above run k) q t found in
      omega (arith, fits_in, above_bound kind w rules run law k task at no_late s t (omega (arith, fits_in, limits))) in
      let kept : Kept run k task (most_gaps (shape.segments x) + ok.pieces) =
      all_in_time f h (Fits (shape.segments x)) H (shape.period x) (most_gaps (shape.segments x) + ok.pieces) (omega (arith, ok.is, ok.in_deadline, limits))
      (pieces_in_time (part_of x (above run k)) f h (counts run.ticks k) (higher_up run.ticks k) H enough (shape.segments x) ok.pieces ok.found)
      task.jobs 0 0 (omega arith) mine.spaced (all_fit (shape.segments x) task.jobs mine.allowed) (busy kind run law k task at) in
      subst (λ y. Kept run k task y) (sym ok.is) kept

  lawful_rows : (x : R) (A : List R) (b : ℕ) → piecewise shape w.ticks x A ≡ Some b → all_lawful (segmented shape) (x ∷ A) ≡ true
  lawful_rows x A b e = (bound x A b e).lawful

  pub piecewise_test : TestRules (segmented shape) (piecewise_answers shape w)
  piecewise_test = record { lawful_rows = lawful_rows; any_order = any_order; fewer = fewer; in_deadline = in_deadline; holds = holds }
