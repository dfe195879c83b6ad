-- The rows above a level: in another order, a part of them, and what their tasks run in a window. Assumes nothing.
use Rattle.std.specs.Prelude.{◌≡◌, ℕ, ◌+◌, ◌<◌, ◌≤◌, Bool, true, false, cond, ◌&&◌, List, [], ◌∷◌, ◌++◌, Some, None, sum_by, Option, refl}
use Rattle.std.proofs.Common.{sym, ap, ap₂, ◌∙◌, arith}
use mathlib.Core.List.Permᴰ
use Rattle.std.proofs.lemmas.List.Sums.{sum_by-cons, sum_by-append}
use Rattle.std.proofs.lemmas.Bool.{and_parts}
use Rattle.std.proofs.lemmas.Option.{slice_get_within}
use Rattle.model.specs.Bags.{◌~◌, Part}
use Rattle.model.specs.Rows.{Kind, limit, all_lawful}
use Rattle.model.specs.Runs.{Task, Run, ran, Level, above}
use Rattle.model.specs.LawfulRuns.{Lawful, NoLate}
use Rattle.curves.specs.Curves.{Workload, CurveRules}
use Rattle.model.proofs.Ticks.{summed, higher}

-- ---- rows in another order, and a part of them

pub sum_reordered : {R : Type 0} (c : R → ℕ) {A B : List R} → A ~ B → sum_by c A ≡ sum_by c B
sum_reordered c Permᴰ.nil = refl
sum_reordered c (Permᴰ.cons {a = x} {b = y} {l₁ = A} {l₂ = B} e d) = omega (arith, sum_by-cons c x A, sum_by-cons c y B, ap c e, sum_reordered c d)
sum_reordered c (Permᴰ.swap {a = x} {b = y} {a' = v} {b' = z} {l = l} e f) =
    omega (arith, sum_by-cons c x (y ∷ l), sum_by-cons c y l, sum_by-cons c v (z ∷ l), sum_by-cons c z l, ap c e, ap c f)
sum_reordered c (Permᴰ.trans d f) = sum_reordered c d ∙ sum_reordered c f

and_swap : (a b c : Bool) → (a && (b && c)) ≡ (b && (a && c))
and_swap true true c = refl
and_swap true false c = refl
and_swap false true c = refl
and_swap false false c = refl

module _ {R : Type 0} (kind : Kind R) where
  pub lawful_reordered : {A B : List R} → A ~ B → all_lawful kind A ≡ all_lawful kind B
  lawful_reordered Permᴰ.nil = refl
  lawful_reordered (Permᴰ.cons e d) = ap₂ (λ (x : R) (b : Bool). kind.lawful x && b) e (lawful_reordered d)
  lawful_reordered (Permᴰ.swap {a = x} {b = y} {l = l} e f) =
      and_swap (kind.lawful x) (kind.lawful y) (all_lawful kind l) ∙ ap₂ (λ (v z : R). kind.lawful v && (kind.lawful z && all_lawful kind l)) f e
  lawful_reordered (Permᴰ.trans d f) = lawful_reordered d ∙ lawful_reordered f

  pub lawful_append : (A B : List R) → all_lawful kind (A ++ B) ≡ (all_lawful kind A && all_lawful kind B)
  lawful_append [] B = refl
  lawful_append (x ∷ A) B = ap (λ (b : Bool). kind.lawful x && b) (lawful_append A B) ∙ and_assoc (kind.lawful x) (all_lawful kind A) (all_lawful kind B)
    where
      and_assoc : (a b c : Bool) → (a && (b && c)) ≡ ((a && b) && c)
      and_assoc true b c = refl
      and_assoc false b c = refl

  pub lawful_part : {A B : List R} → Part B A → all_lawful kind A ≡ true → all_lawful kind B ≡ true
  lawful_part {A} {B} part e =
      (and_parts (all_lawful kind B) (all_lawful kind part.rest) (sym (lawful_append B part.rest) ∙ lawful_reordered part.makes ∙ e)).0

pub sum_part : {R : Type 0} (c : R → ℕ) {A B : List R} → Part B A → sum_by c B ≤ sum_by c A
sum_part c {A} {B} part = omega (arith, sum_by-append c B part.rest, sum_reordered c part.makes)

pub cond_some : (b : Bool) (o : Option ℕ) (t : ℕ) → cond b o None ≡ Some t → (b ≡ true) × (o ≡ Some t)
cond_some true o t e = (refl, e)
cond_some false o t e = absurd (cc)

-- ---- what the levels above run

pub above_bound : {R : Type 0} (kind : Kind R) (w : Workload R) → CurveRules kind w → (run : Run R) → Lawful kind run → (k : ℕ) (task : Task R) → Level run k task
    → ((i : ℕ) (other : Task R) → i < k → Level run i other → NoLate kind run i other) → (s t : ℕ) → t ≤ limit
    → higher run.ticks k (s + t) ≤ higher run.ticks k s + sum_by (λ y. w.ticks y t) (above run k)
above_bound kind w rules run law k task at no_late s t l =
    summed (λ y. w.ticks y t) run.tasks k (λ i. ran run.ticks i s) (λ i. ran run.ticks i (s + t)) (omega (arith, slice_get_within run.tasks k task at))
    (λ i other i<k there. omega (arith, rules.holds run law i other there (no_late i other i<k there) s t l))
