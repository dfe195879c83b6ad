-- Segments with suspensions between them, and the kind of the rows that list them. Assumes nothing.
use Rattle.std.specs.Prelude.{◌≡◌, ℕ, suc, ◌+◌, ◌≤◌, Bool, true, false, ◌&&◌, nat_le, refl}
use Rattle.std.proofs.Common.{arith}
use Rattle.std.proofs.lemmas.Bool.{and_parts, and_from, leb-true, le-leb}
use Rattle.model.specs.Patterns.{Pattern, final, step, costs, suspensions}
use Rattle.model.specs.Rows.{Kind, bounded, bounds}

pub data Segments : Type 0 where
  last : ℕ → Segments  -- the most ticks of the last segment
  more : ℕ → ℕ → ℕ → Segments → Segments  -- the most ticks of a segment, the least and the most of the suspension after it, and the rest

-- how many segments there are
abbrev pub count : Segments → ℕ
count (last c) = 1
count (more c lo hi s) = suc (count s)

-- the most ticks of all segments together
abbrev pub all_ticks : Segments → ℕ
all_ticks (last c) = c
all_ticks (more c lo hi s) = c + all_ticks s

-- the least and the most of all suspensions together
abbrev pub least_gaps : Segments → ℕ
least_gaps (last c) = 0
least_gaps (more c lo hi s) = lo + least_gaps s

abbrev pub most_gaps : Segments → ℕ
most_gaps (last c) = 0
most_gaps (more c lo hi s) = hi + most_gaps s

-- each suspension's least is at most its most
abbrev pub ranged : Segments → Bool
ranged (last c) = true
ranged (more c lo hi s) = nat_le lo hi && ranged s

-- a pattern with just these segments, that keeps their ranges
abbrev pub keeps_ranges : Segments → Pattern → Bool
keeps_ranges (last c) (final k) = nat_le k c
keeps_ranges (last c) (step k w p) = false
keeps_ranges (more c lo hi s) (final k) = false
keeps_ranges (more c lo hi s) (step k w p) = nat_le k c && (nat_le lo w && (nat_le w hi && keeps_ranges s p))

-- how rows of some type are read as segmented rows; `well_formed` says that the number of segments and the unused places are as they should be
pub record Shape (R : Type 0) : Type 0 where
  pub ident : R → ℕ
  pub period : R → ℕ
  pub deadline : R → ℕ
  pub segments : R → Segments
  pub well_formed : R → Bool
  pub blank : R

-- the pattern that takes all of each range
abbrev pub fullest : Segments → Pattern
fullest (last c) = final c
fullest (more c lo hi s) = step c hi (fullest s)

pub ranges_total : (s : Segments) (p : Pattern) → keeps_ranges s p ≡ true → (costs p ≤ all_ticks s) × (suspensions p ≤ most_gaps s)
ranges_total (last c) (final k) e = (leb-true k c e, omega arith)
ranges_total (last c) (step k w p) e = absurd (cc)
ranges_total (more c lo hi s) (final k) e = absurd (cc)
ranges_total (more c lo hi s) (step k w p) e =
    let (a, e₁) = and_parts (nat_le k c) (nat_le lo w && (nat_le w hi && keeps_ranges s p)) e in
    let (b, e₂) = and_parts (nat_le lo w) (nat_le w hi && keeps_ranges s p) e₁ in
    let (d, e₃) = and_parts (nat_le w hi) (keeps_ranges s p) e₂ in
    let rest = ranges_total s p e₃ in
    (omega (arith, leb-true k c a), omega (arith, leb-true w hi d))

pub fullest_keeps : (s : Segments) → ranged s ≡ true → keeps_ranges s (fullest s) ≡ true
fullest_keeps (last c) e = le-leb c c (omega arith)
fullest_keeps (more c lo hi s) e =
    let (a, r) = and_parts (nat_le lo hi) (ranged s) e in
    and_from _ _ (le-leb c c (omega arith)) (and_from _ _ a (and_from _ _ (le-leb hi hi (omega arith)) (fullest_keeps s r)))

pub fullest_ticks : (s : Segments) → costs (fullest s) ≡ all_ticks s
fullest_ticks (last c) = refl
fullest_ticks (more c lo hi s) = omega (arith, fullest_ticks s)

pub fullest_gaps : (s : Segments) → suspensions (fullest s) ≡ most_gaps s
fullest_gaps (last c) = refl
fullest_gaps (more c lo hi s) = omega (arith, fullest_gaps s)

module _ {R : Type 0} (shape : Shape R) where
  abbrev pub bounded_row : R → Bool
  bounded_row x = bounded (shape.period x) (shape.deadline x) (all_ticks (shape.segments x)) (most_gaps (shape.segments x))

  abbrev pub segmented_lawful : R → Bool
  segmented_lawful x = shape.well_formed x && (ranged (shape.segments x) && bounded_row x)

  pub lawful_ranged : (x : R) → segmented_lawful x ≡ true → ranged (shape.segments x) ≡ true
  lawful_ranged x e = (and_parts (ranged (shape.segments x)) _ (and_parts (shape.well_formed x) _ e).1).0

  pub lawful_bounded : (x : R) → segmented_lawful x ≡ true → bounded_row x ≡ true
  lawful_bounded x e = (and_parts (ranged (shape.segments x)) _ (and_parts (shape.well_formed x) _ e).1).1

  -- rows of that shape: C is the sum of the segments, S the sum of the longest suspensions
  abbrev pub segmented : Kind R
  segmented = record {
    ident = shape.ident;
    period = shape.period;
    deadline = shape.deadline;
    compute = λ x. all_ticks (shape.segments x);
    suspend = λ x. most_gaps (shape.segments x);
    lawful = segmented_lawful;
    allows = λ x p. keeps_ranges (shape.segments x) p;
    blank = shape.blank;
    r1 = λ x l. bounds _ _ _ _ (lawful_bounded x l);
    r2 = λ x p l a. ranges_total (shape.segments x) p a;
    r3_compute = λ x l. (fullest (shape.segments x), fullest_keeps (shape.segments x) (lawful_ranged x l), fullest_ticks (shape.segments x));
    r3_suspend = λ x l. (fullest (shape.segments x), fullest_keeps (shape.segments x) (lawful_ranged x l), fullest_gaps (shape.segments x));
  }
