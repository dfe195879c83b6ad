-- The piecewise test: what it answers, for segmented rows and over any curve for them. Assumes nothing.
use Rattle.std.specs.Prelude.{ℕ, ◌+◌, cond, List, ◌∷◌, Some, None, Option, nat_le}
use Rattle.model.specs.Rows.{all_lawful}
use Rattle.model.specs.Segments.{Segments, last, more, most_gaps, Shape, segmented}
use Rattle.curves.specs.Curves.{Workload}
use Rattle.feasibility.specs.Tests.{Answers}
use Rattle.feasibility.specs.Windows.{least, fits}

-- a sum that is missing if a part is
abbrev pub plus : Option ℕ → Option ℕ → Option ℕ
plus None o = None
plus (Some a) None = None
plus (Some a) (Some b) = Some (a + b)

-- the sum of r[j] over the segments, where r gives each by the segment's ticks
abbrev pub sum_of : (ℕ → Option ℕ) → Segments → Option ℕ
sum_of r (last c) = r c
sum_of r (more c lo hi s) = plus (r c) (sum_of r s)

-- a number that is at most d
abbrev pub up_to : ℕ → Option ℕ → Option ℕ
up_to d None = None
up_to d (Some b) = cond (nat_le b d) (Some b) None

-- r[j], by the ticks of segment j: the smallest t ≤ D with C[j] + (curves of A at t) ≤ t
abbrev pub part : {R : Type 0} → (R → ℕ → ℕ) → ℕ → List R → ℕ → Option ℕ
part ticks D A c = least (fits ticks c A) D

-- the bound is S plus all r[j], if that is at most D
abbrev pub piecewise : {R : Type 0} → Shape R → (R → ℕ → ℕ) → R → List R → Option ℕ
piecewise shape ticks x A =
    let s = shape.segments x in
    let D = shape.deadline x in
    cond (all_lawful (segmented shape) (x ∷ A)) (up_to D (plus (Some (most_gaps s)) (sum_of (part ticks D A) s))) None

-- the test: its letter is A, whatever the curve is
abbrev pub piecewise_answers : {R : Type 0} → Shape R → Workload R → Answers R
piecewise_answers shape w = record { letter = 0x41; answer = piecewise shape w.ticks }
