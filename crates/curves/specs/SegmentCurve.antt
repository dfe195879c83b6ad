-- The segment curve, for segmented rows. Assumes nothing.
use Rattle.std.specs.Prelude.{◌≡◌, ℕ, zero, suc, ◌+◌, ◌-◌, ◌*◌, ◌%◌, ◌<◌, ◌≤◌, min, true, cond, ◌==◌, nat_le, nat_lt}
use Rattle.model.specs.Rows.{limit}
use Rattle.model.specs.Segments.{Segments, last, more, count, all_ticks, least_gaps, Shape, segmented_lawful}
use Rattle.curves.specs.Curves.{Workload}

-- the most ticks of segment j, and the least suspension after it
abbrev pub ticks_at : Segments → ℕ → ℕ
ticks_at (last c) zero = c
ticks_at (last c) (suc j) = 0
ticks_at (more c lo hi s) zero = c
ticks_at (more c lo hi s) (suc j) = ticks_at s j

abbrev pub gap_at : Segments → ℕ → ℕ
gap_at (last c) j = 0
gap_at (more c lo hi s) zero = lo
gap_at (more c lo hi s) (suc j) = gap_at s j

-- A task's jobs one after another without end, each in its M segments. The segments are numbered on and on: segment j takes the ticks of
-- segment j mod M, and is followed by a gap.
module _ (s : Segments) (T D : ℕ) where
  -- the gap after segment j. Inside a job it is the least suspension. After a job's last segment it is T − D if j ≤ M, as if the job had
  -- ended at its deadline, and past that T − C − (sum of the least suspensions), so that a job comes every T ticks
  abbrev pub gap_after : ℕ → ℕ
  gap_after j =
      cond (suc (j % count s) == count s) (cond (nat_le j (count s)) (T - D) (T - (all_ticks s + least_gaps s))) (gap_at s (j % count s))

  -- the segment ticks among the first u ticks of the n segments from segment j on
  abbrev pub work_from : ℕ → ℕ → ℕ → ℕ
  work_from zero j u = 0
  work_from (suc n) j u = min (ticks_at s (j % count s)) u + work_from n (suc j) (u - (ticks_at s (j % count s) + gap_after j))

  -- The work of phase h in t ticks: it begins with segment h. A whole job takes a tick or more, so the segments of t + 1 jobs are enough
  abbrev pub phase_work : ℕ → ℕ → ℕ
  phase_work t h = work_from (suc t * count s) h t

-- the greatest of work 0 to work (M - 1), and the lowest number that gives it
pub record Peak (M : ℕ) (work : ℕ → ℕ) (r : ℕ × ℕ) : Type 0 where
  pub in_range : r.1 < M
  pub is : work r.1 ≡ r.0
  pub most : (h : ℕ) → h < M → work h ≤ r.0
  pub lowest : (h : ℕ) → h < r.1 → work h < r.0

-- the same, computed, for the numbers 0 to m
abbrev pub greatest : (ℕ → ℕ) → ℕ → ℕ × ℕ
greatest work zero = (work 0, 0)
greatest work (suc m) = cond (nat_lt (greatest work m).0 (work (suc m))) (work (suc m), suc m) (greatest work m)

module _ {R : Type 0} (shape : Shape R) where
  -- the same for the segments of a row
  abbrev pub row_gap_after : R → ℕ → ℕ
  row_gap_after x j = gap_after (shape.segments x) (shape.period x) (shape.deadline x) j

  abbrev pub row_work_from : R → ℕ → ℕ → ℕ → ℕ
  row_work_from x n j u = work_from (shape.segments x) (shape.period x) (shape.deadline x) n j u

  abbrev pub row_work : R → ℕ → ℕ → ℕ
  row_work x t h = phase_work (shape.segments x) (shape.period x) (shape.deadline x) t h

  -- the greatest work of a phase, and the lowest phase that gives it: (0, 0) for a row that is not lawful, and past the limit what they are there
  abbrev pub segment_peak : R → ℕ → ℕ × ℕ
  segment_peak x t = cond (segmented_lawful shape x) (greatest (row_work x (min t limit)) (count (shape.segments x) - 1)) (0, 0)

  -- the work alone, under the letter C
  abbrev pub segment_workload : Workload R
  segment_workload = record { letter = 0x43; ticks = λ x t. (segment_peak x t).0 }

  -- what a pair is for a lawful row: the peak of its phases' work, however many segments are looked at, if only enough
  abbrev pub PeakOfPhases : R → ℕ → ℕ × ℕ → Type 0
  PeakOfPhases x t r =
      segmented_lawful shape x ≡ true → (n : ℕ) → suc (min t limit) * count (shape.segments x) ≤ n
      → Peak (count (shape.segments x)) (λ h. row_work_from x n h (min t limit)) r
