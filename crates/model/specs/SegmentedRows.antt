-- Segmented rows: how their fields are read. Assumes nothing.
use Rattle.std.specs.Prelude.{ℕ, zero, suc, ◌-◌, Bool, true, cond, ◌&&◌, List, [], ◌∷◌, drop, replicate, ◌==◌, nat_le, nat_lt, slice_index}
use Rattle.model.specs.Rows.{Kind}
use Rattle.model.specs.Segments.{Segments, last, more, Shape, segmented}
use Rattle.model.specs.declared.segmented.Segmented.{Segmented}

-- C[j], the most ticks of segment j: 0 if the row has no such segment
abbrev pub segment_cost : Segmented → ℕ → ℕ
segment_cost x j = cond (nat_lt j x.count) (slice_index x.costs j) 0

-- the most ticks of the suspension after segment j: 0 if no segment follows it
abbrev pub suspension_most : Segmented → ℕ → ℕ
suspension_most x j = cond (nat_lt j (x.count - 1)) (slice_index x.most j) 0

-- segment j and the n segments after it
abbrev pub segments_from : Segmented → ℕ → ℕ → Segments
segments_from x zero j = last (segment_cost x j)
segments_from x (suc n) j = more (segment_cost x j) (slice_index x.least j) (suspension_most x j) (segments_from x n (suc j))

-- the row's segments
abbrev pub segments_of : Segmented → Segments
segments_of x = segments_from x (x.count - 1) 0

abbrev pub all_zero : List ℕ → Bool
all_zero [] = true
all_zero (n ∷ ns) = n == 0 && all_zero ns

-- there are 1 to 8 segments, and unused places are 0
abbrev pub well_formed : Segmented → Bool
well_formed x =
    nat_le 1 x.count && (nat_le x.count 8 && (all_zero (drop x.count x.costs) && (all_zero (drop (x.count - 1) x.least) && all_zero (drop (x.count - 1) x.most))))

abbrev pub segmented_blank : Segmented
segmented_blank = record { id = 0; period = 0; deadline = 0; count = 0; costs = replicate 8 0; least = replicate 7 0; most = replicate 7 0 }

abbrev pub segmented_shape : Shape Segmented
segmented_shape = record {
  ident = λ x. x.id;
  period = λ x. x.period;
  deadline = λ x. x.deadline;
  segments = segments_of;
  well_formed = well_formed;
  blank = segmented_blank;
}

abbrev pub segmented_kind : Kind Segmented
segmented_kind = segmented segmented_shape
