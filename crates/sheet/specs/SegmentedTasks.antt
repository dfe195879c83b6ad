-- How segmented rows are written down. Assumes nothing.
use Rattle.std.specs.Prelude.{ℕ, ◌-◌, ◌≤◌, List, [], ◌∷◌, ◌++◌, length, replicate}
use Rattle.model.specs.declared.segmented.Segmented.{Segmented}
use Rattle.model.specs.Segments.{Segments, last, more, count}
use Rattle.sheet.specs.Bytes.{open_byte, open_short_byte, segment_byte, suspension_byte, suspension_short_byte, task_end_byte}
use Rattle.sheet.specs.Spelling.{Two, Four}

-- an opening with its deadline, or the short one, where the deadline is the period
pub data Opening : (id period deadline : ℕ) → List ℕ → Type 0 where
  long : {id period deadline : ℕ} {ids periods deadlines : List ℕ} → Two id ids → Four period periods → Four deadline deadlines → Opening id period deadline (open_byte ∷ (ids ++ (periods ++ deadlines)))
  short : {id period : ℕ} {ids periods : List ℕ} → Two id ids → Four period periods → Opening id period period (open_short_byte ∷ (ids ++ periods))

-- a suspension with its range, or the short one, where both ends are equal
pub data Suspension : (least most : ℕ) → List ℕ → Type 0 where
  range : {least most : ℕ} {leasts mosts : List ℕ} → Four least leasts → Four most mosts → Suspension least most (suspension_byte ∷ (leasts ++ mosts))
  equal : {ticks : ℕ} {bytes : List ℕ} → Four ticks bytes → Suspension ticks ticks (suspension_short_byte ∷ bytes)

-- segments with suspensions between them, and the end of the task
pub data Body : Segments → List ℕ → Type 0 where
  final : {cost : ℕ} {costs : List ℕ} → Four cost costs → Body (last cost) (segment_byte ∷ (costs ++ task_end_byte ∷ []))
  next : {cost low high : ℕ} {costs between rest : List ℕ} {segments : Segments} → Four cost costs → Suspension low high between → Body segments rest → Body (more cost low high segments) (segment_byte ∷ (costs ++ (between ++ rest)))

-- the costs of segments, and the ends of the ranges of the suspensions between them
abbrev pub costs_of : Segments → List ℕ
costs_of (last c) = c ∷ []
costs_of (more c lo hi s) = c ∷ costs_of s

abbrev pub least_of : Segments → List ℕ
least_of (last c) = []
least_of (more c lo hi s) = lo ∷ least_of s

abbrev pub most_of : Segments → List ℕ
most_of (last c) = []
most_of (more c lo hi s) = hi ∷ most_of s

-- these numbers first, and 0 in the places that are left of n
abbrev pub padded : ℕ → List ℕ → List ℕ
padded n xs = xs ++ replicate (n - length xs) 0

-- the row with these segments
abbrev pub row_of : ℕ → ℕ → ℕ → Segments → Segmented
row_of id period deadline s =
    record { id = id; period = period; deadline = deadline; count = count s; costs = padded 8 (costs_of s); least = padded 7 (least_of s); most = padded 7 (most_of s) }

-- a task: an opening, and eight segments at most
pub data SegmentedTask : Segmented → List ℕ → Type 0 where
  task : {id period deadline : ℕ} {opening body : List ℕ} {segments : Segments} → Opening id period deadline opening → Body segments body → count segments ≤ 8 → SegmentedTask (row_of id period deadline segments) (opening ++ body)
