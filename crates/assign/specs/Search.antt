-- What the search answers and writes. Assumes nothing.
use Rattle.std.specs.Prelude.{◌≡◌, ℕ, ◌<◌, ◌≤◌, Bool, true, false, ◌&&◌, ◌↔◌, List, ◌++◌, length, take, drop, Ok, Err, Result, nat_le, slice_index}
use Rattle.model.specs.Rows.{Kind}
use Rattle.feasibility.specs.Tests.{Answers}
use Rattle.feasibility.specs.Masks.{row_of, mask_of, in_mask}
use Rattle.assign.specs.Assignment.{Outcome, accepted, stuck, Filled, Fits}
use Rattle.assign.specs.Assignment as assignment
use Rattle.assign.specs.Laws.{all_places, Arranges, NoneFits, BoundsHold}
use Rattle.model.specs.Bags.{◌~◌, Part}
use Rattle.assign.specs.declared.order.Left.{Left}
use Rattle.assign.specs.declared.order.NoOrder.{NoOrder}
use Rattle.assign.specs.declared.order.NoOrder.TheVariants.{NoRoom, Stuck}

-- at most 32 rows, and as many entries in each memory
abbrev pub has_room : {R : Type 0} → List R → List ℕ → List ℕ → Bool
has_room rows order bounds = nat_le (length rows) 32 && (nat_le (length rows) (length order) && nat_le (length rows) (length bounds))

-- An order is found: it and its bounds stand in the first entries, and what is past them is as it was.
pub record Accepts {R : Type 0} (kind : Kind R) (test : Answers R) (rows : List R) (order order' bounds bounds' : List ℕ) (questions : ℕ) : Type 0 where
  pub room : has_room rows order bounds ≡ true
  pub chosen : List ℕ
  pub answered : List ℕ
  pub found : Arranges kind test rows (accepted chosen answered questions)
  pub order_is : order' ≡ chosen ++ drop (length rows) order
  pub bounds_is : bounds' ≡ answered ++ drop (length rows) bounds

-- A level stays empty: the mask has the places that are left. The levels below it stand in the last of the first entries, and the others are as they were.
pub record Sticks {R : Type 0} (kind : Kind R) (test : Answers R) (rows : List R) (order order' bounds bounds' : List ℕ) (s : Left) : Type 0 where
  pub room : has_room rows order bounds ≡ true
  pub left : List ℕ
  pub found : Arranges kind test rows (stuck left s.questions)
  pub left_is : left ≡ in_mask s.mask (length rows)
  pub mask_is : s.mask ≡ mask_of left
  pub chosen : List ℕ
  pub answered : List ℕ
  pub asked : ℕ
  pub filled : Filled test.answer (row_of kind rows) (all_places rows) left chosen answered asked
  pub order_is : order' ≡ take (length left) order ++ chosen ++ drop (length rows) order
  pub bounds_is : bounds' ≡ take (length left) bounds ++ answered ++ drop (length rows) bounds

-- what is answered, and what the memories hold then
abbrev pub Searched : {R : Type 0} → Kind R → Answers R → List R → List ℕ → List ℕ → List ℕ → List ℕ → Result ℕ NoOrder → Type 0
Searched kind test rows order order' bounds bounds' (Ok q) = Accepts kind test rows order order' bounds bounds' q
Searched kind test rows order order' bounds bounds' (Err NoRoom) = (has_room rows order bounds ≡ false) × (order' ≡ order) × (bounds' ≡ bounds)
Searched kind test rows order order' bounds bounds' (Err (Stuck s)) = Sticks kind test rows order order' bounds bounds' s

-- the answer that tells an outcome
abbrev pub Told : Outcome → Result ℕ NoOrder → Type 0
Told (accepted order bounds questions) r = r ≡ Ok questions
Told (stuck left questions) r = r ≡ Err (Stuck (record { mask = mask_of left; questions = questions }))

-- where there is room, whatever the assignment comes to is told
abbrev pub Tells : {R : Type 0} → Kind R → Answers R → List R → List ℕ → List ℕ → Result ℕ NoOrder → Type 0
Tells kind test rows order bounds r = has_room rows order bounds ≡ true → (o : Outcome) → Arranges kind test rows o → Told o r

-- The order that is written has each place once. Each level's bound is the answer under the levels above it, is 1 to the deadline, and holds in
-- every lawful run of that order.
pub record Fitted {R : Type 0} (kind : Kind R) (test : Answers R) (rows : List R) (order bounds : List ℕ) : Type 0 where
  pub each_once : take (length rows) order ~ all_places rows
  pub fits : Fits test.answer (row_of kind rows) (take (length rows) order) (take (length rows) bounds)
  pub in_time : (i : ℕ) → i < length rows → (1 ≤ slice_index bounds i) × (slice_index bounds i ≤ kind.deadline (row_of kind rows (slice_index order i)))
  pub holds : BoundsHold kind rows (take (length rows) order) (take (length rows) bounds)

-- The places of the mask are stuck, and contain every stuck set.
pub record Largest {R : Type 0} (kind : Kind R) (test : Answers R) (rows : List R) (mask : ℕ) : Type 0 where
  pub is_stuck_set : assignment.Stuck test.answer (row_of kind rows) (in_mask mask (length rows))
  pub has_every : (set : List ℕ) → Part set (all_places rows) → assignment.Stuck test.answer (row_of kind rows) set → Part set (in_mask mask (length rows))

-- what an answer means, by the laws of the test
abbrev pub Means : {R : Type 0} → Kind R → Answers R → List R → List ℕ → List ℕ → Result ℕ NoOrder → Type 0
Means kind test rows order' bounds' (Ok q) = Fitted kind test rows order' bounds'
Means kind test rows order' bounds' (Err NoRoom) = Unit {0}
Means kind test rows order' bounds' (Err (Stuck s)) = Largest kind test rows s.mask

abbrev pub is_stuck : Result ℕ NoOrder → Bool
is_stuck (Ok q) = false
is_stuck (Err NoRoom) = false
is_stuck (Err (Stuck s)) = true

-- Where there is room, the search is stuck exactly when every order leaves some task without a bound under the tasks above it.
abbrev pub StuckExactly : {R : Type 0} → Kind R → Answers R → List R → List ℕ → List ℕ → Result ℕ NoOrder → Type 0
StuckExactly kind test rows order bounds r = has_room rows order bounds ≡ true → (is_stuck r ≡ true) ↔ NoneFits kind test rows
