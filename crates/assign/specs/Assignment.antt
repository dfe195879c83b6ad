-- The assignment: which order is found for a table, and what is left where none is. Assumes nothing.
use Rattle.std.specs.Prelude.{◌≡◌, ℕ, ◌+◌, ◌<◌, cond, ◌≢◌, List, [], ◌∷◌, ◌++◌, map, length, take, Some, None, Option, ◌==◌, slice_index}
use Rattle.model.specs.Bags.{◌∈◌}

-- the pool with the place p taken out
abbrev pub others : ℕ → List ℕ → List ℕ
others p [] = []
others p (x ∷ xs) = cond (p == x) xs (x ∷ others p xs)

-- An order names table places, the highest level first, and stands beside its bounds.
-- `stuck` tells the places that are left. Both tell the number of questions.
pub data Outcome : Type 0 where
  accepted : (order bounds : List ℕ) (questions : ℕ) → Outcome
  stuck : (left : List ℕ) (questions : ℕ) → Outcome

-- what an outcome for the levels above becomes with one more level below them
abbrev pub over : ℕ → ℕ → ℕ → Outcome → Outcome
over p bound asked (accepted order bounds questions) = accepted (order ++ p ∷ []) (bounds ++ bound ∷ []) (asked + questions)
over p bound asked (stuck left questions) = stuck left (asked + questions)

-- `row` gives the row at a place
module _ {R : Type 0} (answer : R → List R → Option ℕ) (row : ℕ → R) where
  -- the answer for the task p of the pool, with all other tasks of the pool above it
  abbrev pub under_others : List ℕ → ℕ → Option ℕ
  under_others pool p = answer (row p) (map row (others p pool))

  -- The lowest free level: the tasks of the pool are tried in table order, and p, the first with a bound, takes it.
  pub record Takes (pool : List ℕ) (p bound questions : ℕ) : Type 0 where
    pub before : List ℕ
    pub after : List ℕ
    pub stands : pool ≡ before ++ p ∷ after
    pub failed : (x : ℕ) → x ∈ before → under_others pool x ≡ None
    pub fits : under_others pool p ≡ Some bound
    pub count : questions ≡ length before + 1

  -- No member of the set has a bound with the other members above it.
  pub record Stuck (set : List ℕ) : Type 0 where
    pub some_left : set ≢ []
    pub no_bound : (x : ℕ) → x ∈ set → under_others set x ≡ None

  -- Levels are filled from the lowest up until the pool is empty, or a level stays empty.
  pub data Assigned : List ℕ → Outcome → Type 0 where
    finished : Assigned [] (accepted [] [] 0)
    level : {pool : List ℕ} {p bound questions : ℕ} {above : Outcome} → Takes pool p bound questions → Assigned (others p pool) above → Assigned pool (over p bound questions above)
    empty_level : {pool : List ℕ} → Stuck pool → Assigned pool (stuck pool (length pool))

  -- From the places `start` on, the lowest levels are filled, by `order` and `bounds` with `asked` questions, and `pool` is left.
  pub data Filled (start : List ℕ) : List ℕ → List ℕ → List ℕ → ℕ → Type 0 where
    none_yet : Filled start start [] [] 0
    one_more : {pool order bounds : List ℕ} {asked p bound questions : ℕ} → Filled start pool order bounds asked → Takes pool p bound questions → Filled start (others p pool) (p ∷ order) (bound ∷ bounds) (asked + questions)

  -- every level of the order has its bound under the levels above it
  pub record Fits (order bounds : List ℕ) : Type 0 where
    pub as_many : length bounds ≡ length order
    pub fits : (i : ℕ) → i < length order → answer (row (slice_index order i)) (map row (take i order)) ≡ Some (slice_index bounds i)

  -- some level of the order has no bound under the levels above it
  abbrev pub Unfit : List ℕ → Type 0
  Unfit order = (i : ℕ) × (i < length order) × (answer (row (slice_index order i)) (map row (take i order)) ≡ None)
