-- What the search's loops keep. Assumes nothing.
use Rattle.std.proofs.Common.{◌≡◌, ℕ, List, ◌++◌, length, take, drop, None}
use Rattle.model.specs.Rows.{Kind}
use Rattle.feasibility.specs.Tests.{Answers}
use Rattle.feasibility.specs.Masks.{row_of, in_mask}
use Rattle.model.specs.Bags.{◌∈◌}
use Rattle.assign.specs.Assignment.{under_others, Filled}
use Rattle.assign.specs.Laws.{all_places}

-- the levels from `level` down are filled, and the memories were order₀ and bounds₀
pub record Levels {R : Type 0} (kind : Kind R) (test : Answers R) (rows : List R) (order₀ bounds₀ : List ℕ) (level pool questions : ℕ) (order bounds : List ℕ) : Type 0 where
  pub chosen : List ℕ
  pub answered : List ℕ
  pub filled : Filled test.answer (row_of kind rows) (all_places rows) (in_mask pool (length rows)) chosen answered questions
  pub order_is : order ≡ take level order₀ ++ chosen ++ drop (length rows) order₀
  pub bounds_is : bounds ≡ take level bounds₀ ++ answered ++ drop (length rows) bounds₀

-- the places of the pool below `place` have no bound with the others of the pool above them
pub record Failed {R : Type 0} (kind : Kind R) (test : Answers R) (rows : List R) (pool place : ℕ) : Type 0 where
  pub failed : (x : ℕ) → x ∈ in_mask pool place → under_others test.answer (row_of kind rows) (in_mask pool (length rows)) x ≡ None
