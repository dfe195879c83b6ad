-- How whole rows are written down. Assumes nothing.
use Rattle.std.specs.Prelude.{ℕ, List, ◌∷◌, ◌++◌}
use Rattle.model.specs.declared.whole.Whole.{Whole}
use Rattle.sheet.specs.Bytes.{whole_task_byte}
use Rattle.sheet.specs.Spelling.{Two, Four}

-- one command, with the id, the period, the deadline and both totals
pub data WholeTask : Whole → List ℕ → Type 0 where
  task : {id period deadline compute suspend : ℕ} {ids periods deadlines computes suspends : List ℕ} → Two id ids → Four period periods → Four deadline deadlines → Four compute computes → Four suspend suspends → WholeTask (record { id = id; period = period; deadline = deadline; compute = compute; suspend = suspend }) (whole_task_byte ∷ (ids ++ (periods ++ (deadlines ++ (computes ++ suspends)))))
