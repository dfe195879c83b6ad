-- The states of a plan with its memories, and what its calls answer. Assumes nothing.
use Rattle.std.specs.Prelude.{ℕ, List, take, drop, Some, None, Option}
use Rattle.table.specs.declared.fault.Fault.{Fault}
use Rattle.table.specs.declared.refusal.Refusal.{Refusal}
use Rattle.table.specs.Faults.{fault_refusal}
use Rattle.table.specs.Tables.{capacity}

-- A plan is open or arranged, with its number of tasks. Its rows, order and bounds lie in memories of any length, the tasks first.
pub data State (R : Type 0) : Type 0 where
  opened : (tasks : ℕ) (rows : List R) (order bounds : List ℕ) → State R
  arranged : (tasks questions : ℕ) (rows : List R) (order bounds : List ℕ) → State R

pub data Answer : Type 0 where
  done : Answer
  -- of a load: the sheet's letter
  letter : (byte : ℕ) → Answer
  -- of a read: the id and the bound at the level
  told : (id bound : ℕ) → Answer
  refused : Fault → Answer
  -- of an arrange: beside the fault the places left, as a number with bit p set for each place p, and how many questions were put
  refused_beside : Fault → (left questions : ℕ) → Answer

-- the refusal that an answer tells, if it tells one
abbrev pub refusal_of : Answer → Option Refusal
refusal_of done = None
refusal_of (letter byte) = None
refusal_of (told id bound) = None
refusal_of (refused f) = Some (fault_refusal f)
refusal_of (refused_beside f left questions) = Some (fault_refusal f)

-- the number of tasks
abbrev pub tasks_of : {R : Type 0} → State R → ℕ
tasks_of (opened n rows order bounds) = n
tasks_of (arranged n questions rows order bounds) = n

-- the table: the rows of the tasks
abbrev pub table_of : {R : Type 0} → State R → List R
table_of (opened n rows order bounds) = take n rows
table_of (arranged n questions rows order bounds) = take n rows

-- what lies in the memories from place 32 on
abbrev pub past_capacity : {R : Type 0} → State R → List R × List ℕ × List ℕ
past_capacity (opened n rows order bounds) = (drop capacity rows, drop capacity order, drop capacity bounds)
past_capacity (arranged n questions rows order bounds) = (drop capacity rows, drop capacity order, drop capacity bounds)
