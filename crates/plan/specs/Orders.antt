-- What the assignment of priorities leaves in the memories of a plan. Assumes nothing.
use Rattle.std.specs.Prelude.{◌≡◌, ℕ, ◌≤◌, List, [], length, Ok, Err, Result}
use Rattle.model.specs.Rows.{Kind}
use Rattle.feasibility.specs.Tests.{Answers}
use Rattle.feasibility.specs.Masks.{mask_of}
use Rattle.table.specs.Tables.{capacity, written}
use Rattle.assign.specs.Assignment.{accepted, stuck}
use Rattle.assign.specs.Laws.{Arranges}
use Rattle.assign.specs.Counts.{tasks_in}
use Rattle.assign.specs.declared.order.Left.{Left}

pub record OrderFound {R : Type 0} (kind : Kind R) (test : Answers R) (table : List R) (order order' bounds bounds' : List ℕ) (questions : ℕ) : Type 0 where
  pub chosen : List ℕ
  pub answered : List ℕ
  pub found : Arranges kind test table (accepted chosen answered questions)
  pub order_is : order' ≡ written 0 chosen order
  pub bounds_is : bounds' ≡ written 0 answered bounds

pub record NoOrderFound {R : Type 0} (kind : Kind R) (test : Answers R) (table : List R) (order order' bounds bounds' : List ℕ) (s : Left) : Type 0 where
  pub left : List ℕ
  pub found : Arranges kind test table (stuck left s.questions)
  pub mask_is : s.mask ≡ mask_of left
  pub counted : tasks_in s.mask ≡ length left
  pub few_left : tasks_in s.mask ≤ capacity
  pub order_is : order' ≡ written 0 [] order
  pub bounds_is : bounds' ≡ written 0 [] bounds

abbrev pub Ordered : {R : Type 0} → Kind R → Answers R → List R → List ℕ → List ℕ → List ℕ → List ℕ → Result ℕ Left → Type 0
Ordered kind test table order order' bounds bounds' (Ok questions) = OrderFound kind test table order order' bounds bounds' questions
Ordered kind test table order order' bounds bounds' (Err s) = NoOrderFound kind test table order order' bounds bounds' s
