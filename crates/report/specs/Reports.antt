-- The report's bytes. Assumes nothing.
use Rattle.std.specs.Prelude.{◌≡◌, ℕ, zero, suc, ◌≤◌, Bool, true, false, cond, not, ◌&&◌, ◌||◌, List, [], ◌∷◌, ◌++◌, length, take, Some, None, Ok, Err, codes, decimal, Option, Result, ◌==◌, nat_le, nat_lt, slice_index, slice_index_or}
use Rattle.model.specs.Rows.{Kind}
use Rattle.table.specs.Refusals.{refusal_number}
use Rattle.table.specs.declared.refusal.Refusal.{Refusal}
use Rattle.table.specs.declared.refusal.Refusal.TheVariants.{ShortMemory, NoSuchTask}
use Rattle.table.specs.declared.fault.Fault.{Fault}
use Rattle.table.specs.declared.fault.Fault.TheVariants.{Plan}
use Rattle.table.specs.Faults.{fault_refusal, fault_layer, fault_place, fault_inner, inner_text, site_text}
use Rattle.table.specs.Tables.{capacity, plan_fault}
use Rattle.report.specs.Memory.{with_bytes}

-- a field ends with a space, and the last of a line with a newline
abbrev pub field : ℕ → List ℕ
field n = decimal n ++ 0x20 ∷ []

abbrev pub last_field : ℕ → List ℕ
last_field n = decimal n ++ 0x0A ∷ []

-- ORDER, the number of tasks and the number of questions
abbrev pub order_head : ℕ → ℕ → List ℕ
order_head tasks questions = codes "ORDER " ++ (field tasks ++ last_field questions)

-- a level, counted from 1: the level, the id, the bound and the deadline
abbrev pub order_line : ℕ → ℕ → ℕ → ℕ → List ℕ
order_line level id bound deadline = field level ++ (field id ++ (field bound ++ last_field deadline))

module _ {R : Type 0} (kind : Kind R) (rows : List R) (order bounds : List ℕ) where
  -- the row of the task at entry i of the order
  abbrev pub row_at : ℕ → R
  row_at i = slice_index_or rows (slice_index order i) kind.blank

  -- the lines of the first n levels
  abbrev pub order_lines : ℕ → List ℕ
  order_lines zero = []
  order_lines (suc n) = order_lines n ++ order_line (suc n) (kind.ident (row_at n)) (slice_index bounds n) (kind.deadline (row_at n))

  abbrev pub order_bytes : ℕ → ℕ → List ℕ
  order_bytes tasks questions = order_head tasks questions ++ order_lines tasks

abbrev pub occurs : ℕ → List ℕ → Bool
occurs p [] = false
occurs p (q ∷ qs) = q == p || occurs p qs

-- each entry names one of n tasks, and none is named twice
abbrev pub each_once : ℕ → List ℕ → Bool
each_once n [] = true
each_once n (p ∷ ps) = nat_lt p n && (not (occurs p ps) && each_once n ps)

-- the plan's own fault, of the report: at place 0
abbrev pub report_fault : Refusal → Fault
report_fault why = Plan (plan_fault why 0)

-- the memories' lengths suffice
abbrev pub roomy : {R : Type 0} → List R → List ℕ → List ℕ → List ℕ → Bool
roomy rows order bounds memory = nat_le capacity (length rows) && (nat_le capacity (length order) && (nat_le capacity (length bounds) && nat_le 1024 (length memory)))

-- why an order cannot be reported, if it cannot
abbrev pub order_fault : {R : Type 0} → ℕ → List R → List ℕ → List ℕ → List ℕ → Option Fault
order_fault tasks rows order bounds memory =
    cond (roomy rows order bounds memory) (cond (nat_le tasks capacity && each_once tasks (take tasks order)) None (Some (report_fault NoSuchTask))) (Some (report_fault ShortMemory))

-- reporting an order: the answered length, and the memory after it
abbrev pub OrderReported : {R : Type 0} → Kind R → ℕ → ℕ → List R → List ℕ → List ℕ → List ℕ → List ℕ → Result ℕ Fault → Type 0
OrderReported kind tasks questions rows order bounds before after (Ok n) =
    (order_fault tasks rows order bounds before ≡ None) × (n ≡ length (order_bytes kind rows order bounds tasks questions)) × (after ≡ with_bytes before 0 (order_bytes kind rows order bounds tasks questions))
OrderReported kind tasks questions rows order bounds before after (Err fault) = (order_fault tasks rows order bounds before ≡ Some fault) × (after ≡ before)

-- REFUSED, the number, and the layers with their places, the inner one first
abbrev pub refused_bytes : Fault → List ℕ
refused_bytes f =
    codes "REFUSED " ++ (decimal (refusal_number (fault_refusal f)) ++ (inner_text (fault_inner f) ++ (site_text (fault_layer f) (fault_place f) ++ 0x0A ∷ [])))

-- Writing a report into a memory: its length is answered, and nothing else is written; nothing at all where the memory is short.
abbrev pub Writes : List ℕ → List ℕ → List ℕ → Result ℕ Fault → Type 0
Writes report before after (Ok n) = (1024 ≤ length before) × (n ≡ length report) × (after ≡ with_bytes before 0 report)
Writes report before after (Err fault) = (nat_le 1024 (length before) ≡ false) × (fault ≡ report_fault ShortMemory) × (after ≡ before)
