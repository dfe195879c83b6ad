-- The report of an order that the assignment gives. Assumes nothing.
use Rattle.std.proofs.Common.{◌≡◌, ℕ, ◌<◌, ◌≤◌, Bool, true, false, cond, leb, List, ◌++◌, length, get_or, take, Some, None, Ok, Err, Result, sym, refl, ap, ◌∙◌, arith}
use Rattle.std.proofs.lemmas.List.{take_all, take_at}
use Rattle.std.proofs.lemmas.Bool.{le-leb, leb-true}
use Rattle.model.specs.Bags.{◌~◌}
use Rattle.model.specs.Rows.{Kind}
use Rattle.feasibility.specs.Masks.{places}
use Rattle.assign.proofs.Bags.{length-~}
use Rattle.assign.proofs.Steps.{length_places}
use Rattle.table.specs.declared.fault.Fault.{Fault}
use Rattle.table.specs.declared.refusal.Refusal.TheVariants.{ShortMemory}
use Rattle.report.specs.Memory.{with_bytes}
use Rattle.report.specs.Reports.{each_once, report_fault, order_bytes, order_head, order_fault, OrderReported, Writes}
use Rattle.report.proofs.Orders.{named}
use Rattle.planning.proofs.Orders.{names_once, same_lines}

module _ {R : Type 0} (kind : Kind R) (rows : List R) (n questions : ℕ) (chosen answered more_order more_bounds before : List ℕ)
    (few : n ≤ 32) (long : 32 ≤ length rows) (long_order : 32 ≤ length (chosen ++ more_order)) (long_bounds : 32 ≤ length (answered ++ more_bounds)) (each : chosen ~ places n) (as_many : length answered ≡ length chosen) where
  many : length chosen ≡ n
  many = length-~ each ∙ length_places n

  once : each_once n (take n (chosen ++ more_order)) ≡ true
  once = ap (each_once n) (take_at chosen more_order n many) ∙ names_once n chosen each

  named_below : (i : ℕ) → i < n → get_or chosen i 0 < n
  named_below i l = named n n i chosen (omega (arith, many)) l (ap (each_once n) (take_all n chosen (omega (arith, many))) ∙ names_once n chosen each)

  same_bytes : order_bytes kind rows (chosen ++ more_order) (answered ++ more_bounds) n questions ≡ order_bytes kind (take n rows) chosen answered n questions
  same_bytes = ap (λ (xs : List ℕ). order_head n questions ++ xs) (same_lines kind rows chosen answered more_order more_bounds n n (omega arith) (omega arith) many (as_many ∙ many) named_below)

  -- only the report's memory can be short
  fault_is : order_fault n rows (chosen ++ more_order) (answered ++ more_bounds) before ≡ cond (leb 1024 (length before)) None (Some (report_fault ShortMemory))
  fault_is =
      let a : leb 32 (length rows) ≡ true = le-leb _ _ long in
      let b : leb 32 (length (chosen ++ more_order)) ≡ true = le-leb _ _ long_order in
      let c : leb 32 (length (answered ++ more_bounds)) ≡ true = le-leb _ _ long_bounds in
      let d : leb n 32 ≡ true = le-leb _ _ few in
      rw (a, b, c, d, once) refl

  pub order_written : (after : List ℕ) (r : Result ℕ Fault) → OrderReported kind n questions rows (chosen ++ more_order) (answered ++ more_bounds) before after r
      → Writes (order_bytes kind (take n rows) chosen answered n questions) before after r
  order_written after (Ok m) (e, l, w) = go (leb 1024 (length before)) refl (sym fault_is ∙ e)
    where
      go : (b : Bool) → leb 1024 (length before) ≡ b → cond b None (Some (report_fault ShortMemory)) ≡ None → Writes (order_bytes kind (take n rows) chosen answered n questions) before after (Ok m)
      go true f h = (leb-true 1024 (length before) f, l ∙ ap length same_bytes, w ∙ ap (λ (xs : List ℕ). with_bytes before 0 xs) same_bytes)
      go false f h = let z : ◌≡◌ {A = ℕ} 0 1 = cc in absurd (omega arith)
  order_written after (Err f) (e, w) = go (leb 1024 (length before)) refl (sym fault_is ∙ e)
    where
      go : (b : Bool) → leb 1024 (length before) ≡ b → cond b None (Some (report_fault ShortMemory)) ≡ Some f → Writes (order_bytes kind (take n rows) chosen answered n questions) before after (Err f)
      go true g h = let z : ◌≡◌ {A = ℕ} 0 1 = cc in absurd (omega arith)
      go false g h = (g, cc, w)
