-- The report of a plan that was arranged, or could not be. Assumes nothing.
use Rattle.std.proofs.Common.{◌≡◌, ℕ, ◌-◌, ◌≤◌, false, List, ◌++◌, length, take, drop, replicate, Result, sym, ap, ◌∙◌, subst, append_assoc, arith}
use Rattle.std.proofs.lemmas.List.{length-take-le}
use Rattle.std.proofs.lemmas.Bool.{or_from}
use Rattle.model.specs.Rows.{Kind}
use Rattle.feasibility.specs.Tests.{Answers, TestRules}
use Rattle.model.specs.Bags.{◌~◌}
use Rattle.feasibility.specs.Masks.{places}
use Rattle.assign.specs.Assignment.{accepted, stuck}
use Rattle.assign.proofs.Optimal.{laws}
use Rattle.table.specs.declared.fault.Fault.{Fault}
use Rattle.table.specs.Tables.{LawfulTable, written}
use Rattle.plan.specs.States.{opened, arranged, done, refused_beside}
use Rattle.plan.specs.Calls.{Arrange, given, none_fits, not_arranged, some_short, arrange_checks}
use Rattle.plan.proofs.Rows.{lawful_passes}
use Rattle.plan.proofs.Checks.{not_met}
use Rattle.plan.proofs.Effects.{long_all, many_chosen, many_answered}
use Rattle.plan.proofs.Memories.{not_short, written_length}
use Rattle.report.specs.Reports.{OrderReported, Writes, order_bytes, refused_bytes}
use Rattle.planning.specs.Planned.{ReportsArranged}
use Rattle.planning.proofs.Reported.{order_written}

long_enough : {R : Type 0} (rows : List R) (order bounds : List ℕ) → 32 ≤ length rows → 32 ≤ length order → 32 ≤ length bounds → some_short rows order bounds ≡ false
long_enough rows order bounds r o b = or_from _ _ (not_short rows r) (or_from _ _ (not_short order o) (not_short bounds b))

module _ {R : Type 0} {kind : Kind R} {test : Answers R} {n : ℕ} {rows : List R} {order bounds : List ℕ} (before after : List ℕ) (r : Result ℕ Fault) where
  pub given_reports : TestRules kind test → n ≤ 32 → {m questions : ℕ} {rows' : List R} {order' bounds' : List ℕ} → Arrange kind test (opened n rows order bounds) done (arranged m questions rows' order' bounds')
      → OrderReported kind m questions rows' order' bounds' before after r → ReportsArranged kind test (take n rows) before after r
  given_reports rules few (given {questions = questions} {chosen = chosen} {answered = answered} p d) w = (accepted chosen answered questions, d, in_table)
    where
      long : (32 ≤ length rows) × (32 ≤ length order) × (32 ≤ length bounds)
      long = long_all kind rows order bounds p.0

      size : length (take n rows) ≡ n
      size = length-take-le n rows (omega (arith, long.0))

      each : chosen ~ places n
      each = subst (λ (k : ℕ). chosen ~ places k) size ((laws kind test rules (take n rows)).accepted_fits chosen answered questions d).0

      many : length chosen ≡ n
      many = many_chosen kind test rules n rows few long.0 d

      as_many : length answered ≡ n
      as_many = many_answered kind test rules n rows few long.0 d

      order_is : written 0 chosen order ≡ chosen ++ (replicate (32 - length chosen) 0 ++ drop 32 order)
      order_is = append_assoc chosen (replicate (32 - length chosen) 0) (drop 32 order)

      bounds_is : written 0 answered bounds ≡ answered ++ (replicate (32 - length answered) 0 ++ drop 32 bounds)
      bounds_is = append_assoc answered (replicate (32 - length answered) 0) (drop 32 bounds)

      in_memory : OrderReported kind n questions rows (chosen ++ (replicate (32 - length chosen) 0 ++ drop 32 order)) (answered ++ (replicate (32 - length answered) 0 ++ drop 32 bounds)) before after r
      in_memory =
          subst (λ (xs : List ℕ). OrderReported kind n questions rows xs (answered ++ (replicate (32 - length answered) 0 ++ drop 32 bounds)) before after r) order_is
          (subst (λ (xs : List ℕ). OrderReported kind n questions rows (written 0 chosen order) xs before after r) bounds_is w)

      lines : Writes (order_bytes kind (take n rows) chosen answered n questions) before after r
      lines =
          order_written kind rows n questions chosen answered (replicate (32 - length chosen) 0 ++ drop 32 order) (replicate (32 - length answered) 0 ++ drop 32 bounds) before few long.0
          (omega (arith, written_length 0 chosen order (omega (arith, many)) long.1, ap length order_is, long.1))
          (omega (arith, written_length 0 answered bounds (omega (arith, as_many)) long.2, ap length bounds_is, long.2))
          each (as_many ∙ sym many) after r in_memory

      in_table : Writes (order_bytes kind (take n rows) chosen answered (length (take n rows)) questions) before after r
      in_table = subst (λ (k : ℕ). Writes (order_bytes kind (take n rows) chosen answered k questions) before after r) (sym size) lines

  pub refused_reports : LawfulTable kind (take n rows) → 32 ≤ length rows → 32 ≤ length order → 32 ≤ length bounds → {m left questions : ℕ} {fault : Fault} {rows' : List R} {order' bounds' : List ℕ}
      → Arrange kind test (opened n rows order bounds) (refused_beside fault left questions) (opened m rows' order' bounds')
      → Writes (refused_bytes fault) before after r → ReportsArranged kind test (take n rows) before after r
  refused_reports lawful lr lo lb (none_fits {questions = questions} {left = tasks} p d) w = (stuck tasks questions, d, w)
  refused_reports lawful lr lo lb (not_arranged {f = fault} f) w =
      absurd (not_met (arrange_checks kind n rows order bounds) fault (long_enough rows order bounds lr lo lb, lawful_passes kind (take n rows) lawful) f)
