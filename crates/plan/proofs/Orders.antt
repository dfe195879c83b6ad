-- The assignment of priorities over memories of 32 entries. Assumes nothing.
use Rattle.std.proofs.Common.{◌≡◌, ℕ, ◌+◌, ◌-◌, ◌^◌, ◌<◌, ◌≤◌, List, [], ◌++◌, length, take, drop, Err, Option, sym, refl, ap, ◌∙◌, subst, arith, length-append}
use Rattle.std.proofs.lemmas.Nat.{mod_below, pow_pos}
use Rattle.std.proofs.lemmas.List.{length-take-le, take_at}
use Rattle.model.specs.Rows.{Kind}
use Rattle.feasibility.specs.Tests.{Answers, TestRules}
use Rattle.feasibility.specs.Masks.{row_of, in_mask, mask_of}
use Rattle.feasibility.proofs.Masks.{mask_in, in_past}
use Rattle.table.specs.Tables.{written}
use Rattle.assign.specs.Assignment.{Filled, none_yet, one_more}
use Rattle.assign.specs.Search.{Accepts, Sticks, Searched}
use Rattle.assign.specs.Counts.{tasks_in}
use Rattle.assign.specs.declared.order.Left.{Left}
use Rattle.assign.specs.declared.order.NoOrder.{NoOrder}
use Rattle.assign.specs.declared.order.NoOrder.TheVariants.{Stuck}
use Rattle.assign.proofs.Bags.{length-~}
use Rattle.assign.proofs.Outcomes.{takes_in}
use Rattle.assign.proofs.Optimal.{laws}
use Rattle.assign.proofs.Steps.{length_places}
use Rattle.plan.specs.Orders.{OrderFound, NoOrderFound}
use Rattle.plan.proofs.Memories.{written_same, front_past}

-- a set of places of a table has as many tasks as places
tasks_of_table : (mask n : ℕ) → n ≤ 32 → mask < 2 ^ n → tasks_in mask ≡ length (in_mask mask n)
unfolding tasks_in
tasks_of_table mask n few l = let all : 32 ≡ n + (32 - n) = omega arith in ap (λ (k : ℕ). length (in_mask mask k)) all ∙ ap length (in_past mask n (32 - n) l)

filled_length : {R : Type 0} (answer : R → List R → Option ℕ) (row : ℕ → R) {start pool order bounds : List ℕ} {asked : ℕ} → Filled answer row start pool order bounds asked → (length pool + length order ≡ length start) × (length bounds ≡ length order)
filled_length answer row none_yet = (omega arith, refl)
filled_length answer row (one_more f t) = let ih = filled_length answer row f in (omega (arith, length-~ (takes_in answer row t)), omega arith)

-- what is written behind some entries and before others leaves what is past 32
past_filled : (memory entries after : List ℕ) (k n : ℕ) → after ≡ take k memory ++ entries ++ drop n memory → k + length entries ≡ n → n ≤ 32 → k ≤ length memory → drop 32 after ≡ drop 32 memory
past_filled memory entries after k n is len h le =
    ap (drop 32) is ∙ front_past (take k memory ++ entries) memory n 32 h (length-append (take k memory) entries ∙ (ap (λ (j : ℕ). j + length entries) (length-take-le k memory le) ∙ len))

module _ {R : Type 0} (kind : Kind R) (test : Answers R) (rules : TestRules kind test) (table : List R) (order bounds order' bounds' : List ℕ) (few : length table ≤ 32) (long_order : 32 ≤ length order) (long_bounds : 32 ≤ length bounds) where
  -- entries in front of a memory, with 0 after them
  in_front : (entries memory memory' : List ℕ) → length entries ≡ length table → memory' ≡ entries ++ drop (length table) memory → written 0 (take (length table) memory') memory' ≡ written 0 entries memory
  in_front entries memory memory' many is =
      ap (λ (l : List ℕ). written 0 l memory') (ap (take (length table)) is ∙ take_at entries (drop (length table) memory) (length table) many)
      ∙ written_same entries memory memory' (ap (drop 32) is ∙ front_past entries memory (length table) 32 few many)

  pub order_found : {order'' bounds'' : List ℕ} (questions : ℕ) → Accepts kind test table order order' bounds bounds' questions → order'' ≡ written 0 (take (length table) order') order' → bounds'' ≡ written 0 (take (length table) bounds') bounds' → OrderFound kind test table order order'' bounds bounds'' questions
  order_found questions a co cb =
      let f = (laws kind test rules table).accepted_fits a.chosen a.answered questions a.found in
      let many : length a.chosen ≡ length table = length-~ f.0 ∙ length_places (length table) in
      record {
        chosen = a.chosen;
        answered = a.answered;
        found = a.found;
        order_is = co ∙ in_front a.chosen order order' many a.order_is;
        bounds_is = cb ∙ in_front a.answered bounds bounds' (f.1.as_many ∙ many) a.bounds_is;
      }

  pub no_order_found : {order'' bounds'' : List ℕ} {why : NoOrder} (s : Left) → why ≡ Stuck s → Searched kind test table order order' bounds bounds' (Err why) → order'' ≡ written 0 [] order' → bounds'' ≡ written 0 [] bounds' → NoOrderFound kind test table order order'' bounds bounds'' s
  no_order_found s e d co cb =
      let a : Sticks kind test table order order' bounds bounds' s = subst (λ (w : NoOrder). Searched kind test table order order' bounds bounds' (Err w)) e d in
      let f = filled_length test.answer (row_of kind table) a.filled in
      let p = length_places (length table) in
      let below : s.mask < 2 ^ length table = omega (arith, a.mask_is ∙ (ap mask_of a.left_is ∙ mask_in s.mask (length table)), mod_below s.mask (2 ^ length table) (pow_pos (length table))) in
      let counted : tasks_in s.mask ≡ length a.left = tasks_of_table s.mask (length table) few below ∙ ap length (sym a.left_is) in
      record {
        left = a.left;
        found = a.found;
        mask_is = a.mask_is;
        counted = counted;
        few_left = omega arith;
        order_is = co ∙ written_same [] order order' (past_filled order a.chosen order' (length a.left) (length table) a.order_is (omega arith) few (omega arith));
        bounds_is = cb ∙ written_same [] bounds bounds' (past_filled bounds a.answered bounds' (length a.left) (length table) a.bounds_is (omega arith) few (omega arith));
      }
