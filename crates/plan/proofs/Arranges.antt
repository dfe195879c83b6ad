-- What judging rows and finding an order return, as arrange has it. Assumes nothing.
use Rattle.std.proofs.Common.{◌≡◌, ℕ, ◌<◌, ◌≤◌, Bool, true, false, cond, List, length, take, Some, None, sym, refl, ap, subst, inl, inr, arith}
use Rattle.std.proofs.lemmas.List.{get_or-take, take-take, length-take-le}
use Rattle.std.proofs.lemmas.Bool.{not_from_true, not_from_false}
use Rattle.std.specs.List.{flat_map}
use Rattle.model.specs.Rows.{Kind}
use Rattle.feasibility.specs.Tests.{Answers}
use Rattle.feasibility.specs.Masks.{places, row_of}
use Rattle.assign.specs.Laws.{all_places}
use Rattle.assign.specs.Counts.{tasks_in}
use Rattle.assign.specs.declared.order.Left.{Left}
use Rattle.table.specs.declared.fault.Fault.{Fault}
use Rattle.table.specs.declared.fault.Fault.TheVariants.{Plan, Assignment}
use Rattle.table.specs.declared.fault.PlanFault.{PlanFault}
use Rattle.table.specs.declared.refusal.Refusal.{Refusal}
use Rattle.table.specs.declared.refusal.Refusal.TheVariants.{ShortMemory, RowUnlawful, IdTaken}
use Rattle.table.specs.Tables.{has_id, row_refusal, table_of, plan_fault, LawfulTable, FirstFault}
use Rattle.plan.specs.States.{opened, arranged, done, refused_beside}
use Rattle.plan.specs.Calls.{Passed, Met, in_plan, some_short, row_checks, arrange_checks, Arrange, given, none_fits, not_arranged}
use Rattle.plan.specs.Orders.{OrderFound, NoOrderFound}
use Rattle.plan.proofs.Checks.{passed_at, passed_all, met_at}
use Rattle.plan.proofs.Rows.{lawful_passes}
use Rattle.plan.proofs.Returns.{whole_table}

module _ {R : Type 0} (kind : Kind R) where
  -- the rows before a place pass, where they are lawful
  before_passes : (table : List R) (i : ℕ) → i ≤ length table → LawfulTable kind (take i table) → Passed (flat_map (row_checks kind table) (places i))
  before_passes table i h t = passed_all (row_checks kind table) i each
    where
      size : length (take i table) ≡ i
      size = length-take-le i table h

      each : (j : ℕ) → j < i → Passed (row_checks kind table j)
      each j l =
          let row : row_of kind (take i table) j ≡ row_of kind table j = get_or-take i table j kind.blank l in
          let before : take j (take i table) ≡ take j table = take-take j i table (omega arith) in
          rw (row, before) at (passed_at (row_checks kind (take i table)) (length (take i table)) j (omega (arith, size)) (lawful_passes kind (take i table) t))

  -- the first row that is wrong is the first whose checks are met
  row_met : (table : List R) (i : ℕ) (why : Refusal) → row_refusal kind (take i table) (row_of kind table i) ≡ Some why → Met (row_checks kind table i) (in_plan why i)
  row_met table i why e = lawful (kind.lawful (row_of kind table i)) refl e
    where
      taken : (b : Bool) → has_id kind (kind.ident (row_of kind table i)) (take i table) ≡ b → cond b (Some IdTaken) None ≡ Some why → kind.lawful (row_of kind table i) ≡ true → Met (row_checks kind table i) (in_plan why i)
      taken true h k l = let same : IdTaken ≡ why = cc in inr (not_from_true _ l, inl (h, ap (λ (w : Refusal). in_plan w i) same))
      taken false h k l = let z : ◌≡◌ {A = ℕ} 0 1 = cc in absurd (omega arith)

      lawful : (b : Bool) → kind.lawful (row_of kind table i) ≡ b → cond b (cond (has_id kind (kind.ident (row_of kind table i)) (take i table)) (Some IdTaken) None) (Some RowUnlawful) ≡ Some why → Met (row_checks kind table i) (in_plan why i)
      lawful true l k = taken (has_id kind (kind.ident (row_of kind table i)) (take i table)) refl k l
      lawful false l k = let same : RowUnlawful ≡ why = cc in inl (not_from_false _ l, ap (λ (w : Refusal). in_plan w i) same)

  fault_met : (table : List R) (f : PlanFault) → FirstFault kind table f → Met (flat_map (row_checks kind table) (all_places table)) (Plan f)
  fault_met table f w = met_at (row_checks kind table) (Plan f) (length table) f.place w.within (before_passes table f.place (omega (arith, w.within)) w.before) (row_met table f.place f.refusal w.here)

  -- rows that pass where no memory is short
  passes : (n : ℕ) → n ≤ 32 → (rows : List R) (order bounds : List ℕ) → some_short rows order bounds ≡ false → LawfulTable kind (table_of n rows) → Passed (arrange_checks kind n rows order bounds)
  passes n few rows order bounds e t = (e, lawful_passes kind (take n rows) (subst (LawfulTable kind) (whole_table kind rows n few) t))

module _ {R : Type 0} {kind : Kind R} {test : Answers R} {n : ℕ} (few : n ≤ 32) {rows : List R} {order bounds : List ℕ} where
  -- the plan is given back as it was
  refused_by : {m left questions : ℕ} {f g : Fault} → Met (arrange_checks kind n rows order bounds) f → (m ≡ n) × (g ≡ f) × (left ≡ 0) × (questions ≡ 0) → Arrange kind test (opened n rows order bounds) (refused_beside g left questions) (opened m rows order bounds)
  refused_by d (em, eg, el, eq) = rw (em, eg, el, eq) (not_arranged d)

  pub arrange_short : {m left questions : ℕ} {f : PlanFault} {g : Fault} → some_short rows order bounds ≡ true → f ≡ plan_fault ShortMemory 0 → (m ≡ n) × (g ≡ Plan f) × (left ≡ 0) × (questions ≡ 0) → Arrange kind test (opened n rows order bounds) (refused_beside g left questions) (opened m rows order bounds)
  arrange_short e is back = refused_by (inl (e, ap (λ (k : PlanFault). Plan k) (sym is))) back

  pub arrange_judged : {m left questions : ℕ} {f : PlanFault} {g : Fault} → some_short rows order bounds ≡ false → FirstFault kind (table_of n rows) f → (m ≡ n) × (g ≡ Plan f) × (left ≡ 0) × (questions ≡ 0) → Arrange kind test (opened n rows order bounds) (refused_beside g left questions) (opened m rows order bounds)
  arrange_judged {f = f} e w back = refused_by (inr (e, fault_met kind (take n rows) f (subst (λ (t : List R). FirstFault kind t f) (whole_table kind rows n few) w))) back

  pub arrange_given : {order' bounds' : List ℕ} {questions : ℕ} → some_short rows order bounds ≡ false → LawfulTable kind (table_of n rows) → OrderFound kind test (take n rows) order order' bounds bounds' questions → Arrange kind test (opened n rows order bounds) done (arranged n questions rows order' bounds')
  arrange_given e t d = rw (d.order_is, d.bounds_is) (given (passes kind n few rows order bounds e t) d.found)

  pub arrange_stuck : {order' bounds' : List ℕ} {s : Left} {count : ℕ} → some_short rows order bounds ≡ false → LawfulTable kind (table_of n rows) → NoOrderFound kind test (take n rows) order order' bounds bounds' s → count ≡ tasks_in s.mask → Arrange kind test (opened n rows order bounds) (refused_beside (Assignment count) s.mask s.questions) (opened n rows order' bounds')
  arrange_stuck e t d is = rw (d.order_is, d.bounds_is, is, d.counted, d.mask_is) (none_fits (passes kind n few rows order bounds e t) d.found)
