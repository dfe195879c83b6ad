-- The laws of the assignment. Assumes nothing.
use Rattle.std.proofs.Common.{ℕ, List, map, length, sym, refl, subst, arith}
use mathlib.Core.List.Permᴰ
use lib.Seq.{take-length}
use Rattle.model.specs.Bags.{◌~◌, Part}
use Rattle.model.specs.Rows.{Kind}
use Rattle.feasibility.specs.Tests.{Answers, TestRules}
use Rattle.feasibility.specs.Masks.{row_of}
use Rattle.assign.specs.Assignment.{Outcome, accepted, stuck, Unfit}
use Rattle.assign.specs.Laws.{all_places, Arranges, Laws}
use Rattle.assign.proofs.Bags.{part-~, part_map, part_both, part_empty}
use Rattle.assign.proofs.Outcomes.{outcome, unique, not_both}
use Rattle.assign.proofs.Levels.{left_of, stays_left, unfit, found}
use Rattle.assign.proofs.Runs.{bounds_hold}
use Rattle.assign.proofs.Shuffle.{part_lift, stuck_rows, map_none}

module _ {R : Type 0} (kind : Kind R) (test : Answers R) (rules : TestRules kind test) where
  an_outcome : (table : List R) → (o : Outcome) × Arranges kind test table o
  an_outcome table = outcome test.answer (row_of kind table) (length (all_places table)) (all_places table) refl

  unfit_orders : (table : List R) (left : List ℕ) (questions : ℕ) → Arranges kind test table (stuck left questions) → (order : List ℕ) → order ~ all_places table → Unfit test.answer (row_of kind table) order
  unfit_orders table left questions d order same =
      let f = found test rules (row_of kind table) d in
      unfit test rules (row_of kind table) order (length order) (omega arith) f.1 (subst (λ (l : List ℕ). Part left l) (sym (take-length order)) (part-~ f.0 (Permᴰ.symm same)))

  stuck_by_orders : (table : List R) → ((order : List ℕ) → order ~ all_places table → Unfit test.answer (row_of kind table) order) → (left : List ℕ) × (questions : ℕ) × Arranges kind test table (stuck left questions)
  stuck_by_orders table h = let r = an_outcome table in go r.0 r.1
    where
      go : (o : Outcome) → Arranges kind test table o → (left : List ℕ) × (questions : ℕ) × Arranges kind test table (stuck left questions)
      go (accepted order bounds questions) d =
          let f = found test rules (row_of kind table) d in
          let u = h order f.0 in
          absurd (not_both u.2 (f.1.fits u.0 u.1))
      go (stuck left questions) d = (left, questions, d)

  -- the rows left of one table are among those left of the other
  rows_left : (table other : List R) → table ~ other → (left : List ℕ) (questions : ℕ) → Arranges kind test table (stuck left questions) → (o : Outcome) → Arranges kind test other o → Part (map (row_of kind table) left) (map (row_of kind other) (left_of o))
  rows_left table other same left questions d o e =
      let f = found test rules (row_of kind table) d in
      let r = part_lift kind table other same f.0 in
      let s = stuck_rows test rules (row_of kind table) (row_of kind other) r.2 f.1 in
      subst (λ (l : List R). Part l (map (row_of kind other) (left_of o))) r.2 (part_map (row_of kind other) (stays_left test rules (row_of kind other) e r.0 s r.1))

  same_left : (table : List R) (left : List ℕ) (questions : ℕ) → Arranges kind test table (stuck left questions) → (other : List R) → other ~ table → (left' : List ℕ) × (questions' : ℕ) × Arranges kind test other (stuck left' questions') × (map (row_of kind other) left' ~ map (row_of kind table) left)
  same_left table left questions d other same = let r = an_outcome other in go r.0 r.1
    where
      go : (o : Outcome) → Arranges kind test other o → (left' : List ℕ) × (questions' : ℕ) × Arranges kind test other (stuck left' questions') × (map (row_of kind other) left' ~ map (row_of kind table) left)
      go (accepted order bounds q) e = absurd ((found test rules (row_of kind table) d).1.some_left (map_none (row_of kind table) left (part_empty (rows_left table other (Permᴰ.symm same) left questions d (accepted order bounds q) e))))
      go (stuck left' q) e = (left', q, e, part_both (rows_left other table same left' q e (stuck left questions) d) (rows_left table other (Permᴰ.symm same) left questions d (stuck left' q) e))

  pub laws : (table : List R) → Laws kind test table
  laws table = record {
    one_outcome = let r = an_outcome table in (r.0, r.1, λ other d. unique test.answer (row_of kind table) r.1 d);
    accepted_fits = λ order bounds questions d. found test rules (row_of kind table) d;
    accepted_holds = λ order bounds questions d. bounds_hold kind test rules table order bounds (found test rules (row_of kind table) d).1;
    stuck_exactly = (λ h. unfit_orders table h.0 h.1 h.2, stuck_by_orders table);
    left_stuck = λ left questions d. found test rules (row_of kind table) d;
    left_largest = λ left questions d set p s. stays_left test rules (row_of kind table) d set s p;
    same_left = same_left table;
  }
