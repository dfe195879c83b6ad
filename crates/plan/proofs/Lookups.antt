-- What looking up a level returns, as read has it. Assumes nothing.
use Rattle.std.proofs.Common.{◌≡◌, ℕ, ◌-◌, ◌<◌, ◌≤◌, false, true, ◌||◌, ltb, leb, List, length, get_or, take, Some, None, Option, sym, refl, ap, ◌∙◌, inl, inr, arith, Bor}
use Rattle.std.proofs.lemmas.List.{length-take-le, get_or-take, get_or_read}
use Rattle.std.proofs.lemmas.Bool.{lt-ltb, le-ltb, le-leb, lt-leb, or_left, or_right, or_from}
use Rattle.std.specs.Option.{SomeIff}
use Rattle.std.specs.Slice.{IsItemAt}
use Rattle.model.specs.Rows.{Kind}
use Rattle.feasibility.specs.Masks.{row_of}
use Rattle.table.specs.declared.refusal.Refusal.TheVariants.{ShortMemory, NoSuchTask}
use Rattle.plan.specs.States.{State, arranged, Answer, told, refused}
use Rattle.plan.specs.Calls.{in_plan, some_short, Read, read_at, not_read}
use Rattle.plan.proofs.Effects.{long_all}
use Rattle.plan.proofs.Through.{lent, not_lent}

-- the entry of a level in the order
module _ (order : List ℕ) (n level : ℕ) (long : 32 ≤ length order) (few : n ≤ 32) (entry : ℕ) (o : Option ℕ) (at : SomeIff o (1 ≤ level) (level - 1)) (some : o ≡ Some entry) where
  there : (1 ≤ level) × (entry ≡ level - 1)
  there = rw some at at

  many : length (take n order) ≡ n
  many = length-take-le n order (omega arith)

  past : (p : Option (Bor ℕ)) → IsItemAt (take n order) entry p → p ≡ None → n < level
  past p it none = omega (arith, there.0, there.1, not_lent (take n order) entry p it none, many)

  module _ (p : Option (Bor ℕ)) (it : IsItemAt (take n order) entry p) (x : Bor ℕ) (held : p ≡ Some x) where
    below : entry < n
    below = omega (arith, (lent (take n order) entry p it x held).0, many)

    place_is : get_or order (level - 1) 0 ≡ x.now
    place_is =
        let (within, is) = lent (take n order) entry p it x held in
        ap (λ (k : ℕ). get_or order k 0) (sym there.1) ∙ (sym (get_or-take n order entry 0 below) ∙ sym (get_or_read (take n order) entry x.now within is 0))

    inside : (leb level 0 || ltb n level) ≡ false
    inside = or_from _ _ (lt-leb level 0 there.0) (le-ltb n level (omega (arith, there.0, there.1, below)))

abbrev Reads : {R : Type 0} → Kind R → ℕ → State R → Answer → Type 0
Reads kind level plan a = Read kind level plan a plan

module _ {R : Type 0} {kind : Kind R} {rows : List R} {order bounds : List ℕ} {n q level : ℕ} where
  pub read_short : some_short rows order bounds ≡ true → Reads kind level (arranged n q rows order bounds) (refused (in_plan ShortMemory 0))
  read_short e = not_read (inl (e, refl))

  module _ (few : n ≤ 32) (e : some_short rows order bounds ≡ false) where
    no_level : (leb level 0 || ltb n level) ≡ true → Reads kind level (arranged n q rows order bounds) (refused (in_plan NoSuchTask 0))
    no_level out = not_read (inr (e, inl (out, refl)))

    -- level 0 has no entry
    pub level_zero : {o : Option ℕ} → SomeIff o (1 ≤ level) (level - 1) → o ≡ None → Reads kind level (arranged n q rows order bounds) (refused (in_plan NoSuchTask 0))
    level_zero at none = let low : ¬ (1 ≤ level) = rw none at at in no_level (or_left _ _ (le-leb level 0 (omega arith)))

    module _ {entry : ℕ} {o : Option ℕ} (at : SomeIff o (1 ≤ level) (level - 1)) (some : o ≡ Some entry) {p : Option (Bor ℕ)} (it : IsItemAt (take n order) entry p) where
      pub level_past : p ≡ None → Reads kind level (arranged n q rows order bounds) (refused (in_plan NoSuchTask 0))
      level_past none = no_level (or_right _ _ (lt-ltb n level (past order n level (long_all kind rows order bounds e).1 few entry o at some p it none)))

      module _ {x : Bor ℕ} (held : p ≡ Some x) {r : Option (Bor R)} (row_it : IsItemAt (take n rows) x.now r) where
        -- the entry names no task
        pub task_past : r ≡ None → Reads kind level (arranged n q rows order bounds) (refused (in_plan NoSuchTask 0))
        task_past none =
            let (lr, lo, lb) = long_all kind rows order bounds e in
            let place : get_or order (level - 1) 0 ≡ x.now = place_is order n level lo few entry o at some p it x held in
            let within : n ≤ get_or order (level - 1) 0 = omega (arith, place, length-take-le n rows (omega arith), not_lent (take n rows) x.now r row_it none) in
            not_read (inr (e, inr (inside order n level lo few entry o at some p it x held, inl (le-leb n (get_or order (level - 1) 0) within, refl))))

        pub task_read : {y : Bor R} → r ≡ Some y → {id : ℕ} → id ≡ kind.ident y.now → Reads kind level (arranged n q rows order bounds) (told id (get_or bounds entry 0))
        task_read {y} found id_is =
            let (lr, lo, lb) = long_all kind rows order bounds e in
            let (within, is) = lent (take n rows) x.now r row_it y found in
            let place : get_or order (level - 1) 0 ≡ x.now = place_is order n level lo few entry o at some p it x held in
            let row_is : row_of kind (take n rows) (get_or order (level - 1) 0) ≡ y.now = ap (row_of kind (take n rows)) place ∙ sym (get_or_read (take n rows) x.now y.now within is kind.blank) in
            let below : leb n (get_or order (level - 1) 0) ≡ false = lt-leb n (get_or order (level - 1) 0) (omega (arith, place, length-take-le n rows (omega arith), within)) in
            rw (id_is, ← row_is, (there order n level lo few entry o at some).1) (read_at (e, (inside order n level lo few entry o at some p it x held, (below, tt))))
