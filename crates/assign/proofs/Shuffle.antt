-- Stuck sets of a table and of the same rows in another order. Assumes nothing.
use Rattle.std.proofs.Common.{◌≡◌, ℕ, zero, suc, ◌≤◌, List, [], ◌∷◌, ◌++◌, map, length, take, None, sym, refl, ap, ◌∙◌, subst, arith, take-suc}
use mathlib.Core.List.Memᴰ
use mathlib.Core.List.Permᴰ
use mathlib.Core.List.{nil≢cons, cons≢nil, head-eq_of_cons-eq, tail-eq_of_cons-eq, Permᴰ}
use lib.Seq.{take-length}
use Rattle.std.proofs.lemmas.List.{map-append}
use Rattle.model.specs.Bags.{◌∈◌, ◌~◌, Part}
use Rattle.model.specs.Rows.{Kind}
use Rattle.feasibility.specs.Tests.{Answers, TestRules}
use Rattle.feasibility.specs.Masks.{row_of, places}
use Rattle.assign.specs.Assignment.{others, under_others, Stuck}
use Rattle.assign.specs.Laws.{all_places}
use Rattle.assign.proofs.Bags.{mem-~, map-~, others_front, front_out}

-- the rows at all places are the table
rows_upto : {R : Type 0} (kind : Kind R) (table : List R) (n : ℕ) → n ≤ length table → map (row_of kind table) (places n) ≡ take n table
rows_upto kind table zero h = refl
rows_upto kind table (suc n) h =
    let ih : map (row_of kind table) (places n) ≡ take n table = rows_upto kind table n (omega arith) in
    map-append (row_of kind table) (places n) (n ∷ []) ∙ (ap (λ (l : List _). l ++ row_of kind table n ∷ []) ih ∙ sym (take-suc table n kind.blank h))

pub rows_all : {R : Type 0} (kind : Kind R) (table : List R) → map (row_of kind table) (all_places table) ≡ table
rows_all kind table = rows_upto kind table (length table) (omega arith) ∙ take-length table

pub map_none : {X Y : Type 0} (f : X → Y) (xs : List X) → map f xs ≡ [] → xs ≡ []
map_none f [] e = refl
map_none f (x ∷ xs) e = absurd (cons≢nil e)

-- what is put in another order under a map can be put in that order before it
pub lift-~ : {X Y : Type 0} (f : X → Y) {ys zs : List Y} → ys ~ zs → (ps : List X) → map f ps ≡ zs → (qs : List X) × (qs ~ ps) × (map f qs ≡ ys)
lift-~ f Permᴰ.nil ps e = ([], subst (λ (l : List _). [] ~ l) (sym (map_none f ps e)) Permᴰ.nil, refl)
lift-~ f (Permᴰ.cons e d) [] h = absurd (nil≢cons h)
lift-~ f (Permᴰ.cons {a = a} {b = b} {l₁ = l} {l₂ = m} e d) (p ∷ ps) h =
    let r = lift-~ f d ps (tail-eq_of_cons-eq h) in
    let top : f p ≡ b = head-eq_of_cons-eq h in
    let low : map f r.0 ≡ l = r.2 in
    (p ∷ r.0, Permᴰ.cons refl r.1, cc)
lift-~ f (Permᴰ.swap e d) [] h = absurd (nil≢cons h)
lift-~ f (Permᴰ.swap e d) (p ∷ []) h = absurd (nil≢cons (tail-eq_of_cons-eq h))
lift-~ f (Permᴰ.swap {a = a} {b = b} {a' = c} {b' = z} {l = l} e d) (p ∷ q ∷ ps) h =
    let one : f p ≡ c = head-eq_of_cons-eq h in
    let two : f q ≡ z = head-eq_of_cons-eq (tail-eq_of_cons-eq h) in
    let rest : map f ps ≡ l = tail-eq_of_cons-eq (tail-eq_of_cons-eq h) in
    (q ∷ p ∷ ps, Permᴰ.swap refl refl, cc)
lift-~ f (Permᴰ.trans d e) ps h =
    let r = lift-~ f e ps h in
    let s = lift-~ f d r.0 r.2 in
    (s.0, Permᴰ.trans s.1 r.1, s.2)

split_map : {X Y : Type 0} (f : X → Y) (as' bs' : List Y) (qs : List X) → map f qs ≡ as' ++ bs' → (us : List X) × (vs : List X) × (qs ≡ us ++ vs) × (map f us ≡ as')
split_map f [] bs' qs e = ([], qs, refl, refl)
split_map f (a ∷ as') bs' [] e = absurd (nil≢cons e)
split_map f (a ∷ as') bs' (q ∷ qs) e =
    let r = split_map f as' bs' qs (tail-eq_of_cons-eq e) in
    let one : f q ≡ a = head-eq_of_cons-eq e in
    let two : qs ≡ r.0 ++ r.1 = r.2 in
    let three : map f r.0 ≡ as' = r.3 in
    (q ∷ r.0, r.1, cc, cc)

part_of : {X : Type 0} (us vs : List X) {qs whole : List X} → qs ≡ us ++ vs → qs ~ whole → Part us whole
part_of {X} us vs {qs} {whole} e d = record { rest = vs; makes = subst (λ (l : List X). l ~ whole) e d }

-- a part of one table's places, found among the other's
pub part_lift : {R : Type 0} (kind : Kind R) (table other : List R) → table ~ other → {left : List ℕ} → Part left (all_places table) → (set : List ℕ) × Part set (all_places other) × (map (row_of kind other) set ≡ map (row_of kind table) left)
part_lift {R} kind table other same {left} h =
    let row = row_of kind table in
    let here : map row (left ++ h.rest) ~ map row (all_places table) = map-~ row h.makes in
    let there : map row left ++ map row h.rest ~ other = Permᴰ.trans (rw (map-append row left h.rest, rows_all kind table) at here) same in
    let r = lift-~ (row_of kind other) there (all_places other) (rows_all kind other) in
    let s = split_map (row_of kind other) (map row left) (map row h.rest) r.0 r.2 in
    (s.0, part_of s.0 s.1 s.2 r.1, s.3)

-- whether a set is stuck is told by its rows
pub stuck_rows : {R : Type 0} {kind : Kind R} (test : Answers R) (rules : TestRules kind test) (row row' : ℕ → R) {set set' : List ℕ} → map row' set' ≡ map row set → Stuck test.answer row set → Stuck test.answer row' set'
stuck_rows test rules row row' {set} {set'} e s = record { some_left = λ n. s.some_left (map_none row set (sym e ∙ ap (map row') n)); no_bound = λ x m. go x (lift-~ row (front x m) set refl) }
  where
    front : (x : ℕ) → x ∈ set' → row' x ∷ map row' (others x set') ~ map row set
    front x m = subst (λ (l : List _). row' x ∷ map row' (others x set') ~ l) e (Permᴰ.symm (map-~ row' (others_front x set' m)))

    go : (x : ℕ) → (qs : List ℕ) × (qs ~ set) × (map row qs ≡ row' x ∷ map row' (others x set')) → under_others test.answer row' set' x ≡ None
    go x ([], d, h) = absurd (nil≢cons h)
    go x (p ∷ qs, d, h) =
        let top : row p ≡ row' x = head-eq_of_cons-eq h in
        let low : map row qs ≡ map row' (others x set') = tail-eq_of_cons-eq h in
        let none : test.answer (row p) (map row (others p set)) ≡ None = s.no_bound p (mem-~ d (Memᴰ.head refl)) in
        let same : test.answer (row p) (map row qs) ≡ test.answer (row p) (map row (others p set)) = rules.any_order (row p) (map row qs) (map row (others p set)) (map-~ row (front_out p d)) in
        cc
