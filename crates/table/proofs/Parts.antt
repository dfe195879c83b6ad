-- A write into the table of a memory, and a row of it that goes to its end. Assumes nothing.
use borrow.Rule.Slice.PartMut.{mid_of, put_mid}
use Rattle.std.proofs.Common.{◌≡◌, ℕ, zero, suc, ◌+◌, ◌-◌, ◌<◌, ◌≤◌, List, [], ◌∷◌, ◌++◌, length, take, drop, set, replicate, refl, sym, ap, ◌∙◌, arith}
use Rattle.std.specs.List.{FoldsTo}
use Rattle.std.proofs.lemmas.List.{append_assoc, take-append-drop, set-append_left}

-- a write into the first n entries
pub set_front : {X : Type 0} (xs : List X) (n i : ℕ) (y : X) → i < length (take n xs) → set xs i y ≡ set (take n xs) i y ++ drop n xs
set_front xs n i y l = ap (λ (ys : List _). set ys i y) (sym (take-append-drop n xs)) ∙ set-append_left (take n xs) (drop n xs) i y l

-- the first n entries without the one at the place, and a last one: that one is written at the place, and the rest from there on moves down
pub moved_last : {X : Type 0} (xs : List X) (place n : ℕ) (y : X) → place < n → n ≤ length xs
    → put_mid place (n - place) (set xs place y) (drop 1 (mid_of place (n - place) (set xs place y)) ++ take 1 (mid_of place (n - place) (set xs place y)))
    ≡ take place (take n xs) ++ drop (place + 1) (take n xs) ++ y ∷ drop n xs
moved_last [] place n y l m = absurd (omega arith)
moved_last (x ∷ xs) place zero y l m = absurd (omega arith)
moved_last (x ∷ xs) zero (suc n) y l m = let whole : suc n - 0 ≡ suc n = omega arith in rw whole (simp append_assoc)
moved_last {X} (x ∷ xs) (suc place) (suc n) y l m =
    let fewer : suc n - suc place ≡ n - place = omega arith in
    let next : suc place + 1 ≡ suc (place + 1) = omega arith in
    rw (fewer, next) (ap (λ (ys : List X). x ∷ ys) (moved_last xs place n y (omega arith) (omega arith)))

-- what calls of one answer each have filled
pub filled : {F X : Type 0} (step : F → X → F → Type 0) (y : X) → ((p q : F) (x : X) → step p x q → x ≡ y) → (xs : List X) (p q : F) → FoldsTo step p xs q → xs ≡ replicate (length xs) y
filled step y e [] p q calls = refl
filled step y e (x ∷ xs) p q calls = rw (e _ _ _ calls.1, ← filled step y e xs _ _ calls.2) refl
