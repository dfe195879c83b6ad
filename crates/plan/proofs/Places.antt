-- Places of a table, and the elements of a list. Assumes nothing.
use Rattle.std.proofs.Common.{ℕ, zero, suc, ◌<◌, ◌⊎◌, List, [], ◌∷◌, length, get_or, refl, inl, inr, arith}
use mathlib.Core.List.Memᴰ
use Rattle.model.specs.Bags.{◌∈◌}
use Rattle.feasibility.specs.Masks.{places}

pub place_below : (n i : ℕ) → i ∈ places n → i < n
place_below zero i m = elim m [ ]
place_below (suc n) i m = go (Memᴰ.append_cases (places n) m) (place_below n i)
  where
    go : (i ∈ places n) ⊎ (i ∈ n ∷ []) → (i ∈ places n → i < n) → i < suc n
    go (inl k) ih = omega (arith, ih k)
    go (inr k) ih = omega (arith, Memᴰ.eq_of_singleton k)

pub getD_in : {X : Type 0} (xs : List X) (i : ℕ) (d : X) → i < length xs → get_or xs i d ∈ xs
getD_in [] i d h = absurd (omega arith)
getD_in (x ∷ xs) zero d h = Memᴰ.head refl
getD_in (x ∷ xs) (suc i) d h = Memᴰ.tail (getD_in xs i d (omega arith))
