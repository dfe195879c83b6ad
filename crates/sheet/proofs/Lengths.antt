-- Commands that are told by their first byte, and operands of a known length. Assumes nothing.
use Rattle.std.proofs.Common.{◌≡◌, ℕ, zero, suc, Bool, true, false, cond, eqb, List, [], ◌∷◌, length, Some, Option, refl, arith}
use Rattle.std.proofs.lemmas.Bool.{eqb-true}

-- a list of so many bytes
pub data Long : ℕ → List ℕ → Type 0 where
  nil : Long 0 []
  cons : {n : ℕ} {xs : List ℕ} (x : ℕ) → Long n xs → Long (suc n) (x ∷ xs)

pub long_of : (xs : List ℕ) (n : ℕ) → length xs ≡ n → Long n xs
long_of [] zero e = nil
long_of [] (suc n) e = absurd (omega arith)
long_of (x ∷ xs) zero e = absurd (omega arith)
long_of (x ∷ xs) (suc n) e = cons x (long_of xs n (omega arith))

-- a command is the one with this first byte, or one of the others
pub pick : (P : ℕ → ℕ → Type 0) (tag m n : ℕ) (others : Option ℕ) (first : ℕ) → cond (eqb tag first) (Some m) others ≡ Some n → P first m → (others ≡ Some n → P tag n) → P tag n
pick P tag m n others first e v k = on (eqb tag first) refl e
  where
    on : (b : Bool) → eqb tag first ≡ b → cond b (Some m) others ≡ Some n → P tag n
    on true t f = let p : tag ≡ first = eqb-true tag first t in let q : n ≡ m = cc in rw (p, q) v
    on false t f = k f
