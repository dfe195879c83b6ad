-- One bit of a number: taken out and put back. Assumes nothing.
use Rattle.std.proofs.Common.{◌≡◌, ℕ, ◌+◌, ◌-◌, ◌*◌, ◌%◌, ◌^◌, ◌<◌, ◌≤◌, ◌≢◌, sym, ap, ◌∙◌, ap₂, one-mul, arith}
use lib.Bits.{bit_and, bit_or, bit_xor, xor_add_and}
use Rattle.std.proofs.lemmas.Nat.{and_le_l, and_comm, and-not, or_disjoint, pow_below}
use Rattle.std.proofs.lemmas.Nat.Bits.{and_pow, bit_at_xor, bit_at-pow_same, bit_at-pow_other}
use Rattle.feasibility.specs.Masks.{bit_at}

-- a number with the bit p
module _ (x p : ℕ) (in_x : bit_at x p ≡ 1) where
  and_bit : bit_and x (2 ^ p) ≡ 2 ^ p
  and_bit = and_pow x p ∙ ap (λ n. n * 2 ^ p) in_x ∙ one-mul (2 ^ p)

  bit_le : 2 ^ p ≤ x
  bit_le = omega (arith, and_bit, and_le_l x (2 ^ p))

  xor_bit : bit_xor x (2 ^ p) ≡ x - 2 ^ p
  xor_bit = omega (arith, xor_add_and x (2 ^ p), and_bit, bit_le)

  -- taken out
  pub out_same : bit_at (x - 2 ^ p) p ≡ 0
  out_same = ap (λ n. bit_at n p) (sym xor_bit) ∙ bit_at_xor x (2 ^ p) p ∙ ap₂ (λ (a b : ℕ). (a + b) % 2) in_x (bit_at-pow_same p)

  pub out_other : (j : ℕ) → j ≢ p → bit_at (x - 2 ^ p) j ≡ bit_at x j
  out_other j ne = ap (λ n. bit_at n j) (sym xor_bit) ∙ bit_at_xor x (2 ^ p) j ∙ ap (λ n. (bit_at x j + n) % 2) (bit_at-pow_other p j ne) ∙ omega arith

  -- the code's way to take it out of a number of w bits
  pub and_out : (w : ℕ) → p < w → x < 2 ^ w → bit_and x (2 ^ w - 1 - 2 ^ p) ≡ x - 2 ^ p
  and_out w l small = omega (arith, and_comm x (2 ^ w - 1 - 2 ^ p), and-not w (2 ^ p) x (pow_below p w l) small, and_comm (2 ^ p) x, and_bit)

  -- put back
  pub or_back : bit_or (x - 2 ^ p) (2 ^ p) ≡ x
  or_back = omega (arith, or_disjoint (x - 2 ^ p) (2 ^ p) (and_pow (x - 2 ^ p) p ∙ ap (λ n. n * 2 ^ p) out_same ∙ omega arith), bit_le)
