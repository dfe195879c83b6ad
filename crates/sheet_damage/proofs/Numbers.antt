-- Which texts are decimal numbers of 32 bits without leading zeros.
use Rattle.std.proofs.Common.{◌≡◌, ℕ, ◌^◌, ◌<◌, ◌≤◌, List, length, get_or, Ok, Err, decimal, Result, sym, ap, ◌∙◌, inl, inr, arith, MatchOption}
use Rattle.std.specs.Result.{result_ok}
use Rattle.std.specs.Str.Parse.{ParsesUnsigned, digits_value}
use Rattle.std.specs.Int.{IsInRange}
use Rattle.std.proofs.lemmas.Fmt.{decimal_nonempty, decimal-digits_value, digits_decimal, first_decimal, length-decimal-le, parse-decimal}
use Rattle.std.proofs.lemmas.Str.Parse.{IsNumeralModel, numerals_by_value, parse_plain, tells_by_index}
use Rattle.std.proofs.lemmas.Bool.{cases_lt}

own : IsNumeralModel (λ ds. (i : ℕ) → i < length ds → IsInRange 48 57 (get_or ds i 0)) (digits_value 10)
own = numerals_by_value _ tells_by_index

abbrev pub Unwritten : List ℕ → Type 0
Unwritten bs = (n : ℕ) → n < 2 ^ 32 → decimal n ≡ bs → ⊥

pub unwritten_empty : (bs : List ℕ) → length bs ≡ 0 → Unwritten bs
unwritten_empty bs empty n small same = omega (arith, decimal_nonempty n (omega arith), ap length same)

pub unwritten_plus : (bs : List ℕ) → get_or bs 0 0 ≡ 43 → Unwritten bs
unwritten_plus bs plus n small same =
    let digit = digits_decimal own n (omega arith) 0 (decimal_nonempty n (omega arith)) in
    omega (arith, digit.0, ap (λ (ds : List ℕ). get_or ds 0 0) same)

pub unwritten_zero : (bs : List ℕ) → get_or bs 0 0 ≡ 48 → 1 < length bs → Unwritten bs
unwritten_zero bs zero more n small same =
    let first = ap (λ (ds : List ℕ). get_or ds 0 0) same in
    elim (cases_lt 0 n) [
      | inl some ↦ omega (arith, first_decimal n some (omega arith), first)
      | inr none ↦ omega (arith, length-decimal-le 1 n (omega arith) (omega arith) (omega arith), ap length same)
    ]

pub number_read : {E : Type 0} (bs : List ℕ) (r : Result ℕ E) → ParsesUnsigned 32 10 bs r → (get_or bs 0 0 ≡ 43 → ⊥)
    → (get_or bs 0 0 ≡ 48 → length bs ≤ 1) → MatchOption (result_ok r) (Unwritten bs) (λ n. decimal n ≡ bs)
number_read {E = E} bs (Ok x) reads plain short =
    let (written, same) = parse_plain own {E = E} 32 bs (Ok x) reads plain in
    ap decimal same ∙ decimal-digits_value own bs written.0 written.1 (λ zero. omega (arith, short zero, written.1)) (omega (arith, written.2))
number_read bs (Err e) reads plain short = λ n small same.
    let back : Err e ≡ Ok n = parse-decimal 32 n bs (Err e) small (omega arith) (sym same) reads in
    let z : ◌≡◌ {A = ℕ} 0 1 = cc in
    omega arith
