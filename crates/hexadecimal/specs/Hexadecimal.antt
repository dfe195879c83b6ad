-- Bytes as text with two hexadecimal digits for each, the high one first.
use Rattle.std.specs.Prelude.{◌≡◌, ℕ, ◌+◌, ◌*◌, ◌/◌, ◌%◌, ◌<◌, ◌≤◌, cond, List, length, take, drop, Option, MatchOption, nat_lt, slice_index}

-- The symbol of a digit: 0 to 9, then a to f.
abbrev pub symbol_of : ℕ → ℕ
symbol_of digit = cond (nat_lt digit 10) (48 + digit) (87 + digit)

pub record SpellsByte (byte high low : ℕ) : Type 0 where
  pub small : byte < 256
  pub first : symbol_of (byte / 16) ≡ high
  pub second : symbol_of (byte % 16) ≡ low

pub record Spells (text bytes : List ℕ) : Type 0 where
  pub long : length text ≡ 2 * length bytes
  pub each : (k : ℕ) → k < length bytes → SpellsByte (slice_index bytes k) (slice_index text (2 * k)) (slice_index text (2 * k + 1))

-- The memory begins with the bytes that the text spells, and is else as before.
pub record Written (text before after : List ℕ) (count : ℕ) : Type 0 where
  pub fits : count ≤ length before
  pub spelled : Spells text (take count after)
  pub past : drop count after ≡ drop count before

-- No bytes that the memory holds are spelled by the text.
abbrev pub NoneSpelled : List ℕ → List ℕ → Type 0
NoneSpelled text before = (bytes : List ℕ) → length bytes ≤ length before → Spells text bytes → ⊥

abbrev pub Decodes : List ℕ → List ℕ → List ℕ → Option ℕ → Type 0
Decodes text before after answer = MatchOption answer (NoneSpelled text before) (Written text before after)

-- No bytes at all are spelled by the text.
abbrev pub Unspelled : List ℕ → Type 0
Unspelled text = (bytes : List ℕ) → Spells text bytes → ⊥
