-- The lines that are still to come, and how many newlines the text has.
use Rattle.std.proofs.Common.{◌≡◌, ℕ, ◌+◌, ◌-◌, ◌==◌, List, [], ◌∷◌, length, drop, Bor, Option, Some, None, IfSome, Bool, true, false, not, cond, count_by, refl, sym, ◌∙◌, arith, lit<}
use Rattle.std.specs.Bool.{then_some}
use Rattle.std.specs.Option.{is_some}
use Rattle.std.specs.Iterator.{AlwaysYields}
use Rattle.std.specs.Str.Iter.{split_steps, split_text, split_has_more, split_pattern}
use Rattle.std.specs.Str.Pattern.{FindsChar, FindsCharSuffix, StripsSuffix}
use Rattle.std.specs.declared.str.Split.{Split}
use Rattle.std.proofs.lemmas.Iterator.Splits.{YieldsList-from_str_split}
use Rattle.std.proofs.lemmas.List.Splits.{length-slice_split}
use Rattle.std.proofs.lemmas.List.Sums.{sum_by-take-drop}
use Rattle.std.proofs.lemmas.Str.{encode_ascii}
use Rattle.std.proofs.Math.Seq.{drop-length}

abbrev pub Steps : Split ℕ → Option (Bor (List ℕ)) → Split ℕ → Type 0
Steps = split_steps FindsChar (λ a b. b ≡ a)

-- so many lines are still to come
abbrev pub Left : Split ℕ → ℕ → Type 0
Left s n = (lines : List (List ℕ)) × AlwaysYields Steps (λ x. x.now) s lines × (length lines ≡ n)

left_at_start : (s : Split ℕ) (text : List ℕ) → split_text s ≡ text → split_has_more s ≡ true → split_pattern s ≡ 10 → Left s (count_by (λ b. b == 10) text + 1)
left_at_start s text same more newline = (_, (YieldsList-from_str_split 10 text (lit< tt) same more newline).runs, length-slice_split (λ b. b == 10) text)

pub left_after : (s t : Split ℕ) (x : Bor (List ℕ)) (n : ℕ) → Left s n → Steps s (Some x) t → (m : ℕ) × (n ≡ m + 1) × Left t m
left_after s t x n ([], none, long) step = absurd (none x t step)
left_after s t x n (line ∷ lines, all, long) step = (length lines, omega arith, (lines, (all.1 x t step).1, refl))

none_left : (s t : Split ℕ) (n : ℕ) → Left s n → Steps s None t → n ≡ 0
none_left s t n ([], none, long) step = sym long
none_left s t n (line ∷ lines, all, long) step = absurd (all.0 t step)

-- an answer is given only where no line is left
pub ended : {X : Type 0} (P : X → Type 0) (s t : Split ℕ) (r : Option (Bor (List ℕ))) (n : ℕ) (b : Bool) (x : X) → Left s n → Steps s r t → is_some r ≡ not b → (n ≡ 0 → P x)
    → IfSome (then_some b x) P
ended P s t None n true x left step same here = here (none_left s t n left step)
ended P s t None n false x left step same here = cc
ended P s t (Some y) n true x left step same here = cc
ended P s t (Some y) n false x left step same here = tt

newlines : (text front : List ℕ) → StripsSuffix (FindsCharSuffix 10) text front → count_by (λ b. b == 10) text ≡ count_by (λ b. b == 10) front + 1
newlines text front (n, (one, at, edge), front_is, long) =
    let parts = sum_by-take-drop (λ b. cond (b == 10) 1 0) text (length text - n) in
    let last : drop (length text - n) text ≡ 10 ∷ [] = at.split ∙ rw (encode_ascii 10 (lit< tt), drop-length text) refl in
    let counted = rw (sym front_is, last) at parts in
    omega (arith, counted)

-- Of the text without its last newline one line was read.
pub after_head : (text front : List ℕ) (s t : Split ℕ) (x : Bor (List ℕ)) → StripsSuffix (FindsCharSuffix 10) text front
    → split_text s ≡ front → split_has_more s ≡ true → split_pattern s ≡ 10 → Steps s (Some x) t → (n : ℕ) × Left t n × (n + 1 ≡ count_by (λ b. b == 10) text)
after_head text front s t x strips same more newline step =
    let (n, less, left) = left_after s t x _ (left_at_start s front same more newline) step in
    (n, left, omega (arith, less, newlines text front strips))
