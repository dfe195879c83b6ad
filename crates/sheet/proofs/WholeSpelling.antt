-- Accepted sheets of whole rows are written down as they should be. Assumes nothing.
use Rattle.std.proofs.Common.{◌≡◌, ℕ, List, [], ◌∷◌, ◌++◌, length, Some, None, Option, sym, refl, subst}
use Rattle.model.specs.declared.whole.Whole.{Whole}
use Rattle.table.specs.declared.refusal.Refusal.{Refusal}
use Rattle.sheet.specs.declared.command.Effect.{Effect}
use Rattle.sheet.specs.declared.command.Effect.TheVariants.{Continues, Completes, Ends}
use Rattle.sheet.specs.declared.whole.WholeDraft.{WholeDraft}
use Rattle.sheet.specs.Bytes.{whole_task_byte, end_byte}
use Rattle.sheet.specs.Language.{Parses, stop, move, goes, enters, ends, accepted}
use Rattle.sheet.specs.Spelling.{two, four}
use Rattle.sheet.specs.WholeSheets.{whole_grammar}
use Rattle.sheet.specs.WholeTasks.{WholeTask, task}
use Rattle.sheet.proofs.Follows.{Follows, end, row}
use Rattle.sheet.proofs.Lengths.{Long, nil, cons, long_of, pick}

module _ (j : List Whole → Whole → Option Refusal) where
  abbrev Accepted : WholeDraft → List Whole → ℕ → List ℕ → List Whole → Type 0
  Accepted d table place bytes all = Parses whole_grammar j d table place bytes (accepted all)

  pub accepts : {table all : List Whole} {bytes : List ℕ} (d : WholeDraft) (place : ℕ) → Follows WholeTask j table all bytes → Accepted d table place bytes all
  accepts d place end = stop (ends {operands = []} (record { stand = refl; allowed = refl }) refl)
  accepts d place (row (task (two i h) (four a b c e) (four k l m n) (four o p q r) (four s t u v)) f more) =
      move (enters {operands = i ∷ h ∷ a ∷ b ∷ c ∷ e ∷ k ∷ l ∷ m ∷ n ∷ o ∷ p ∷ q ∷ r ∷ s ∷ t ∷ u ∷ v ∷ []} (record { stand = refl; allowed = refl }) refl f) (accepts d _ more)

  -- the two commands
  data View : ℕ → ℕ → Type 0 where
    task_view : View whole_task_byte 18
    end_view : View end_byte 0

  view : (d : WholeDraft) (tag n : ℕ) → whole_grammar.takes d tag ≡ Some n → View tag n
  view d tag n e = pick View tag 18 n _ whole_task_byte e task_view (λ f. pick View tag 0 n None end_byte f end_view (λ k. cc))

  ends_case : {tag n : ℕ} {operands : List ℕ} (d : WholeDraft) (table : List Whole) (bytes : List ℕ) → View tag n → Long n operands → bytes ≡ tag ∷ (operands ++ []) → whole_grammar.effect d tag operands ≡ Ends → Follows WholeTask j table table bytes
  ends_case d table bytes task_view l e f = cc
  ends_case d table bytes end_view nil e f = subst (λ (b : List ℕ). Follows WholeTask j table table b) (sym e) end

  goes_case : {tag n : ℕ} {X : Type 0} (d : WholeDraft) (operands : List ℕ) → View tag n → whole_grammar.effect d tag operands ≡ Continues → X
  goes_case d operands task_view f = cc
  goes_case d operands end_view f = cc

  completed : (x y : Whole) → ◌≡◌ {A = Effect Whole} (Completes x) (Completes y) → x ≡ y
  completed x y e = cc

  spelled_row : {table all : List Whole} (x one : Whole) (bytes rest : List ℕ) → WholeTask x bytes → x ≡ one → j table one ≡ None → Follows WholeTask j (table ++ one ∷ []) all rest → Follows WholeTask j table all (bytes ++ rest)
  spelled_row x one bytes rest t e f more = row (subst (λ (y : Whole). WholeTask y bytes) e t) f more

  enters_case : {tag n : ℕ} {operands : List ℕ} (d : WholeDraft) (table all : List Whole) (rest bytes : List ℕ) (one : Whole) → View tag n → Long n operands → bytes ≡ tag ∷ (operands ++ rest) → whole_grammar.effect d tag operands ≡ Completes one → j table one ≡ None → Follows WholeTask j (table ++ one ∷ []) all rest → Follows WholeTask j table all bytes
  enters_case d table all rest bytes one task_view (cons i (cons h (cons a (cons b (cons c (cons k (cons l (cons m (cons n (cons o (cons p (cons q (cons r (cons s (cons t (cons u (cons v (cons w nil)))))))))))))))))) e f fit more =
      subst (λ (b : List ℕ). Follows WholeTask j table all b) (sym e)
      (spelled_row _ one _ rest (task (two i h) (four a b c k) (four l m n o) (four p q r s) (four t u v w)) (completed _ one f) fit more)
  enters_case d table all rest bytes one end_view nil e f fit more = cc

  pub follows : {d : WholeDraft} {table all : List Whole} {place : ℕ} {bytes : List ℕ} → Accepted d table place bytes all → Follows WholeTask j table all bytes
  follows {d} {table} {all} {place} {bytes} (stop (ends {tag = tag} {operands = xs} c e)) =
      ends_case d table bytes (view d tag (length xs) c.allowed) (long_of xs (length xs) refl) c.stand e
  follows {d} {table} {all} {place} {bytes} (move (goes {tag = tag} {operands = xs} {rest = rest} c e) r) = goes_case d xs (view d tag (length xs) c.allowed) e
  follows {d} {table} {all} {place} {bytes} (move (enters {tag = tag} {operands = xs} {rest = rest} {row = one} c e f) r) =
      enters_case d table all rest bytes one (view d tag (length xs) c.allowed) (long_of xs (length xs) refl) c.stand e f (follows r)
