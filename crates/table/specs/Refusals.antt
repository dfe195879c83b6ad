-- The number of each refusal and the letter of each layer. Assumes nothing.
use Rattle.std.specs.Prelude.{◌≡◌, ℕ, ◌≢◌, Result, MatchResult}
use Rattle.table.specs.declared.refusal.Layer.{Layer}
use Rattle.table.specs.declared.refusal.Layer.TheVariants.{Plan, Sheet, Assignment}
use Rattle.table.specs.declared.refusal.Refusal.{Refusal}
use Rattle.table.specs.declared.refusal.Refusal.TheVariants.{ShortMemory, ByteNotAllowed, SheetCut, TooManySegments, TableFull, RowUnlawful, IdTaken, NoSuchTask, BytesAfterEnd, NoTaskFits}

abbrev pub refusal_number : Refusal → ℕ
refusal_number ShortMemory = 1
refusal_number ByteNotAllowed = 2
refusal_number SheetCut = 3
refusal_number TooManySegments = 4
refusal_number TableFull = 5
refusal_number RowUnlawful = 6
refusal_number IdTaken = 7
refusal_number NoSuchTask = 8
refusal_number BytesAfterEnd = 9
refusal_number NoTaskFits = 10

-- P, S and A
abbrev pub layer_letter : Layer → ℕ
layer_letter Plan = 0x50
layer_letter Sheet = 0x53
layer_letter Assignment = 0x41

-- the result is what has this code, or an error if nothing has it
abbrev pub StandsFor : {X E : Type 0} → (X → ℕ) → ℕ → Result X E → Type 0
StandsFor {X} code n r = MatchResult r (λ x. code x ≡ n) (λ _. (x : X) → code x ≢ n)
