-- Sets of places as masks, and what a test answers of a place of a table under the places of a mask. Assumes nothing.
use Rattle.std.specs.Prelude.{ℕ, zero, suc, ◌+◌, ◌/◌, ◌%◌, ◌^◌, Bool, cond, not, ◌&&◌, List, [], ◌∷◌, ◌++◌, map, length, None, filter, Option, ◌==◌, nat_lt, slice_index_or}
use Rattle.model.specs.Rows.{Kind, all_lawful}
use Rattle.feasibility.specs.Tests.{Answers}

-- the places of a table of n rows, in table order: 0 to n - 1
abbrev pub places : ℕ → List ℕ
places zero = []
places (suc n) = places n ++ n ∷ []

-- the row at a place of the table
abbrev pub row_of : {R : Type 0} → Kind R → List R → ℕ → R
row_of kind table p = slice_index_or table p kind.blank

-- the places below n that pass, in table order
abbrev pub pool_of : (ℕ → Bool) → ℕ → List ℕ
pool_of test n = filter test (places n)

-- the bit of the mask at a place: 1 or 0
abbrev pub bit_at : ℕ → ℕ → ℕ
bit_at mask p = (mask / 2 ^ p) % 2

-- whether the place is in the mask
abbrev pub has : ℕ → ℕ → Bool
has mask p = bit_at mask p == 1

-- the places of the mask below n, in table order
abbrev pub in_mask : ℕ → ℕ → List ℕ
in_mask mask n = pool_of (has mask) n

-- the mask of a list of places
abbrev pub mask_of : List ℕ → ℕ
mask_of [] = 0
mask_of (p ∷ ps) = 2 ^ p + mask_of ps

-- the rows whose places are in the mask, in table order
abbrev pub rows_in : {R : Type 0} → Kind R → List R → ℕ → List R
rows_in kind rows mask = map (row_of kind rows) (in_mask mask (length rows))

-- in a table of `count` rows: the place and the mask are of the table, and the place is not in the mask
abbrev pub askable : ℕ → ℕ → ℕ → Bool
askable count place above = nat_lt place count && (nat_lt above (2 ^ count) && not (has above place))

-- such a question about lawful rows alone
abbrev pub lawful_question : {R : Type 0} → Kind R → List R → ℕ → ℕ → Bool
lawful_question kind rows place above = askable (length rows) place above && all_lawful kind (row_of kind rows place ∷ rows_in kind rows above)

-- what the test answers of the row at the place, with the rows of the mask above it
abbrev pub asked : {R : Type 0} → Kind R → Answers R → List R → ℕ → ℕ → Option ℕ
asked kind test rows place above = cond (askable (length rows) place above) (test.answer (row_of kind rows place) (rows_in kind rows above)) None
