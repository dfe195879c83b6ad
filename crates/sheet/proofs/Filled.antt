-- The row that segments make of an opened one. Assumes nothing.
use Rattle.std.proofs.Common.{◌≡◌, ℕ, suc, ◌+◌, ◌-◌, ◌<◌, ◌≤◌, List, [], ◌∷◌, ◌++◌, length, set, replicate, sym, refl, ap, ◌∙◌, arith}
use Rattle.std.proofs.lemmas.List.{append_assoc, append-nil, length_push, set_at}
use Rattle.model.specs.declared.segmented.Segmented.{Segmented}
use Rattle.model.specs.Segments.{Segments, last, more, count}
use Rattle.curves.specs.Phases.{some_segments}
use Rattle.sheet.specs.declared.segmented.SegmentedDraft.{SegmentedDraft}
use Rattle.sheet.specs.declared.segmented.Stage.{Stage}
use Rattle.sheet.specs.declared.segmented.Stage.TheVariants.{BeforeSegment, AfterSegment}
use Rattle.sheet.specs.SegmentedSheets.{opened, with_segment, with_suspension}
use Rattle.sheet.specs.SegmentedTasks.{costs_of, least_of, most_of, padded, row_of}

abbrev pub drafted : Stage → Segmented → SegmentedDraft
drafted stage row = record { stage = stage; row = row }

-- the row with one segment more, and with a suspension after it
abbrev pub and_segment : Segmented → ℕ → Segmented
and_segment row c = (with_segment (drafted BeforeSegment row) c).row

abbrev pub and_suspension : Segmented → ℕ → ℕ → Segmented
and_suspension row lo hi = (with_suspension (drafted AfterSegment row) lo hi).row

-- the row with these segments after those that it has
abbrev pub filled : Segmented → Segments → Segmented
filled row (last c) = and_segment row c
filled row (more c lo hi s) = filled (and_suspension (and_segment row c) lo hi) s

pub length_costs : (s : Segments) → length (costs_of s) ≡ count s
length_costs (last c) = refl
length_costs (more c lo hi s) = ap suc (length_costs s)

pad_set : (n : ℕ) (xs : List ℕ) (c i : ℕ) → length xs ≡ i → i < n → set (padded n xs) i c ≡ padded n (xs ++ c ∷ [])
pad_set n xs c i e l =
    let k : n - length xs ≡ suc (n - length (xs ++ c ∷ [])) = omega (arith, length_push xs c) in
    ap (λ (m : ℕ). set (xs ++ replicate m 0) i c) k ∙ (set_at xs 0 (replicate (n - length (xs ++ c ∷ [])) 0) c i e ∙ sym (append_assoc xs (c ∷ []) (replicate (n - length (xs ++ c ∷ [])) 0)))

module _ (id period deadline : ℕ) where
  -- the row with these costs and these ends of the ranges
  abbrev listed : List ℕ → List ℕ → List ℕ → Segmented
  listed cs ls hs = record { id = id; period = period; deadline = deadline; count = length cs; costs = padded 8 cs; least = padded 7 ls; most = padded 7 hs }

  segment_more : (cs ls hs : List ℕ) (c : ℕ) → length cs < 8 → and_segment (listed cs ls hs) c ≡ listed (cs ++ c ∷ []) ls hs
  segment_more cs ls hs c l =
      let n : length cs + 1 ≡ length (cs ++ c ∷ []) = sym (length_push cs c) in
      let a : set (padded 8 cs) (length cs) c ≡ padded 8 (cs ++ c ∷ []) = pad_set 8 cs c (length cs) refl l in
      λ i. record { id = id; period = period; deadline = deadline; count = n i; costs = a i; least = padded 7 ls; most = padded 7 hs }

  suspension_more : (cs ls hs : List ℕ) (lo hi : ℕ) → length cs ≡ length ls + 1 → length ls ≡ length hs → length ls < 7 → and_suspension (listed cs ls hs) lo hi ≡ listed cs (ls ++ lo ∷ []) (hs ++ hi ∷ [])
  suspension_more cs ls hs lo hi e f l =
      let a : set (padded 7 ls) (length cs - 1) lo ≡ padded 7 (ls ++ lo ∷ []) = pad_set 7 ls lo (length cs - 1) (omega arith) (omega arith) in
      let b : set (padded 7 hs) (length cs - 1) hi ≡ padded 7 (hs ++ hi ∷ []) = pad_set 7 hs hi (length cs - 1) (omega arith) (omega arith) in
      λ i. record { id = id; period = period; deadline = deadline; count = length cs; costs = padded 8 cs; least = a i; most = b i }

  fills : (cs ls hs : List ℕ) (s : Segments) → length ls ≡ length cs → length hs ≡ length cs → length cs + count s ≤ 8 → filled (listed cs ls hs) s ≡ listed (cs ++ costs_of s) (ls ++ least_of s) (hs ++ most_of s)
  fills cs ls hs (last c) e f l =
      let p : ls ≡ ls ++ [] = sym (append-nil ls) in
      let q : hs ≡ hs ++ [] = sym (append-nil hs) in
      segment_more cs ls hs c (omega arith) ∙ (λ i. listed (cs ++ c ∷ []) (p i) (q i))
  fills cs ls hs (more c lo hi s) e f l =
      let p : cs ++ c ∷ [] ++ costs_of s ≡ cs ++ c ∷ costs_of s = append_assoc cs (c ∷ []) (costs_of s) in
      let q : ls ++ lo ∷ [] ++ least_of s ≡ ls ++ lo ∷ least_of s = append_assoc ls (lo ∷ []) (least_of s) in
      let r : hs ++ hi ∷ [] ++ most_of s ≡ hs ++ hi ∷ most_of s = append_assoc hs (hi ∷ []) (most_of s) in
      ap (λ (x : Segmented). filled (and_suspension x lo hi) s) (segment_more cs ls hs c (omega (arith, some_segments s)))
      ∙ (ap (λ (x : Segmented). filled x s) (suspension_more (cs ++ c ∷ []) ls hs lo hi (omega (arith, length_push cs c)) (omega arith) (omega (arith, some_segments s)))
      ∙ (fills (cs ++ c ∷ []) (ls ++ lo ∷ []) (hs ++ hi ∷ []) s (omega (arith, length_push cs c, length_push ls lo)) (omega (arith, length_push cs c, length_push hs hi)) (omega (arith, length_push cs c))
      ∙ (λ i. listed (p i) (q i) (r i))))

  -- an opened row with eight segments at most
  pub filled_is : (s : Segments) → count s ≤ 8 → filled (opened id period deadline).row s ≡ row_of id period deadline s
  filled_is s l =
      fills [] [] [] s refl refl (omega arith)
      ∙ (λ i. record { id = id; period = period; deadline = deadline; count = length_costs s i; costs = padded 8 (costs_of s); least = padded 7 (least_of s); most = padded 7 (most_of s) })
