-- What is written of a lawful table is accepted with that table. Assumes nothing.
use Rattle.std.proofs.Common.{◌≡◌, ℕ, zero, suc, ◌+◌, ◌-◌, ◌*◌, ◌/◌, ◌%◌, ◌<◌, ◌≤◌, true, eqb, leb, List, [], ◌∷◌, ◌++◌, length, get_or, drop, replicate, sym, refl, ap, ◌∙◌, subst, arith}
use Rattle.std.proofs.lemmas.List.{drop_more, length-drop}
use Rattle.std.proofs.lemmas.Bool.{and_parts, leb-true, eqb-true, lt-ltb, cond-true}
use Rattle.std.specs.List.{flat_map}
use Rattle.model.specs.declared.segmented.Segmented.{Segmented}
use Rattle.model.specs.declared.whole.Whole.{Whole}
use Rattle.model.specs.Rows.{Kind}
use Rattle.model.specs.WholeRows.{whole_kind}
use Rattle.model.specs.Segments.{Segments, last, more, count, all_ticks, most_gaps, ranged, lawful_ranged}
use Rattle.model.specs.SegmentedRows.{segments_of, segments_from, segment_cost, suspension_most, well_formed, all_zero, segmented_kind, segmented_shape}
use Rattle.sheet.specs.Language.{Grammar}
use Rattle.sheet.specs.Spelling.{Two, two, Four, four, Spelled, no_rows, row_first, GoodIsWritten}
use Rattle.sheet.specs.WholeTasks.{WholeTask}
use Rattle.sheet.specs.WholeTasks as whole
use Rattle.sheet.specs.SegmentedTasks.{long, range, Body, final, next, row_of, costs_of, least_of, most_of, padded, SegmentedTask, task}
use Rattle.sheet.specs.Writing.{two_bytes, four_bytes, whole_code, segments_code, segmented_code, AllBytes, no_bytes, byte_first, WholeFits, SegmentedFits, sheet_of, TableIsWritten}

pub two_of : (n : ℕ) → Two n (two_bytes n)
two_of n = let e : n / 256 * 256 + n % 256 ≡ n = omega arith in subst (λ (m : ℕ). Two m (two_bytes n)) e (two (n / 256) (n % 256))

pub four_of : (n : ℕ) → Four n (four_bytes n)
four_of n =
    let e : ((n / 65536 / 256 * 256 + n / 65536 % 256) * 256 + n % 65536 / 256) * 256 + n % 65536 % 256 ≡ n = omega arith in
    subst (λ (m : ℕ). Four m (four_bytes n)) e (four (n / 65536 / 256) (n / 65536 % 256) (n % 65536 / 256) (n % 65536 % 256))

two_are : (n : ℕ) → n < 65536 → AllBytes (two_bytes n)
two_are n l = byte_first (omega arith) (byte_first (omega arith) no_bytes)

four_are : (n : ℕ) → n ≤ 1000000 → AllBytes (four_bytes n)
four_are n l = byte_first (omega arith) (byte_first (omega arith) (byte_first (omega arith) (byte_first (omega arith) no_bytes)))

pub both_are : {xs ys : List ℕ} → AllBytes xs → AllBytes ys → AllBytes (xs ++ ys)
both_are no_bytes q = q
both_are (byte_first l p) q = byte_first l (both_are p q)

-- the tasks of a table
module _ {R : Type 0} (code : R → List ℕ) (d : R) where
  pub tasks_spelled : (Task : R → List ℕ → Type 0) (table : List R) → ((i : ℕ) → i < length table → Task (get_or table i d) (code (get_or table i d))) → Spelled Task table (flat_map code table)
  tasks_spelled Task [] t = no_rows
  tasks_spelled Task (x ∷ xs) t = row_first (t 0 (omega arith)) (tasks_spelled Task xs (λ i l. t (suc i) (omega arith)))

  pub tasks_are : (table : List R) → ((i : ℕ) → i < length table → AllBytes (code (get_or table i d))) → AllBytes (flat_map code table)
  tasks_are [] t = no_bytes
  tasks_are (x ∷ xs) t = both_are (t 0 (omega arith)) (tasks_are xs (λ i l. t (suc i) (omega arith)))

-- whole rows
pub whole_task : (x : Whole) → WholeTask x (whole_code x)
whole_task x = whole.task (two_of x.id) (four_of x.period) (four_of x.deadline) (four_of x.compute) (four_of x.suspend)

pub whole_are : (x : Whole) → whole_kind.lawful x ≡ true → WholeFits x → AllBytes (whole_code x)
whole_are x l f =
    let b = whole_kind.r1 x l in
    byte_first (omega arith) (both_are (two_are x.id (omega arith)) (both_are (four_are x.period (omega arith)) (both_are (four_are x.deadline (omega arith)) (both_are (four_are x.compute (omega arith)) (four_are x.suspend (omega arith))))))

-- n values of a function from j on
abbrev listed : (ℕ → ℕ) → ℕ → ℕ → List ℕ
listed f zero j = []
listed f (suc n) j = f j ∷ listed f n (suc j)

length_listed : (f : ℕ → ℕ) (n j : ℕ) → length (listed f n j) ≡ n
length_listed f zero j = refl
length_listed f (suc n) j = ap suc (length_listed f n (suc j))

listed_is : (xs : List ℕ) (f : ℕ → ℕ) (n j : ℕ) → ((i : ℕ) → j ≤ i → i < j + n → f i ≡ get_or xs i 0) → j + n ≤ length xs → listed f n j ++ drop (j + n) xs ≡ drop j xs
listed_is xs f zero j h l = let e : j + 0 ≡ j = omega arith in ap (λ (k : ℕ). drop k xs) e
listed_is xs f (suc n) j h l =
    let e : j + suc n ≡ suc j + n = omega arith in
    let k : suc j ≡ j + 1 = omega arith in
    ap (λ (m : ℕ). f j ∷ (listed f n (suc j) ++ drop m xs)) e
    ∙ (ap (λ (ys : List ℕ). f j ∷ ys) (listed_is xs f n (suc j) (λ i p q. h i (omega arith) (omega arith)) (omega arith) ∙ ap (λ (m : ℕ). drop m xs) k)
    ∙ (ap (λ (y : ℕ). y ∷ drop (j + 1) xs) (h j (omega arith) (omega arith)) ∙ sym (drop_more xs j 0 (omega arith))))

zeros_are : (xs : List ℕ) → all_zero xs ≡ true → xs ≡ replicate (length xs) 0
zeros_are [] e = refl
zeros_are (x ∷ xs) e =
    let (a, b) = and_parts (eqb x 0) (all_zero xs) e in
    let z : x ≡ 0 = eqb-true x 0 a in
    let r = zeros_are xs b in
    λ i. z i ∷ r i

-- an array with its first n places listed and 0 in the others
padded_is : (xs : List ℕ) (f : ℕ → ℕ) (size n : ℕ) → length xs ≡ size → n ≤ size → ((i : ℕ) → i < n → f i ≡ get_or xs i 0) → all_zero (drop n xs) ≡ true → padded size (listed f n 0) ≡ xs
padded_is xs f size n e l h z =
    let k : size - length (listed f n 0) ≡ length (drop n xs) = omega (arith, length_listed f n 0, length-drop n xs) in
    let m : 0 + n ≡ n = omega arith in
    ap (λ (q : ℕ). listed f n 0 ++ replicate q 0) k
    ∙ (ap (λ (ys : List ℕ). listed f n 0 ++ ys) (sym (zeros_are (drop n xs) z))
    ∙ (ap (λ (q : ℕ). listed f n 0 ++ drop q xs) (sym m) ∙ listed_is xs f n 0 (λ i p q. h i (omega arith)) (omega arith)))

-- segmented rows
module _ (x : Segmented) where
  costs_listed : (n j : ℕ) → costs_of (segments_from x n j) ≡ listed (segment_cost x) (suc n) j
  costs_listed zero j = refl
  costs_listed (suc n) j = ap (λ (ys : List ℕ). segment_cost x j ∷ ys) (costs_listed n (suc j))

  least_listed : (n j : ℕ) → least_of (segments_from x n j) ≡ listed (λ i. get_or x.least i 0) n j
  least_listed zero j = refl
  least_listed (suc n) j = ap (λ (ys : List ℕ). get_or x.least j 0 ∷ ys) (least_listed n (suc j))

  most_listed : (n j : ℕ) → most_of (segments_from x n j) ≡ listed (suspension_most x) n j
  most_listed zero j = refl
  most_listed (suc n) j = ap (λ (ys : List ℕ). suspension_most x j ∷ ys) (most_listed n (suc j))

  count_listed : (n j : ℕ) → count (segments_from x n j) ≡ suc n
  count_listed zero j = refl
  count_listed (suc n) j = ap suc (count_listed n (suc j))

  record Formed : Type 0 where
    some : 1 ≤ x.count
    few : x.count ≤ 8
    costs : all_zero (drop x.count x.costs) ≡ true
    least : all_zero (drop (x.count - 1) x.least) ≡ true
    most : all_zero (drop (x.count - 1) x.most) ≡ true

  formed : well_formed x ≡ true → Formed
  formed e =
      let (a, e₁) = and_parts (leb 1 x.count) _ e in
      let (b, e₂) = and_parts (leb x.count 8) _ e₁ in
      let (c, e₃) = and_parts (all_zero (drop x.count x.costs)) _ e₂ in
      let (d, f) = and_parts (all_zero (drop (x.count - 1) x.least)) (all_zero (drop (x.count - 1) x.most)) e₃ in
      record { some = leb-true 1 x.count a; few = leb-true x.count 8 b; costs = c; least = d; most = f }

  -- a well-formed row is the row with its segments
  row_is : well_formed x ≡ true → SegmentedFits x → row_of x.id x.period x.deadline (segments_of x) ≡ x
  row_is w f =
      let g = formed w in
      let n : suc (x.count - 1) ≡ x.count = omega arith in
      let a : count (segments_of x) ≡ x.count = count_listed (x.count - 1) 0 ∙ n in
      let b : padded 8 (costs_of (segments_of x)) ≡ x.costs =
      ap (λ (ys : List ℕ). padded 8 ys) (costs_listed (x.count - 1) 0 ∙ ap (λ (k : ℕ). listed (segment_cost x) k 0) n)
      ∙ padded_is x.costs (segment_cost x) 8 x.count f.costs g.few (λ i l. cond-true _ _ _ (lt-ltb i x.count l)) g.costs in
      let c : padded 7 (least_of (segments_of x)) ≡ x.least =
      ap (λ (ys : List ℕ). padded 7 ys) (least_listed (x.count - 1) 0) ∙ padded_is x.least (λ i. get_or x.least i 0) 7 (x.count - 1) f.least (omega arith) (λ i l. refl) g.least in
      let d : padded 7 (most_of (segments_of x)) ≡ x.most =
      ap (λ (ys : List ℕ). padded 7 ys) (most_listed (x.count - 1) 0)
      ∙ padded_is x.most (suspension_most x) 7 (x.count - 1) f.most (omega arith) (λ i l. cond-true _ _ _ (lt-ltb i (x.count - 1) l)) g.most in
      λ i. record { id = x.id; period = x.period; deadline = x.deadline; count = a i; costs = b i; least = c i; most = d i }

body_of : (s : Segments) → Body s (segments_code s)
body_of (last c) = final (four_of c)
body_of (more c lo hi s) = next (four_of c) (range (four_of lo) (four_of hi)) (body_of s)

body_are : (s : Segments) → ranged s ≡ true → all_ticks s ≤ 1000000 → most_gaps s ≤ 1000000 → AllBytes (segments_code s)
body_are (last c) r l m = byte_first (omega arith) (both_are (four_are c l) (byte_first (omega arith) no_bytes))
body_are (more c lo hi s) r l m =
    let (a, b) = and_parts (leb lo hi) (ranged s) r in
    let h : lo ≤ hi = leb-true lo hi a in
    byte_first (omega arith) (both_are (four_are c (omega arith)) (both_are (byte_first (omega arith) (both_are (four_are lo (omega arith)) (four_are hi (omega arith)))) (body_are s b (omega arith) (omega arith))))

lawful_formed : (x : Segmented) → segmented_kind.lawful x ≡ true → well_formed x ≡ true
lawful_formed x l = (and_parts (well_formed x) _ l).0

pub segmented_task : (x : Segmented) → segmented_kind.lawful x ≡ true → SegmentedFits x → SegmentedTask x (segmented_code x)
segmented_task x l f =
    let w = lawful_formed x l in
    let g = formed x w in
    let few : count (segments_of x) ≤ 8 = omega (arith, count_listed x (x.count - 1) 0) in
    subst (λ (y : Segmented). SegmentedTask y (segmented_code x)) (row_is x w f) (task (long (two_of x.id) (four_of x.period) (four_of x.deadline)) (body_of (segments_of x)) few)

pub segmented_are : (x : Segmented) → segmented_kind.lawful x ≡ true → SegmentedFits x → AllBytes (segmented_code x)
segmented_are x l f =
    let b = segmented_kind.r1 x l in
    both_are (byte_first (omega arith) (both_are (two_are x.id (omega arith)) (both_are (four_are x.period (omega arith)) (four_are x.deadline (omega arith)))))
    (body_are (segments_of x) (lawful_ranged segmented_shape x l) (omega arith) (omega arith))

-- the sheet of a table, for a kind whose accepted sheets are written down so
module _ {S R : Type 0} (g : Grammar S R) (Task : R → List ℕ → Type 0) (kind : Kind R) (Fits : R → Type 0) (code : R → List ℕ) where
  pub table_is_written : GoodIsWritten g Task kind → ((x : R) → kind.lawful x ≡ true → Fits x → Task x (code x)) → ((x : R) → kind.lawful x ≡ true → Fits x → AllBytes (code x)) → TableIsWritten g kind Fits code
  table_is_written good spelled are mark letters table letter m l allowed few lawful fits = (
    byte_first m (byte_first l (both_are (tasks_are code kind.blank table (λ i h. are (get_or table i kind.blank) (lawful.rows i h) (fits i h))) (byte_first (omega arith) no_bytes))),
    (good mark letters (sheet_of code mark letter table) table letter).1
        (record {
          tasks = flat_map code table;
          stands = refl;
          allowed = allowed;
          spelled = tasks_spelled code kind.blank Task table (λ i h. spelled (get_or table i kind.blank) (lawful.rows i h) (fits i h));
          few = few;
          lawful = lawful;
        }),
  )
