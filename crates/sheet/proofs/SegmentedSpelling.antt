-- Accepted sheets of segmented rows are written down as they should be. Assumes nothing.
use Rattle.std.proofs.Common.{◌≡◌, ℕ, ◌+◌, ◌*◌, ◌<◌, ◌≤◌, Bool, true, false, cond, leb, List, [], ◌∷◌, ◌++◌, length, None, Option, sym, refl, ap, ◌∙◌, subst, arith}
use Rattle.std.proofs.lemmas.List.{append_assoc}
use Rattle.std.proofs.lemmas.Bool.{lt-leb, leb-false}
use Rattle.model.specs.declared.segmented.Segmented.{Segmented}
use Rattle.model.specs.Segments.{Segments, last, more, count}
use Rattle.curves.specs.Phases.{some_segments}
use Rattle.table.specs.declared.refusal.Refusal.{Refusal}
use Rattle.sheet.specs.declared.command.Effect.{Effect}
use Rattle.sheet.specs.declared.command.Effect.TheVariants.{Continues, Completes, Ends, TooManySegments}
use Rattle.sheet.specs.declared.segmented.SegmentedDraft.{SegmentedDraft}
use Rattle.sheet.specs.declared.segmented.Stage.{Stage}
use Rattle.sheet.specs.declared.segmented.Stage.TheVariants.{BetweenTasks, BeforeSegment, AfterSegment}
use Rattle.sheet.specs.Bytes.{segment_byte, suspension_byte, suspension_short_byte, task_end_byte}
use Rattle.sheet.specs.Language.{Parses, stop, move, goes, enters, ends, accepted}
use Rattle.sheet.specs.Spelling.{Four, two, four}
use Rattle.sheet.specs.SegmentedSheets.{segmented_grammar, segmented_effect, segmented_next, opened}
use Rattle.sheet.specs.SegmentedTasks.{Opening, long, short, Suspension, range, equal, Body, final, next, row_of, SegmentedTask, task}
use Rattle.sheet.proofs.Follows.{Follows, end, row}
use Rattle.sheet.proofs.Lengths.{Long, nil, cons, long_of}
use Rattle.sheet.proofs.Views.{View, open_view, short_view, end_view, segment_view, range_view, equal_view, task_end_view, view}
use Rattle.sheet.proofs.Filled.{drafted, and_segment, and_suspension, filled, filled_is}

module _ (j : List Segmented → Segmented → Option Refusal) where
  abbrev Accepted : SegmentedDraft → List Segmented → ℕ → List ℕ → List Segmented → Type 0
  Accepted d table place bytes all = Parses segmented_grammar j d table place bytes (accepted all)

  -- between tasks, whatever row stood before, the rest of the sheet is accepted after this table
  abbrev Goes_on : List Segmented → List Segmented → List ℕ → Type 0
  Goes_on table all rest = (one : Segmented) (place : ℕ) → Accepted (drafted BetweenTasks one) table place rest all

  suspends : {lo hi : ℕ} {between : List ℕ} (one : Segmented) (table all : List Segmented) (rest : List ℕ) (place : ℕ) → Suspension lo hi between → one.count < 8 → ((p : ℕ) → Accepted (drafted BeforeSegment (and_suspension one lo hi)) table p rest all) → Accepted (drafted AfterSegment one) table place (between ++ rest) all
  suspends one table all rest place (range (four p q r s) (four t u v w)) l k =
      let n : leb 8 one.count ≡ false = lt-leb 8 one.count l in
      move (goes {operands = p ∷ q ∷ r ∷ s ∷ t ∷ u ∷ v ∷ w ∷ []} (record { stand = refl; allowed = refl }) (rw n refl)) (rw n (k _))
  suspends one table all rest place (equal (four p q r s)) l k =
      let n : leb 8 one.count ≡ false = lt-leb 8 one.count l in
      move (goes {operands = p ∷ q ∷ r ∷ s ∷ []} (record { stand = refl; allowed = refl }) (rw n refl)) (rw n (k _))

  segment : {c : ℕ} {costs : List ℕ} (one : Segmented) (table all : List Segmented) (rest : List ℕ) (place : ℕ) → Four c costs → one.count < 8 → ((p : ℕ) → Accepted (drafted AfterSegment (and_segment one c)) table p rest all) → Accepted (drafted BeforeSegment one) table place (segment_byte ∷ (costs ++ rest)) all
  segment one table all rest place (four p q r s) l k =
      let n : leb 8 one.count ≡ false = lt-leb 8 one.count l in
      move (goes {operands = p ∷ q ∷ r ∷ s ∷ []} (record { stand = refl; allowed = refl }) (rw n refl)) (rw n (k _))

  closes : (one : Segmented) (table all : List Segmented) (rest : List ℕ) (place : ℕ) → j table one ≡ None → Goes_on (table ++ one ∷ []) all rest → Accepted (drafted AfterSegment one) table place (task_end_byte ∷ rest) all
  closes one table all rest place f k = move (enters {operands = []} (record { stand = refl; allowed = refl }) refl f) (k _ _)

  bodied : {s : Segments} {bytes : List ℕ} (one : Segmented) (table all : List Segmented) (rest : List ℕ) (place : ℕ) → Body s bytes → one.count + count s ≤ 8 → j table (filled one s) ≡ None → Goes_on (table ++ filled one s ∷ []) all rest → Accepted (drafted BeforeSegment one) table place (bytes ++ rest) all
  bodied one table all rest place (final {cost = c} {costs = costs} f) l fit k =
      subst (λ (b : List ℕ). Accepted (drafted BeforeSegment one) table place (segment_byte ∷ b) all) (sym (append_assoc costs (task_end_byte ∷ []) rest))
      (segment one table all (task_end_byte ∷ rest) place f (omega arith) (λ p. closes (and_segment one c) table all rest p fit k))
  bodied one table all rest place (next {cost = c} {low = lo} {high = hi} {costs = costs} {between = between} {rest = left} {segments = s} f h b) l fit k =
      subst (λ (z : List ℕ). Accepted (drafted BeforeSegment one) table place (segment_byte ∷ z) all) (sym (append_assoc costs (between ++ left) rest ∙ ap (λ (z : List ℕ). costs ++ z) (append_assoc between left rest)))
      (segment one table all (between ++ (left ++ rest)) place f (omega arith)
      (λ p. suspends (and_segment one c) table all (left ++ rest) p h (omega (arith, some_segments s)) (λ q. bodied (and_suspension (and_segment one c) lo hi) table all rest q b (omega arith) fit k)))

  opening : {id period deadline : ℕ} {bytes : List ℕ} (one : Segmented) (table all : List Segmented) (rest : List ℕ) (place : ℕ) → Opening id period deadline bytes → ((p : ℕ) → Accepted (opened id period deadline) table p rest all) → Accepted (drafted BetweenTasks one) table place (bytes ++ rest) all
  opening one table all rest place (long (two i h) (four p q r s) (four t u v w)) k =
      move (goes {operands = i ∷ h ∷ p ∷ q ∷ r ∷ s ∷ t ∷ u ∷ v ∷ w ∷ []} (record { stand = refl; allowed = refl }) refl) (k _)
  opening one table all rest place (short (two i h) (four p q r s)) k =
      move (goes {operands = i ∷ h ∷ p ∷ q ∷ r ∷ s ∷ []} (record { stand = refl; allowed = refl }) refl) (k _)

  pub accepts : {table all : List Segmented} {bytes : List ℕ} (one : Segmented) (place : ℕ) → Follows SegmentedTask j table all bytes → Accepted (drafted BetweenTasks one) table place bytes all
  accepts {table} one place end = stop (ends {operands = []} (record { stand = refl; allowed = refl }) refl)
  accepts {table} {all} one place (row {rest = rest} (task {id = id} {period = period} {deadline = deadline} {opening = o} {body = b} {segments = s} f h l) fit m) =
      let is : filled (opened id period deadline).row s ≡ row_of id period deadline s = filled_is id period deadline s l in
      subst (λ (z : List ℕ). Accepted (drafted BetweenTasks one) table place z all) (sym (append_assoc o b rest))
      (opening one table all (b ++ rest) place f
      (λ p. bodied (opened id period deadline).row table all rest p h (omega arith) (ap (λ (x : Segmented). j table x) is ∙ fit) (subst (λ (x : Segmented). Goes_on (table ++ x ∷ []) all rest) (sym is) (λ x q. accepts x q m))))

  -- what is left of an accepted sheet before a segment: the segments of the row begun, and the rest of the sheet
  record SegmentsLeft (one : Segmented) (table all : List Segmented) (bytes : List ℕ) : Type 0 where
    segments : Segments
    part : List ℕ
    rest : List ℕ
    stands : bytes ≡ part ++ rest
    body : Body segments part
    few : one.count + count segments ≤ 8
    fit : j table (filled one segments) ≡ None
    follows : Follows SegmentedTask j (table ++ filled one segments ∷ []) all rest

  -- and after a segment: the end of the task, or a suspension and more segments
  data TaskLeft (one : Segmented) (table all : List Segmented) (bytes : List ℕ) : Type 0 where
    ended : {rest : List ℕ} → bytes ≡ task_end_byte ∷ rest → j table one ≡ None → Follows SegmentedTask j (table ++ one ∷ []) all rest → TaskLeft one table all bytes
    suspended : {lo hi : ℕ} {between rest : List ℕ} → bytes ≡ between ++ rest → Suspension lo hi between → SegmentsLeft (and_suspension one lo hi) table all rest → TaskLeft one table all bytes

  abbrev Left : Stage → Segmented → List Segmented → List Segmented → List ℕ → Type 0
  Left BetweenTasks one table all bytes = Follows SegmentedTask j table all bytes
  Left BeforeSegment one table all bytes = SegmentsLeft one table all bytes
  Left AfterSegment one table all bytes = TaskLeft one table all bytes

  with_cost : {c : ℕ} {costs : List ℕ} (one : Segmented) (table all : List Segmented) (rest bytes : List ℕ) → Four c costs → bytes ≡ segment_byte ∷ (costs ++ rest) → one.count < 8 → TaskLeft (and_segment one c) table all rest → SegmentsLeft one table all bytes
  with_cost {c} {costs} one table all rest bytes f e l (ended {rest = left} h fit m) =
      record {
        segments = last c;
        part = segment_byte ∷ (costs ++ task_end_byte ∷ []);
        rest = left;
        stands = e ∙ ap (λ (z : List ℕ). segment_byte ∷ z) (ap (λ (z : List ℕ). costs ++ z) h ∙ sym (append_assoc costs (task_end_byte ∷ []) left));
        body = final f;
        few = omega arith;
        fit = fit;
        follows = m;
      }
  with_cost {c} {costs} one table all rest bytes f e l (suspended {lo = lo} {hi = hi} {between = between} {rest = left} h k m) =
      record {
        segments = more c lo hi m.segments;
        part = segment_byte ∷ (costs ++ (between ++ m.part));
        rest = m.rest;
        stands = e ∙ ap (λ (z : List ℕ). segment_byte ∷ z) (ap (λ (z : List ℕ). costs ++ z) (h ∙ (ap (λ (z : List ℕ). between ++ z) m.stands ∙ sym (append_assoc between m.part m.rest))) ∙ sym (append_assoc costs (between ++ m.part) m.rest));
        body = next f k m.body;
        few = omega (arith, m.few);
        fit = m.fit;
        follows = m.follows;
      }

  with_opening : {id period deadline : ℕ} {opening : List ℕ} (table all : List Segmented) (rest bytes : List ℕ) → Opening id period deadline opening → bytes ≡ opening ++ rest → SegmentsLeft (opened id period deadline).row table all rest → Follows SegmentedTask j table all bytes
  with_opening {id} {period} {deadline} {opening} table all rest bytes o e m =
      let few : count m.segments ≤ 8 = omega (arith, m.few) in
      let is : filled (opened id period deadline).row m.segments ≡ row_of id period deadline m.segments = filled_is id period deadline m.segments few in
      subst (λ (z : List ℕ). Follows SegmentedTask j table all z) (sym (e ∙ (ap (λ (z : List ℕ). opening ++ z) m.stands ∙ sym (append_assoc opening m.part m.rest))))
      (row (task o m.body few) (ap (λ (x : Segmented). j table x) (sym is) ∙ m.fit) (subst (λ (x : Segmented). Follows SegmentedTask j (table ++ x ∷ []) all m.rest) is m.follows))

  -- where the eighth segment is not passed
  not_passed : (one : Segmented) (d : SegmentedDraft) (table all : List Segmented) (bytes : List ℕ) (b : Bool) (stage : Stage) → leb 8 one.count ≡ b → ◌≡◌ {A = Effect Segmented} (cond b TooManySegments Continues) Continues → Left (cond b (drafted stage one) d).stage (cond b (drafted stage one) d).row table all bytes → (one.count < 8) × Left d.stage d.row table all bytes
  not_passed one d table all bytes true stage e f p = cc
  not_passed one d table all bytes false stage e f p = (leb-false 8 one.count e, p)

  goes_case : {s : Stage} {tag n : ℕ} {operands : List ℕ} (one : Segmented) (table all : List Segmented) (rest bytes : List ℕ) → View s tag n → Long n operands → bytes ≡ tag ∷ (operands ++ rest) → segmented_effect (drafted s one) s tag ≡ Continues → Left (segmented_next (drafted s one) s tag operands).stage (segmented_next (drafted s one) s tag operands).row table all rest → Left s one table all bytes
  goes_case one table all rest bytes open_view (cons i (cons h (cons p (cons q (cons r (cons s (cons t (cons u (cons v (cons w nil)))))))))) e f left =
      with_opening table all rest bytes (long (two i h) (four p q r s) (four t u v w)) e left
  goes_case one table all rest bytes short_view (cons i (cons h (cons p (cons q (cons r (cons s nil)))))) e f left = with_opening table all rest bytes (short (two i h) (four p q r s)) e left
  goes_case one table all rest bytes end_view nil e f left = cc
  goes_case one table all rest bytes segment_view (cons p (cons q (cons r (cons s nil)))) e f left =
      let (l, m) = not_passed one (drafted AfterSegment (and_segment one (((p * 256 + q) * 256 + r) * 256 + s))) table all rest (leb 8 one.count) BeforeSegment refl f left in
      with_cost one table all rest bytes (four p q r s) e l m
  goes_case one table all rest bytes range_view (cons p (cons q (cons r (cons s (cons t (cons u (cons v (cons w nil)))))))) e f left =
      let (l, m) = not_passed one (drafted BeforeSegment (and_suspension one (((p * 256 + q) * 256 + r) * 256 + s) (((t * 256 + u) * 256 + v) * 256 + w))) table all rest (leb 8 one.count) AfterSegment refl f left in
      suspended {between = suspension_byte ∷ p ∷ q ∷ r ∷ s ∷ t ∷ u ∷ v ∷ w ∷ []} e (range (four p q r s) (four t u v w)) m
  goes_case one table all rest bytes equal_view (cons p (cons q (cons r (cons s nil)))) e f left =
      let (l, m) = not_passed one (drafted BeforeSegment (and_suspension one (((p * 256 + q) * 256 + r) * 256 + s) (((p * 256 + q) * 256 + r) * 256 + s))) table all rest (leb 8 one.count) AfterSegment refl f left in
      suspended {between = suspension_short_byte ∷ p ∷ q ∷ r ∷ s ∷ []} e (equal (four p q r s)) m
  goes_case one table all rest bytes task_end_view nil e f left = cc

  -- no suspension or segment completes a row or ends the sheet
  neither : (b : Bool) (x : Effect Segmented) → ◌≡◌ {A = Effect Segmented} (cond b TooManySegments Continues) x → (x ≡ Ends → ⊥) × ((y : Segmented) → x ≡ Completes y → ⊥)
  neither true x f = (λ e. cc, λ y e. cc)
  neither false x f = (λ e. cc, λ y e. cc)

  enters_case : {s : Stage} {tag n : ℕ} {operands : List ℕ} (one done : Segmented) (table all : List Segmented) (rest bytes : List ℕ) → View s tag n → Long n operands → bytes ≡ tag ∷ (operands ++ rest) → segmented_effect (drafted s one) s tag ≡ Completes done → j table done ≡ None → Left (segmented_next (drafted s one) s tag operands).stage (segmented_next (drafted s one) s tag operands).row (table ++ done ∷ []) all rest → Left s one table all bytes
  enters_case one done table all rest bytes open_view l e f fit left = cc
  enters_case one done table all rest bytes short_view l e f fit left = cc
  enters_case one done table all rest bytes end_view l e f fit left = cc
  enters_case one done table all rest bytes segment_view l e f fit left = absurd ((neither (leb 8 one.count) (Completes done) f).1 done refl)
  enters_case one done table all rest bytes range_view l e f fit left = absurd ((neither (leb 8 one.count) (Completes done) f).1 done refl)
  enters_case one done table all rest bytes equal_view l e f fit left = absurd ((neither (leb 8 one.count) (Completes done) f).1 done refl)
  enters_case one done table all rest bytes task_end_view nil e f fit left =
      let same : done ≡ one = cc in
      ended e (ap (λ (x : Segmented). j table x) (sym same) ∙ fit) (subst (λ (x : Segmented). Follows SegmentedTask j (table ++ x ∷ []) all rest) same left)

  ends_case : {s : Stage} {tag n : ℕ} {operands : List ℕ} (one : Segmented) (table : List Segmented) (bytes : List ℕ) → View s tag n → Long n operands → bytes ≡ tag ∷ (operands ++ []) → segmented_effect (drafted s one) s tag ≡ Ends → Left s one table table bytes
  ends_case one table bytes open_view l e f = cc
  ends_case one table bytes short_view l e f = cc
  ends_case one table bytes end_view nil e f = subst (λ (b : List ℕ). Follows SegmentedTask j table table b) (sym e) end
  ends_case one table bytes segment_view l e f = absurd ((neither (leb 8 one.count) Ends f).0 refl)
  ends_case one table bytes range_view l e f = absurd ((neither (leb 8 one.count) Ends f).0 refl)
  ends_case one table bytes equal_view l e f = absurd ((neither (leb 8 one.count) Ends f).0 refl)
  ends_case one table bytes task_end_view l e f = cc

  left : {d : SegmentedDraft} {table all : List Segmented} {place : ℕ} {bytes : List ℕ} → Accepted d table place bytes all → Left d.stage d.row table all bytes
  left {d} {table} {all} {place} {bytes} (stop (ends {tag = tag} {operands = xs} c e)) =
      ends_case d.row table bytes (view d.stage tag (length xs) c.allowed) (long_of xs (length xs) refl) c.stand e
  left {d} {table} {all} {place} {bytes} (move (goes {tag = tag} {operands = xs} {rest = rest} c e) r) =
      goes_case d.row table all rest bytes (view d.stage tag (length xs) c.allowed) (long_of xs (length xs) refl) c.stand e (left r)
  left {d} {table} {all} {place} {bytes} (move (enters {tag = tag} {operands = xs} {rest = rest} {row = one} c e f) r) =
      enters_case d.row one table all rest bytes (view d.stage tag (length xs) c.allowed) (long_of xs (length xs) refl) c.stand e f (left r)

  pub follows : (one : Segmented) (table all : List Segmented) (place : ℕ) (bytes : List ℕ) → Accepted (drafted BetweenTasks one) table place bytes all → Follows SegmentedTask j table all bytes
  follows one table all place bytes r = left r
