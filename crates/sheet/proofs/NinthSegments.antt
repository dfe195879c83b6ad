-- Sheets that are refused for too many segments. Assumes nothing.
use Rattle.std.proofs.Common.{◌≡◌, ℕ, ◌+◌, ◌*◌, ◌<◌, ◌≤◌, Bool, true, false, cond, leb, List, [], ◌∷◌, ◌++◌, length, sym, refl, ap, ◌∙◌, subst, arith}
use Rattle.std.proofs.lemmas.Bool.{le-leb, leb-true, leb-false}
use Rattle.model.specs.declared.segmented.Segmented.{Segmented}
use Rattle.model.specs.SegmentedRows.{segmented_kind}
use Rattle.table.specs.Faults.{too_many_segments_at}
use Rattle.table.specs.Tables.{append_refusal}
use Rattle.sheet.specs.declared.command.Effect.{Effect}
use Rattle.sheet.specs.declared.command.Effect.TheVariants.{Continues, Completes, TooManySegments}
use Rattle.sheet.specs.declared.segmented.SegmentedDraft.{SegmentedDraft}
use Rattle.sheet.specs.declared.segmented.Stage.{Stage}
use Rattle.sheet.specs.declared.segmented.Stage.TheVariants.{BetweenTasks, BeforeSegment, AfterSegment}
use Rattle.sheet.specs.Bytes.{suspension_byte, suspension_short_byte}
use Rattle.sheet.specs.Cuts.{Commands, no_command, continuing, completing}
use Rattle.sheet.specs.Language.{stops, Parses, Step, ninth, refused}
use Rattle.sheet.specs.NinthSegments.{NinthSheet, TooManyIsNinth}
use Rattle.sheet.specs.SegmentedSheets.{segmented_grammar, segmented_effect, segmented_next}
use Rattle.sheet.specs.SegmentedTasks.{Suspension, range, equal}
use Rattle.sheet.specs.Sheets.{Sheet, bad, body_refused}
use Rattle.sheet.specs.Spelling.{four}
use Rattle.sheet.proofs.Filled.{drafted}
use Rattle.sheet.proofs.Lengths.{Long, nil, cons, long_of}
use Rattle.sheet.proofs.Reached.{reached, reads}
use Rattle.sheet.proofs.Views.{View, open_view, short_view, end_view, segment_view, range_view, equal_view, task_end_view, view}

-- how many segments have been read: fewer than eight before a segment, eight at most after one
abbrev Counted : Stage → ℕ → Type 0
Counted BetweenTasks n = Unit {0}
Counted BeforeSegment n = n < 8
Counted AfterSegment n = n ≤ 8

-- a command that goes on counts so again
passed : (d : SegmentedDraft) (x : SegmentedDraft) (b : Bool) → leb 8 d.row.count ≡ b → ◌≡◌ {A = Effect Segmented} (cond b TooManySegments Continues) Continues → (d.row.count < 8 → Counted x.stage x.row.count) → Counted (cond b d x).stage (cond b d x).row.count
passed d x true e f k = cc
passed d x false e f k = k (leb-false 8 d.row.count e)

goes_case : {s : Stage} {tag n : ℕ} {operands : List ℕ} (one : Segmented) → View s tag n → Long n operands → segmented_effect (drafted s one) s tag ≡ Continues → Counted (segmented_next (drafted s one) s tag operands).stage (segmented_next (drafted s one) s tag operands).row.count
goes_case one open_view l f = omega arith
goes_case one short_view l f = omega arith
goes_case one end_view l f = tt
goes_case one segment_view l f = passed (drafted BeforeSegment one) _ (leb 8 one.count) refl f (λ m. omega arith)
goes_case one range_view l f = passed (drafted AfterSegment one) _ (leb 8 one.count) refl f (λ m. m)
goes_case one equal_view l f = passed (drafted AfterSegment one) _ (leb 8 one.count) refl f (λ m. m)
goes_case one task_end_view l f = cc

not_completed : (b : Bool) (done : Segmented) → ◌≡◌ {A = Effect Segmented} (cond b TooManySegments Continues) (Completes done) → ⊥
not_completed true done f = cc
not_completed false done f = cc

-- and so does one that completes a row
enters_case : {s : Stage} {tag n : ℕ} {operands : List ℕ} (one done : Segmented) → View s tag n → Long n operands → segmented_effect (drafted s one) s tag ≡ Completes done → Counted (segmented_next (drafted s one) s tag operands).stage (segmented_next (drafted s one) s tag operands).row.count
enters_case one done open_view l f = cc
enters_case one done short_view l f = cc
enters_case one done end_view l f = cc
enters_case one done segment_view l f = absurd (not_completed (leb 8 one.count) done f)
enters_case one done range_view l f = absurd (not_completed (leb 8 one.count) done f)
enters_case one done equal_view l f = absurd (not_completed (leb 8 one.count) done f)
enters_case one done task_end_view l f = tt

counted : {d e : SegmentedDraft} {table all : List Segmented} {whole : List ℕ} → Commands segmented_grammar segmented_kind d table whole e all → Counted d.stage d.row.count → Counted e.stage e.row.count
counted no_command k = k
counted {d} (continuing {tag = tag} {operands = xs} a f c) k = counted c (goes_case d.row (view d.stage tag (length xs) a) (long_of xs (length xs) refl) f)
counted {d} (completing {tag = tag} {operands = xs} {row = done} a f h c) k = counted c (enters_case d.row done (view d.stage tag (length xs) a) (long_of xs (length xs) refl) f)

-- a suspension after the eighth segment
record Eighth (stage : Stage) (one : Segmented) (command : List ℕ) : Type 0 where
  after_segment : stage ≡ AfterSegment
  eighth : one.count ≡ 8
  least : ℕ
  most : ℕ
  suspends : Suspension least most command

eight : (n : ℕ) (b : Bool) → leb 8 n ≡ b → ◌≡◌ {A = Effect Segmented} (cond b TooManySegments Continues) TooManySegments → 8 ≤ n
eight n true e f = leb-true 8 n e
eight n false e f = cc

ninth_case : {s : Stage} {tag n : ℕ} {operands : List ℕ} (one : Segmented) → View s tag n → Long n operands → segmented_effect (drafted s one) s tag ≡ TooManySegments → Counted s one.count → Eighth s one (tag ∷ operands)
ninth_case one open_view l f k = cc
ninth_case one short_view l f k = cc
ninth_case one end_view l f k = cc
ninth_case one segment_view l f k = absurd (omega (arith, eight one.count (leb 8 one.count) refl f))
ninth_case one range_view (cons p (cons q (cons r (cons s (cons t (cons u (cons v (cons w nil)))))))) f k =
    record { after_segment = refl; eighth = omega (arith, eight one.count (leb 8 one.count) refl f); least = ((p * 256 + q) * 256 + r) * 256 + s; most = ((t * 256 + u) * 256 + v) * 256 + w; suspends = range (four p q r s) (four t u v w) }
ninth_case one equal_view (cons p (cons q (cons r (cons s nil)))) f k =
    record { after_segment = refl; eighth = omega (arith, eight one.count (leb 8 one.count) refl f); least = ((p * 256 + q) * 256 + r) * 256 + s; most = ((p * 256 + q) * 256 + r) * 256 + s; suspends = equal (four p q r s) }
ninth_case one task_end_view l f k = cc

-- where the reading ends for too many segments, it stands
record There (d : SegmentedDraft) (bytes : List ℕ) (place end : ℕ) : Type 0 where
  at_end : place ≡ end
  command : List ℕ
  rest : List ℕ
  stands : bytes ≡ command ++ rest
  suspended : Eighth d.stage d.row command

there : {d : SegmentedDraft} {rows : List Segmented} {end place : ℕ} {bytes : List ℕ} → Step segmented_grammar (append_refusal segmented_kind) d rows end bytes (stops (refused (too_many_segments_at place))) → Counted d.stage d.row.count → There d bytes place end
there {d} (ninth {tag = tag} {operands = xs} {rest = rest} c e) k =
    record { at_end = refl; command = tag ∷ xs; rest = rest; stands = c.stand; suspended = ninth_case d.row (view d.stage tag (length xs) c.allowed) (long_of xs (length xs) refl) e k }

-- and where it stands, the reading ends so
ends_there : {lo hi : ℕ} {command : List ℕ} (d : SegmentedDraft) (rows : List Segmented) (place : ℕ) (rest : List ℕ) → d.stage ≡ AfterSegment → d.row.count ≡ 8 → Suspension lo hi command → Step segmented_grammar (append_refusal segmented_kind) d rows place (command ++ rest) (stops (refused (too_many_segments_at place)))
ends_there d rows place rest e f (range (four p q r s) (four t u v w)) =
    let n : leb 8 d.row.count ≡ true = le-leb 8 d.row.count (omega arith) in
    subst (λ (x : Stage). Step segmented_grammar (append_refusal segmented_kind) (drafted x d.row) rows place (suspension_byte ∷ p ∷ q ∷ r ∷ s ∷ t ∷ u ∷ v ∷ w ∷ rest) (stops (refused (too_many_segments_at place)))) (sym e)
    (ninth {operands = p ∷ q ∷ r ∷ s ∷ t ∷ u ∷ v ∷ w ∷ []} (record { stand = refl; allowed = refl }) (rw n refl))
ends_there d rows place rest e f (equal (four p q r s)) =
    let n : leb 8 d.row.count ≡ true = le-leb 8 d.row.count (omega arith) in
    subst (λ (x : Stage). Step segmented_grammar (append_refusal segmented_kind) (drafted x d.row) rows place (suspension_short_byte ∷ p ∷ q ∷ r ∷ s ∷ rest) (stops (refused (too_many_segments_at place)))) (sym e)
    (ninth {operands = p ∷ q ∷ r ∷ s ∷ []} (record { stand = refl; allowed = refl }) (rw n refl))

to_ninth : {mark : ℕ} {letters : ℕ → Bool} {bytes : List ℕ} {place : ℕ} → Sheet segmented_grammar (append_refusal segmented_kind) mark letters bytes (bad (too_many_segments_at place)) → NinthSheet mark letters bytes place
to_ninth {place = place} (body_refused {letter = letter} {rest = rest} e n r) =
    let x = reached segmented_grammar segmented_kind r in
    let t = there x.stopped (counted x.commands tt) in
    record {
      letter = letter;
      rest = rest;
      stands = e;
      allowed = n;
      p = length x.whole;
      ninth = record {
        whole = x.whole;
        suspension = t.command;
        rest = t.rest;
        stands = x.stands ∙ ap (λ (xs : List ℕ). x.whole ++ xs) t.stands;
        at_suspension = refl;
        draft = x.state;
        rows = x.rows;
        commands = x.commands;
        after_segment = t.suspended.after_segment;
        eighth = t.suspended.eighth;
        least = t.suspended.least;
        most = t.suspended.most;
        suspends = t.suspended.suspends;
      };
      at_place = t.at_end ∙ x.at_end;
    }

from_ninth : {mark : ℕ} {letters : ℕ → Bool} {bytes : List ℕ} {place : ℕ} → NinthSheet mark letters bytes place → Sheet segmented_grammar (append_refusal segmented_kind) mark letters bytes (bad (too_many_segments_at place))
from_ninth {place = place} w =
    let c = w.ninth in
    body_refused w.stands w.allowed
    (subst (λ (xs : List ℕ). Parses segmented_grammar (append_refusal segmented_kind) segmented_grammar.start [] 2 xs (refused (too_many_segments_at place))) (sym c.stands)
    (reads segmented_grammar segmented_kind 2 place (c.suspension ++ c.rest) c.commands (omega (arith, c.at_suspension, w.at_place)) (ends_there c.draft c.rows place c.rest c.after_segment c.eighth c.suspends)))

pub too_many_is_ninth : TooManyIsNinth
too_many_is_ninth mark letters bytes place = (to_ninth, from_ninth)
