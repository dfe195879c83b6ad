-- Sheets that are refused as cut. Assumes nothing.
use Rattle.std.proofs.Common.{◌≡◌, ℕ, ◌+◌, ◌-◌, ◌≤◌, Bool, List, [], ◌∷◌, ◌++◌, length, replicate, Some, sym, refl, ap, ◌∙◌, subst, arith}
use Rattle.std.proofs.lemmas.List.{length-append, length-replicate}
use Rattle.model.specs.Rows.{Kind}
use Rattle.model.specs.SegmentedRows.{segmented_kind}
use Rattle.model.specs.WholeRows.{whole_kind}
use Rattle.table.specs.Faults.{cut_at}
use Rattle.table.specs.Tables.{append_refusal}
use Rattle.sheet.specs.Language.{Grammar, stops, Parses, Step, missing, cut, refused}
use Rattle.sheet.specs.Sheets.{Sheet, bad, no_kind, no_letter, body_refused}
use Rattle.sheet.specs.declared.segmented.SegmentedDraft.{SegmentedDraft}
use Rattle.sheet.specs.declared.segmented.Stage.{Stage}
use Rattle.sheet.specs.declared.segmented.Stage.TheVariants.{BetweenTasks, BeforeSegment, AfterSegment}
use Rattle.sheet.specs.Bytes.{end_byte, segment_byte, task_end_byte}
use Rattle.sheet.specs.SegmentedSheets.{segmented_grammar, segmented_takes}
use Rattle.sheet.specs.WholeSheets.{whole_grammar}
use Rattle.sheet.specs.Cuts.{Cut, CutSheet, before_kind, before_letter, in_commands, CutIsCut}
use Rattle.sheet.proofs.Reached.{reached, reads}

-- some command is allowed in every state
pub record Offered {S R : Type 0} (g : Grammar S R) (s : S) : Type 0 where
  pub tag : ℕ
  pub width : ℕ
  pub allowed : g.takes s tag ≡ Some width

module _ {S R : Type 0} (g : Grammar S R) (kind : Kind R) (offers : (s : S) → Offered g s) where
  -- a proper part of a command that is allowed
  record Part (s : S) (part : List ℕ) : Type 0 where
    tag : ℕ
    operands : List ℕ
    allowed : g.takes s tag ≡ Some (length operands)
    missing_bytes : List ℕ
    command : part ++ missing_bytes ≡ tag ∷ operands
    proper : 1 ≤ length missing_bytes

  -- where the reading ends as cut, such a part stands
  part_there : {s : S} {table : List R} {end p : ℕ} {bytes : List ℕ} → Step g (append_refusal kind) s table end bytes (stops (refused (cut_at p))) → (p ≡ end) × Part s bytes
  part_there {s} {bytes = bytes} (missing e) =
      let o = offers s in
      let zeros : List ℕ = replicate o.width 0 in
      (refl, record { tag = o.tag; operands = zeros; allowed = o.allowed ∙ ap (λ (n : ℕ). Some n) (sym (length-replicate {A = ℕ} o.width 0)); missing_bytes = o.tag ∷ zeros; command = ap (λ (xs : List ℕ). xs ++ o.tag ∷ zeros) e; proper = omega arith })
  part_there {s} {bytes = bytes} (cut {tag = tag} {width = width} {rest = rest} e a l) =
      let zeros : List ℕ = replicate (width - length rest) 0 in
      let n : width ≡ length (rest ++ zeros) = omega (arith, length-append rest zeros, length-replicate {A = ℕ} (width - length rest) 0) in
      (refl, record { tag = tag; operands = rest ++ zeros; allowed = a ∙ ap (λ (m : ℕ). Some m) n; missing_bytes = zeros; command = ap (λ (xs : List ℕ). xs ++ zeros) e; proper = omega (arith, length-replicate {A = ℕ} (width - length rest) 0) })

  -- and where such a part stands, the reading ends as cut
  ends_there : (s : S) (table : List R) (place : ℕ) (part : List ℕ) (tag : ℕ) (operands xs : List ℕ) → g.takes s tag ≡ Some (length operands) → part ++ xs ≡ tag ∷ operands → 1 ≤ length xs → Step g (append_refusal kind) s table place part (stops (refused (cut_at place)))
  ends_there s table place [] tag operands xs a e l = missing refl
  ends_there s table place (x ∷ part) tag operands xs a e l =
      let same : x ≡ tag = cc in
      let rest : part ++ xs ≡ operands = cc in
      cut {tag = tag} {width = length operands} {rest = part} (ap (λ (y : ℕ). y ∷ part) same) a (omega (arith, ap length rest, length-append part xs))

  cut_from : {s : S} {table : List R} {place p : ℕ} {bytes : List ℕ} → Parses g (append_refusal kind) s table place bytes (refused (cut_at p)) → (n : ℕ) × (p ≡ place + n) × Cut g kind s table bytes n
  cut_from r =
      let x = reached g kind r in
      let (at_end, c) = part_there x.stopped in
      (length x.whole, at_end ∙ x.at_end, record { whole = x.whole; part = x.part; stands = x.stands; at_part = refl; state = x.state; rows = x.rows; commands = x.commands; tag = c.tag; operands = c.operands; allowed = c.allowed; missing = c.missing_bytes; command = c.command; proper = c.proper })

  module _ (mark : ℕ) (letters : ℕ → Bool) where
    to_cut : {bytes : List ℕ} {place : ℕ} → Sheet g (append_refusal kind) mark letters bytes (bad (cut_at place)) → CutSheet g kind mark letters bytes place
    to_cut (no_kind e) = before_kind e refl
    to_cut (no_letter e) = before_letter e refl
    to_cut (body_refused e n r) = let (p, at_p, c) = cut_from r in in_commands e n c at_p

    from_cut : {bytes : List ℕ} {place : ℕ} → CutSheet g kind mark letters bytes place → Sheet g (append_refusal kind) mark letters bytes (bad (cut_at place))
    from_cut {bytes} {place} (before_kind e f) = subst (λ (p : ℕ). Sheet g (append_refusal kind) mark letters bytes (bad (cut_at p))) (sym f) (no_kind e)
    from_cut {bytes} {place} (before_letter e f) = subst (λ (p : ℕ). Sheet g (append_refusal kind) mark letters bytes (bad (cut_at p))) (sym f) (no_letter e)
    from_cut {bytes} {place} (in_commands {rest = rest} e n c f) =
        let there = ends_there c.state c.rows place c.part c.tag c.operands c.missing c.allowed c.command c.proper in
        body_refused e n
        (subst (λ (xs : List ℕ). Parses g (append_refusal kind) g.start [] 2 xs (refused (cut_at place))) (sym c.stands)
        (reads g kind 2 place c.part c.commands (omega (arith, c.at_part)) there))

  pub cut_is_cut : CutIsCut g kind
  cut_is_cut mark letters bytes place = (to_cut mark letters, from_cut mark letters)

pub segmented_cut : CutIsCut segmented_grammar segmented_kind
segmented_cut = cut_is_cut segmented_grammar segmented_kind (λ d. offered d d.stage refl)
  where
    offered : (d : SegmentedDraft) (stage : Stage) → d.stage ≡ stage → Offered segmented_grammar d
    offered d BetweenTasks e = record { tag = end_byte; width = 0; allowed = ap (λ (s : Stage). segmented_takes s end_byte) e }
    offered d BeforeSegment e = record { tag = segment_byte; width = 4; allowed = ap (λ (s : Stage). segmented_takes s segment_byte) e }
    offered d AfterSegment e = record { tag = task_end_byte; width = 0; allowed = ap (λ (s : Stage). segmented_takes s task_end_byte) e }

pub whole_cut : CutIsCut whole_grammar whole_kind
whole_cut = cut_is_cut whole_grammar whole_kind (λ d. record { tag = end_byte; width = 0; allowed = refl })
