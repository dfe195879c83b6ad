-- Whole commands, and then the one that ends the reading. Assumes nothing.
use Rattle.std.proofs.Common.{◌≡◌, ℕ, ◌+◌, List, [], ◌∷◌, ◌++◌, length, sym, refl, ap, ◌∙◌, subst, arith}
use Rattle.std.proofs.lemmas.List.{append_assoc, length-append}
use Rattle.model.specs.Rows.{Kind}
use Rattle.table.specs.Tables.{append_refusal}
use Rattle.sheet.specs.Language.{Grammar, Outcome, stops, Parses, stop, move, Step, goes, enters}
use Rattle.sheet.specs.Cuts.{Commands, no_command, continuing, completing}

module _ {S R : Type 0} (g : Grammar S R) (kind : Kind R) where
  pub record Reached (s : S) (table : List R) (place : ℕ) (bytes : List ℕ) (o : Outcome R) : Type 0 where
    pub whole : List ℕ
    pub part : List ℕ
    pub stands : bytes ≡ whole ++ part
    pub state : S
    pub rows : List R
    pub commands : Commands g kind s table whole state rows
    pub end : ℕ
    pub at_end : end ≡ place + length whole
    pub stopped : Step g (append_refusal kind) state rows end part (stops o)

  -- a command before those
  after : {s t : S} {table more : List R} {place : ℕ} {rest : List ℕ} {o : Outcome R} (bytes : List ℕ) (tag : ℕ) (operands : List ℕ) → ((whole : List ℕ) (u : S) (all : List R) → Commands g kind t more whole u all → Commands g kind s table (tag ∷ (operands ++ whole)) u all) → bytes ≡ tag ∷ (operands ++ rest) → Reached t more (place + 1 + length operands) rest o → Reached s table place bytes o
  after bytes tag operands first e r =
      record {
        whole = tag ∷ (operands ++ r.whole);
        part = r.part;
        stands = e ∙ ap (λ (xs : List ℕ). tag ∷ xs) (ap (λ (xs : List ℕ). operands ++ xs) r.stands ∙ sym (append_assoc operands r.whole r.part));
        state = r.state;
        rows = r.rows;
        commands = first r.whole r.state r.rows r.commands;
        end = r.end;
        at_end = omega (arith, r.at_end, length-append operands r.whole);
        stopped = r.stopped;
      }

  pub reached : {s : S} {table : List R} {place : ℕ} {bytes : List ℕ} {o : Outcome R} → Parses g (append_refusal kind) s table place bytes o → Reached s table place bytes o
  reached {s} {table} {place} {bytes} (stop d) =
      record { whole = []; part = bytes; stands = refl; state = s; rows = table; commands = no_command; end = place; at_end = omega arith; stopped = d }
  reached {s} {table} {place} {bytes} (move (goes {tag = tag} {operands = operands} c e) r) =
      after bytes tag operands (λ whole u all d. continuing c.allowed e d) c.stand (reached r)
  reached {s} {table} {place} {bytes} (move (enters {tag = tag} {operands = operands} c e f) r) =
      after bytes tag operands (λ whole u all d. completing c.allowed e f d) c.stand (reached r)

  pub reads : {s t : S} {table all : List R} {whole : List ℕ} {o : Outcome R} (place end : ℕ) (part : List ℕ) → Commands g kind s table whole t all → end ≡ place + length whole → Step g (append_refusal kind) t all end part (stops o) → Parses g (append_refusal kind) s table place (whole ++ part) o
  reads {s} {t} {table} {all} {whole} {o} place end part no_command e d =
      let z : end ≡ place = omega arith in
      stop (subst (λ (p : ℕ). Step g (append_refusal kind) s table p part (stops o)) z d)
  reads place end part (continuing {tag = tag} {operands = operands} {rest = rest} a f c) e d =
      move (goes {tag = tag} {operands = operands} {rest = rest ++ part} (record { stand = ap (λ (xs : List ℕ). tag ∷ xs) (append_assoc operands rest part); allowed = a }) f)
      (reads (place + 1 + length operands) end part c (omega (arith, length-append operands rest)) d)
  reads place end part (completing {tag = tag} {operands = operands} {rest = rest} a f h c) e d =
      move (enters {tag = tag} {operands = operands} {rest = rest ++ part} (record { stand = ap (λ (xs : List ℕ). tag ∷ xs) (append_assoc operands rest part); allowed = a }) f h)
      (reads (place + 1 + length operands) end part c (omega (arith, length-append operands rest)) d)
