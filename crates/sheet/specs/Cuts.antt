-- Sheets that end too early: whole commands, and then a proper part of one. Assumes nothing.
use Rattle.std.specs.Prelude.{◌≡◌, ℕ, ◌+◌, ◌≤◌, Bool, true, ◌↔◌, List, [], ◌∷◌, ◌++◌, length, Some, None}
use Rattle.model.specs.Rows.{Kind}
use Rattle.table.specs.Faults.{cut_at}
use Rattle.table.specs.Tables.{append_refusal}
use Rattle.sheet.specs.declared.command.Effect.TheVariants.{Continues, Completes}
use Rattle.sheet.specs.Language.{Grammar}
use Rattle.sheet.specs.Sheets.{Sheet, bad}

module _ {S R : Type 0} (g : Grammar S R) (kind : Kind R) where
  -- whole commands, each allowed where it stands, from one state and table to another; a row that is completed is fit for the table's end
  pub data Commands : S → List R → List ℕ → S → List R → Type 0 where
    no_command : {s : S} {table : List R} → Commands s table [] s table
    continuing : {s t : S} {table all : List R} {tag : ℕ} {operands rest : List ℕ} → g.takes s tag ≡ Some (length operands) → g.effect s tag operands ≡ Continues → Commands (g.next s tag operands) table rest t all → Commands s table (tag ∷ (operands ++ rest)) t all
    completing : {s t : S} {table all : List R} {tag : ℕ} {operands rest : List ℕ} {row : R} → g.takes s tag ≡ Some (length operands) → g.effect s tag operands ≡ Completes row → append_refusal kind table row ≡ None → Commands (g.next s tag operands) (table ++ row ∷ []) rest t all → Commands s table (tag ∷ (operands ++ rest)) t all

  -- up to a place stand whole commands, and from there on a proper, possibly empty, part of a command that is allowed
  pub record Cut (s : S) (table : List R) (bytes : List ℕ) (place : ℕ) : Type 0 where
    pub whole : List ℕ
    pub part : List ℕ
    pub stands : bytes ≡ whole ++ part
    pub at_part : place ≡ length whole
    pub state : S
    pub rows : List R
    pub commands : Commands s table whole state rows
    pub tag : ℕ
    pub operands : List ℕ
    pub allowed : g.takes state tag ≡ Some (length operands)
    pub missing : List ℕ
    pub command : part ++ missing ≡ tag ∷ operands
    pub proper : 1 ≤ length missing

  -- the same of a sheet; its kind and its letter are commands of one byte
  pub data CutSheet (mark : ℕ) (letters : ℕ → Bool) (bytes : List ℕ) (place : ℕ) : Type 0 where
    before_kind : bytes ≡ [] → place ≡ 0 → CutSheet mark letters bytes place
    before_letter : bytes ≡ mark ∷ [] → place ≡ 1 → CutSheet mark letters bytes place
    in_commands : {letter p : ℕ} {rest : List ℕ} → bytes ≡ mark ∷ letter ∷ rest → letters letter ≡ true → Cut g.start [] rest p → place ≡ 2 + p → CutSheet mark letters bytes place

-- the sheets that are refused as cut at a place are exactly these
abbrev pub CutIsCut : {S R : Type 0} → Grammar S R → Kind R → Type 0
CutIsCut g kind =
    (mark : ℕ) (letters : ℕ → Bool) (bytes : List ℕ) (place : ℕ) → (Sheet g (append_refusal kind) mark letters bytes (bad (cut_at place)) ↔ CutSheet g kind mark letters bytes place)
