-- Rows after a table, each fit for its place, are the rows of a lawful table. Assumes nothing.
use Rattle.std.proofs.Common.{◌≡◌, ℕ, ◌<◌, ◌≤◌, Bool, true, false, cond, leb, List, [], ◌∷◌, ◌++◌, length, get_or, Some, None, Option, sym, refl, ap, ◌∙◌, subst, arith}
use Rattle.std.proofs.lemmas.List.{append_assoc, append-nil, length-append, length_push, get_or_at, get_or_append_left}
use Rattle.std.proofs.lemmas.Bool.{leb-false, lt-leb}
use Rattle.model.specs.Rows.{Kind}
use Rattle.table.specs.declared.refusal.Refusal.{Refusal}
use Rattle.table.specs.declared.refusal.Refusal.TheVariants.{TableFull, RowUnlawful, IdTaken}
use Rattle.table.specs.Tables.{append_refusal, has_id, LawfulTable}
use Rattle.table.proofs.Judges.{lawful_none, lawful_push}
use Rattle.table.proofs.Ids.{none_at}
use Rattle.sheet.specs.Bytes.{end_byte}
use Rattle.sheet.specs.Language.{Grammar, Parses, stop, move, goes, enters, ends, accepted}
use Rattle.sheet.specs.Sheets.{Sheet, good, body, GoodIsLawful}
use Rattle.sheet.specs.Spelling.{Spelled, no_rows, row_first}

-- Rows after a table, each fit for its place, and the closing command.
pub data Follows {R : Type 0} (Task : R → List ℕ → Type 0) (judge : List R → R → Option Refusal) : List R → List R → List ℕ → Type 0 where
  end : {table : List R} → Follows Task judge table table (end_byte ∷ [])
  row : {table all : List R} {one : R} {bytes rest : List ℕ} → Task one bytes → judge table one ≡ None → Follows Task judge (table ++ one ∷ []) all rest → Follows Task judge table all (bytes ++ rest)

-- what a row that is not barred says
pub record Fit {R : Type 0} (kind : Kind R) (table : List R) (one : R) : Type 0 where
  pub room : length table < 32
  pub lawful : kind.lawful one ≡ true
  pub fresh : has_id kind (kind.ident one) table ≡ false

module _ {R : Type 0} (kind : Kind R) (table : List R) (one : R) where
  pub fit : append_refusal kind table one ≡ None → Fit kind table one
  fit e = on (leb 32 (length table)) (kind.lawful one) (has_id kind (kind.ident one) table) refl refl refl e
    where
      on : (a b c : Bool) → leb 32 (length table) ≡ a → kind.lawful one ≡ b → has_id kind (kind.ident one) table ≡ c → ◌≡◌ {A = Option Refusal} (cond a (Some TableFull) (cond b (cond c (Some IdTaken) None) (Some RowUnlawful))) None → Fit kind table one
      on true b c p q r f = cc
      on false true true p q r f = cc
      on false true false p q r f = record { room = leb-false 32 (length table) p; lawful = q; fresh = r }
      on false false c p q r f = cc

  pub not_barred : Fit kind table one → append_refusal kind table one ≡ None
  not_barred f = let l : leb 32 (length table) ≡ false = lt-leb 32 (length table) f.room in rw (l, f.lawful, f.fresh) refl

module _ {R : Type 0} (kind : Kind R) where
  here : (before : List R) (one : R) (rest : List R) → get_or (before ++ one ∷ rest) (length before) kind.blank ≡ one
  here before one rest = get_or_at before one rest kind.blank (length before) refl

  -- a row of a lawful table after those before it
  fresh_in : (before : List R) (one : R) (rest : List R) → LawfulTable kind (before ++ one ∷ rest) → has_id kind (kind.ident one) before ≡ false
  fresh_in before one rest t =
      none_at kind (kind.ident one) before kind.blank
      (λ i l e. t.ids i (length before) l (omega (arith, length-append before (one ∷ rest))) (ap kind.ident (get_or_append_left before (one ∷ rest) kind.blank i l) ∙ (e ∙ sym (ap kind.ident (here before one rest)))))

  pub fit_in : (before : List R) (one : R) (rest : List R) → LawfulTable kind (before ++ one ∷ rest) → length (before ++ one ∷ rest) ≤ 32 → Fit kind before one
  fit_in before one rest t n =
      record {
        room = omega (arith, length-append before (one ∷ rest));
        lawful = ap kind.lawful (sym (here before one rest)) ∙ t.rows (length before) (omega (arith, length-append before (one ∷ rest)));
        fresh = fresh_in before one rest t;
      }

module _ {R : Type 0} (Task : R → List ℕ → Type 0) (kind : Kind R) where
  pub record Rows (table all : List R) (bytes : List ℕ) : Type 0 where
    pub rows : List R
    pub tasks : List ℕ
    pub is : all ≡ table ++ rows
    pub stands : bytes ≡ tasks ++ end_byte ∷ []
    pub spelled : Spelled Task rows tasks
    pub few : length all ≤ 32
    pub lawful : LawfulTable kind all

  pub rows_from : {table all : List R} {bytes : List ℕ} → Follows Task (append_refusal kind) table all bytes → length table ≤ 32 → LawfulTable kind table → Rows table all bytes
  rows_from {table} end n t = record { rows = []; tasks = []; is = sym (append-nil table); stands = refl; spelled = no_rows; few = n; lawful = t }
  rows_from {table} {all} (row {one = one} {bytes = bytes} {rest = rest} f e m) n t =
      let k = fit kind table one e in
      let w = rows_from m (omega (arith, length_push table one, k.room)) (lawful_push kind table one t k.lawful k.fresh) in
      record {
        rows = one ∷ w.rows;
        tasks = bytes ++ w.tasks;
        is = w.is ∙ append_assoc table (one ∷ []) w.rows;
        stands = ap (λ (xs : List ℕ). bytes ++ xs) w.stands ∙ sym (append_assoc bytes w.tasks (end_byte ∷ []));
        spelled = row_first f w.spelled;
        few = w.few;
        lawful = w.lawful;
      }

  pub follows_from : {rows : List R} {tasks : List ℕ} (table : List R) → Spelled Task rows tasks → length (table ++ rows) ≤ 32 → LawfulTable kind (table ++ rows) → Follows Task (append_refusal kind) table (table ++ rows) (tasks ++ end_byte ∷ [])
  follows_from table no_rows n t = subst (λ (xs : List R). Follows Task (append_refusal kind) table xs (end_byte ∷ [])) (sym (append-nil table)) end
  follows_from table (row_first {row = one} {rows = rows} {bytes = bytes} {rest = rest} f m) n t =
      let e : table ++ one ∷ [] ++ rows ≡ table ++ one ∷ rows = append_assoc table (one ∷ []) rows in
      let k : append_refusal kind table one ≡ None = not_barred kind table one (fit_in kind table one rows t n) in
      let later = follows_from (table ++ one ∷ []) m (rw e n) (rw e t) in
      rw append_assoc (row f k (rw e at later))

-- the same for any grammar: the rows of an accepted sheet
module _ {S R : Type 0} (g : Grammar S R) (kind : Kind R) where
  rows_lawful : {s : S} {table all : List R} {place : ℕ} {bytes : List ℕ} → Parses g (append_refusal kind) s table place bytes (accepted all) → length table ≤ 32 → LawfulTable kind table → (length all ≤ 32) × LawfulTable kind all
  rows_lawful (stop (ends c e)) n t = (n, t)
  rows_lawful (move (goes c e) r) n t = rows_lawful r n t
  rows_lawful {table = table} (move (enters {row = one} c e f) r) n t =
      let k = fit kind table one f in
      rows_lawful r (omega (arith, length_push table one, k.room)) (lawful_push kind table one t k.lawful k.fresh)

  pub sheet_lawful : {mark : ℕ} {letters : ℕ → Bool} {bytes : List ℕ} {table : List R} {letter : ℕ} → Sheet g (append_refusal kind) mark letters bytes (good table letter) → (length table ≤ 32) × LawfulTable kind table
  sheet_lawful (body e n r) = rows_lawful r (omega arith) (lawful_none kind)

pub good_is_lawful : (S R : Type 0) (kind : Kind R) → GoodIsLawful S R kind
good_is_lawful S R kind g mark letters bytes table letter d = sheet_lawful g kind d
