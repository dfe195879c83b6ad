-- What a load leaves. Assumes nothing.
use Rattle.std.proofs.Common.{◌≡◌, ℕ, ◌-◌, ◌≤◌, Bool, List, [], ◌++◌, length, take, drop, replicate, refl, ap, ◌∙◌, append_assoc}
use Rattle.std.proofs.lemmas.List.{take_at}
use Rattle.model.specs.Rows.{Kind}
use Rattle.table.specs.declared.fault.Fault.{Fault}
use Rattle.table.specs.Tables.{LawfulTable, append_refusal, written}
use Rattle.sheet.specs.Language.{Grammar}
use Rattle.sheet.specs.Sheets.{Verdict, good, bad, Sheet}
use Rattle.sheet.proofs.Follows.{sheet_lawful}
use Rattle.plan.specs.declared.stage.Open.{Open}
use Rattle.plan.specs.States.{opened, letter, refused}
use Rattle.plan.specs.Calls.{Load, loaded, sheet_refused, not_loaded, load_checks}
use Rattle.plan.specs.Returns.{Loads}
use Rattle.plan.proofs.Checks.{not_met}
use Rattle.plan.proofs.Memories.{not_short}

module _ {S R : Type 0} {kind : Kind R} {g : Grammar S R} {mark : ℕ} {letters : ℕ → Bool} {bytes : List ℕ} {rows : List R} where
  accepted : {n n' byte : ℕ} {rows' : List R} {order order' bounds bounds' : List ℕ} {v : Verdict R} → Sheet g (append_refusal kind) mark letters bytes v
      → Load kind v (opened n rows order bounds) (letter byte) (opened n' rows' order' bounds')
      → Sheet g (append_refusal kind) mark letters bytes (good (take n' rows') byte) × LawfulTable kind (take n' rows')
  accepted s (loaded {table = table} p) =
      let first : take (length table) (written kind.blank table rows) ≡ table =
      ap (take (length table)) (append_assoc table (replicate (32 - length table) kind.blank) (drop 32 rows)) ∙ take_at table (replicate (32 - length table) kind.blank ++ drop 32 rows) (length table) refl in
      rw first (s, (sheet_lawful g kind s).1)

  refused_with : {n n' : ℕ} {rows' : List R} {order order' bounds bounds' : List ℕ} {v : Verdict R} {fault : Fault} → 32 ≤ length rows → Sheet g (append_refusal kind) mark letters bytes v
      → Load kind v (opened n rows order bounds) (refused fault) (opened n' rows' order' bounds') → Sheet g (append_refusal kind) mark letters bytes (bad fault)
  refused_with long s (sheet_refused p) = s
  refused_with {fault = fault} long s (not_loaded m) = absurd (not_met (load_checks kind rows) fault (not_short rows long, tt) m)

  module _ {plan plan' : Open} {rows' : List R} where
    -- a sheet that is not refused is accepted, with the rows that the plan has then, and their table is lawful
    pub load_accepted : {byte : ℕ} → Loads kind g mark letters bytes plan rows (letter byte) plan' rows'
        → Sheet g (append_refusal kind) mark letters bytes (good (take plan'.tasks rows') byte) × LawfulTable kind (take plan'.tasks rows')
    load_accepted l = accepted l.sheet (l.loads [] [])

    -- in memory that is not short the sheet is refused with the load
    pub load_refused : {fault : Fault} → 32 ≤ length rows → Loads kind g mark letters bytes plan rows (refused fault) plan' rows' → Sheet g (append_refusal kind) mark letters bytes (bad fault)
    load_refused long l = refused_with long l.sheet (l.loads [] [])
