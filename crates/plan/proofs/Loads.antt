-- What reading a sheet into memory returns, as load has it. Assumes nothing.
use Rattle.std.proofs.Common.{◌≡◌, ℕ, ◌<◌, ◌≤◌, Bool, List, [], length, Ok, Err, sym, refl, ap, subst, inl, arith}
use Rattle.std.proofs.lemmas.Bool.{lt-ltb}
use Rattle.model.specs.Rows.{Kind}
use Rattle.table.specs.declared.fault.Fault.{Fault}
use Rattle.table.specs.declared.fault.Fault.TheVariants.{InSheet}
use Rattle.table.specs.declared.refusal.Refusal.TheVariants.{ShortMemory}
use Rattle.table.specs.Tables.{append_refusal, written}
use Rattle.sheet.specs.Language.{Grammar}
use Rattle.sheet.specs.Sheets.{Verdict, good, bad, Sheet, rows_of, answer_of, Replaces}
use Rattle.sheet.proofs.Sheets.{one_verdict}
use Rattle.plan.specs.declared.stage.Open.{Open}
use Rattle.plan.specs.States.{State, opened, letter, refused}
use Rattle.plan.specs.Calls.{Load, loaded, sheet_refused, not_loaded}
use Rattle.plan.specs.Returns.{Loads}
use Rattle.plan.proofs.Memories.{not_short}
use Rattle.plan.proofs.Readings.{sheet_few}

module _ {S R : Type 0} (kind : Kind R) {g : Grammar S R} {mark : ℕ} {letters : ℕ → Bool} {bytes : List ℕ} {rows : List R} where
  pub load_short : {plan : Open} → length rows < 32 → Loads kind g mark letters bytes plan rows (refused (InSheet ShortMemory 0)) plan rows
  load_short l =
      let one = one_verdict S R g (append_refusal kind) mark letters bytes in
      record { verdict = one.verdict; sheet = one.sheet; loads = λ order bounds. not_loaded (inl (lt-ltb (length rows) 32 l, refl)) }

  module _ {after : List R} (room : 32 ≤ length rows) where
    -- the table and the letter of an accepted sheet
    accepted : {tasks byte : ℕ} → Replaces g (append_refusal kind) mark letters kind.blank bytes rows after (Ok (tasks, byte)) → (table : List R) × Sheet g (append_refusal kind) mark letters bytes (good table byte) × (tasks ≡ length table) × (after ≡ written kind.blank table rows)
    accepted {tasks} {byte} r = let d = r.long room in go d.verdict d.sheet d.answered d.memory
      where
        go : (v : Verdict R) → Sheet g (append_refusal kind) mark letters bytes v → Ok (tasks, byte) ≡ answer_of v → after ≡ written kind.blank (rows_of v) rows → (table : List R) × Sheet g (append_refusal kind) mark letters bytes (good table byte) × (tasks ≡ length table) × (after ≡ written kind.blank table rows)
        go (good table other) s e m =
            let both : ◌≡◌ {A = ℕ × ℕ} (tasks, byte) (length table, other) = cc in
            let same : other ≡ byte = sym (ap (λ (x : ℕ × ℕ). x.1) both) in
            (table, subst (λ (b : ℕ). Sheet g (append_refusal kind) mark letters bytes (good table b)) same s, ap (λ (x : ℕ × ℕ). x.0) both, m)
        go (bad f) s e m = let z : ◌≡◌ {A = ℕ} 0 1 = cc in absurd (omega arith)

    pub load_few : {tasks byte : ℕ} → Replaces g (append_refusal kind) mark letters kind.blank bytes rows after (Ok (tasks, byte)) → tasks ≤ 32
    load_few r = let (table, s, e, m) = accepted r in omega (arith, sheet_few kind g s)

    pub load_accepted : {tasks byte : ℕ} {plan plan' : Open} → plan'.tasks ≡ tasks → Replaces g (append_refusal kind) mark letters kind.blank bytes rows after (Ok (tasks, byte)) → Loads kind g mark letters bytes plan rows (letter byte) plan' after
    load_accepted {tasks} {byte} {plan} {plan'} e r = let (table, s, size, m) = accepted r in made table s size m
      where
        made : (table : List R) → Sheet g (append_refusal kind) mark letters bytes (good table byte) → tasks ≡ length table → after ≡ written kind.blank table rows → Loads kind g mark letters bytes plan rows (letter byte) plan' after
        made table s size m = record {
          verdict = good table byte;
          sheet = s;
          loads = λ order bounds.
              let there : opened (length table) (written kind.blank table rows) order bounds ≡ opened plan'.tasks after order bounds = rw (e, size, m) refl in
              subst (λ (t : State R). Load kind (good table byte) (opened plan.tasks rows order bounds) (letter byte) t) there (loaded (not_short rows room, tt));
        }

    pub load_refused : {f : Fault} {plan plan' : Open} → plan'.tasks ≡ 0 → Replaces g (append_refusal kind) mark letters kind.blank bytes rows after (Err f) → Loads kind g mark letters bytes plan rows (refused f) plan' after
    load_refused {f} {plan} {plan'} e r = let d = r.long room in go d.verdict d.sheet d.answered d.memory
      where
        go : (v : Verdict R) → Sheet g (append_refusal kind) mark letters bytes v → Err f ≡ answer_of v → after ≡ written kind.blank (rows_of v) rows → Loads kind g mark letters bytes plan rows (refused f) plan' after
        go (good table byte) s h m = let z : ◌≡◌ {A = ℕ} 0 1 = cc in absurd (omega arith)
        go (bad other) s h m =
            let same : other ≡ f = cc in
            record {
              verdict = bad other;
              sheet = s;
              loads = λ order bounds.
                  let there : opened 0 (written kind.blank [] rows) order bounds ≡ opened plan'.tasks after order bounds = rw (e, m) refl in
                  subst (λ (t : State R). Load kind (bad other) (opened plan.tasks rows order bounds) (refused f) t) there
                  (subst (λ (k : Fault). Load kind (bad other) (opened plan.tasks rows order bounds) (refused k) (opened 0 (written kind.blank [] rows) order bounds)) same (sheet_refused (not_short rows room, tt)));
            }
