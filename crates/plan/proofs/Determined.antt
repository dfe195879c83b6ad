-- Each call on its stage has exactly one answer and one state after. Assumes nothing.
use Rattle.std.proofs.Common.{◌≡◌, ℕ, ◌+◌, ◌-◌, Bool, ◌⊎◌, List, [], ◌∷◌, ◌++◌, length, get_or, take, drop, set, refl, ap, ◌∙◌, inl, inr}
use Rattle.model.specs.Rows.{Kind}
use Rattle.feasibility.specs.Tests.{Answers}
use Rattle.feasibility.specs.Masks.{row_of, mask_of}
use Rattle.table.specs.declared.fault.Fault.{Fault}
use Rattle.table.specs.declared.fault.Fault.TheVariants.{Assignment}
use Rattle.table.specs.Tables.{written, replaced, removed}
use Rattle.sheet.specs.Sheets.{Verdict, good, bad, rows_of}
use Rattle.assign.specs.Assignment.{Outcome, accepted, stuck}
use Rattle.assign.specs.Laws.{Arranges, all_places}
use Rattle.assign.proofs.Outcomes.{outcome, unique}
use Rattle.plan.specs.States.{State, opened, arranged, Answer, done, letter, told, refused, refused_beside}
use Rattle.plan.specs.Calls.{Passed, Met, enter_checks, amend_checks, withdraw_checks, load_checks, arrange_checks, read_checks, Enter, entered, not_entered, Amend, amended, not_amended, Withdraw, withdrawn, not_withdrawn, Load, loaded, sheet_refused, not_loaded, Arrange, given, none_fits, not_arranged, Reopen, reopened, Read, read_at, not_read}
use Rattle.plan.specs.Laws.{ExactlyOne, CallsDetermined}
use Rattle.plan.proofs.Checks.{checked, met_same, not_met}

-- A call that passes its checks with one answer and one state, or is refused and leaves its state.
module _ {R : Type 0} (cs : List (Bool × Fault)) (refusal : Fault → Answer) (s : State R) (a : Answer) (t : State R) where
  -- how it came to an answer and a state
  abbrev pub Came : Answer → State R → Type 0
  Came b u = (Passed cs × (b ≡ a) × (u ≡ t)) ⊎ ((f : Fault) × Met cs f × (b ≡ refusal f) × (u ≡ s))

  pub one : (Q : Answer → State R → Type 0) → (Passed cs → Q a t) → ((f : Fault) → Met cs f → Q (refusal f) s) → ((b : Answer) (u : State R) → Q b u → Came b u) → ExactlyOne Q
  one Q goes refuses came = go (checked cs)
    where
      passed_only : Passed cs → {b : Answer} {u : State R} → Came b u → (b ≡ a) × (u ≡ t)
      passed_only p (inl (q, e, h)) = (e, h)
      passed_only p (inr (f, m, e, h)) = absurd (not_met cs f p m)

      met_only : (f : Fault) → Met cs f → {b : Answer} {u : State R} → Came b u → (b ≡ refusal f) × (u ≡ s)
      met_only f m (inl (q, e, h)) = absurd (not_met cs f q m)
      met_only f m (inr (g, k, e, h)) = (e ∙ ap refusal (met_same cs m k), h)

      go : Passed cs ⊎ ((f : Fault) × Met cs f) → ExactlyOne Q
      go (inl p) = (a, t, goes p, λ b u q. passed_only p (came b u q))
      go (inr (f, m)) = (refusal f, s, refuses f m, λ b u q. met_only f m (came b u q))

module _ {R : Type 0} (kind : Kind R) (n questions : ℕ) (rows : List R) (order bounds : List ℕ) where
  abbrev Open : State R
  Open = opened n rows order bounds

  abbrev Ready : State R
  Ready = arranged n questions rows order bounds

  one_enter : (x : R) → ExactlyOne (Enter kind x Open)
  one_enter x = one cs refused Open done after (Enter kind x Open) (λ p. entered p) (λ f m. not_entered m) (λ b u q. came q)
    where
      cs : List (Bool × Fault)
      cs = enter_checks kind n rows x

      after : State R
      after = opened (n + 1) (set rows n x) order bounds

      came : {b : Answer} {u : State R} → Enter kind x Open b u → Came cs refused Open done after b u
      came (entered p) = inl (p, refl, refl)
      came (not_entered {f = f} m) = inr (f, m, refl, refl)

  one_amend : (x : R) → ExactlyOne (Amend kind x Open)
  one_amend x = one cs refused Open done after (Amend kind x Open) (λ p. amended p) (λ f m. not_amended m) (λ b u q. came q)
    where
      cs : List (Bool × Fault)
      cs = amend_checks kind n rows x

      after : State R
      after = opened n (replaced kind x (take n rows) ++ drop n rows) order bounds

      came : {b : Answer} {u : State R} → Amend kind x Open b u → Came cs refused Open done after b u
      came (amended p) = inl (p, refl, refl)
      came (not_amended {f = f} m) = inr (f, m, refl, refl)

  one_withdraw : (id : ℕ) → ExactlyOne (Withdraw kind id Open)
  one_withdraw id = one cs refused Open done after (Withdraw kind id Open) (λ p. withdrawn p) (λ f m. not_withdrawn m) (λ b u q. came q)
    where
      cs : List (Bool × Fault)
      cs = withdraw_checks kind n rows id

      after : State R
      after = opened (n - 1) (removed kind id (take n rows) ++ kind.blank ∷ drop n rows) order bounds

      came : {b : Answer} {u : State R} → Withdraw kind id Open b u → Came cs refused Open done after b u
      came (withdrawn p) = inl (p, refl, refl)
      came (not_withdrawn {f = f} m) = inr (f, m, refl, refl)

  -- what the verdict on a sheet is answered with, and leaves
  abbrev said : Verdict R → Answer
  said (good table byte) = letter byte
  said (bad f) = refused f

  abbrev left_by : Verdict R → State R
  left_by v = opened (length (rows_of v)) (written kind.blank (rows_of v) rows) order bounds

  one_load : (v : Verdict R) → ExactlyOne (Load kind v Open)
  one_load v = one cs refused Open (said v) (left_by v) (Load kind v Open) (goes v) (λ f m. not_loaded m) (λ b u q. came q)
    where
      cs : List (Bool × Fault)
      cs = load_checks kind rows

      goes : (w : Verdict R) → Passed cs → Load kind w Open (said w) (left_by w)
      goes (good table byte) p = loaded p
      goes (bad f) p = sheet_refused p

      came : {w : Verdict R} {b : Answer} {u : State R} → Load kind w Open b u → Came cs refused Open (said w) (left_by w) b u
      came (loaded p) = inl (p, refl, refl)
      came (sheet_refused p) = inl (p, refl, refl)
      came (not_loaded {f = f} m) = inr (f, m, refl, refl)

  -- what an outcome of the assignment is answered with, and leaves
  abbrev answered_by : Outcome → Answer
  answered_by (accepted chosen answered q) = done
  answered_by (stuck left q) = refused_beside (Assignment (length left)) (mask_of left) q

  abbrev after_outcome : Outcome → State R
  after_outcome (accepted chosen answered q) = arranged n q rows (written 0 chosen order) (written 0 answered bounds)
  after_outcome (stuck left q) = opened n rows (written 0 [] order) (written 0 [] bounds)

  one_arrange : (test : Answers R) → ExactlyOne (Arrange kind test Open)
  one_arrange test = let r = outcome test.answer (row_of kind (take n rows)) (length (all_places (take n rows))) (all_places (take n rows)) refl in on r.0 r.1
    where
      cs : List (Bool × Fault)
      cs = arrange_checks kind n rows order bounds

      unarranged : Fault → Answer
      unarranged f = refused_beside f 0 0

      goes : (o : Outcome) → Arranges kind test (take n rows) o → Passed cs → Arrange kind test Open (answered_by o) (after_outcome o)
      goes (accepted chosen answered q) d p = given p d
      goes (stuck left q) d p = none_fits p d

      came : (o : Outcome) → Arranges kind test (take n rows) o → {b : Answer} {u : State R} → Arrange kind test Open b u → Came cs unarranged Open (answered_by o) (after_outcome o) b u
      came o d (given p e) = let same = unique test.answer (row_of kind (take n rows)) d e in inl (p, ap answered_by same, ap after_outcome same)
      came o d (none_fits p e) = let same = unique test.answer (row_of kind (take n rows)) d e in inl (p, ap answered_by same, ap after_outcome same)
      came o d (not_arranged {f = f} m) = inr (f, m, refl, refl)

      on : (o : Outcome) → Arranges kind test (take n rows) o → ExactlyOne (Arrange kind test Open)
      on o d = one cs unarranged Open (answered_by o) (after_outcome o) (Arrange kind test Open) (goes o d) (λ f m. not_arranged m) (λ b u q. came o d q)

  one_reopen : ExactlyOne (Reopen kind Ready)
  one_reopen = (done, Open, reopened, λ b u r. same r)
    where
      same : {b : Answer} {u : State R} → Reopen kind Ready b u → (b ≡ done) × (u ≡ Open)
      same reopened = (refl, refl)

  one_read : (level : ℕ) → ExactlyOne (Read kind level Ready)
  one_read level = one cs refused Ready told_at Ready (Read kind level Ready) (λ p. read_at p) (λ f m. not_read m) (λ b u q. came q)
    where
      cs : List (Bool × Fault)
      cs = read_checks kind n rows order bounds level

      told_at : Answer
      told_at = told (kind.ident (row_of kind (take n rows) (get_or order (level - 1) 0))) (get_or bounds (level - 1) 0)

      came : {b : Answer} {u : State R} → Read kind level Ready b u → Came cs refused Ready told_at Ready b u
      came (read_at p) = inl (p, refl, refl)
      came (not_read {f = f} m) = inr (f, m, refl, refl)

pub determined : {R : Type 0} → CallsDetermined R
determined kind n questions rows order bounds = record {
  enter = one_enter kind n questions rows order bounds;
  amend = one_amend kind n questions rows order bounds;
  withdraw = one_withdraw kind n questions rows order bounds;
  load = one_load kind n questions rows order bounds;
  arrange = one_arrange kind n questions rows order bounds;
  reopen = one_reopen kind n questions rows order bounds;
  read = one_read kind n questions rows order bounds;
}
