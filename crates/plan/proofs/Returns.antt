-- What the functions on tables return, as the plan's calls have it. Assumes nothing.
use Rattle.std.proofs.Common.{◌≡◌, ℕ, ◌+◌, ◌-◌, ◌<◌, ◌≤◌, min, Bool, true, false, cond, not, leb, ◌⊎◌, List, [], ◌∷◌, ◌++◌, length, take, drop, set, Some, None, Option, sym, refl, ap, ◌∙◌, inl, inr, arith}
use Rattle.std.proofs.lemmas.List.{length-take-le}
use Rattle.std.proofs.lemmas.Bool.{cases_lt, lt-ltb, le-ltb, le-leb, lt-leb, leb-true}
use Rattle.std.specs.Option.{option_map}
use Rattle.model.specs.Rows.{Kind}
use Rattle.table.specs.declared.fault.Fault.{Fault}
use Rattle.table.specs.declared.fault.Fault.TheVariants.{Plan}
use Rattle.table.specs.declared.fault.PlanFault.{PlanFault}
use Rattle.table.specs.declared.refusal.Refusal.TheVariants.{ShortMemory, TableFull, RowUnlawful, IdTaken, NoSuchTask}
use Rattle.table.specs.Tables.{has_id, plan_fault, append_fault, row_refusal, absent_fault, remove_fault, replace_fault, table_of, after_table, replaced, removed}
use Rattle.plan.specs.States.{State, opened, Answer, done, refused, tasks_of}
use Rattle.plan.specs.Calls.{Passed, Met, in_plan, short, enter_checks, amend_checks, withdraw_checks, Enter, entered, not_entered, Amend, amended, not_amended, Withdraw, withdrawn, not_withdrawn, Reopen, reopened}
use Rattle.plan.specs.Returns.{ReopenMeans}

-- the fault of the first check that is met
abbrev pub first : List (Bool × Fault) → Option Fault
first [] = None
first (c ∷ cs) = cond c.0 (Some c.1) (first cs)

pub first_none : (cs : List (Bool × Fault)) → first cs ≡ None → Passed cs
first_none [] e = tt
first_none (c ∷ cs) e = go c.0 refl e (first_none cs)
  where
    go : (b : Bool) → c.0 ≡ b → cond b (Some c.1) (first cs) ≡ None → (first cs ≡ None → Passed cs) → Passed (c ∷ cs)
    go true h k ih = let z : ◌≡◌ {A = ℕ} 0 1 = cc in absurd (omega arith)
    go false h k ih = (h, ih k)

pub first_some : (cs : List (Bool × Fault)) (f : Fault) → first cs ≡ Some f → Met cs f
first_some [] f e = let z : ◌≡◌ {A = ℕ} 0 1 = cc in absurd (omega arith)
first_some (c ∷ cs) f e = go c.0 refl e (first_some cs f)
  where
    go : (b : Bool) → c.0 ≡ b → cond b (Some c.1) (first cs) ≡ Some f → (first cs ≡ Some f → Met cs f) → Met (c ∷ cs) f
    go true h k ih = inl (h, cc)
    go false h k ih = inr (h, ih k)

module _ {R : Type 0} (kind : Kind R) (rows : List R) (n : ℕ) (few : n ≤ 32) where
  pub whole_table : table_of n rows ≡ take n rows
  whole_table = let e : min n 32 ≡ n = omega arith in ap (λ (k : ℕ). take k rows) e

  rest_of_table : after_table n rows ≡ drop n rows
  rest_of_table = let e : min n 32 ≡ n = omega arith in ap (λ (k : ℕ). drop k rows) e

  append_first : (x : R) → option_map (λ f. Plan f) (append_fault kind rows n x) ≡ first (enter_checks kind n rows x)
  append_first x = on (cases_lt (length rows) 32)
    where
      ids : (b : Bool) → option_map (λ f. Plan f) (option_map (λ why. plan_fault why n) (cond b (Some IdTaken) None)) ≡ cond b (Some (in_plan IdTaken n)) None
      ids true = refl
      ids false = refl

      lawful : (b : Bool) → option_map (λ f. Plan f) (option_map (λ why. plan_fault why n) (cond b (cond (has_id kind (kind.ident x) (take n rows)) (Some IdTaken) None) (Some RowUnlawful))) ≡ cond (not b) (Some (in_plan RowUnlawful n)) (cond (has_id kind (kind.ident x) (take n rows)) (Some (in_plan IdTaken n)) None)
      lawful true = ids (has_id kind (kind.ident x) (take n rows))
      lawful false = refl

      full : (b : Bool) → leb 32 n ≡ b → option_map (λ f. Plan f) (option_map (λ why. plan_fault why n) (cond b (Some TableFull) (row_refusal kind (take n rows) x))) ≡ cond b (Some (in_plan TableFull 32)) (cond (not (kind.lawful x)) (Some (in_plan RowUnlawful n)) (cond (has_id kind (kind.ident x) (take n rows)) (Some (in_plan IdTaken n)) None))
      full true e = let all : n ≡ 32 = omega (arith, leb-true 32 n e) in ap (λ (k : ℕ). Some (in_plan TableFull k)) all
      full false e = lawful (kind.lawful x)

      on : (length rows < 32) ⊎ (32 ≤ length rows) → option_map (λ f. Plan f) (append_fault kind rows n x) ≡ first (enter_checks kind n rows x)
      on (inl l) = let s : short rows ≡ true = lt-ltb (length rows) 32 l in let e : leb 32 (length rows) ≡ false = lt-leb 32 (length rows) l in rw (s, e) refl
      on (inr l) =
          let s : short rows ≡ false = le-ltb (length rows) 32 l in
          let e : leb 32 (length rows) ≡ true = le-leb 32 (length rows) l in
          let size : length (take n rows) ≡ n = length-take-le n rows (omega arith) in
          rw (s, e, size) (full (leb 32 n) refl)

  -- what bars a call in memory of any length: the first check, and the others where the memory is long enough
  by_memory : (b : Bool) (checks : List (Bool × Fault)) (rest : Option PlanFault) → not b ≡ short rows → option_map (λ f. Plan f) rest ≡ first checks → option_map (λ f. Plan f) (cond b rest (Some (plan_fault ShortMemory 0))) ≡ first ((short rows, in_plan ShortMemory 0) ∷ checks)
  by_memory true checks rest s e = rw (← s) e
  by_memory false checks rest s e = rw (← s) refl

  room : not (leb 32 (length rows)) ≡ short rows
  room =
      elim (cases_lt (length rows) 32) [
        | inl l ↦ let e : leb 32 (length rows) ≡ false = lt-leb 32 (length rows) l in rw (e, lt-ltb (length rows) 32 l) refl
        | inr l ↦ let e : leb 32 (length rows) ≡ true = le-leb 32 (length rows) l in rw (e, le-ltb (length rows) 32 l) refl
      ]

  absent_first : (id : ℕ) → option_map (λ f. Plan f) (absent_fault kind id (take n rows)) ≡ first ((not (has_id kind id (take n rows)), in_plan NoSuchTask 0) ∷ [])
  absent_first id = on (has_id kind id (take n rows))
    where
      on : (b : Bool) → option_map (λ f. Plan f) (cond b None (Some (plan_fault NoSuchTask 0))) ≡ cond (not b) (Some (in_plan NoSuchTask 0)) None
      on true = refl
      on false = refl

  remove_first : (id : ℕ) → option_map (λ f. Plan f) (remove_fault kind rows n id) ≡ first (withdraw_checks kind n rows id)
  remove_first id = rw whole_table (by_memory (leb 32 (length rows)) ((not (has_id kind id (take n rows)), in_plan NoSuchTask 0) ∷ []) _ room (absent_first id))

  replace_first : (x : R) → option_map (λ f. Plan f) (replace_fault kind rows n x) ≡ first (amend_checks kind n rows x)
  replace_first x = rw whole_table (by_memory (leb 32 (length rows)) ((not (kind.lawful x), in_plan RowUnlawful 0) ∷ (not (has_id kind (kind.ident x) (take n rows)), in_plan NoSuchTask 0) ∷ []) _ room (on (kind.lawful x)))
    where
      on : (b : Bool) → option_map (λ f. Plan f) (cond b (absent_fault kind (kind.ident x) (take n rows)) (Some (plan_fault RowUnlawful 0))) ≡ first ((not b, in_plan RowUnlawful 0) ∷ (not (has_id kind (kind.ident x) (take n rows)), in_plan NoSuchTask 0) ∷ [])
      on true = absent_first (kind.ident x)
      on false = refl

  -- a call on a table that is not barred passes its checks, and a barred one meets the fault
  passed : (o : Option PlanFault) (cs : List (Bool × Fault)) → option_map (λ f. Plan f) o ≡ first cs → o ≡ None → Passed cs
  passed o cs e h = first_none cs (sym e ∙ ap (option_map (λ f. Plan f)) h)

  met : (o : Option PlanFault) (cs : List (Bool × Fault)) (f : PlanFault) → option_map (λ g. Plan g) o ≡ first cs → o ≡ Some f → Met cs (Plan f)
  met o cs f e h = first_some cs (Plan f) (sym e ∙ ap (option_map (λ g. Plan g)) h)

-- the table's answer is the plan's
module _ {R : Type 0} {kind : Kind R} {n : ℕ} (few : n ≤ 32) {rows after : List R} {order bounds : List ℕ} where
  pub appended : {x : R} → append_fault kind rows n x ≡ None → after ≡ set rows n x → Enter kind x (opened n rows order bounds) done (opened (n + 1) after order bounds)
  appended {x} e is = rw is (entered (passed kind rows n few _ (enter_checks kind n rows x) (append_first kind rows n few x) e))

  pub not_appended : {x : R} {f : PlanFault} → append_fault kind rows n x ≡ Some f → after ≡ rows → Enter kind x (opened n rows order bounds) (refused (Plan f)) (opened n after order bounds)
  not_appended {x} {f} e is = rw is (not_entered (met kind rows n few _ (enter_checks kind n rows x) f (append_first kind rows n few x) e))

  pub was_replaced : {x : R} → replace_fault kind rows n x ≡ None → after ≡ replaced kind x (table_of n rows) ++ after_table n rows → Amend kind x (opened n rows order bounds) done (opened n after order bounds)
  was_replaced {x} e is = rw (is, whole_table kind rows n few, rest_of_table kind rows n few) (amended (passed kind rows n few _ (amend_checks kind n rows x) (replace_first kind rows n few x) e))

  pub not_replaced : {x : R} {f : PlanFault} → replace_fault kind rows n x ≡ Some f → after ≡ rows → Amend kind x (opened n rows order bounds) (refused (Plan f)) (opened n after order bounds)
  not_replaced {x} {f} e is = rw is (not_amended (met kind rows n few _ (amend_checks kind n rows x) f (replace_first kind rows n few x) e))

  pub was_removed : {id : ℕ} → remove_fault kind rows n id ≡ None → after ≡ removed kind id (table_of n rows) ++ kind.blank ∷ after_table n rows → Withdraw kind id (opened n rows order bounds) done (opened (n - 1) after order bounds)
  was_removed {id} e is = rw (is, whole_table kind rows n few, rest_of_table kind rows n few) (withdrawn (passed kind rows n few _ (withdraw_checks kind n rows id) (remove_first kind rows n few id) e))

  pub not_removed : {id : ℕ} {f : PlanFault} → remove_fault kind rows n id ≡ Some f → after ≡ rows → Withdraw kind id (opened n rows order bounds) (refused (Plan f)) (opened n after order bounds)
  not_removed {id} {f} e is = rw is (not_withdrawn (met kind rows n few _ (withdraw_checks kind n rows id) f (remove_first kind rows n few id) e))

pub reopen_means : {R : Type 0} → ReopenMeans R
reopen_means {R} kind plan after rows order bounds = (λ e. rw e reopened, λ c. sym (back c refl))
  where
    -- a plan reopened has the tasks that it had
    back : {s t : State R} {a : Answer} → Reopen kind s a t → t ≡ opened after.tasks rows order bounds → tasks_of s ≡ after.tasks
    back reopened e = ap tasks_of e
