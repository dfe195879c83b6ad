-- The promise: accepted orders hold, refusals are exact, and sequences of calls reach no other order. Assumes nothing.
use Rattle.std.proofs.Common.{◌≡◌, ℕ, zero, suc, ◌<◌, ◌≤◌, ◌↔◌, List, [], ◌∷◌, map, length, get_or, take, Some, sym, refl, ap, ◌∙◌, subst, arith}
use lib.ListN.{length-map}
use Rattle.std.proofs.lemmas.List.{get_or-map, take-map, get_or-take, length-take-le}
use Rattle.std.proofs.lemmas.Bool.{or_from}
use Rattle.std.specs.List.{slice_get}
use Rattle.model.specs.Bags.{◌~◌}
use Rattle.model.specs.Rows.{Kind}
use Rattle.model.specs.Runs.{Task, Run, Level, above}
use Rattle.feasibility.specs.Tests.{Answers, TestRules}
use Rattle.feasibility.specs.Masks.{places, row_of}
use Rattle.feasibility.proofs.Orders.{all_kept}
use Rattle.assign.specs.Assignment.{Fits}
use Rattle.assign.specs.Laws.{all_places, NoneFits}
use Rattle.assign.proofs.Levels.{found}
use Rattle.assign.proofs.Optimal.{laws}
use Rattle.assign.proofs.Outcomes.{not_both}
use Rattle.table.specs.declared.refusal.Refusal.TheVariants.{NoTaskFits}
use Rattle.sheet.specs.Sheets.{Verdict}
use Rattle.plan.specs.States.{State, opened, arranged, Answer, refusal_of, tasks_of}
use Rattle.plan.specs.Calls.{Passed, arrange_checks, Arrange, given, none_fits, not_arranged, Reopen, reopened, Read, read_at, not_read, Enter, entered, not_entered, Amend, amended, not_amended, Withdraw, withdrawn, not_withdrawn, Load, loaded, sheet_refused, not_loaded}
use Rattle.plan.specs.Sequences.{Reading, Call, enter, amend, withdraw, load, arrange, reopen, read, Leads, Reached, none_yet, next, ArrangedBy, by_arrange, then_read}
use Rattle.plan.specs.Promises.{in_order, Holds, AcceptedHolds, RefusedExactly, SequencesHold, Promise}
use Rattle.plan.proofs.Checks.{not_met}
use Rattle.plan.proofs.Memories.{not_short}
use Rattle.plan.proofs.Rows.{lawful_passes}
use Rattle.plan.proofs.Effects.{Found, arrange_found, effect}

-- the element at a place, seen through a function
nth_some : {X Y : Type 0} (f : X → Y) (xs : List X) (k : ℕ) (x : X) (d : Y) → slice_get xs k ≡ Some x → (k < length xs) × (get_or (map f xs) k d ≡ f x)
nth_some f [] k x d e = let z : ◌≡◌ {A = ℕ} 0 1 = cc in absurd (omega arith)
nth_some f (y ∷ ys) zero x d e = let same : y ≡ x = cc in (omega arith, ap f same)
nth_some f (y ∷ ys) (suc k) x d e = let (l, h) = nth_some f ys k x d e in (omega arith, h)

module _ {R : Type 0} (kind : Kind R) (test : Answers R) (rules : TestRules kind test) {n q : ℕ} {rows : List R} {order bounds : List ℕ} (left : Found kind test n q rows order bounds) where
  facts : (take n order ~ all_places (take n rows)) × Fits test.answer (row_of kind (take n rows)) (take n order) (take n bounds)
  facts = found test rules (row_of kind (take n rows)) left.arranges

  size : length (take n rows) ≡ n
  size = length-take-le n rows (omega (arith, left.few, left.long_rows))

  many : length (take n order) ≡ n
  many = length-take-le n order (omega (arith, left.few, left.long_order))

  ordered : List R
  ordered = in_order kind n rows order

  answered : (i : ℕ) → i < n → test.answer (get_or (in_order kind n rows order) i kind.blank) (take i (in_order kind n rows order)) ≡ Some (get_or bounds i 0)
  answered i h =
      let w : i < length (take n order) = omega (arith, many) in
      let here : get_or (in_order kind n rows order) i kind.blank ≡ row_of kind (take n rows) (get_or (take n order) i 0) = get_or-map (row_of kind (take n rows)) (take n order) i 0 kind.blank w in
      let higher : take i (in_order kind n rows order) ≡ map (row_of kind (take n rows)) (take i (take n order)) = take-map (row_of kind (take n rows)) i (take n order) in
      rw (here, higher) (facts.1.fits i w ∙ ap (λ (b : ℕ). Some b) (get_or-take n bounds i 0 h))

  -- in a run of these rows in this order, each level has its bound under the levels above it
  level_answer : (run : Run R) → map (λ task. task.row) run.tasks ≡ in_order kind n rows order → (i : ℕ) (task : Task R) → Level run i task → test.answer task.row (above run i) ≡ Some (get_or bounds i 0)
  level_answer run same i task at =
      let (l, is) = nth_some (λ (x : Task R). x.row) run.tasks i task kind.blank at in
      let below : i < n = omega (arith, length-map run.tasks (λ (x : Task R). x.row), ap length same, length-map (take n order) (row_of kind (take n rows)), many) in
      let here : get_or (in_order kind n rows order) i kind.blank ≡ task.row = ap (λ (l : List R). get_or l i kind.blank) (sym same) ∙ is in
      let higher : take i (in_order kind n rows order) ≡ above run i = ap (take i) (sym same) ∙ take-map (λ (x : Task R). x.row) i run.tasks in
      rw (here, higher) at (answered i below)

  pub holds : Holds kind test n rows order bounds
  holds = record {
    each_once = subst (λ (k : ℕ). take n order ~ places k) size facts.0;
    answered = answered;
    kept = λ run law same i task at.
        all_kept kind test rules run law (λ k other there. (get_or bounds k 0, level_answer run same k other there)) i task at (get_or bounds i 0) (level_answer run same i task at);
  }

module _ {R : Type 0} (kind : Kind R) where
  accepted_holds : AcceptedHolds kind
  accepted_holds test rules n n' questions rows rows' order bounds order' bounds' a few c = holds kind test rules (arrange_found kind test rules few c)

  -- the assignment decides, since every check passes
  exactly : (test : Answers R) → TestRules kind test → {n : ℕ} {rows : List R} {order bounds : List ℕ} {a : Answer} {t : State R} → Passed (arrange_checks kind n rows order bounds) → Arrange kind test (opened n rows order bounds) a t → (refusal_of a ≡ Some NoTaskFits) ↔ NoneFits kind test (take n rows)
  exactly test rules {n} {rows} p (given {questions = q} {chosen = o} {answered = b} c d) = (λ e. let z : ◌≡◌ {A = ℕ} 0 1 = cc in absurd (omega arith), λ none. absurd (clash none))
    where
      clash : NoneFits kind test (take n rows) → ⊥
      clash none =
          let (same, fits) = (laws kind test rules (take n rows)).accepted_fits o b q d in
          let (i, w, e) = none o same in
          not_both e (fits.fits i w)
  exactly test rules {n} {rows} p (none_fits {questions = q} {left = left} c d) = (λ e. (laws kind test rules (take n rows)).stuck_exactly.0 (left, q, d), λ none. refl)
  exactly test rules {n} {rows} {order} {bounds} p (not_arranged {f = f} m) = absurd (not_met (arrange_checks kind n rows order bounds) f p m)

  refused_exactly : RefusedExactly kind
  refused_exactly test rules n rows order bounds a t r o b lawful c =
      exactly test rules (or_from _ _ (not_short rows r) (or_from _ _ (not_short order o) (not_short bounds b)), lawful_passes kind (take n rows) lawful) c

  module _ (reading : Reading R) where
    -- an arranged plan holds what the last arrange left
    data Inv : List (Call kind × Answer) → State R → Type 0 where
      while_open : {calls : List (Call kind × Answer)} {n : ℕ} {rows : List R} {order bounds : List ℕ} → Inv calls (opened n rows order bounds)
      while_arranged : {calls : List (Call kind × Answer)} {n q : ℕ} {rows : List R} {order bounds : List ℕ} (test : Answers R) → TestRules kind test → ArrangedBy test calls → Found kind test n q rows order bounds → Inv calls (arranged n q rows order bounds)

    inv_enter : {x : R} {s t : State R} {a : Answer} {calls : List (Call kind × Answer)} → Enter kind x s a t → Inv calls t
    inv_enter (entered p) = while_open
    inv_enter (not_entered m) = while_open

    inv_amend : {x : R} {s t : State R} {a : Answer} {calls : List (Call kind × Answer)} → Amend kind x s a t → Inv calls t
    inv_amend (amended p) = while_open
    inv_amend (not_amended m) = while_open

    inv_withdraw : {id : ℕ} {s t : State R} {a : Answer} {calls : List (Call kind × Answer)} → Withdraw kind id s a t → Inv calls t
    inv_withdraw (withdrawn p) = while_open
    inv_withdraw (not_withdrawn m) = while_open

    inv_load : {v : Verdict R} {s t : State R} {a : Answer} {calls : List (Call kind × Answer)} → Load kind v s a t → Inv calls t
    inv_load (loaded p) = while_open
    inv_load (sheet_refused p) = while_open
    inv_load (not_loaded m) = while_open

    inv_arrange : {test : Answers R} {rules : TestRules kind test} {s t : State R} {a : Answer} {calls : List (Call kind × Answer)} → Arrange kind test s a t → tasks_of s ≤ 32 → Inv ((arrange test rules, a) ∷ calls) t
    inv_arrange {test} {rules} (given {order = order} {bounds = bounds} p d) h = while_arranged test rules by_arrange (arrange_found kind test rules {order = order} {bounds = bounds} h (given p d))
    inv_arrange (none_fits p d) h = while_open
    inv_arrange (not_arranged m) h = while_open

    inv_reopen : {s t : State R} {a : Answer} {calls : List (Call kind × Answer)} → Reopen kind s a t → Inv calls t
    inv_reopen reopened = while_open

    read_more : {level n q : ℕ} {rows : List R} {order bounds : List ℕ} {a : Answer} {calls : List (Call kind × Answer)} → Inv calls (arranged n q rows order bounds) → Inv ((read level, a) ∷ calls) (arranged n q rows order bounds)
    read_more (while_arranged test rules by left) = while_arranged test rules (then_read by) left

    inv_read : {level : ℕ} {s t : State R} {a : Answer} {calls : List (Call kind × Answer)} → Read kind level s a t → Inv calls s → Inv ((read level, a) ∷ calls) t
    inv_read (read_at p) i = read_more i
    inv_read (not_read m) i = read_more i

    inv_next : (call : Call kind) {s t : State R} {a : Answer} {calls : List (Call kind × Answer)} → Leads kind reading call s a t → tasks_of s ≤ 32 → Inv calls s → Inv ((call, a) ∷ calls) t
    inv_next (enter x) c h i = inv_enter c
    inv_next (amend x) c h i = inv_amend c
    inv_next (withdraw id) c h i = inv_withdraw c
    inv_next (load bytes) c h i = inv_load c
    inv_next (arrange test rules) c h i = inv_arrange c h
    inv_next reopen c h i = inv_reopen c
    inv_next (read level) c h i = inv_read c i

    -- a new plan has no tasks
    module _ (rows₀ : List R) (order₀ bounds₀ : List ℕ) where
      pub few_reached : {calls : List (Call kind × Answer)} {s : State R} → Reached kind reading (opened 0 rows₀ order₀ bounds₀) calls s → tasks_of s ≤ 32
      few_reached none_yet = omega arith
      few_reached (next call r c) = (effect kind reading call c (few_reached r)).few

      inv_reached : {calls : List (Call kind × Answer)} {s : State R} → Reached kind reading (opened 0 rows₀ order₀ bounds₀) calls s → Inv calls s
      inv_reached none_yet = while_open
      inv_reached (next call r c) = inv_next call c (few_reached r) (inv_reached r)

      -- what a reached arranged plan holds
      pub last_arrange : {calls : List (Call kind × Answer)} {n q : ℕ} {rows : List R} {order bounds : List ℕ} → Reached kind reading (opened 0 rows₀ order₀ bounds₀) calls (arranged n q rows order bounds) → (test : Answers R) × TestRules kind test × ArrangedBy test calls × Found kind test n q rows order bounds
      last_arrange r = of (inv_reached r)
        where
          of : {calls : List (Call kind × Answer)} {n q : ℕ} {rows : List R} {order bounds : List ℕ} → Inv calls (arranged n q rows order bounds) → (test : Answers R) × TestRules kind test × ArrangedBy test calls × Found kind test n q rows order bounds
          of (while_arranged test rules by left) = (test, rules, by, left)

  sequences_hold : SequencesHold kind
  sequences_hold reading rows order bounds calls n questions rows' order' bounds' r =
      let (test, rules, by, left) = last_arrange reading rows order bounds r in
      (test, rules, by, holds kind test rules left)

  pub promise : Promise kind
  promise = (accepted_holds, refused_exactly, sequences_hold)
