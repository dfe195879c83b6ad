-- Plans that differ in entries past the tasks at most. Assumes nothing.
use Rattle.std.proofs.Common.{◌≡◌, ℕ, ◌+◌, ◌-◌, ◌<◌, ◌≤◌, Bool, false, ◌||◌, ltb, leb, List, [], ◌∷◌, ◌++◌, length, get_or, take, drop, set, sym, refl, ap, ◌∙◌, subst, inl, inr, arith}
use Rattle.std.proofs.lemmas.List.{get_or-take}
use Rattle.std.proofs.lemmas.Bool.{or_parts, leb-false, ltb-false}
use Rattle.model.specs.Rows.{Kind}
use Rattle.feasibility.specs.Tests.{Answers, TestRules}
use Rattle.feasibility.specs.Masks.{row_of}
use Rattle.assign.specs.Assignment.{accepted, stuck}
use Rattle.assign.specs.Laws.{Arranges}
use Rattle.table.specs.declared.fault.Fault.{Fault}
use Rattle.table.specs.Tables.{written, replaced, removed}
use Rattle.sheet.specs.Sheets.{Verdict, rows_of}
use Rattle.plan.specs.States.{State, opened, arranged, Answer, told}
use Rattle.plan.specs.Calls.{Passed, Met, short, some_short, enter_checks, amend_checks, withdraw_checks, load_checks, arrange_checks, read_checks, Enter, entered, not_entered, Amend, amended, not_amended, Withdraw, withdrawn, not_withdrawn, Load, loaded, sheet_refused, not_loaded, Arrange, given, none_fits, not_arranged, Reopen, reopened, Read, read_at, not_read}
use Rattle.plan.specs.Sequences.{Reading, Call, enter, amend, withdraw, load, arrange, reopen, read, Leads, changed, SameTable, Alike, both_open, both_arranged}
use Rattle.plan.specs.Laws.{ExactlyOne, OnlyTasksMatter}
use Rattle.plan.proofs.Determined.{determined}
use Rattle.plan.proofs.Memories.{long, not_short, written_first, written_length}
use Rattle.plan.proofs.Effects.{effect, long_all, many_chosen, many_answered}

module _ {R : Type 0} (kind : Kind R) (reading : Reading R) where
  -- the call on the other plan, with the same answer, to a plan alike
  record Carried (call : Call kind) (s' : State R) (a : Answer) (t : State R) : Type 0 where
    after : State R
    leads : Leads kind reading call s' a after
    alike : Alike t after

  module _ {n : ℕ} {rows rows' : List R} {order order' bounds bounds' : List ℕ} (same : SameTable n rows rows' order order' bounds bounds') where
    -- a call that writes rows alone makes the same of both tables
    carried : (call : Call kind) (a : Answer) (m : ℕ) (written_rows written_rows' : List R) → Leads kind reading call (opened n rows order bounds) a (opened m written_rows order bounds) → Leads kind reading call (opened n rows' order' bounds') a (opened m written_rows' order' bounds') → Carried call (opened n rows' order' bounds') a (opened m written_rows order bounds)
    carried call a m written_rows written_rows' c c' =
        let e = effect kind reading call c same.few in
        let e' = effect kind reading call c' same.few in
        let made : changed kind reading (short rows) call a (take n rows) ≡ changed kind reading (short rows') call a (take n rows') = rw (same.short_rows, same.table) refl in
        record {
          after = opened m written_rows' order' bounds';
          leads = c';
          alike = both_open (record {
            few = e.few;
            table = e.table ∙ (made ∙ sym e'.table);
            short_rows = ap (λ (k : ℕ). ltb k 32) e.same_long ∙ (same.short_rows ∙ ap (λ (k : ℕ). ltb k 32) (sym e'.same_long));
            short_order = same.short_order;
            short_bounds = same.short_bounds;
          });
        }

    all_short : some_short rows order bounds ≡ some_short rows' order' bounds'
    all_short = rw (same.short_rows, same.short_order, same.short_bounds) refl

    same_enter : (x : R) → enter_checks kind n rows x ≡ enter_checks kind n rows' x
    same_enter x = rw (same.short_rows, same.table) refl

    same_amend : (x : R) → amend_checks kind n rows x ≡ amend_checks kind n rows' x
    same_amend x = rw (same.short_rows, same.table) refl

    same_withdraw : (id : ℕ) → withdraw_checks kind n rows id ≡ withdraw_checks kind n rows' id
    same_withdraw id = rw (same.short_rows, same.table) refl

    same_load : load_checks kind rows ≡ load_checks kind rows'
    same_load = rw same.short_rows refl

    same_arrange : arrange_checks kind n rows order bounds ≡ arrange_checks kind n rows' order' bounds'
    same_arrange = rw (all_short, same.table) refl

  abbrev met_too : {cs ds : List (Bool × Fault)} (f : Fault) → cs ≡ ds → Met cs f → Met ds f
  met_too f e m = subst (λ (cs : List (Bool × Fault)). Met cs f) e m

  carry_enter : {x : R} {s s' t : State R} {a : Answer} → Enter kind x s a t → Alike s s' → Carried (enter x) s' a t
  carry_enter {x} (entered p) (both_open {n = n} {rows = rows} {rows' = rows'} same) =
      carried same (enter x) _ (n + 1) (set rows n x) (set rows' n x) (entered p) (entered (subst Passed (same_enter same x) p))
  carry_enter {x} (not_entered {f = f} m) (both_open same) = record { after = _; leads = not_entered (met_too f (same_enter same x) m); alike = both_open same }

  carry_amend : {x : R} {s s' t : State R} {a : Answer} → Amend kind x s a t → Alike s s' → Carried (amend x) s' a t
  carry_amend {x} (amended p) (both_open {n = n} {rows = rows} {rows' = rows'} same) =
      carried same (amend x) _ n (replaced kind x (take n rows) ++ drop n rows) (replaced kind x (take n rows') ++ drop n rows') (amended p) (amended (subst Passed (same_amend same x) p))
  carry_amend {x} (not_amended {f = f} m) (both_open same) = record { after = _; leads = not_amended (met_too f (same_amend same x) m); alike = both_open same }

  carry_withdraw : {id : ℕ} {s s' t : State R} {a : Answer} → Withdraw kind id s a t → Alike s s' → Carried (withdraw id) s' a t
  carry_withdraw {id} (withdrawn p) (both_open {n = n} {rows = rows} {rows' = rows'} same) =
      carried same (withdraw id) _ (n - 1) (removed kind id (take n rows) ++ kind.blank ∷ drop n rows) (removed kind id (take n rows') ++ kind.blank ∷ drop n rows') (withdrawn p) (withdrawn (subst Passed (same_withdraw same id) p))
  carry_withdraw {id} (not_withdrawn {f = f} m) (both_open same) = record { after = _; leads = not_withdrawn (met_too f (same_withdraw same id) m); alike = both_open same }

  -- by the verdict that the reading has for the bytes
  record LoadCarried (v : Verdict R) (s' : State R) (a : Answer) (t : State R) : Type 0 where
    after : State R
    leads : Load kind v s' a after
    alike : Alike t after

  -- a table written into both memories
  loaded_alike : {n : ℕ} {rows rows' : List R} {order order' bounds bounds' : List ℕ} → SameTable n rows rows' order order' bounds bounds' → Passed (load_checks kind rows) → (table : List R) → length table ≤ 32 → Alike (opened (length table) (written kind.blank table rows) order bounds) (opened (length table) (written kind.blank table rows') order' bounds')
  loaded_alike {rows = rows} {rows' = rows'} same p table few =
      let l : 32 ≤ length rows = long rows p.0 in
      let l' : 32 ≤ length rows' = long rows' (sym same.short_rows ∙ p.0) in
      both_open (record {
        few = few;
        table = written_first kind.blank table rows (length table) refl ∙ sym (written_first kind.blank table rows' (length table) refl);
        short_rows = ap (λ (k : ℕ). ltb k 32) (written_length kind.blank table rows few l) ∙ (same.short_rows ∙ ap (λ (k : ℕ). ltb k 32) (sym (written_length kind.blank table rows' few l')));
        short_order = same.short_order;
        short_bounds = same.short_bounds;
      })

  carry_load : {v : Verdict R} {s s' t : State R} {a : Answer} → length (rows_of v) ≤ 32 → Load kind v s a t → Alike s s' → LoadCarried v s' a t
  carry_load few (loaded {table = table} p) (both_open same) = record { after = _; leads = loaded (subst Passed (same_load same) p); alike = loaded_alike same p table few }
  carry_load few (sheet_refused p) (both_open same) = record { after = _; leads = sheet_refused (subst Passed (same_load same) p); alike = loaded_alike same p [] (omega arith) }
  carry_load few (not_loaded {f = f} m) (both_open same) = record { after = _; leads = not_loaded (met_too f (same_load same) m); alike = both_open same }

  -- order and bounds written into memories that are long enough
  arranged_alike : {n : ℕ} {rows rows' : List R} {order order' bounds bounds' : List ℕ} → SameTable n rows rows' order order' bounds bounds' → some_short rows order bounds ≡ false → (chosen answered : List ℕ) → length chosen ≤ 32 → length answered ≤ 32 → SameTable n rows rows' (written 0 chosen order) (written 0 chosen order') (written 0 answered bounds) (written 0 answered bounds')
  arranged_alike {rows = rows} {rows' = rows'} {order = order} {order' = order'} {bounds = bounds} {bounds' = bounds'} same p chosen answered few_o few_b =
      let (r, o, b) = long_all kind rows order bounds p in
      let (r', o', b') = long_all kind rows' order' bounds' (sym (all_short same) ∙ p) in
      record {
        few = same.few;
        table = same.table;
        short_rows = same.short_rows;
        short_order = not_short _ (omega (arith, written_length 0 chosen order few_o o)) ∙ sym (not_short _ (omega (arith, written_length 0 chosen order' few_o o')));
        short_bounds = not_short _ (omega (arith, written_length 0 answered bounds few_b b)) ∙ sym (not_short _ (omega (arith, written_length 0 answered bounds' few_b b')));
      }

  carry_arrange : {test : Answers R} {rules : TestRules kind test} {s s' t : State R} {a : Answer} → Arrange kind test s a t → Alike s s' → Carried (arrange test rules) s' a t
  carry_arrange {test} {rules} (given {n = n} {questions = q} {rows = rows} {order = order} {bounds = bounds} {chosen = o} {answered = b} p d) (both_open {rows' = rows'} {order' = order'} {bounds' = bounds'} same) =
      let (r, ro, rb) = long_all kind rows order bounds p.0 in
      let many_o : length o ≡ n = many_chosen kind test rules n rows same.few r d in
      let many_b : length b ≡ n = many_answered kind test rules n rows same.few r d in
      record {
        after = arranged n q rows' (written 0 o order') (written 0 b bounds');
        leads = given (subst Passed (same_arrange same) p) (subst (λ (table : List R). Arranges kind test table (accepted o b q)) same.table d);
        alike = both_arranged (arranged_alike same p.0 o b (omega (arith, same.few)) (omega (arith, same.few)))
            (written_first 0 o order n many_o ∙ sym (written_first 0 o order' n many_o)) (written_first 0 b bounds n many_b ∙ sym (written_first 0 b bounds' n many_b));
      }
  carry_arrange {test} (none_fits {questions = q} {left = left} p d) (both_open same) = record {
    after = _;
    leads = none_fits (subst Passed (same_arrange same) p) (subst (λ (table : List R). Arranges kind test table (stuck left q)) same.table d);
    alike = both_open (arranged_alike same p.0 [] [] (omega arith) (omega arith));
  }
  carry_arrange (not_arranged {f = f} m) (both_open same) = record { after = _; leads = not_arranged (met_too f (same_arrange same) m); alike = both_open same }

  carry_reopen : {s s' t : State R} {a : Answer} → Reopen kind s a t → Alike s s' → Carried reopen s' a t
  carry_reopen reopened (both_arranged same o b) = record { after = _; leads = reopened; alike = both_open same }

  -- an entry of a task is the same in both
  same_entry : (n i : ℕ) (memory memory' : List ℕ) → i < n → take n memory ≡ take n memory' → get_or memory i 0 ≡ get_or memory' i 0
  same_entry n i memory memory' h e = sym (get_or-take n memory i 0 h) ∙ (ap (λ (l : List ℕ). get_or l i 0) e ∙ get_or-take n memory' i 0 h)

  in_range : (level n : ℕ) → (leb level 0 || ltb n level) ≡ false → level - 1 < n
  in_range level n e = let (low, high) = or_parts (leb level 0) (ltb n level) e in omega (arith, leb-false level 0 low, ltb-false n level high)

  carry_read : {level : ℕ} {s s' t : State R} {a : Answer} → Read kind level s a t → Alike s s' → Carried (read level) s' a t
  carry_read {level} (read_at {n = n} {questions = q} {rows = rows} {order = order} {bounds = bounds} p) (both_arranged {rows' = rows'} {order' = order'} {bounds' = bounds'} same o b) =
      let w : level - 1 < n = in_range level n p.1.0 in
      let place : get_or order (level - 1) 0 ≡ get_or order' (level - 1) 0 = same_entry n (level - 1) order order' w o in
      let bound : get_or bounds (level - 1) 0 ≡ get_or bounds' (level - 1) 0 = same_entry n (level - 1) bounds bounds' w b in
      let answer : told (kind.ident (row_of kind (take n rows') (get_or order' (level - 1) 0))) (get_or bounds' (level - 1) 0) ≡ told (kind.ident (row_of kind (take n rows) (get_or order (level - 1) 0))) (get_or bounds (level - 1) 0) = rw (← same.table, ← place, ← bound) refl in
      record {
        after = arranged n q rows' order' bounds';
        leads = subst (λ (x : Answer). Read kind level (arranged n q rows' order' bounds') x (arranged n q rows' order' bounds')) answer (read_at (sym (all_short same) ∙ p.0, (p.1.0, (ap (leb n) (sym place) ∙ p.1.1.0, tt))));
        alike = both_arranged same o b;
      }
  carry_read {level} (not_read {n = n} {rows = rows} {order = order} {bounds = bounds} {f = f} m) (both_arranged {rows' = rows'} {order' = order'} {bounds' = bounds'} same o b) =
      record { after = _; leads = not_read (met m); alike = both_arranged same o b }
    where
      met : Met (read_checks kind n rows order bounds level) f → Met (read_checks kind n rows' order' bounds' level) f
      met (inl (e, g)) = inl (sym (all_short same) ∙ e, g)
      met (inr (e, inl k)) = inr (sym (all_short same) ∙ e, inl k)
      met (inr (e, inr (k, inl (h, g)))) = inr (sym (all_short same) ∙ e, inr (k, inl (ap (leb n) (sym (same_entry n (level - 1) order order' (in_range level n k) o)) ∙ h, g)))
      met (inr (e, inr (k, inr (h, g)))) = absurd g

  carry : (call : Call kind) {s s' t : State R} {a : Answer} → Leads kind reading call s a t → Alike s s' → Carried call s' a t
  carry (enter x) c h = carry_enter c h
  carry (amend x) c h = carry_amend c h
  carry (withdraw id) c h = carry_withdraw c h
  carry (load bytes) c h = let r = carry_load (reading.small bytes) c h in record { after = r.after; leads = r.leads; alike = r.alike }
  carry (arrange test rules) c h = carry_arrange c h
  carry reopen c h = carry_reopen c h
  carry (read level) c h = carry_read c h

  -- from every state there is one answer and one state after at most
  only : {Q : Answer → State R → Type 0} → ExactlyOne Q → {a b : Answer} {t u : State R} → Q a t → Q b u → (b ≡ a) × (u ≡ t)
  only one {a} {b} {t} {u} c d = let (e, g) = one.3 a t c in let (h, k) = one.3 b u d in (h ∙ sym e, k ∙ sym g)

  -- an arranged plan loads nothing
  none_loaded : (v : Verdict R) {n q : ℕ} {rows : List R} {order bounds : List ℕ} {a : Answer} {t : State R} → Load kind v (arranged n q rows order bounds) a t → ⊥
  none_loaded v c = elim c [ ]

  same_leads : (call : Call kind) (s : State R) → {a b : Answer} {t u : State R} → Leads kind reading call s a t → Leads kind reading call s b u → (b ≡ a) × (u ≡ t)
  same_leads (enter x) (opened n rows order bounds) c d = only ((determined kind n 0 rows order bounds).enter x) c d
  same_leads (enter x) (arranged n q rows order bounds) c d = elim c [ ]
  same_leads (amend x) (opened n rows order bounds) c d = only ((determined kind n 0 rows order bounds).amend x) c d
  same_leads (amend x) (arranged n q rows order bounds) c d = elim c [ ]
  same_leads (withdraw id) (opened n rows order bounds) c d = only ((determined kind n 0 rows order bounds).withdraw id) c d
  same_leads (withdraw id) (arranged n q rows order bounds) c d = elim c [ ]
  same_leads (load bytes) (opened n rows order bounds) c d = only ((determined kind n 0 rows order bounds).load (reading.read bytes)) c d
  same_leads (load bytes) (arranged n q rows order bounds) c d = absurd (none_loaded (reading.read bytes) c)
  same_leads (arrange test rules) (opened n rows order bounds) c d = only ((determined kind n 0 rows order bounds).arrange test) c d
  same_leads (arrange test rules) (arranged n q rows order bounds) c d = elim c [ ]
  same_leads reopen (opened n rows order bounds) c d = elim c [ ]
  same_leads reopen (arranged n q rows order bounds) c d = only (determined kind n q rows order bounds).reopen c d
  same_leads (read level) (opened n rows order bounds) c d = elim c [ ]
  same_leads (read level) (arranged n q rows order bounds) c d = only ((determined kind n q rows order bounds).read level) c d

pub only_tasks : {R : Type 0} → OnlyTasksMatter R
only_tasks kind reading call s s' t t' a a' h c c' =
    let r = carry kind reading call c h in
    let (e, g) = same_leads kind reading call s' r.leads c' in
    (e, subst (λ (u : State _). Alike t u) (sym g) r.alike)
