-- What each call does to the number of tasks, the table and the entries past it. Assumes nothing.
use Rattle.std.proofs.Common.{◌≡◌, ℕ, ◌+◌, ◌-◌, ◌<◌, ◌≤◌, false, List, [], ◌∷◌, ◌++◌, length, take, drop, sym, refl, ap, ◌∙◌, inl, inr, arith, length-set, take_at, drop-set-lt}
use Rattle.std.proofs.lemmas.List.{append_assoc, take_more_set, length-take-le, length_push}
use Rattle.std.proofs.lemmas.Bool.{leb-false, or_parts, not-false, cond-true, cond-false}
use Rattle.model.specs.Rows.{Kind}
use Rattle.feasibility.specs.Tests.{Answers, TestRules}
use Rattle.feasibility.specs.Masks.{row_of}
use Rattle.assign.specs.Assignment.{accepted}
use Rattle.assign.specs.Laws.{Arranges}
use Rattle.assign.proofs.Bags.{length-~}
use Rattle.assign.proofs.Levels.{found}
use Rattle.assign.proofs.Steps.{length_places}
use Rattle.table.specs.Tables.{written, replaced, removed, LawfulTable}
use Rattle.sheet.specs.Sheets.{Verdict, rows_of}
use Rattle.plan.specs.States.{State, opened, arranged, Answer, tasks_of, table_of, past_capacity}
use Rattle.plan.specs.Calls.{short, some_short, Enter, entered, not_entered, Amend, amended, not_amended, Withdraw, withdrawn, not_withdrawn, Load, loaded, sheet_refused, not_loaded, Arrange, given, none_fits, not_arranged, Reopen, reopened, Read, read_at, not_read}
use Rattle.plan.specs.Sequences.{Reading, Call, enter, amend, withdraw, load, arrange, reopen, read, Leads, changed}
use Rattle.plan.proofs.Memories.{long, written_first, written_length, written_past, front_past, front_length}
use Rattle.plan.proofs.Rows.{length_replaced, length_removed, passes_lawful}

abbrev pub rows_in : {R : Type 0} → State R → List R
rows_in (opened n rows order bounds) = rows
rows_in (arranged n questions rows order bounds) = rows

-- An order and its bounds as arrange leaves them.
pub record Found {R : Type 0} (kind : Kind R) (test : Answers R) (n questions : ℕ) (rows : List R) (order bounds : List ℕ) : Type 0 where
  pub few : n ≤ 32
  pub arranges : Arranges kind test (take n rows) (accepted (take n order) (take n bounds) questions)
  pub long_rows : 32 ≤ length rows
  pub long_order : 32 ≤ length order
  pub long_bounds : 32 ≤ length bounds
  pub lawful : LawfulTable kind (take n rows)

module _ {R : Type 0} (kind : Kind R) where
  -- all three memories are long enough
  pub long_all : (rows : List R) (order bounds : List ℕ) → some_short rows order bounds ≡ false → (32 ≤ length rows) × (32 ≤ length order) × (32 ≤ length bounds)
  long_all rows order bounds e =
      let (r, rest) = or_parts (short rows) _ e in
      let (o, b) = or_parts (short order) (short bounds) rest in
      (long rows r, long order o, long bounds b)

  -- what is chosen and answered has as many entries as there are tasks
  module _ (test : Answers R) (rules : TestRules kind test) (n : ℕ) (rows : List R) (few : n ≤ 32) (l : 32 ≤ length rows) {chosen answered : List ℕ} {q : ℕ} (d : Arranges kind test (take n rows) (accepted chosen answered q)) where
    pub many_chosen : length chosen ≡ n
    many_chosen = length-~ (found test rules (row_of kind (take n rows)) d).0 ∙ (length_places (length (take n rows)) ∙ length-take-le n rows (omega arith))

    pub many_answered : length answered ≡ n
    many_answered = (found test rules (row_of kind (take n rows)) d).1.as_many ∙ many_chosen

  pub arrange_found : (test : Answers R) → TestRules kind test → {n n' q : ℕ} {rows rows' : List R} {order bounds order' bounds' : List ℕ} {a : Answer} → n ≤ 32 → Arrange kind test (opened n rows order bounds) a (arranged n' q rows' order' bounds') → Found kind test n' q rows' order' bounds'
  arrange_found test rules few (given {n = n} {questions = q} {rows = rows} {order = order} {bounds = bounds} {chosen = o} {answered = b} p d) =
      let (r, ro, rb) = long_all rows order bounds p.0 in
      let many_o : length o ≡ n = many_chosen test rules n rows few r d in
      let many_b : length b ≡ n = many_answered test rules n rows few r d in
      let ordered : take n (written 0 o order) ≡ o = written_first 0 o order n many_o in
      let bounded : take n (written 0 b bounds) ≡ b = written_first 0 b bounds n many_b in
      record {
        few = few;
        arranges = rw (ordered, bounded) d;
        long_rows = r;
        long_order = omega (arith, written_length 0 o order (omega arith) ro);
        long_bounds = omega (arith, written_length 0 b bounds (omega arith) rb);
        lawful = passes_lawful kind (take n rows) p.1;
      }

module _ {R : Type 0} (kind : Kind R) (reading : Reading R) where
  pub record Effect (call : Call kind) (a : Answer) (s t : State R) : Type 0 where
    pub few : tasks_of t ≤ 32
    pub past : past_capacity t ≡ past_capacity s
    pub same_long : length (rows_in t) ≡ length (rows_in s)
    pub table : table_of t ≡ changed kind reading (short (rows_in s)) call a (table_of s)

  -- rows in front of the memory from the n-th entry on
  fronted : (n : ℕ) (front rows : List R) (order bounds : List ℕ) → n ≤ 32 → 32 ≤ length rows → length front ≡ n → past_capacity (opened 0 (front ++ drop n rows) order bounds) ≡ past_capacity (opened 0 rows order bounds)
  fronted n front rows order bounds h l e = λ i. (front_past front rows n 32 h e i, drop 32 order, drop 32 bounds)

  by_enter : {x : R} {s t : State R} {a : Answer} → Enter kind x s a t → tasks_of s ≤ 32 → Effect (enter x) a s t
  by_enter {x} (entered {n = n} {rows = rows} {order = order} {bounds = bounds} p) h =
      let l : 32 ≤ length rows = long rows p.0 in
      let below : n < 32 = leb-false 32 n p.1.0 in
      record {
        few = omega arith;
        past = λ i. (drop-set-lt 32 rows n x below i, drop 32 order, drop 32 bounds);
        same_long = length-set rows n x;
        table = take_more_set rows n x (omega arith);
      }
  by_enter (not_entered m) h = record { few = h; past = refl; same_long = refl; table = refl }

  by_amend : {x : R} {s t : State R} {a : Answer} → Amend kind x s a t → tasks_of s ≤ 32 → Effect (amend x) a s t
  by_amend {x} (amended {n = n} {rows = rows} {order = order} {bounds = bounds} p) h =
      let l : 32 ≤ length rows = long rows p.0 in
      let size : length (replaced kind x (take n rows)) ≡ n = length_replaced kind x (take n rows) ∙ length-take-le n rows (omega arith) in
      record {
        few = h;
        past = fronted n (replaced kind x (take n rows)) rows order bounds h l size;
        same_long = front_length (replaced kind x (take n rows)) rows n (omega arith) size;
        table = take_at (replaced kind x (take n rows)) (drop n rows) n size;
      }
  by_amend (not_amended m) h = record { few = h; past = refl; same_long = refl; table = refl }

  by_withdraw : {id : ℕ} {s t : State R} {a : Answer} → Withdraw kind id s a t → tasks_of s ≤ 32 → Effect (withdraw id) a s t
  by_withdraw {id} (withdrawn {n = n} {rows = rows} {order = order} {bounds = bounds} p) h =
      let l : 32 ≤ length rows = long rows p.0 in
      let left : List R = removed kind id (take n rows) in
      let size : length left + 1 ≡ n = length_removed kind id (take n rows) (not-false _ p.1.0) ∙ length-take-le n rows (omega arith) in
      let front : length (left ++ kind.blank ∷ []) ≡ n = length_push left kind.blank ∙ size in
      let regroup : left ++ kind.blank ∷ drop n rows ≡ left ++ kind.blank ∷ [] ++ drop n rows = sym (append_assoc left (kind.blank ∷ []) (drop n rows)) in
      record {
        few = omega arith;
        past = ap (λ (m : List R). past_capacity (opened 0 m order bounds)) regroup ∙ fronted n (left ++ kind.blank ∷ []) rows order bounds h l front;
        same_long = ap length regroup ∙ front_length (left ++ kind.blank ∷ []) rows n (omega arith) front;
        table = take_at left (kind.blank ∷ drop n rows) (n - 1) (omega arith);
      }
  by_withdraw (not_withdrawn m) h = record { few = h; past = refl; same_long = refl; table = refl }

  by_load : {bytes : List ℕ} {v : Verdict R} {s t : State R} {a : Answer} → reading.read bytes ≡ v → length (rows_of v) ≤ 32 → Load kind v s a t → tasks_of s ≤ 32 → Effect (load bytes) a s t
  by_load e few (loaded {rows = rows} {table = table} {order = order} {bounds = bounds} p) h = record {
    few = few;
    past = λ i. (written_past kind.blank table rows few i, drop 32 order, drop 32 bounds);
    same_long = written_length kind.blank table rows few (long rows p.0);
    table = written_first kind.blank table rows (length table) refl ∙ ap rows_of (sym e);
  }
  by_load e few (sheet_refused {n = n} {rows = rows} {order = order} {bounds = bounds} p) h = record {
    few = omega arith;
    past = λ i. (written_past kind.blank [] rows (omega arith) i, drop 32 order, drop 32 bounds);
    same_long = written_length kind.blank [] rows (omega arith) (long rows p.0);
    table = sym (cond-false (short rows) (take n rows) [] p.0);
  }
  by_load e few (not_loaded {n = n} {rows = rows} (inl m)) h = record { few = h; past = refl; same_long = refl; table = sym (cond-true (short rows) (take n rows) [] m.0) }
  by_load e few (not_loaded (inr m)) h = absurd m.1

  by_arrange : {test : Answers R} {rules : TestRules kind test} {s t : State R} {a : Answer} → Arrange kind test s a t → tasks_of s ≤ 32 → Effect (arrange test rules) a s t
  by_arrange {test} {rules} (given {n = n} {rows = rows} {order = order} {bounds = bounds} {chosen = o} {answered = b} p d) h =
      let (r, ro, rb) = long_all kind rows order bounds p.0 in
      let few_o : length o ≤ 32 = omega (arith, many_chosen kind test rules n rows h r d) in
      let few_b : length b ≤ 32 = omega (arith, many_answered kind test rules n rows h r d) in
      record { few = h; past = λ i. (drop 32 rows, written_past 0 o order few_o i, written_past 0 b bounds few_b i); same_long = refl; table = refl }
  by_arrange (none_fits {rows = rows} {order = order} {bounds = bounds} p d) h = record { few = h; past = λ i. (drop 32 rows, written_past 0 [] order (omega arith) i, written_past 0 [] bounds (omega arith) i); same_long = refl; table = refl }
  by_arrange (not_arranged m) h = record { few = h; past = refl; same_long = refl; table = refl }

  by_reopen : {s t : State R} {a : Answer} → Reopen kind s a t → tasks_of s ≤ 32 → Effect reopen a s t
  by_reopen reopened h = record { few = h; past = refl; same_long = refl; table = refl }

  by_read : {level : ℕ} {s t : State R} {a : Answer} → Read kind level s a t → tasks_of s ≤ 32 → Effect (read level) a s t
  by_read (read_at p) h = record { few = h; past = refl; same_long = refl; table = refl }
  by_read (not_read m) h = record { few = h; past = refl; same_long = refl; table = refl }

  pub effect : (call : Call kind) {s t : State R} {a : Answer} → Leads kind reading call s a t → tasks_of s ≤ 32 → Effect call a s t
  effect (enter x) c h = by_enter c h
  effect (amend x) c h = by_amend c h
  effect (withdraw id) c h = by_withdraw c h
  effect (load bytes) c h = by_load refl (reading.small bytes) c h
  effect (arrange test rules) c h = by_arrange c h
  effect reopen c h = by_reopen c h
  effect (read level) c h = by_read c h
