-- Sequences of calls: the table that they make, and arranged plans that can be read. Assumes nothing.
use Rattle.std.proofs.Common.{◌≡◌, ℕ, ◌-◌, ◌<◌, ◌≤◌, ltb, List, length, get_or, take, refl, ap, ◌∙◌, arith}
use Rattle.std.proofs.lemmas.List.{get_or-take, length-take-le}
use Rattle.std.proofs.lemmas.Bool.{or_from, le-ltb, lt-leb}
use Rattle.model.specs.Bags.{◌∈◌}
use Rattle.model.specs.Rows.{Kind}
use Rattle.feasibility.specs.Tests.{Answers, TestRules}
use Rattle.feasibility.specs.Masks.{places, row_of}
use Rattle.assign.proofs.Bags.{mem-~}
use Rattle.plan.specs.States.{State, opened, arranged, Answer, told, table_of}
use Rattle.plan.specs.Calls.{short, read_checks, Read, read_at, not_read}
use Rattle.plan.specs.Sequences.{Reading, Call, Reached, none_yet, next, changed, made}
use Rattle.plan.specs.Laws.{TablesMade, NothingWrittenPast, Readable, ArrangedReadable}
use Rattle.plan.proofs.Checks.{not_met}
use Rattle.plan.proofs.Memories.{not_short}
use Rattle.plan.proofs.Effects.{rows_in, Found, effect}
use Rattle.plan.proofs.Places.{getD_in, place_below}
use Rattle.plan.proofs.Promises.{few_reached, last_arrange, holds}

module _ {R : Type 0} (kind : Kind R) (reading : Reading R) (rows₀ : List R) (order₀ bounds₀ : List ℕ) where
  same_long : {calls : List (Call kind × Answer)} {s : State R} → Reached kind reading (opened 0 rows₀ order₀ bounds₀) calls s → length (rows_in s) ≡ length rows₀
  same_long none_yet = refl
  same_long (next call r c) = (effect kind reading call c (few_reached kind reading rows₀ order₀ bounds₀ r)).same_long ∙ same_long r

  table_made : {calls : List (Call kind × Answer)} {s : State R} → Reached kind reading (opened 0 rows₀ order₀ bounds₀) calls s → table_of s ≡ made kind reading (short rows₀) calls
  table_made none_yet = refl
  table_made (next {s = s} {a = a} call r c) =
      (effect kind reading call c (few_reached kind reading rows₀ order₀ bounds₀ r)).table
      ∙ (ap (λ (l : ℕ). changed kind reading (ltb l 32) call a (table_of s)) (same_long r) ∙ ap (changed kind reading (short rows₀) call a) (table_made r))

pub tables_made : {R : Type 0} → TablesMade R
tables_made kind reading rows order bounds calls s r = table_made kind reading rows order bounds r

pub nothing_past : {R : Type 0} → NothingWrittenPast R
nothing_past kind reading call s t a h c = let e = effect kind reading call c h in (e.few, e.past)

module _ {R : Type 0} (kind : Kind R) {test : Answers R} (rules : TestRules kind test) {n q : ℕ} {rows : List R} {order bounds : List ℕ} (left : Found kind test n q rows order bounds) where
  -- an entry of the order names a task
  entry_below : (i : ℕ) → i < n → get_or order i 0 < n
  entry_below i h =
      let w : i < length (take n order) = omega (arith, length-take-le n order (omega (arith, left.few, left.long_order))) in
      let in_table : get_or (take n order) i 0 ∈ places n = mem-~ (holds kind test rules left).each_once (getD_in (take n order) i 0 w) in
      omega (arith, get_or-take n order i 0 h, place_below n (get_or (take n order) i 0) in_table)

  pub readable : Readable kind n q rows order bounds
  readable = record { lawful = left.lawful; levels = levels }
    where
      levels : (level : ℕ) → 1 ≤ level → level ≤ n → (a : Answer) (t : State R) → Read kind level (arranged n q rows order bounds) a t → a ≡ told (kind.ident (row_of kind (take n rows) (get_or order (level - 1) 0))) (get_or bounds (level - 1) 0)
      levels level low high a t (read_at p) = refl
      levels level low high a t (not_read {f = f} m) =
          let below : get_or order (level - 1) 0 < n = entry_below (level - 1) (omega arith) in
          absurd (not_met (read_checks kind n rows order bounds level) f
          (or_from _ _ (not_short rows left.long_rows) (or_from _ _ (not_short order left.long_order) (not_short bounds left.long_bounds)), (or_from _ _ (lt-leb level 0 low) (le-ltb n level high), (lt-leb n (get_or order (level - 1) 0) below, tt))) m)

pub arranged_readable : {R : Type 0} → ArrangedReadable R
arranged_readable kind reading rows₀ order₀ bounds₀ calls n q rows order bounds r =
    let (test, rules, by, left) = last_arrange kind reading rows₀ order₀ bounds₀ r in
    readable kind rules left
