use Rattle.std.proofs.Common.{◌≡◌, ℕ, ◌+◌, ◌-◌, ◌^◌, ◌<◌, ◌≤◌, true, List, length, None, sym, refl, ap, ◌∙◌, subst, arith, rules}
use lib.Bits.{bit_or}
use Rattle.std.proofs.lemmas.Nat.{pow_pos}
use Rattle.std.proofs.lemmas.Bool.{and_from, le-leb}
use Rattle.feasibility.specs.Masks.{row_of, bit_at, has, in_mask, asked}
use Rattle.assign.specs.Assignment.{under_others}
use Rattle.feasibility.proofs.Bits.{or_back}
use Rattle.assign.proofs.MaskedPools.{asked_others}
use Rattle.assign.specs.Search.{has_room}
use Rattle.assign.proofs.Invariants.{Failed}
use Rattle.assign.proofs.Steps.{bit_in, bit_out, count_yes, count_no, count_full, begun, none_failed, failed_yes, failed_no, stepped, accepts, sticks}
use Rattle.assign.proofs.Verdicts.{tells_stuck, tells_accepted, largest, none_fits, fitted, some_fits}
use Rattle.assign.proofs.search.assign.Goals as goal

roomy : {R : Type 0} (rows : List R) (order bounds : List ℕ) → length rows ≤ 32 → length rows ≤ length order → length rows ≤ length bounds → has_room rows order bounds ≡ true
roomy rows order bounds few o b = and_from _ _ (le-leb (length rows) 32 few) (and_from _ _ (le-leb (length rows) (length order) o) (le-leb (length rows) (length bounds) b))

pub levels-init : goal.levels-init
levels-init g c =
    let n : ℕ = length c.args.rows.now in
    let pos : 0 < 2 ^ n = pow_pos n in (
      omega arith,
      omega arith,
      omega arith,
      count_full c.full-pool.result n c.full-pool.ensures,
      begun g.R.Row.meaning g.Q.Test.answers c.args.rows.now c.args.order.now c.args.bounds.now c.full-pool.result c.full-pool.ensures,
    )

pub candidates-init : goal.candidates-init
candidates-init g c = (refl, omega arith, refl, omega arith, omega arith, none_failed g.R.Row.meaning g.Q.Test.answers c.args.rows.now c.levels.pool)

pub returns-in_default : goal.returns-in_default
returns-in_default g c =
    let room = roomy c.args.rows.now c.args.order.now c.args.bounds.now (omega arith) (omega arith) (omega arith) in
    let s = sticks g.R.Row.meaning g.Q.Test.answers c.args.rows.now c.args.order.now c.args.bounds.now c.levels.order c.levels.bounds c.levels.level c.levels.pool c.candidates.pool c.levels.questions c.candidates.questions c.candidates.places.start
    c.levels.invariant.4 (omega arith) c.levels.invariant.3 c.levels.invariant.2 c.candidates.invariant.2 (omega (arith, c.in_default.ensures)) c.candidates.invariant.3 c.candidates.invariant.5 room in
    record { searched = s; tells = λ _. tells_stuck g.R.Row.meaning g.Q.Test.answers c.args.rows.now s; means = largest g.R.Row.meaning g.Q.Test.answers c.args.rows.now g.met.Q.Test.keeps s; exactly = λ _. none_fits g.R.Row.meaning g.Q.Test.answers c.args.rows.now g.met.Q.Test.keeps s }

pub candidates-preserved-then-holds : goal.candidates-preserved-then-holds
candidates-preserved-then-holds g c =
    let k = g.R.Row.meaning in
    let t = g.Q.Test.answers in
    let rows = c.args.rows.now in
    let p : ℕ = c.levels.pool in
    let x : ℕ = c.in-Some.place in
    let steps = c.in-Some.ensures.steps in
    let here : c.candidates.places.start ≡ x = omega (arith, steps) in
    let next : c.next.new.self.start ≡ x + 1 = omega (arith, steps) in
    let same : c.candidates.pool ≡ p = c.candidates.invariant.2 in
    let bit : bit_at p x ≡ 1 = bit_in p x (ap (λ n. has n x) (sym same) ∙ sym c.if-holds.ensures) in
    let rest : c.rest.result ≡ p - 2 ^ x = cc in
    let none : asked k t rows x (p - 2 ^ x) ≡ None = sym (c.in_default-bound.ensures ∙ ap (asked k t rows x) rest) in
    let fails : under_others t.answer (row_of k rows) (in_mask p (length rows)) x ≡ None = sym (asked_others k t rows p x (omega (arith, steps)) c.levels.invariant.2 bit) ∙ none in
    let put = rw c.take-candidate.ensures.made.1 at c.drop-candidate-then-holds.ensures in
    let back : c.drop-candidate-then-holds.new.self.0 ≡ p = put ∙ ap (λ n. bit_or n (2 ^ x)) (c.take-candidate.ensures.made.0 ∙ ap (λ n. n - 2 ^ x) same) ∙ or_back p x bit in
    let asks : length (in_mask p c.next.new.self.start) ≡ length (in_mask p x) + 1 = ap (λ n. length (in_mask p n)) next ∙ count_yes p x bit in
    let so_far : length (in_mask p c.candidates.places.start) ≡ length (in_mask p x) = ap (λ n. length (in_mask p n)) here in (
      omega (arith, steps),
      omega (arith, steps),
      search rules,
      omega arith,
      omega (arith, steps),
      subst (Failed k t rows p) (sym next) (failed_yes k t rows p x (subst (Failed k t rows p) here c.candidates.invariant.5) bit fails),
    )

pub candidates-preserved : goal.candidates-preserved
candidates-preserved g c =
    let k = g.R.Row.meaning in
    let t = g.Q.Test.answers in
    let rows = c.args.rows.now in
    let p : ℕ = c.levels.pool in
    let x : ℕ = c.candidates.places.start in
    let same : c.candidates.pool ≡ p = c.candidates.invariant.2 in
    let bit : bit_at p x ≡ 0 = bit_out p x (ap (λ n. has n x) (sym same) ∙ ap (has c.candidates.pool) (omega (arith, c.in-Some.ensures.steps)) ∙ sym c.if-holds.ensures) in
    let more : length (in_mask p (x + 1)) ≡ length (in_mask p x) = count_no p x bit in
    let next : c.next.new.self.start ≡ x + 1 = omega (arith, c.in-Some.ensures.steps) in
    let asks : length (in_mask p c.next.new.self.start) ≡ length (in_mask p x) = ap (λ n. length (in_mask p n)) next ∙ more in (
      omega (arith, c.in-Some.ensures.steps),
      omega (arith, c.in-Some.ensures.steps),
      same,
      omega arith,
      omega arith,
      subst (Failed k t rows p) (sym next) (failed_no k t rows p x c.candidates.invariant.5 bit),
    )

pub levels-preserved : goal.levels-preserved
levels-preserved g c =
    let k = g.R.Row.meaning in
    let t = g.Q.Test.answers in
    let rows = c.args.rows.now in
    let p : ℕ = c.levels.pool in
    let x : ℕ = c.in-Some.place in
    let here : c.candidates.places.start ≡ x = omega (arith, c.in-Some.ensures.steps) in
    let same : c.candidates.pool ≡ p = c.candidates.invariant.2 in
    let bit : bit_at p x ≡ 1 = bit_in p x (ap (λ n. has n x) (sym same) ∙ sym c.if-holds.ensures) in
    let rest : c.rest.result ≡ p - 2 ^ x = cc in
    let before = λ (n : ℕ). length (in_mask p n) in
    stepped k t rows c.args.order.now c.args.bounds.now c.levels.order c.levels.bounds c.levels.level p c.candidates.pool c.levels.questions x c.in-Some-bound.bound c.candidates.questions
    c.levels.invariant.4 (search rules) same bit (omega (arith, c.in-Some.ensures.steps)) c.levels.invariant.2 (subst (Failed k t rows p) here c.candidates.invariant.5) (c.in-Some-bound.ensures ∙ ap (asked k t rows x) rest)
    (omega (arith, ap before here)) (omega (arith, ap before here))
    (omega arith) (omega arith) (omega arith) (omega arith) (omega arith) c.levels.invariant.3 c.levels.invariant.1

pub returns : goal.returns
returns g c =
    let room = roomy c.args.rows.now c.args.order.now c.args.bounds.now (omega arith) (omega arith) (omega arith) in
    let s = accepts g.R.Row.meaning g.Q.Test.answers c.args.rows.now c.args.order.now c.args.bounds.now c.levels.order c.levels.bounds c.levels.level c.levels.pool c.levels.questions c.levels.invariant.4 (omega arith) c.levels.invariant.3 room in
    record { searched = s; tells = λ _. tells_accepted g.R.Row.meaning g.Q.Test.answers c.args.rows.now s; means = fitted g.R.Row.meaning g.Q.Test.answers c.args.rows.now g.met.Q.Test.keeps s; exactly = λ _. some_fits g.R.Row.meaning g.Q.Test.answers c.args.rows.now g.met.Q.Test.keeps s }
