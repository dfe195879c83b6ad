-- One more byte is spelled at each turn, or no byte is spelled by a pair.
use Rattle.std.proofs.Common.{◌≡◌, ℕ, ◌+◌, ◌*◌, ◌/◌, ◌<◌, ◌≢◌, List, [], length, get_or, drop, zero, suc, ap, ◌∙◌, arith, get_or-set_other, get_or-set_same, below_more, lit<}
use Rattle.std.specs.Simd.{first_chunks}
use Rattle.std.proofs.lemmas.List.{drop-set-lt, get_or-take, get_or-drop}
use Rattle.hexadecimal.proofs.decode.Goals as goal

-- Each pair has the text's two digits at its place.
digits : (count : ℕ) (text : List ℕ) (k : ℕ) → k < count
    → (get_or (get_or (first_chunks 2 count text) k []) 0 0 ≡ get_or text (2 * k) 0) × (get_or (get_or (first_chunks 2 count text) k []) 1 0 ≡ get_or text (2 * k + 1) 0)
digits zero text k few = absurd (omega arith)
digits (suc count) text zero few = (get_or-take 2 text 0 0 (lit< tt), get_or-take 2 text 1 0 (lit< tt))
digits (suc count) text (suc k) few =
    let (high, low) = digits count (drop 2 text) k (omega arith) in
    (rw (high, get_or-drop) (ap (λ n. get_or text n 0) (omega arith)), rw (low, get_or-drop) (ap (λ n. get_or text n 0) (omega arith)))

pub loop-i-preserved : goal.loop-i-preserved
loop-i-preserved c =
    let (high, low) = digits (length c.args.text.now / 2) c.args.text.now c.loop-i.i (omega (arith, c.as_chunks.ensures.front_len)) in (
      below_more
          _
          _
          (λ k h. let ne : k ≢ c.loop-i.i = omega arith in rw get_or-set_other (c.loop-i.invariant.0 k h))
          (let lt : c.loop-i.i < length c.loop-i.memory = omega arith in
          rw get_or-set_same (rw (c.as_chunks.ensures.front, high, low) at c.in_ok-memory.ensures)),
      drop-set-lt _ c.loop-i.memory c.loop-i.i _ (omega arith) ∙ c.loop-i.invariant.1,
    )

pub returns-in_err-memory : goal.returns-in_err-memory
returns-in_err-memory c =
    let (high, low) = digits (length c.args.text.now / 2) c.args.text.now c.loop-i.i (omega (arith, c.as_chunks.ensures.front_len)) in
    rw c.from_residual.ensures λ bytes short spells.
    (rw (c.as_chunks.ensures.front, high, low) at c.in_err-memory.ensures) (get_or bytes c.loop-i.i 0) (spells.each c.loop-i.i (omega arith))
