-- Each line that is read is one less to come.
use Rattle.std.proofs.Common.{arith, sym, subst}
use Rattle.sheet_damage.proofs.Lines.{Left, after_head, left_after, ended}
use Rattle.sheet_damage.proofs.read_back.read_report.Goals as goal
use Rattle.sheet_damage.proofs.read_back.read_report.Goals.{else-loop-level-test, then-loop-level-test+in_ok-next+in_ok-read_level+else-branch-level+else-level-tasks}

pub returns-then-starts_with : goal.returns-then-starts_with
returns-then-starts_with c =
    let (n, left, same) = after_head _ _ _ _ c.in_ok-head.head c.in_ok-strip_suffix.ensures.cases c.split-lines.ensures.text c.split-lines.ensures.has_more c.split-lines.ensures.pattern c.in_ok-head.ensures.steps in
    rw c.then_some.ensures (ended _ _ _ _ n _ _ left c.next-then-starts_with.ensures.steps c.is_none.ensures (λ none. omega (arith, same, none)))

pub loop-level-init : goal.loop-level-init
loop-level-init c =
    let (n, left, same) = after_head _ _ _ _ c.in_ok-head.head c.in_ok-strip_suffix.ensures.cases c.split-lines.ensures.text c.split-lines.ensures.has_more c.split-lines.ensures.pattern c.in_ok-head.ensures.steps in
    (n, left, same, omega arith)

pub loop-level-preserved : goal.loop-level-preserved
loop-level-preserved c =
    let (n, left, same, few) = c.loop-level.invariant in
    let (m, less, rest) = left_after _ _ c.in_ok-next.field-0 n left c.in_ok-next.ensures.steps in
    (m, rest, omega (arith, same, less), omega arith)

pub returns : goal.returns
returns c =
    let (n, left, same, few) = c.loop-level.invariant in
    elim c.loop-level-test.branch [
      | else-loop-level-test w ↦
          let here = subst (λ s. Left s n) (sym w.lines-is) left in
          rw c.then_some-2.ensures (ended _ _ _ _ n _ _ here c.next-2.ensures.steps c.is_none-2.ensures (λ none. omega (arith, same, few, none)))
      | then-loop-level-test+in_ok-next+in_ok-read_level+else-branch-level+else-level-tasks w ↦
          let (m, less, rest) = left_after _ _ w.in_ok-next.field-0 n left w.in_ok-next.ensures.steps in
          let here = subst (λ s. Left s m) (sym w.lines-is) rest in
          rw c.then_some-2.ensures (ended _ _ _ _ m _ _ here c.next-2.ensures.steps c.is_none-2.ensures (λ none. omega (arith, same, less, none)))
    ]
