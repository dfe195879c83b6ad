-- A text that begins otherwise than a decimal number is none, and `parse` reads the others.
use Rattle.std.proofs.Common.{◌≡◌, ◌≤◌, length, get_or, rules}
use Rattle.sheet_damage.proofs.Numbers.{number_read, unwritten_empty, unwritten_plus, unwritten_zero}
use Rattle.sheet_damage.proofs.read_back.read_number.Goals as goal
use Rattle.sheet_damage.proofs.read_back.read_number.Goals.{then-is_empty-via-then-is_empty, then-is_empty-via-else-is_empty+then-text-eq43, else-text-eq48-via-then-text-eq48+else-text-gt1, else-text-eq48-via-else-text-eq48}

pub returns-then-is_empty : goal.returns-then-is_empty
returns-then-is_empty c =
    let same = c.as_bytes-text.ensures.value in
    elim c.then-is_empty.branch [
      | then-is_empty-via-then-is_empty w ↦ unwritten_empty c.args.field.now (search rules)
      | then-is_empty-via-else-is_empty+then-text-eq43 w ↦ unwritten_plus c.args.field.now (rw same at w.if-text-eq43.true)
    ]

pub returns-then-text-gt1 : goal.returns-then-text-gt1
returns-then-text-gt1 c =
    let same = c.as_bytes-text.ensures.value in
    unwritten_zero c.args.field.now (rw same at c.if-text-eq48.true) (rw same at c.if-text-gt1.true)

pub returns : goal.returns
returns c =
    let same = c.as_bytes-text.ensures.value in
    let short : get_or c.args.field.now 0 0 ≡ 48 → length c.args.field.now ≤ 1 = λ zero.
    elim c.else-text-eq48.branch [
      | else-text-eq48-via-then-text-eq48+else-text-gt1 w ↦ rw same at w.if-text-gt1.false
      | else-text-eq48-via-else-text-eq48 w ↦ absurd ((rw same at w.if-text-eq48.false) zero)
    ] in
    let read = number_read c.args.field.now c.parse.result c.parse.ensures.value.0 (rw same at c.if-text-eq43.false) short in
    rw c.ok.ensures.value read
