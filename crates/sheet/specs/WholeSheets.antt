-- The commands of whole rows. Assumes nothing.
use Rattle.std.specs.Prelude.{ℕ, Bool, cond, List, Some, None, ◌==◌}
use Rattle.model.specs.declared.whole.Whole.{Whole}
use Rattle.sheet.specs.declared.command.Effect.TheVariants.{Completes, Ends}
use Rattle.sheet.specs.declared.whole.WholeDraft.{WholeDraft}
use Rattle.sheet.specs.Bytes.{whole_task_byte, end_byte}
use Rattle.sheet.specs.Language.{Grammar}
use Rattle.sheet.specs.Operands.{two_at, four_at}

-- the letter of the test for whole rows: J
abbrev pub whole_letters : ℕ → Bool
whole_letters l = l == 0x4A

abbrev pub whole_row : List ℕ → Whole
whole_row xs = record { id = two_at xs 0; period = four_at xs 2; deadline = four_at xs 6; compute = four_at xs 10; suspend = four_at xs 14 }

abbrev pub whole_grammar : Grammar WholeDraft Whole
whole_grammar = record {
  start = record {};
  takes = λ d b. cond (b == whole_task_byte) (Some 18) (cond (b == end_byte) (Some 0) None);
  effect = λ d b xs. cond (b == whole_task_byte) (Completes (whole_row xs)) Ends;
  next = λ d b xs. d;
}
