-- One command, by its first byte and the bytes after that. Assumes nothing.
use Rattle.std.specs.Prelude.{ℕ, cond, List, length, take, Some, None, Ok, Err, Option, Result, nat_lt}
use Rattle.table.specs.declared.fault.Fault.{Fault}
use Rattle.table.specs.Faults.{not_allowed_at, cut_at}
use Rattle.sheet.specs.declared.command.CommandFault.{CommandFault}
use Rattle.sheet.specs.declared.command.CommandFault.TheVariants.{NotAllowed, Cut}
use Rattle.sheet.specs.declared.command.Effect.{Effect}
use Rattle.sheet.specs.Language.{Grammar}

-- the sheet's fault, with the place of the command
abbrev pub fault_at : CommandFault → ℕ → Fault
fault_at NotAllowed place = not_allowed_at place
fault_at Cut place = cut_at place

-- with the number of operand bytes, if the command is allowed
abbrev pub answer_with : {S R : Type 0} → Grammar S R → S → ℕ → List ℕ → Option ℕ → Result (Effect R × ℕ) CommandFault
answer_with g s byte rest None = Err NotAllowed
answer_with g s byte rest (Some n) = cond (nat_lt (length rest) n) (Err Cut) (Ok (g.effect s byte (take n rest), n))

abbrev pub left_with : {S R : Type 0} → Grammar S R → S → ℕ → List ℕ → Option ℕ → S
left_with g s byte rest None = s
left_with g s byte rest (Some n) = cond (nat_lt (length rest) n) s (g.next s byte (take n rest))

-- the effect of the command and its operand bytes, or what is wrong with it; and the draft after it
abbrev pub command_answer : {S R : Type 0} → Grammar S R → S → ℕ → List ℕ → Result (Effect R × ℕ) CommandFault
command_answer g s byte rest = answer_with g s byte rest (g.takes s byte)

abbrev pub command_left : {S R : Type 0} → Grammar S R → S → ℕ → List ℕ → S
command_left g s byte rest = left_with g s byte rest (g.takes s byte)
