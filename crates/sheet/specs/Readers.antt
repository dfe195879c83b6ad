-- What the reader's answers mean. Assumes nothing.
use Rattle.std.specs.Prelude.{ℕ, List, take, Ok, Err, Result}
use Rattle.table.specs.declared.fault.Fault.{Fault}
use Rattle.sheet.specs.Sheets.{Verdict, good, bad}
use Rattle.sheet.specs.Language.{Outcome, accepted, refused}

-- the whole: how many rows, or a fault
abbrev pub outcome_of : {R : Type 0} → List R → Result ℕ Fault → Outcome R
outcome_of rows (Ok n) = accepted (take n rows)
outcome_of rows (Err f) = refused f

-- the whole sheet: how many rows and the letter, or a fault
abbrev pub verdict_of : {R : Type 0} → List R → Result (ℕ × ℕ) Fault → Verdict R
verdict_of rows (Ok (n, letter)) = good (take n rows) letter
verdict_of rows (Err f) = bad f
