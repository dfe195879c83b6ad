use Rattle.std.proofs.Common.{◌+◌, ◌^◌, ◌<◌, ◌≤◌, [], length, take}
use Rattle.table.specs.Tables.{append_refusal}
use Rattle.sheet.specs.Language.{Outcome, Parses}
use Rattle.sheet.proofs.reader.parse_commands.Given as goal

abbrev pub invariant-loop-byte : goal.invariant-loop-byte
invariant-loop-byte g l = record {
  reads : (o : Outcome g.row.R.Denot) → Parses g.R.Draft.Draft.grammar (append_refusal g.R.Row.meaning) l.draft (take l.count l.rows) l.place l.commands o → Parses g.R.Draft.Draft.grammar (append_refusal g.R.Row.meaning) g.R.Draft.Draft.grammar.start [] l.fn.place l.fn.commands o;
  within : l.place + length l.commands < 2 ^ 64;
  few : l.count ≤ 32;
}

abbrev pub decreases-loop-byte : goal.decreases-loop-byte
decreases-loop-byte g l = length l.commands
