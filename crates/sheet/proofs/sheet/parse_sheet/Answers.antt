use Rattle.std.proofs.Common.{arith, rules, length-take}
use Rattle.std.proofs.lemmas.Result.{MatchResult-weaker}
use Rattle.sheet.proofs.Replacing.{replaces}
use Rattle.sheet.proofs.sheet.parse_sheet.Goals as goal

pub returns : goal.returns
returns g c =
    rw c.blank_from.ensures (replaces g.R.Row.meaning.blank c.args.rows.now c.parse-read.new.rows (omega arith) (omega (arith, length-take 32 c.args.rows.now)) c.map_or.result c.parse-read.result c.parse-read.ensures.parses c.parse-read.ensures.few (MatchResult-weaker c.parse-read.result c.map_or.ensures (λ x e. search rules) (λ f e. e)))
