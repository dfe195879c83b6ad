use Rattle.std.proofs.Common.{rules, ◌≡◌, ◌+◌, ◌-◌, ◌&&◌, true, ◌++◌, replicate, length, take, drop, arith, ap, ◌∙◌, sym, length-take-le, length-drop}
use Rattle.std.proofs.lemmas.Bool.{cond-true}
use Rattle.std.proofs.lemmas.List.{append_assoc, drop-drop}
use Rattle.std.specs.Prelude.{nat_le}
use Rattle.table.specs.Tables.{written}
use Rattle.table.proofs.Parts.{filled}
use Rattle.table.proofs.rows.blank_from.Goals as goal

pub returns : goal.returns
returns g c =
    let from = c.args.from in
    let rows = c.args.rows.now in
    let blank = g.R.Row.meaning.blank in
    let whole : from + (32 - from) ≡ 32 = omega arith in
    let few : length (take from rows) ≡ from = length-take-le from rows (omega arith) in
    let rest : drop (32 - from) (drop from rows) ≡ drop 32 rows = drop-drop (32 - from) from rows ∙ ap (λ n. drop n rows) whole in
    let long : length c.fill_with.new.self ≡ 32 - from = omega (arith, length-take-le (32 - from) (drop from rows) (omega (arith, length-drop from rows))) in
    let both : (nat_le 32 (length rows) && nat_le from 32) ≡ true = search rules in
    let is : written blank (take from rows) rows ≡ take from rows ++ (replicate (32 - from) blank ++ drop 32 rows) = rw few (simp append_assoc) in
    rw (filled _ blank (λ p q x s. search rules) _ _ _ c.fill_with.ensures.ran.1, long, rest) (sym (cond-true _ (written blank (take from rows) rows) rows both ∙ is))
