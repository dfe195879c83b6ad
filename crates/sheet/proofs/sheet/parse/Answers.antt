use Rattle.std.proofs.Common.{sym, ◌∙◌}
use Rattle.std.proofs.lemmas.List.{nil_from_length}
use Rattle.std.proofs.lemmas.Result.{err_from_is_err_and}
use Rattle.sheet.specs.Sheets.{no_kind, other_kind, no_letter, other_letter, body, body_refused}
use Rattle.sheet.proofs.sheet.parse.Goals as goal

pub returns-in_default-clause-parses : goal.returns-in_default-clause-parses
returns-in_default-clause-parses g c = no_kind (nil_from_length _ c.in_default.ensures.cases)

pub returns-then-kind-kind_byte-clause-parses : goal.returns-then-kind-kind_byte-clause-parses
returns-then-kind-kind_byte-clause-parses g c = other_kind c.in-Some.ensures.cases.0 (λ e. c.if-kind-kind_byte.true (e ∙ sym c.kind_byte.ensures))

pub returns-in_default-split_first-clause-parses : goal.returns-in_default-split_first-clause-parses
returns-in_default-split_first-clause-parses g c = let e = nil_from_length _ c.in_default-split_first.ensures.cases in no_letter (cc (e, c.in-Some.ensures.cases.0))

pub returns-then-not-takes_letter-clause-parses : goal.returns-then-not-takes_letter-clause-parses
returns-then-not-takes_letter-clause-parses g c =
    other_letter {letter = c.in-Some-split_first.letter.now} {rest = c.in-Some-split_first.commands.now} (cc (c.in-Some.ensures.cases.0, c.in-Some-split_first.ensures.cases.0)) (cc)

pub returns-in_err-count-clause-parses : goal.returns-in_err-count-clause-parses
returns-in_err-count-clause-parses g c =
    let p = err_from_is_err_and c.from_residual.result c.from_residual.ensures.1 in
    rw (p.1, p.2) (body_refused {letter = c.in-Some-split_first.letter.now} {rest = c.in-Some-split_first.commands.now} (cc (c.in-Some.ensures.cases.0, c.in-Some-split_first.ensures.cases.0)) (cc) c.in_err-count.ensures.parses)

pub returns-clause-parses : goal.returns-clause-parses
returns-clause-parses g c = body {rest = c.in-Some-split_first.commands.now} (cc (c.in-Some.ensures.cases.0, c.in-Some-split_first.ensures.cases.0)) (cc) c.in_ok-count.ensures.parses
