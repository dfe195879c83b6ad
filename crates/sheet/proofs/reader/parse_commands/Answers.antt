use Rattle.std.proofs.Common.{◌≡◌, ◌<◌, take, sym, ◌∙◌, arith, rules}
use Rattle.std.proofs.lemmas.List.{nil_from_length, take_rest}
use Rattle.std.proofs.lemmas.Result.{err_from_is_err_and}
use Rattle.table.specs.Tables.{append_refusal}
use Rattle.table.specs.declared.fault.Fault.TheVariants.{RowInSheet}
use Rattle.table.proofs.Appends.{not_full}
use Rattle.sheet.specs.Commands.{fault_at}
use Rattle.sheet.specs.Language.{missing, stop, move, refused}
use Rattle.sheet.specs.declared.command.Effect.TheVariants.{Continues, TooManySegments}
use Rattle.sheet.proofs.Steps.{bad_at, good_at, ended_at, trailing_at, barred_at, enters_at, mapped_ok, mapped_err}
use Rattle.sheet.proofs.reader.parse_commands.Goals as goal

pub returns-in_default-clause-parses : goal.returns-in_default-clause-parses
returns-in_default-clause-parses g c = c.loop-byte.invariant.reads _ (stop (missing (nil_from_length _ c.in_default.ensures.cases)))

pub returns-in_err-effect-clause-parses : goal.returns-in_err-effect-clause-parses
returns-in_err-effect-clause-parses g c =
    let p = err_from_is_err_and c.from_residual.result c.from_residual.ensures.1 in
    let (b, is, maps) = mapped_err _ c.in_err-effect.was c.map_err.ensures.cases in
    let h : c.in_err-effect.field-0.0 ≡ fault_at b c.loop-byte.place = search rules in
    rw (p.1, p.2, h) (c.loop-byte.invariant.reads (refused (fault_at b c.loop-byte.place)) (stop (bad_at g.R.Draft.Draft.grammar (append_refusal g.R.Row.meaning) c.loop-byte.draft (take c.loop-byte.count c.loop-byte.rows) c.loop-byte.place c.in-Some.ensures.cases.0 b (sym is ∙ c.command-answer.ensures.does))))

pub returns-in_err-map_err-in-Completes-clause-parses : goal.returns-in_err-map_err-in-Completes-clause-parses
returns-in_err-map_err-in-Completes-clause-parses g c =
    let p = err_from_is_err_and c.from_residual-in_err-map_err-in-Completes.result c.from_residual-in_err-map_err-in-Completes.ensures.1 in
    let done = mapped_ok _ c.in_ok-effect.was c.map_err.ensures.cases in
    let (b, is, maps) = mapped_err _ c.in_err-map_err-in-Completes.was c.map_err-in-Completes.ensures.cases in
    let fault = RowInSheet b c.loop-byte.place in
    let h : c.in_err-map_err-in-Completes.field-0.0 ≡ fault = search rules in
    rw (p.1, p.2, h) (c.loop-byte.invariant.reads (refused fault) (stop {o = refused fault} (barred_at g.R.Draft.Draft.grammar g.R.Row.meaning c.loop-byte.draft c.loop-byte.rows c.loop-byte.count c.loop-byte.place (omega arith) (omega arith) c.in-Some.ensures.cases.0 c.in-Completes.row c.in_ok-effect.width (search rules) b (rw is at c.append.ensures).0)))

pub returns-in-Ends-clause-parses : goal.returns-in-Ends-clause-parses
returns-in-Ends-clause-parses g c =
    let done = mapped_ok _ c.in_ok-effect.was c.map_err.ensures.cases in
    c.loop-byte.invariant.reads _ (stop (ended_at _ _ _ _ _ c.in-Some.ensures.cases.0 c.in_ok-effect.width (search rules) (search (rules, take_rest))))

pub returns-in-Ends-2-clause-parses : goal.returns-in-Ends-2-clause-parses
returns-in-Ends-2-clause-parses g c =
    let done = mapped_ok _ c.in_ok-effect.was c.map_err.ensures.cases in
    c.loop-byte.invariant.reads _ (stop (trailing_at _ _ _ _ _ c.in-Some.ensures.cases.0 c.in_ok-effect.width (search rules) (search (rules, take_rest))))

pub returns-in-TooManySegments-clause-parses : goal.returns-in-TooManySegments-clause-parses
returns-in-TooManySegments-clause-parses g c =
    let done = mapped_ok _ c.in_ok-effect.was c.map_err.ensures.cases in
    c.loop-byte.invariant.reads _ (stop (good_at _ _ _ _ _ c.in-Some.ensures.cases.0 TooManySegments c.in_ok-effect.width (search rules)))

pub loop-byte-preserved-in-Continues : goal.loop-byte-preserved-in-Continues
loop-byte-preserved-in-Continues g c =
    let done = mapped_ok _ c.in_ok-effect.was c.map_err.ensures.cases in
    record {
      reads = λ o r. c.loop-byte.invariant.reads o (move (good_at _ _ _ _ _ c.in-Some.ensures.cases.0 Continues c.in_ok-effect.width (search rules)) (rw (take_rest c.in-Some.rest.now c.in_ok-effect.width, c.command-answer.ensures.leaves) at r));
      within = search rules;
      few = search rules;
    }

pub loop-byte-preserved : goal.loop-byte-preserved
loop-byte-preserved g c =
    let done = mapped_ok _ c.in_ok-effect.was c.map_err.ensures.cases in
    let put = rw (mapped_ok _ c.in_ok-map_err-in-Completes.was c.map_err-in-Completes.ensures.cases) at c.append.ensures in
    let few : c.loop-byte.count < 32 = not_full g.R.Row.meaning c.loop-byte.rows c.loop-byte.count c.in-Completes.row (omega arith) put.0 in
    let adds = enters_at g.R.Draft.Draft.grammar g.R.Row.meaning c.loop-byte.draft c.loop-byte.rows c.loop-byte.count c.loop-byte.place (omega arith) (omega arith) c.in-Some.ensures.cases.0 c.in-Completes.row c.in_ok-effect.width (search rules) put.0 in
    record { reads = λ o r. c.loop-byte.invariant.reads o (move adds (rw (take_rest c.in-Some.rest.now c.in_ok-effect.width, c.command-answer.ensures.leaves, put.1) at r)); within = search rules; few = omega arith }
