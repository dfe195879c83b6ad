use Rattle.std.proofs.Common.{◌≡◌, sym, arith, rules}
use Rattle.table.specs.Refusals.{refusal_number}
use Rattle.table.specs.Faults.{fault_refusal, fault_layer, fault_place, fault_inner}
use Rattle.report.proofs.Memory.{appends_join}
use Rattle.report.proofs.refused.report_refusal.Goals as goal

pub returns-clause-reported : goal.returns-clause-reported
returns-clause-reported c =
    let number : c.number.result ≡ refusal_number (fault_refusal c.args.fault) = cc in
    let layer : c.layer.result ≡ fault_layer c.args.fault = cc in
    let inner : c.inner.result ≡ fault_inner c.args.fault = cc in
    let place : c.place.result ≡ fault_place c.args.fault = cc in
    let all = rw (number, inner, layer, place) at (appends_join c.text.ensures (appends_join c.number-2.ensures.appends (appends_join c.put_inner.ensures.appends (appends_join c.put_site.ensures.appends c.text-2.ensures)))) in
    (c.if-memory-lt-REPORT_BYTES.false, omega (arith, all.puts.place), let tie = sym all.same in search rules)
