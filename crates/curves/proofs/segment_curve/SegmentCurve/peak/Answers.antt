use Rattle.std.proofs.Common.{◌≡◌, ℕ, ◌-◌, min, sym, ◌∙◌, subst, ap₂, arith}
use Rattle.model.specs.Rows.{limit}
use Rattle.model.specs.SegmentedRows.{segmented_shape}
use Rattle.model.specs.declared.segmented.Segmented.{Segmented}
use Rattle.curves.specs.SegmentCurve.{greatest, row_work, segment_peak, PeakOfPhases}
use Rattle.curves.specs.SegmentRules.{greatest_higher, greatest_kept, at_lawful, by_number}
use Rattle.curves.proofs.RowSegments.{LawfulRow, limits, count_is}
use Rattle.curves.proofs.segment_curve.SegmentCurve.peak.Goals as goal
use Rattle.curves.proofs.segment_curve.SegmentCurve.peak.Goals.{then-best-work, else-best-work}

pub work_of-requires : goal.work_of-requires
work_of-requires c =
    let law : LawfulRow c.args.row.now = cc in
    record { known = (limits c.args.row.now law).some; short = omega arith }

pub loop-phase-init : goal.loop-phase-init
loop-phase-init c = λ i. (c.work_of.ensures i, 0)

pub loop-phase-preserved : goal.loop-phase-preserved
loop-phase-preserved c =
    let work = row_work segmented_shape c.args.row.now c.min-window.result in
    elim c.if-best-work.branch [
      | then-best-work w ↦
          w.best-is
          ∙ greatest_higher work c.loop-phase.phase c.loop-phase.best c.work_of-work.result c.loop-phase.auto.phase c.loop-phase.invariant c.work_of-work.ensures (omega (arith, w.if-best-work.true))
      | else-best-work w ↦
          w.best-is
          ∙ greatest_kept work c.loop-phase.phase c.loop-phase.best c.work_of-work.result c.loop-phase.auto.phase c.loop-phase.invariant c.work_of-work.ensures (omega (arith, w.if-best-work.false))
    ]

-- all phases seen, the best is the peak
found : (x : Segmented) (t window phase : ℕ) (best : ℕ × ℕ) → LawfulRow x → window ≡ min t limit → phase ≡ x.count
    → best ≡ greatest (row_work segmented_shape x window) (phase - 1) → best ≡ segment_peak segmented_shape x t
found x t window phase best law e f is =
    is ∙ ap₂ (λ u m. greatest (row_work segmented_shape x u) (m - 1)) e (f ∙ sym (count_is x (limits x law).some)) ∙ sym (at_lawful segmented_shape x t law)

pub returns : goal.returns
returns c =
    let x = c.args.row.now in
    let law : LawfulRow c.args.row.now = cc in
    let some = (limits c.args.row.now law).some in
    let is = found c.args.row.now c.args.t c.min-window.result c.loop-phase.phase c.loop-phase.best law c.min-window.ensures
    (omega (arith, c.loop-phase.auto.phase-end some)) c.loop-phase.invariant in
    record { computed = is; highest = subst (λ (r : ℕ × ℕ). PeakOfPhases segmented_shape c.args.row.now c.args.t r) (sym is) (by_number segmented_shape c.args.row.now c.args.t) }
