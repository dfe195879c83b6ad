use Rattle.std.proofs.Common.{refl}
use Rattle.std.specs.List.{AllByRecursion}
use Rattle.std.specs.Fmt.{digits}
use Rattle.worked.specs.Outside.{curves, answers, reports, CurveAgrees, AnswerAgrees, ReportAgrees}
use Rattle.worked.proofs.Agreeing.{all_agree, curve_computed, curve_given, curve_agrees, answer_computed, answer_given, answer_agrees, report_computed, report_given, report_agrees}
use Rattle.worked.proofs.outside_values_stand.Goals as goal

curves_hold : AllByRecursion CurveAgrees curves
curves_hold = all_agree curve_computed curve_given CurveAgrees curve_agrees curves refl

answers_hold : AllByRecursion AnswerAgrees answers
answers_hold = all_agree answer_computed answer_given AnswerAgrees answer_agrees answers refl

reports_hold : AllByRecursion ReportAgrees reports
unfolding digits
reports_hold = all_agree report_computed report_given ReportAgrees report_agrees reports refl

pub returns : goal.returns
returns c = record { curves_agree = curves_hold; answers_agree = answers_hold; reports_agree = reports_hold }
