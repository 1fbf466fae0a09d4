use mathlib.Core.Path.{ap, subst, ◌∙◌}
use native.Mathlib.Omega.{arith}
use Rattle.model.specs.Calls.{ReportAnswer}
use Rattle.areas.specs.Lent.{lent}
use Rattle.bagwezin.specs.Answers.{AnswersReport}
use Rattle.bagwezin.proofs.Answered.{bytes_left, length_small, report_fits, report_told}
use Rattle.bagwezin.proofs.bagwezin_report.Goals as goal

pub pack_answer-requires : goal.pack_answer-requires
pack_answer-requires c =
    let a = c.args in
    let areas = lent a.rows.now a.gained.now a.lost.now a.head.now in
    length_small c.report-v.result c.report-v.new.out (report_fits a.net.now (λ i. omega (arith, c.type_inv.net i)) areas a.node a.out.now _ c.report-v.ensures.reports)

pub returns : goal.returns
returns c =
    let e = c.report-v.ensures.reports in
    let told = report_told c.report-v.result c.report-v.new.out c.pack_answer.result c.pack_answer.ensures in
    record { answers = subst (λ (x : ReportAnswer). AnswersReport x c.pack_answer.result) e told; bytes = bytes_left c.report-v.result c.report-v.new.out ∙ ap (λ (x : ReportAnswer). x.out) e }
