use Rattle.std.proofs.lemmas.Result.{err_from_is_err_and}
use Rattle.admission.proofs.Admitted.{changes_admitted}
use Rattle.reporting.proofs.Reported.{report_known, report_refused}
use Rattle.reporting.proofs.report.Goals as goal

pub returns-in_err-network : goal.returns-in_err-network
returns-in_err-network c =
    let a = c.args in
    let p = err_from_is_err_and c.from_residual.result c.from_residual.ensures.1 in
    rw (p.1, p.2) (record {
      reports = report_refused a.net.now a.node a.rows.now a.gained.now a.lost.now a.head.now a.out.now c.in_err-network.field-0.0 c.in_err-network.ensures.admits;
    })

pub report_node-requires : goal.report_node-requires
report_node-requires c =
    let a = c.args in
    let f = c.in_ok-network.ensures.admits in
    (f.admitted.built, changes_admitted a.net.now a.rows.now a.gained.now a.lost.now a.head.now c.in_ok-network.network f)

pub returns : goal.returns
returns c =
    let a = c.args in
    record {
      reports = report_known a.net.now a.node a.rows.now a.gained.now a.lost.now a.head.now a.out.now c.in_ok-network.network c.in_ok-network.ensures.admits _ c.report_node.ensures;
    }
