use Rattle.std.proofs.lemmas.Result.{err_from_is_err_and}
use Rattle.admission.proofs.Admitted.{checkable}
use Rattle.checking.proofs.Checked.{check_answered, check_refused}
use Rattle.checking.proofs.check.Goals as goal

pub returns-in_err-network : goal.returns-in_err-network
returns-in_err-network c =
    let a = c.args in
    let p = err_from_is_err_and c.from_residual.result c.from_residual.ensures.1 in
    rw (p.1, p.2) (record { checks = check_refused a.net.now a.rows.now a.gained.now a.lost.now a.head.now c.in_err-network.field-0.0 c.in_err-network.ensures.admits })

pub is_coherent-yes-requires : goal.is_coherent-yes-requires
is_coherent-yes-requires c =
    let a = c.args in
    checkable a.net.now a.rows.now a.gained.now a.lost.now a.head.now c.in_ok-network.network c.in_ok-network.ensures.admits

pub returns : goal.returns
returns c =
    let a = c.args in
    record {
      checks = check_answered a.net.now a.rows.now a.gained.now a.lost.now a.head.now c.in_ok-network.network c.in_ok-network.ensures.admits c.is_coherent-yes.result c.is_coherent-yes.ensures.tells;
    }
