use Rattle.std.proofs.lemmas.Result.{err_from_is_err_and}
use Rattle.applying.proofs.Applied.{apply-refused, applicable, applied}
use Rattle.network.specs.Reading.{result_with}
use Rattle.areas.specs.Lent.{lent}
use Rattle.applying.proofs.apply.Goals as goal

pub returns-in_err-network : goal.returns-in_err-network
returns-in_err-network c =
    let a = c.args in
    let p = err_from_is_err_and c.from_residual.result c.from_residual.ensures.1 in
    rw (p.1, p.2) (record {
      applies = apply-refused a.net.now a.rows.now a.gained.now a.lost.now a.head.now a.batch.now c.in_err-network.field-0.0 c.in_err-network.ensures.admits;
    })

pub apply_batch-requires : goal.apply_batch-requires
apply_batch-requires c =
    let a = c.args in
    applicable a.net.now a.rows.now a.gained.now a.lost.now a.head.now a.batch.now c.in_ok-network.network c.in_ok-network.ensures.admits

pub returns : goal.returns
returns c =
    let a = c.args in
    let last = c.apply_batch.new in
    record {
      applies = applied a.net.now a.rows.now a.gained.now a.lost.now a.head.now a.batch.now c.in_ok-network.network c.in_ok-network.ensures.admits
          (result_with c.apply_batch.result (lent last.rows last.gained last.lost last.head)) c.apply_batch.ensures.applies;
    }
