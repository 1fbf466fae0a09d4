use Rattle.std.proofs.lemmas.Result.{err_from_is_err_and}
use Rattle.reader.proofs.Answered.{answered, answered-refused}
use Rattle.reader.proofs.read.Goals as goal

pub returns-in_err-network : goal.returns-in_err-network
returns-in_err-network c =
    let p = err_from_is_err_and c.from_residual.result c.from_residual.ensures.1 in
    rw (p.1, p.2) (record { answers = answered-refused c.args.bytes.now c.in_err-network.field-0.0 c.in_err-network.ensures.reads })

pub returns : goal.returns
returns c =
    let n = c.in_ok-network in
    record { answers = answered c.args.bytes.now n.network c.kinds_of.result n.ensures.reads c.kinds_of.ensures }
