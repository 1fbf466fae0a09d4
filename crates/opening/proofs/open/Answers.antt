use Rattle.std.proofs.lemmas.Result.{err_from_is_err_and}
use Rattle.areas.specs.Lent.{lent}
use Rattle.opening.proofs.Opening.{open_cleared, open_refused, open_short}
use Rattle.opening.proofs.open.Goals as goal

pub returns-then-not-long_enough : goal.returns-then-not-long_enough
returns-then-not-long_enough c =
    let a = c.args in
    rw c.at.ensures (record { opens = open_short a.net.now (lent a.rows.now a.gained.now a.lost.now a.head.now) c.long_enough.result c.long_enough.ensures.tells (rw c.if-not-long_enough.true) })

pub returns-in_err-read_network : goal.returns-in_err-read_network
returns-in_err-read_network c =
    let a = c.args in
    let p = err_from_is_err_and c.from_residual.result c.from_residual.ensures.1 in
    rw (p.1, p.2) (record {
      opens = open_refused a.net.now (lent a.rows.now a.gained.now a.lost.now a.head.now) c.long_enough.result c.long_enough.ensures.tells (rw c.if-not-long_enough.false)
          c.in_err-read_network.field-0.0 c.in_err-read_network.ensures.reads;
    })

pub returns : goal.returns
returns c =
    let a = c.args in
    record {
      opens = open_cleared a.net.now (lent a.rows.now a.gained.now a.lost.now a.head.now) c.long_enough.result c.long_enough.ensures.tells (rw c.if-not-long_enough.false)
          c.in_ok-read_network.field-0 c.in_ok-read_network.ensures.reads (lent c.clear.new.rows c.clear.new.gained c.clear.new.lost c.clear.new.head) c.clear.ensures;
    }
