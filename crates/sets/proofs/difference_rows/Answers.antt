use Rattle.places.proofs.Places.{rows_ascend}
use Rattle.sets.proofs.Sets.{difference_fills}
use Rattle.sets.proofs.difference_rows.Goals as goal

pub returns : goal.returns
returns c = let a = c.args in λ w pl pr. difference_fills w a.left.now a.n a.right.now a.m pl pr _
    c.keep_rows.result (c.keep_rows.ensures (rows_ascend w a.left.now a.n pl))
