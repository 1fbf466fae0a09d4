use native.Mathlib.Omega.{arith}
use Rattle.nodes.specs.Nodes.{pairs_of}
use Rattle.keys.specs.Keys.{side_columns}
use Rattle.keys.proofs.Keys.{keys_more}
use Rattle.keys.proofs.keys_of.Goals as goal

pub loop-i-preserved : goal.loop-i-preserved
loop-i-preserved c =
    let a = c.args in
    let l = c.loop-i in
    keys_more (side_columns a.side (pairs_of a.p a.pairs.now)) a.rows.now l.i l.keys c.key_of.result (omega arith) l.invariant c.key_of.ensures
