use mathlib.Core.Path.{sym}
use Rattle.derived_records.proofs.Lists.{below_more, below_all}
use native.Mathlib.Omega.{arith}
use Rattle.derived_records.proofs.columns_below.Goals as goal

pub loop-i-preserved : goal.loop-i-preserved
loop-i-preserved c = let a = c.args in
    below_more a.width a.bytes.now a.at a.k a.n c.loop-i.i c.field_at.result (omega arith)
    c.field_at.ensures.is c.if-width-field_at.false c.loop-i.invariant

pub returns : goal.returns
returns c = let a = c.args in sym (below_all a.width a.bytes.now a.at a.k a.n c.loop-i.i (omega arith) c.loop-i.invariant)
