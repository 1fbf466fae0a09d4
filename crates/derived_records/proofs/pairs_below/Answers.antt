use mathlib.Core.Path.{sym}
use Rattle.derived_records.proofs.Lists.{pairs_more, pairs_all}
use native.Mathlib.Omega.{arith}
use Rattle.derived_records.proofs.pairs_below.Goals as goal

pub loop-i-preserved : goal.loop-i-preserved
loop-i-preserved c = let a = c.args in
    pairs_more a.left a.right a.bytes.now a.at 3 a.n c.loop-i.i c.field_at.result
    c.field_at-in-loop-i.result (omega arith) c.field_at.ensures.is c.field_at-in-loop-i.ensures.is c.if-left-field_at.false c.if-right-field_at.false
    c.loop-i.invariant

pub returns : goal.returns
returns c = let a = c.args in sym (pairs_all a.left a.right a.bytes.now a.at 3 a.n c.loop-i.i (omega arith) c.loop-i.invariant)
