use mathlib.Core.Path.{sym}
use native.Mathlib.Omega.{arith}
use lib.ListN.{get_or-eq_default, take}
use lib.Seq.{get_or-take, length-take-le}
use Rattle.reporting.proofs.sign_of.Goals as goal

pub overflow_cast-result : goal.overflow_cast-result
overflow_cast-result c = omega (arith, c.type_inv.signs c.args.node)

pub returns-then-node-count : goal.returns-then-node-count
returns-then-node-count c = let a = c.args in sym (get_or-take a.count a.signs.now a.node 0 c.if-node-count.true)

pub returns-else-node-count : goal.returns-else-node-count
returns-else-node-count c = let a = c.args in sym
    (get_or-eq_default (take a.count a.signs.now) 0 (rw (length-take-le a.count a.signs.now c.requires) (omega (arith, c.if-node-count.false))))
