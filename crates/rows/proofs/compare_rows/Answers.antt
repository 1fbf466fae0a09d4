use Prim.Native.Nat.{◌+◌, ◌*◌}
use mathlib.Core.Path.{◌≡◌, sym}
use native.Mathlib.Omega.{arith}
use Rattle.rows.specs.Rows.{row_at}
use Rattle.rows.proofs.Words.{agree_none, agree_all}
use Rattle.rows.proofs.Pairs.{pair_more, pair_less, pair_greater}
use Rattle.rows.proofs.compare_rows.Goals as goal

pub loop-k-init : goal.loop-k-init
loop-k-init c = agree_none _ _ _ _ _

pub returns-then-x-y : goal.returns-then-x-y
unfolding row_at
returns-then-x-y c = sym (pair_less _ _ _ _ _ (2 * c.loop-k.k) _ _ (omega arith) c.pair-x.ensures c.pair-y.ensures c.loop-k.invariant c.if-x-y.true)

pub returns-then-y-x : goal.returns-then-y-x
unfolding row_at
returns-then-y-x c = sym (pair_greater _ _ _ _ _ (2 * c.loop-k.k) _ _ (omega arith) c.pair-x.ensures c.pair-y.ensures c.loop-k.invariant c.if-y-x.true)

pub loop-k-preserved : goal.loop-k-preserved
loop-k-preserved c =
    let next : 2 * (c.loop-k.k + 1) ≡ 2 * c.loop-k.k + 2 = omega arith in
    rw next (pair_more _ _ _ _ _ (2 * c.loop-k.k) _ _ (omega arith) c.pair-x.ensures c.pair-y.ensures c.loop-k.invariant c.if-x-y.false c.if-y-x.false)

pub returns : goal.returns
unfolding row_at
returns c = sym (agree_all _ _ _ _ _ (2 * c.loop-k.k) (omega arith) c.loop-k.invariant)
