use mathlib.Core.Path.{◌≡◌}
use Prim.Native.Nat.{◌+◌, ◌-◌}
use native.Mathlib.Omega.{arith}
use Rattle.keys.proofs.Chains.{slot_below, chained_none, chained_more}
use Rattle.keys.proofs.chain_keys.Goals as goal

pub loop-j-init : goal.loop-j-init
loop-j-init c = rw (c.requires.1, c.requires.2) (chained_none c.args.keys.now c.args.n)

pub bounds-heads-slot : goal.bounds-heads-slot
bounds-heads-slot c = rw c.slot_of-slot.ensures (slot_below _)

pub bounds-heads-slot-in-loop-j : goal.bounds-heads-slot-in-loop-j
bounds-heads-slot-in-loop-j c = rw c.slot_of-slot.ensures (slot_below _)

pub loop-j-preserved : goal.loop-j-preserved
loop-j-preserved c =
    let a = c.args in
    let l = c.loop-j in
    let e : l.j ≡ l.j - 1 + 1 = omega arith in
    rw c.slot_of-slot.ensures (chained_more a.keys.now a.n (l.j - 1) l.heads l.next c.requires.0 (omega arith) (rw e at l.invariant))
