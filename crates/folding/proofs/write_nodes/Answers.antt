use Prim.Native.Nat.{◌<◌}
use native.Mathlib.Omega.{arith}
use lib.ListN.{length}
use Rattle.folding.proofs.Loop.{going_none, going_ready, next_fits, going_more, going_all}
use Rattle.folding.proofs.write_nodes.Goals as goal

pub loop-i-init : goal.loop-i-init
loop-i-init c =
    let a = c.args in
    λ net o s e fit. going_none net a.gained.now a.lost.now a.head.now a.pending.now o

pub write_node-requires : goal.write_node-requires
write_node-requires c =
    let a = c.args in
    let l = c.loop-i in
    let net = c.requires.0 in
    let o = c.requires.1 in
    let fit = rw (← c.requires.3) at c.requires.4 in
    let g = l.invariant net o c.requires.2 c.requires.3 fit in
    let here : l.i < length net.nodes = omega (arith, c.requires.3, c.loop-i-test.true) in (
      net,
      going_ready net a.gained.now a.lost.now a.head.now a.pending.now o l.pending l.i g,
      c.requires.2,
      here,
      next_fits net a.gained.now a.lost.now a.head.now a.pending.now o l.pending l.i g here fit,
    )

pub loop-i-preserved : goal.loop-i-preserved
loop-i-preserved c =
    let a = c.args in
    let l = c.loop-i in
    let w = c.write_node in
    λ net o s e fit.
    let g = l.invariant net o s e fit in
    let h : l.i < length net.nodes = omega (arith, e, c.loop-i-test.true) in
    let ready = going_ready net a.gained.now a.lost.now a.head.now a.pending.now o l.pending l.i g in
    let few = next_fits net a.gained.now a.lost.now a.head.now a.pending.now o l.pending l.i g h fit in
    going_more net a.gained.now a.lost.now a.head.now a.pending.now o l.pending l.i g h fit w.new.pending (w.ensures net ready s h few)

pub returns : goal.returns
returns c =
    let a = c.args in
    let l = c.loop-i in
    λ net o s e fit. going_all net a.gained.now a.lost.now a.head.now a.pending.now o l.pending l.i (l.invariant net o s e (rw (← e) at fit)) (omega (arith, e))
