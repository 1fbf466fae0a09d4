use native.Mathlib.Omega.{arith}
use Rattle.differences.proofs.Chosen.{copy_all, copy_turn}
use Rattle.differences.proofs.copy_picked.Goals as goal

pub loop-k-preserved : goal.loop-k-preserved
loop-k-preserved c =
    let a = c.args in
    let l = c.loop-k in
    let r = c.copy_run in
    copy_turn a.src.now a.picks.now a.from a.count a.dst.now a.at c.requires.0 c.requires.1 c.requires.2
    l.dst r.new.dst l.k (omega arith) c.loop-k.auto.dst l.invariant r.ensures

pub returns : goal.returns
returns c =
    let a = c.args in
    let l = c.loop-k in
    copy_all a.src.now a.picks.now a.from a.count a.dst.now a.at c.requires.0 c.requires.1 c.requires.2 l.dst l.k (omega arith) l.invariant
