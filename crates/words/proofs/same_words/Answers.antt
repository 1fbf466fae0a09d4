use mathlib.Core.Path.{refl}
use native.Mathlib.Omega.{arith}
use Rattle.words.proofs.Runs.{same_more, same_all}
use Rattle.words.proofs.same_words.Goals as goal

pub loop-k-init : goal.loop-k-init
loop-k-init c = refl

pub loop-k-preserved : goal.loop-k-preserved
loop-k-preserved c =
    let l = c.loop-k in
    same_more c.args.a.now c.args.b.now c.args.count l.same l.k (omega arith) (omega arith) (omega arith) l.invariant

pub returns : goal.returns
returns c = let a = c.args in same_all a.a.now a.b.now a.count c.loop-k.same c.loop-k.k (omega arith) c.loop-k.invariant
