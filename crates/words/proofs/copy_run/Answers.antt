use lib.ListN.{drop}
use lib.Seq.{paste-zero}
use Rattle.words.proofs.Runs.{copy_turn}
use native.Mathlib.Omega.{arith}
use Rattle.words.proofs.copy_run.Goals as goal

pub loop-k-init : goal.loop-k-init
loop-k-init c = paste-zero c.args.dst.now c.args.to (drop c.args.from c.args.src.now)

pub loop-k-preserved : goal.loop-k-preserved
loop-k-preserved c =
    let a = c.args in
    copy_turn a.src.now a.dst.now c.loop-k.dst a.from a.to c.loop-k.k (omega arith) (omega arith) c.loop-k.invariant
