use Rattle.differences.proofs.Chosen.{put-turn}
use Rattle.differences.proofs.put_numbers.Goals as goal

pub loop-k-preserved : goal.loop-k-preserved
loop-k-preserved c =
    let a = c.args in
    let l = c.loop-k in
    put-turn a.out.now l.out a.at a.from l.k l.invariant
