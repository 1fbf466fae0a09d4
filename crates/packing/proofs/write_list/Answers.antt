use Rattle.packing.proofs.Packed.{list_more}
use Rattle.packing.proofs.write_list.Goals as goal

pub loop-k-preserved : goal.loop-k-preserved
loop-k-preserved c = let a = c.args in list_more a.answer.now c.loop-k.answer a.at a.list.now c.loop-k.k c.loop-k-test.true c.loop-k.invariant
