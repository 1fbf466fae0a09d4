use Rattle.propagation.proofs.Network.{Propagating}
use Rattle.propagation.proofs.propagate.Given as goal

abbrev pub invariant-loop-i : goal.invariant-loop-i
invariant-loop-i l = Propagating l.net l.rows l.head l.bytes l.work.rows l.work.counts l.work.changed l.due l.told.picks l.told.sizes l.i
