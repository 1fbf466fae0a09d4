use Rattle.network.specs.Reading.{nodes_of}
use Rattle.changes.specs.Written.{Writing, WritesNodes}
use Rattle.changes.proofs.write_nodes.Given as goal

abbrev pub invariant-loop-i : goal.invariant-loop-i
invariant-loop-i l = (o : Writing l.n l.initial.rows l.initial.gained l.initial.lost l.head l.work.rows l.work.counts l.work.changed l.told.picks l.told.sizes) →
    WritesNodes (nodes_of o.net) o.out.new l.initial.rows l.initial.gained l.initial.lost l.head l.rows l.gained l.lost l.i
