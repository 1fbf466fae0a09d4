use Rattle.nodes.specs.Nodes.{pairs_of}
use Rattle.keys.specs.Keys.{side_columns, KeyedRows}
use Rattle.keys.proofs.keys_of.Given as goal

abbrev pub invariant-loop-i : goal.invariant-loop-i
invariant-loop-i l = KeyedRows (side_columns l.side (pairs_of l.p l.pairs)) l.rows l.i l.keys
