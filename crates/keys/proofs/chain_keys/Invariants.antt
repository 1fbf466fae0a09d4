use Rattle.keys.specs.Chains.{Chained}
use Rattle.keys.proofs.chain_keys.Given as goal

abbrev pub invariant-loop-j : goal.invariant-loop-j
invariant-loop-j l = Chained l.keys l.n l.j l.heads l.next
