use Rattle.model.specs.Areas.{stride}
use Rattle.row_checks.proofs.Form.{EachTo, no_pair}
use Rattle.row_checks.proofs.zero_pair.Given as goal

abbrev pub invariant-loop-j : goal.invariant-loop-j
invariant-loop-j l = EachTo stride l.words l.n (no_pair l.c) l.pairs l.j
