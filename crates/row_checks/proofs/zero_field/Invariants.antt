use Rattle.model.specs.Areas.{stride}
use Rattle.row_checks.proofs.Form.{EachTo, no_field}
use Rattle.row_checks.proofs.zero_field.Given as goal

abbrev pub invariant-loop-j : goal.invariant-loop-j
invariant-loop-j l = EachTo stride l.words l.n (no_field l.c) l.bits l.j
