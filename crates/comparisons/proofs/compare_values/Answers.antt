use mathlib.Core.Path.{ap, ◌∙◌}
use Rattle.model.specs.Algebra.{compare_fields}
use Rattle.rows.specs.Rows.{order_of}
use Rattle.rows.proofs.Pairs.{order_of-nat_cmp}
use Rattle.comparisons.proofs.compare_values.Goals as goal

pub returns : goal.returns
unfolding compare_fields
returns c = ap order_of c.cmp.ensures ∙ order_of-nat_cmp c.args.left c.args.right
