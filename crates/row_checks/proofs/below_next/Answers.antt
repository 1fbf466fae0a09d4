use mathlib.Core.Path.{◌≡◌, refl, ap, ◌∙◌}
use Rattle.std.specs.declared.cmp.Ordering.{Ordering}
use Rattle.std.specs.declared.cmp.Ordering.TheVariants.{Less, Equal, Greater}
use Rattle.std.specs.Ordering.{is_lt}
use Rattle.model.specs.Row.{is_less}
use Rattle.rows.specs.Rows.{order_of}
use Rattle.row_checks.proofs.below_next.Goals as goal

is_less-order_of : (o : Ordering) → is_lt o ≡ is_less (order_of o)
is_less-order_of Less = refl
is_less-order_of Equal = refl
is_less-order_of Greater = refl

pub returns : goal.returns
returns c = c.is_lt.ensures ∙ is_less-order_of c.compare_rows.result ∙ ap is_less c.compare_rows.ensures
