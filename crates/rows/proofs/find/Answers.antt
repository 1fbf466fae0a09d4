use mathlib.Core.Path.{sym, ap, ◌∙◌}
use Rattle.rows.specs.Rows.{order_of}
use Rattle.laws.proofs.Sets.{ascending-holds}
use Rattle.rows.proofs.Search.{narrowed_all, narrowed_less, narrowed_greater, narrowed_found, narrowed_none}
use native.Mathlib.Omega.{arith}
use Rattle.rows.proofs.find.Goals as goal

pub loop-low-init : goal.loop-low-init
loop-low-init c = (omega arith, omega arith, narrowed_all _ _ _ _ (ascending-holds _ c.requires.2))

pub loop-low-preserved-in-Less : goal.loop-low-preserved-in-Less
loop-low-preserved-in-Less c = (
  omega arith,
  omega arith,
  narrowed_less _ _ _ _ (ascending-holds _ c.requires.2) _ _ _ (omega arith) (ap order_of (sym c.in-Less.is) ∙ c.compare_rows.ensures) c.loop-low.invariant.2,
)

pub returns-in-Equal : goal.returns-in-Equal
returns-in-Equal c =
    sym (narrowed_found _ _ _ _ (ascending-holds _ c.requires.2) _ _ _ (omega arith) (omega arith) (omega arith) (ap order_of (sym c.in-Equal.is) ∙ c.compare_rows.ensures) c.loop-low.invariant.2)

pub loop-low-preserved : goal.loop-low-preserved
loop-low-preserved c = (
  omega arith,
  omega arith,
  narrowed_greater _ _ _ _ (ascending-holds _ c.requires.2) _ _ _ (omega arith) (ap order_of (sym c.in-Greater.is) ∙ c.compare_rows.ensures) c.loop-low.invariant.2,
)

pub returns : goal.returns
returns c = sym (narrowed_none _ _ _ _ (ascending-holds _ c.requires.2) _ _ (omega arith) (omega arith) c.loop-low.invariant.2)
