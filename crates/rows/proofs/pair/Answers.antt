use Prim.Native.Nat.{◌+◌}
use native.Mathlib.Omega.{arith}
use Rattle.rows.proofs.pair.Goals as goal

pub overflow_mul-result : goal.overflow_mul-result
overflow_mul-result c = omega (arith, c.type_inv.words c.args.i)

pub returns : goal.returns
returns c = record { is = omega arith; low = omega (arith, c.type_inv.words (c.args.i + 1)) }
