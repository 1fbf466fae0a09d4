use Prim.Native.Nat.{◌*◌}
use Rattle.model.specs.Areas.{stride}
use Rattle.rows.proofs.Words.{Agree}
use Rattle.rows.proofs.compare_rows.Given as goal

abbrev pub invariant-loop-k : goal.invariant-loop-k
invariant-loop-k l = Agree stride l.a (l.i * stride) l.b (l.j * stride) (2 * l.k)
