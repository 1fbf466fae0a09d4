use Prim.Native.Nat.{◌+◌, ◌*◌}
use lib.Seq.{slice}
use Rattle.zeros.specs.Zeros.{Gathers}
use Rattle.zeros.proofs.eight_pairs.Given as goal

abbrev pub invariant-loop-i : goal.invariant-loop-i
invariant-loop-i l = Gathers l.fn.bits (slice l.k (l.k + 4 * l.i) l.words) l.bits
