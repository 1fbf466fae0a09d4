use mathlib.Core.Path.{◌≡◌}
use Prim.Native.Nat.{◌+◌}
use lib.ListN.{drop}
use lib.Seq.{sets}
use Rattle.lines.proofs.Digits.{Left}
use Rattle.model.specs.Text.{decimal}
use Rattle.lines.proofs.put_digits.Given as goal

abbrev pub invariant-loop-k : goal.invariant-loop-k
invariant-loop-k l = record {
  shown : l.out ≡ sets l.initial.out (l.at + l.k) (drop l.k (decimal l.x));
  left : Left l.x l.k l.rest;
}
