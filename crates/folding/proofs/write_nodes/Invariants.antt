use mathlib.Core.Path.{◌≡◌}
use lib.ListN.{length}
use Rattle.model.specs.Network.{Network}
use Rattle.folding.specs.Folding.{FitTo, Ready, Signed}
use Rattle.folding.proofs.Loop.{Going}
use Rattle.folding.proofs.write_nodes.Given as goal

abbrev pub invariant-loop-i : goal.invariant-loop-i
invariant-loop-i l =
    (net : Network) → Ready net l.gained l.lost l.head l.initial.pending → Signed net l.signs → length net.nodes ≡ l.n → FitTo (length net.nodes) net l.gained l.lost l.head l.initial.pending → Going net l.gained l.lost l.head
    l.initial.pending l.pending l.i
