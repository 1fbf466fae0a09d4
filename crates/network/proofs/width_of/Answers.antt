use mathlib.Core.Path.{◌≡◌, refl}
use Prim.Native.Nat.{ℕ}
use Rattle.std.specs.Prelude.{Option, Some, None}
use Rattle.std.specs.Option.{unwrap_or}
use Rattle.nodes.specs.Nodes.{own_or}
use Rattle.network.proofs.Building.{width_next, width_none}
use Rattle.network.proofs.width_of.Goals as goal
use Rattle.network.proofs.width_of.Goals.{in-Some, in-None}

or_own : (o : Option ℕ) (v : ℕ) → unwrap_or o v ≡ own_or v o
or_own None v = refl
or_own (Some w) v = refl

pub returns : goal.returns
returns c =
    let a = c.args in
    let parts = c.parts_of-parts in
    elim c.match-parts.branch [
      | in-Some w ↦ rw (c.unwrap_or.ensures, w.first-is, or_own) (width_next a.node parts.result parts.ensures a.widths.now w.in-Some.inputs w.in-Some.is)
      | in-None w ↦ rw (c.unwrap_or.ensures, w.first-is, or_own) (width_none a.node parts.result parts.ensures a.widths.now w.in-None.is)
    ]
