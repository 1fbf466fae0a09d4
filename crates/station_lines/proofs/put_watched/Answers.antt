use Rattle.station_lines.specs.Lines.{node_room}
use mathlib.Core.Path.{subst}
use Prim.Native.Nat.{ℕ}
use mathlib.Core.List.{List}
use Rattle.station_lines.proofs.Changes.{watched_is}
use Rattle.lines.specs.Written.{Put}
use Rattle.station_lines.proofs.put_watched.Goals as goal

pub returns : goal.returns
returns c = let a = c.args in subst
    (λ (text : List ℕ). Put text node_room a.at a.out.now c.put_node.new.out c.put_node.result)
    (watched_is a.network c.requires.0 a.gained.now a.lost.now a.head.now a.node
    c.requires.2) c.put_node.ensures
