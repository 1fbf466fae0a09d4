use Rattle.stages.proofs.Steps.{changes-are, count_is, head-long, lines_are, none_read, put-nothing}
use Rattle.stages.proofs.Nodes.{silent_past, silent_unchanged}
use Rattle.lines.specs.Written.{Put}
use Prim.Native.Nat.{ℕ}
use mathlib.Core.List.{List}
use mathlib.Core.Path.{sym, subst, ◌∙◌}
use native.Mathlib.Omega.{arith}
use Rattle.areas.specs.Lent.{lent}
use Rattle.station_lines.specs.Lines.{node_room}
use Rattle.telling.proofs.node_lines.Goals as goal

pub is_unchanged-requires : goal.is_unchanged-requires
is_unchanged-requires c = let a = c.args in (head-long (lent a.rows.now a.gained.now a.lost.now a.head.now) c.requires.0.long, c.requires.1)

pub returns-then-is_unchanged : goal.returns-then-is_unchanged
returns-then-is_unchanged c = let a = c.args in
    put-nothing _ a.out.now (silent_unchanged a.net.now (lent a.rows.now a.gained.now a.lost.now a.head.now) a.node (sym c.is_unchanged.ensures ∙ c.if-is_unchanged.true))

pub put_watched-requires : goal.put_watched-requires
put_watched-requires c = let a = c.args in (
  c.in-Ok.ensures.reads.built,
  changes-are a.net.now c.in-Ok.network c.in-Ok.ensures.reads a.rows.now a.gained.now a.lost.now a.head.now c.requires.0,
  c.if-node-network.true,
  c.requires.2,
)

pub returns-then-node-network : goal.returns-then-node-network
returns-then-node-network c = let a = c.args in subst
    (λ (text : List ℕ). Put text node_room 0 a.out.now c.put_watched.new.out c.put_watched.result)
    (lines_are a.net.now c.in-Ok.network c.in-Ok.ensures.reads a.rows.now a.gained.now a.lost.now a.head.now c.requires.0 a.node)
    c.put_watched.ensures

pub returns-else-node-network : goal.returns-else-node-network
returns-else-node-network c = let a = c.args in
    put-nothing _ a.out.now (silent_past a.net.now (lent a.rows.now a.gained.now a.lost.now a.head.now) a.node
    (omega (arith, c.if-node-network.false, count_is a.net.now c.in-Ok.network c.in-Ok.ensures.reads a.rows.now a.gained.now a.lost.now a.head.now c.requires.0)))

pub returns-in-Err : goal.returns-in-Err
returns-in-Err c = let a = c.args in
    put-nothing _ a.out.now (silent_past a.net.now (lent a.rows.now a.gained.now a.lost.now a.head.now) a.node (omega (arith, none_read a.net.now c.in-Err.field-0 c.in-Err.ensures.reads)))
