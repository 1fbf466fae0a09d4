use native.Mathlib.Omega.{arith}
use Rattle.network.proofs.Building.{as_item, extends_node, fits_inputs, next_slot}
use Rattle.network.proofs.add_node.Goals as goal

pub width_of-width-requires : goal.width_of-width-requires
width_of-width-requires c =
    let a = c.args in
    let b = c.requires.0 in
    fits_inputs a.net.now a.node a.bytes.now a.at b c.requires.2 _ (rw b.widths-length c.requires.1)

pub level_of-level-requires : goal.level_of-level-requires
level_of-level-requires c =
    let a = c.args in
    let b = c.requires.0 in
    (fits_inputs a.net.now a.node a.bytes.now a.at b c.requires.2 _ (rw b.levels-length c.requires.1), b.low, rw b.levels-length (omega arith))

pub returns : goal.returns
returns c =
    let a = c.args in
    let s = c.slot_at-slot in
    as_item s.ensures.brings
    (extends_node a.net.now s.result c.width_of-width.result c.level_of-level.result
    (next_slot a.net.now a.node a.bytes.now a.at c.requires.0 c.requires.2 s.result c.width_of-width.result c.level_of-level.result
    c.requires.1 s.ensures.brings s.ensures.shaped c.width_of-width.ensures c.level_of-level.ensures))
