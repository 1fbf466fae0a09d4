use Rattle.station_lines.proofs.Changes.{node_lines_lem}
use Rattle.model.specs.Areas.{held_in, layout}
use Rattle.station_lines.proofs.put_node.Goals as goal

pub returns : goal.returns
returns c = let a = c.args in node_lines_lem a.sign a.node
    (record { gained = held_in layout a.w a.g a.gained.now a.node; lost = held_in layout a.w a.l a.lost.now a.node })
    c.allows-more.result
    c.allows-less.result a.out.now c.put_allowed-to.new.out
    c.put_allowed.new.out a.at c.put_allowed-to.result c.put_allowed.result a.g a.l
    c.allows-more.ensures
    c.allows-less.ensures c.put_allowed-to.ensures
    c.put_allowed.ensures
    c.requires.1
    c.requires.2
