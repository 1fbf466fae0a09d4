use Rattle.station_lines.proofs.Changes.{lines_none, lines_more}
use Rattle.station_lines.proofs.put_changes.Goals as goal

pub loop-j-init : goal.loop-j-init
loop-j-init c = let a = c.args in lines_none a.sign a.node a.w a.area.now a.out.now a.at

pub loop-j-preserved : goal.loop-j-preserved
loop-j-preserved c =
    let a = c.args in
    lines_more a.sign a.node a.w c.loop-j.j a.area.now a.out.now c.loop-j.out c.put_change-to.new.out a.at c.loop-j.to c.put_change-to.result c.loop-j.invariant c.put_change-to.ensures
