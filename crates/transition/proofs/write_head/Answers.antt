use Rattle.transition.proofs.Head.{head_written}
use Rattle.transition.proofs.write_head.Goals as goal

pub returns : goal.returns
returns c =
    let a = c.args in
    let p = c.requires in
    let one = c.copy_run in
    let two = c.copy_run-2 in
    let three = c.copy_run-3 in
    let four = c.copy_run-4 in
    head_written a.head.now a.counts.now a.stamps.now a.sizes.now a.entries.now one.new.dst two.new.dst three.new.dst four.new.dst
    a.number a.k p.0 p.1 p.2 p.3 p.5 one.ensures two.ensures three.ensures four.ensures
