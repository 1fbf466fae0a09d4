use native.Mathlib.Omega.{arith}
use mathlib.Core.Path.{◌∙◌}
use lib.ListN.{drop}
use Rattle.changes.proofs.Node.{picked_over}
use Rattle.changes.proofs.write_picked.Goals as goal

pub returns : goal.returns
returns c =
    let a = c.args in
    let k = c.copy_picked in
    λ w rel wide p q. c.clear_rest.ensures
    ∙ picked_over a.area.now a.i a.count a.m w rel (omega (arith, c.requires.0, c.requires.1)) p wide c.requires.2 a.src.now (drop a.from a.picks.now) q
    k.new.dst k.ensures
