use native.Mathlib.Omega.{arith}
use mathlib.Core.Path.{◌∙◌}
use Rattle.placing.proofs.Placing.{rows-over}
use Rattle.placing.proofs.write_place.Goals as goal

pub returns : goal.returns
returns c =
    let a = c.args in
    let k = c.copy_run in
    λ w p q. c.clear_rest.ensures
    ∙ rows-over a.area.now a.src.now a.i a.n a.m w (omega (arith, c.requires.0, c.requires.1)) q p k.new.dst k.ensures
