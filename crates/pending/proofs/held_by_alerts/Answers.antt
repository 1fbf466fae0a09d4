use Rattle.std.proofs.Common.{rules, refl, ◌∙◌}
use Rattle.std.proofs.lemmas.Iterator.{YieldsList-from_range}
use Rattle.std.proofs.lemmas.Iterator.Search.{all_from_yields_List}
use Rattle.pending.specs.Placed.{may_hold}
use Rattle.pending.proofs.All.{list_all-below}
use Rattle.pending.proofs.held_by_alerts.Goals as goal

pub returns : goal.returns
returns c =
    let a = c.args in
    let test = may_hold a.signs.now a.pending.now in
    all_from_yields_List test _ _ c.all.result c.all.ensures.ran (YieldsList-from_range 0 32 32 refl refl) (λ x b q k. search rules)
    ∙ list_all-below test 0 32
