use mathlib.Core.Path.{ap, ◌∙◌}
use lib.ListN.{take}
use Rattle.masks.proofs.Masks.{used_made}
use Rattle.masks.specs.Masks.{columns_from, keeping}
use Rattle.masks.proofs.used_columns.Goals as goal

pub returns : goal.returns
returns c =
    let a = c.args in
    let given = columns_from a.first a.end (take a.how.n a.how.columns) in
    c.keep_columns.ensures ∙ ap (keeping given) c.keep_pairs.ensures ∙ used_made a.how a.side a.first a.end
