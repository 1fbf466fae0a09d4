use mathlib.Core.Path.{◌∙◌}
use Prim.Native.Nat.{◌+◌}
use native.Mathlib.Omega.{arith}
use Rattle.model.specs.Areas.{stride}
use Rattle.rows.specs.Rows.{first_rows}
use Rattle.row_checks.proofs.Form.{each_none, each_more, each_all, all_and, no_field, no_pair, pair_is}
use Rattle.row_checks.proofs.zero_pair.Goals as goal

pub loop-j-init : goal.loop-j-init
loop-j-init c = let a = c.args in each_none stride a.words.now a.n (no_pair a.c)

pub loop-j-preserved : goal.loop-j-preserved
loop-j-preserved c =
    let a = c.args in
    each_more stride a.words.now a.n (no_pair a.c) _ _ _ (omega arith) (pair_is stride a.words.now c.loop-j.j a.c _ (omega arith) c.pair-pairs.ensures) c.loop-j.invariant

pub returns : goal.returns
returns c =
    let a = c.args in
    each_all _ _ _ (no_pair a.c) _ _ (omega arith) c.loop-j.invariant
    ∙ all_and (no_field a.c) (no_field (a.c + 1)) (first_rows a.words.now a.n)
