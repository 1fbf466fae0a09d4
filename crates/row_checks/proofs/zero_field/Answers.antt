use native.Mathlib.Omega.{arith}
use Rattle.model.specs.Areas.{stride}
use Rattle.row_checks.proofs.Form.{each_none, each_more, each_all, no_field, field_is}
use Rattle.row_checks.proofs.zero_field.Goals as goal

pub loop-j-init : goal.loop-j-init
loop-j-init c = each_none stride c.args.words.now c.args.n (no_field c.args.c)

pub loop-j-preserved : goal.loop-j-preserved
loop-j-preserved c =
    let a = c.args in
    each_more stride a.words.now a.n (no_field a.c) _ _ _ (omega arith) (field_is stride a.words.now c.loop-j.j a.c (omega arith)) c.loop-j.invariant

pub returns : goal.returns
returns c = each_all _ _ _ (no_field c.args.c) _ _ (omega arith) c.loop-j.invariant
