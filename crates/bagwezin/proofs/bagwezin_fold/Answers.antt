use mathlib.Core.Path.{ap, subst}
use native.Mathlib.Omega.{arith}
use Rattle.std.proofs.Common.{rules}
use Rattle.model.specs.Calls.{FoldAnswer}
use Rattle.areas.specs.Lent.{lent}
use Rattle.packing.specs.Packing.{Answers}
use Rattle.bagwezin.proofs.Answered.{fold_fits, small_none, told_none}
use Rattle.bagwezin.proofs.bagwezin_fold.Goals as goal

pub pack_answer-requires : goal.pack_answer-requires
pack_answer-requires c =
    let a = c.args in
    small_none c.fold-v.result c.map.result (search rules)
    (fold_fits a.net.now (λ i. omega (arith, c.type_inv.net i)) (lent a.rows.now a.gained.now a.lost.now a.head.now) a.pending.now _ c.fold-v.ensures.folds)

pub returns : goal.returns
returns c =
    let e = c.fold-v.ensures.folds in
    let told = told_none c.fold-v.result c.map.result (search rules) c.pack_answer.result c.pack_answer.ensures in
    record { answers = subst (λ (x : FoldAnswer). Answers x.verdict 0 c.pack_answer.result) e told; pending = ap (λ (x : FoldAnswer). x.pending) e }
