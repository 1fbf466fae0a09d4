use mathlib.Core.Bool.{false}
use mathlib.Core.Path.{refl, sym, ◌∙◌}
use native.Mathlib.Omega.{arith}
use borrow.Author.Tests.{lt-leb}
use Rattle.laws.proofs.All.{AllTo, all_not}
use Rattle.model.specs.Areas.{batch_number, good_stamps, stamp_at}
use Rattle.model.specs.Row.{max_nodes}
use Rattle.areas.proofs.Gaps.{stamp_good, stamp_is, stamps-left}
use Rattle.areas.proofs.good_stamps.Goals as goal

pub returns-then-number-head : goal.returns-then-number-head
unfolding good_stamps
returns-then-number-head c =
    let a = c.args in
    let h = a.head.now in
    let i = c.loop-node.node in
    sym (all_not (stamp_good a.n h) max_nodes i false (omega arith) (sym (stamp_is a.n h i (omega arith) ∙ lt-leb (stamp_at h i) (batch_number h) c.if-number-head.true)) refl)

pub returns : goal.returns
returns c =
    let a = c.args in
    let l = c.loop-node in
    let all : AllTo (stamp_good a.n a.head.now) max_nodes a.n = λ j g. l.invariant.1 j (omega arith) in
    c.all_zero.ensures ∙ sym (stamps-left a.n a.head.now (omega arith) (omega arith) all)
