use mathlib.Core.Bool.{false}
use mathlib.Core.Path.{refl, sym, ◌∙◌}
use native.Mathlib.Omega.{arith}
use borrow.Author.Tests.{le-leb, le-ltb, lt-leb}
use Rattle.laws.proofs.All.{AllTo, all_not}
use Rattle.model.specs.Areas.{good_worked, worked_at, worked_count}
use Rattle.model.specs.Row.{max_nodes}
use Rattle.areas.proofs.Gaps.{entry_good, entry_is, entries_left}
use Rattle.areas.proofs.good_worked.Goals as goal

pub returns-then-n-counted : goal.returns-then-n-counted
unfolding good_worked
returns-then-n-counted c = let a = c.args in rw (lt-leb (worked_count a.head.now) a.n c.if-n-counted.true) refl

pub returns-then-n-head : goal.returns-then-n-head
unfolding good_worked
returns-then-n-head c =
    let a = c.args in
    let h = a.head.now in
    let k = c.loop-k.k in
    rw (le-leb (worked_count h) a.n (omega arith))
    (sym (all_not (entry_good a.n h) max_nodes k false (omega arith) (sym (entry_is a.n h k (omega arith) ∙ le-ltb (worked_at h k) a.n (omega arith))) refl))

pub returns : goal.returns
returns c =
    let a = c.args in
    let l = c.loop-k in
    let all : AllTo (entry_good a.n a.head.now) max_nodes (worked_count a.head.now) = λ j g. l.invariant.1 j (omega arith) in
    c.all_zero.ensures ∙ sym (entries_left a.n a.head.now (omega arith) (omega arith) (omega arith) all)
