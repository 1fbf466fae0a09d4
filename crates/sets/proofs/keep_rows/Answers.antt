use mathlib.Core.Bool.{not}
use mathlib.Core.List.{[]}
use Prim.Native.Nat.{Ordering}
use Prim.Native.Nat.{◌<◌}
use native.Mathlib.Omega.{arith}
use Rattle.model.specs.Areas.{stride}
use Rattle.model.specs.Row.{keep_if}
use Rattle.laws.proofs.Order.{lt≢eq, lt≢gt}
use Rattle.laws.proofs.Sets.{ascending-holds}
use Rattle.rows.specs.Rows.{row_at, first_rows}
use Rattle.merges.specs.Merges.{kept_by}
use Rattle.merges.proofs.Merge.{kept-passes}
use Rattle.merges.proofs.Merged.{appended_none, first-left, merged_equal, merged_greater, merged_less, merged_start, told}
use Rattle.sets.proofs.Sets.{kept_all, one_more}
use Rattle.sets.proofs.keep_rows.Goals as goal

pub loop-i-init : goal.loop-i-init
loop-i-init c =
    let a = c.args in
    (omega arith, omega arith, omega arith, merged_start (kept_by a.wanted) a.left.now a.n a.right.now a.m a.out.now c.requires.4)

pub loop-i-preserved-in-Less : goal.loop-i-preserved-in-Less
loop-i-preserved-in-Less c =
    let a = c.args in
    let l = c.loop-i in
    let p = c.append_wanted-count in
    let o = told c.in-Less.is c.compare_first.ensures in (
      omega arith,
      omega arith,
      omega (arith, one_more (not a.wanted) _ p.ensures),
      merged_less (kept_by a.wanted) a.left.now a.n a.right.now a.m (λ x. keep_if (not a.wanted) x []) (λ x. keep_if a.wanted x []) (λ y. []) (kept-passes a.wanted)
          l.i l.j l.out l.count l.invariant.3 (omega arith) p.new.out p.result o p.ensures,
    )

pub loop-i-preserved-in-Equal : goal.loop-i-preserved-in-Equal
loop-i-preserved-in-Equal c =
    let a = c.args in
    let l = c.loop-i in
    let p = c.append_wanted-count-in-Equal in
    let o = told c.in-Equal.is c.compare_first.ensures in
    let g : l.j < a.m = first-left (row_at stride a.left.now l.i) a.right.now a.m l.j Ordering.eq l.invariant.1 o lt≢eq in (
      omega arith,
      omega arith,
      omega (arith, one_more a.wanted _ p.ensures),
      merged_equal (kept_by a.wanted) a.left.now a.n a.right.now a.m (λ x. keep_if (not a.wanted) x []) (λ x. keep_if a.wanted x []) (λ y. []) (kept-passes a.wanted)
          l.i l.j l.out l.count l.invariant.3 (omega arith) g p.new.out p.result o p.ensures,
    )

pub loop-i-smaller : goal.loop-i-smaller
loop-i-smaller c =
    let a = c.args in
    let l = c.loop-i in
    let o = told c.in-Greater.is c.compare_first.ensures in
    omega (arith, first-left (row_at stride a.left.now l.i) a.right.now a.m l.j Ordering.gt l.invariant.1 o lt≢gt)

pub loop-i-preserved : goal.loop-i-preserved
loop-i-preserved c =
    let a = c.args in
    let l = c.loop-i in
    let o = told c.in-Greater.is c.compare_first.ensures in
    let g : l.j < a.m = first-left (row_at stride a.left.now l.i) a.right.now a.m l.j Ordering.gt l.invariant.1 o lt≢gt in (
      omega arith,
      omega arith,
      omega arith,
      merged_greater (kept_by a.wanted) a.left.now a.n a.right.now a.m (λ x. keep_if (not a.wanted) x []) (λ x. keep_if a.wanted x []) (λ y. []) (kept-passes a.wanted)
          l.i l.j l.out l.count l.invariant.3 (omega arith) g l.out l.count o (appended_none l.out l.count l.invariant.3.stands),
    )

pub returns : goal.returns
returns c =
    let a = c.args in
    let l = c.loop-i in
    λ e. kept_all a.left.now a.n a.right.now a.m l.i l.j l.out l.count (ascending-holds (first_rows a.left.now a.n) e)
    (ascending-holds (first_rows a.right.now a.m) c.requires.3) a.wanted (omega arith) l.invariant.3
