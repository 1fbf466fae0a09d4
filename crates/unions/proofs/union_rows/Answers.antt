use Prim.Native.Nat.{Ordering}
use Prim.Native.Nat.{◌<◌, ◌-◌, ◌+◌}
use native.Mathlib.Omega.{arith}
use Rattle.model.specs.Areas.{stride}
use Rattle.laws.proofs.Order.{lt≢eq, lt≢gt}
use Rattle.laws.proofs.Sets.{ascending-holds}
use Rattle.rows.specs.Rows.{row_at, first_rows}
use Rattle.merges.proofs.Merged.{appended_one, first-left, merged_equal, merged_greater, merged_less, merged_start, stands-long, told}
use Rattle.unions.proofs.Unions.{alone, left_ascends, union, union_all, union_exceeds, union_fills, union-over, union-passes, union_rest_over}
use Rattle.unions.proofs.union_rows.Goals as goal

pub loop-i-init : goal.loop-i-init
loop-i-init c =
    let a = c.args in
    (omega arith, omega arith, merged_start union a.left.now a.n a.right.now a.m a.out.now c.requires.4)

pub returns-then-count-ge-MAX_ROWS : goal.returns-then-count-ge-MAX_ROWS
returns-then-count-ge-MAX_ROWS c =
    let a = c.args in
    let l = c.loop-i in
    λ w pl pr. (
      union_exceeds w a.left.now a.n a.right.now a.m pl pr
          (union-over a.left.now a.n a.right.now a.m l.i l.j l.out l.count (left_ascends w a.left.now a.n a.right.now a.m pl pr)
          (ascending-holds (first_rows a.right.now a.m) c.requires.3) l.invariant.2 (omega arith) (omega arith)),
      stands-long l.out l.count l.invariant.2.stands,
    )

pub loop-i-preserved-in-Less : goal.loop-i-preserved-in-Less
loop-i-preserved-in-Less c =
    let a = c.args in
    let l = c.loop-i in
    let p = c.append_rows in
    let o = told c.in-Less.is c.compare_first.ensures in (
      omega arith,
      omega arith,
      merged_less union a.left.now a.n a.right.now a.m alone alone alone union-passes l.i l.j l.out l.count l.invariant.2 (omega arith)
          p.new.out (l.count + 1) o (appended_one a.left.now l.i p.ensures),
    )

pub loop-i-preserved-in-Equal : goal.loop-i-preserved-in-Equal
loop-i-preserved-in-Equal c =
    let a = c.args in
    let l = c.loop-i in
    let p = c.append_rows-in-Equal in
    let o = told c.in-Equal.is c.compare_first.ensures in
    let g : l.j < a.m = first-left (row_at stride a.left.now l.i) a.right.now a.m l.j Ordering.eq l.invariant.1 o lt≢eq in (
      omega arith,
      omega arith,
      merged_equal union a.left.now a.n a.right.now a.m alone alone alone union-passes l.i l.j l.out l.count l.invariant.2 (omega arith) g
          p.new.out (l.count + 1) o (appended_one a.left.now l.i p.ensures),
    )

pub append_rows-requires-in-Greater : goal.append_rows-requires-in-Greater
append_rows-requires-in-Greater c =
    let a = c.args in
    let l = c.loop-i in
    let o = told c.in-Greater.is c.compare_first.ensures in
    let g : l.j < a.m = first-left (row_at stride a.left.now l.i) a.right.now a.m l.j Ordering.gt l.invariant.1 o lt≢gt in
    (l.invariant.2.stands, omega arith, omega arith)

pub loop-i-smaller : goal.loop-i-smaller
loop-i-smaller c =
    let a = c.args in
    let l = c.loop-i in
    let o = told c.in-Greater.is c.compare_first.ensures in
    omega (arith, first-left (row_at stride a.left.now l.i) a.right.now a.m l.j Ordering.gt l.invariant.1 o lt≢gt)

pub loop-i-preserved : goal.loop-i-preserved
loop-i-preserved c =
    let a = c.args in
    let l = c.loop-i in
    let p = c.append_rows-in-Greater in
    let o = told c.in-Greater.is c.compare_first.ensures in
    let g : l.j < a.m = first-left (row_at stride a.left.now l.i) a.right.now a.m l.j Ordering.gt l.invariant.1 o lt≢gt in (
      omega arith,
      omega arith,
      merged_greater union a.left.now a.n a.right.now a.m alone alone alone union-passes l.i l.j l.out l.count l.invariant.2 (omega arith) g
          p.new.out (l.count + 1) o (appended_one a.right.now l.j p.ensures),
    )

pub returns-then-count-rest : goal.returns-then-count-rest
returns-then-count-rest c =
    let a = c.args in
    let l = c.loop-i in
    λ w pl pr. (
      union_exceeds w a.left.now a.n a.right.now a.m pl pr
          (union_rest_over a.left.now a.n a.right.now a.m l.i l.j l.out l.count (left_ascends w a.left.now a.n a.right.now a.m pl pr)
          (ascending-holds (first_rows a.right.now a.m) c.requires.3) l.invariant.2 (omega arith) (omega arith)),
      stands-long l.out l.count l.invariant.2.stands,
    )

pub returns : goal.returns
returns c =
    let a = c.args in
    let l = c.loop-i in
    let p = c.append_rows-2 in
    λ w pl pr. union_fills w a.left.now a.n a.right.now a.m pl pr p.new.out (l.count + (a.m - l.j))
    (union_all a.left.now a.n a.right.now a.m l.i l.j l.out l.count (left_ascends w a.left.now a.n a.right.now a.m pl pr)
    (ascending-holds (first_rows a.right.now a.m) c.requires.3) l.invariant.2 (omega arith) p.new.out (l.count + (a.m - l.j)) p.ensures)
