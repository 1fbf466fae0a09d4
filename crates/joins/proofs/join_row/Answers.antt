use mathlib.Core.Path.{refl, ap}
use Rattle.std.specs.Prelude.{Some, None}
use Prim.Native.Nat.{ℕ}
use native.Mathlib.Omega.{arith}
use lib.ListN.{length, get_or, take}
use Rattle.model.specs.Areas.{stride}
use Rattle.laws.proofs.Sets.{ascending-holds}
use Rattle.rows.specs.Rows.{first_rows, row_at}
use Rattle.rows.proofs.Words.{wide_rows}
use Rattle.columns.proofs.Rows.{joined_length}
use Rattle.keys.proofs.Chains.{slot_below}
use Rattle.joins.proofs.Joins.{few_given}
use Rattle.joins.proofs.Walk.{walk_ends, walk_exceeds, walk_less, walk_passes, walk_puts, walk_ready, walk_starts}
use Rattle.joins.proofs.join_row.Goals as goal

pub bounds-heads-slot : goal.bounds-heads-slot
bounds-heads-slot c = rw c.slot_of-slot.ensures (slot_below c.key_of-key.result)

pub loop-at-init : goal.loop-at-init
loop-at-init c =
    let a = c.args in
    let base = first_rows a.out.now a.count in
    walk_starts a.how c.requires.2 (row_at stride a.left.now a.i) c.key_of-key.result c.key_of-key.ensures
    a.right.now a.m c.requires.6 a.keys.now c.requires.7 a.heads.now a.next.now c.requires.8 base (wide_rows stride a.out.now 0 a.count)
    (ascending-holds base c.requires.4)
    (get_or a.heads.now c.slot_of-slot.result 0) a.out.now a.count (ap (λ (s : ℕ). get_or a.heads.now s 0) c.slot_of-slot.ensures) c.requires.3

pub put_row-requires : goal.put_row-requires
put_row-requires c =
    let a = c.args in
    let base = first_rows a.out.now a.count in
    let l = c.loop-at in
    let r = walk_ready a.how c.requires.2 (row_at stride a.left.now a.i) c.key_of-key.result c.key_of-key.ensures
    a.right.now a.m c.requires.6 a.keys.now c.requires.7 a.heads.now a.next.now c.requires.8 base (wide_rows stride a.out.now 0 a.count)
    (ascending-holds base c.requires.4)
    l.at l.out l.rows c.loop-at-test.true l.invariant in (
      r.0,
      omega (
        arith,
        ap length c.columns_row-row.ensures,
        joined_length a.how.split (take a.how.n a.how.columns) (row_at stride a.left.now a.i) (row_at stride a.right.now l.at) (few_given a.how c.requires.2),
      ),
      r.1,
      l.invariant.size,
    )

pub returns-in_err-rows : goal.returns-in_err-rows
returns-in_err-rows c =
    let a = c.args in
    let base = first_rows a.out.now a.count in
    let l = c.loop-at in
    rw c.from_residual.ensures
    (walk_exceeds a.how c.requires.2 (row_at stride a.left.now a.i) c.key_of-key.result c.key_of-key.ensures
    a.right.now a.m c.requires.6 a.keys.now c.requires.7 a.heads.now a.next.now c.requires.8 base (wide_rows stride a.out.now 0 a.count)
    (ascending-holds base c.requires.4)
    l.at l.out l.rows c.loop-at-test.true l.invariant c.if-keys-j.true c.columns_row-row.result c.columns_row-row.ensures
    c.put_row.new.out None c.in_err-rows.ensures refl)

pub loop-at-smaller-then-keys-j : goal.loop-at-smaller-then-keys-j
loop-at-smaller-then-keys-j c =
    let a = c.args in
    let base = first_rows a.out.now a.count in
    let l = c.loop-at in
    let b = walk_less a.how c.requires.2 (row_at stride a.left.now a.i) c.key_of-key.result c.key_of-key.ensures
    a.right.now a.m c.requires.6 a.keys.now c.requires.7 a.heads.now a.next.now c.requires.8 base (wide_rows stride a.out.now 0 a.count)
    (ascending-holds base c.requires.4)
    l.at l.out l.rows c.loop-at-test.true l.invariant in
    omega (arith, b.0, b.1)

pub loop-at-preserved-then-keys-j : goal.loop-at-preserved-then-keys-j
loop-at-preserved-then-keys-j c =
    let a = c.args in
    let base = first_rows a.out.now a.count in
    let l = c.loop-at in
    walk_puts a.how c.requires.2 (row_at stride a.left.now a.i) c.key_of-key.result c.key_of-key.ensures
    a.right.now a.m c.requires.6 a.keys.now c.requires.7 a.heads.now a.next.now c.requires.8 base (wide_rows stride a.out.now 0 a.count)
    (ascending-holds base c.requires.4)
    l.at l.out l.rows c.loop-at-test.true l.invariant c.if-keys-j.true c.columns_row-row.result c.columns_row-row.ensures
    c.put_row.new.out (Some c.in_ok-rows.rows) c.in_ok-rows.ensures c.in_ok-rows.rows refl

pub loop-at-smaller : goal.loop-at-smaller
loop-at-smaller c =
    let a = c.args in
    let base = first_rows a.out.now a.count in
    let l = c.loop-at in
    let b = walk_less a.how c.requires.2 (row_at stride a.left.now a.i) c.key_of-key.result c.key_of-key.ensures
    a.right.now a.m c.requires.6 a.keys.now c.requires.7 a.heads.now a.next.now c.requires.8 base (wide_rows stride a.out.now 0 a.count)
    (ascending-holds base c.requires.4)
    l.at l.out l.rows c.loop-at-test.true l.invariant in
    omega (arith, b.0, b.1)

pub loop-at-preserved : goal.loop-at-preserved
loop-at-preserved c =
    let a = c.args in
    let base = first_rows a.out.now a.count in
    let l = c.loop-at in
    walk_passes a.how c.requires.2 (row_at stride a.left.now a.i) c.key_of-key.result c.key_of-key.ensures
    a.right.now a.m c.requires.6 a.keys.now c.requires.7 a.heads.now a.next.now c.requires.8 base (wide_rows stride a.out.now 0 a.count)
    (ascending-holds base c.requires.4)
    l.at l.out l.rows c.loop-at-test.true l.invariant c.if-keys-j.false

pub returns : goal.returns
returns c =
    let a = c.args in
    let base = first_rows a.out.now a.count in
    let l = c.loop-at in
    walk_ends a.how c.requires.2 (row_at stride a.left.now a.i) c.key_of-key.result c.key_of-key.ensures
    a.right.now a.m c.requires.6 a.keys.now c.requires.7 a.heads.now a.next.now c.requires.8 base (wide_rows stride a.out.now 0 a.count)
    (ascending-holds base c.requires.4)
    l.at l.out l.rows (omega (arith, l.invariant.most, c.loop-at-test.false)) l.invariant
