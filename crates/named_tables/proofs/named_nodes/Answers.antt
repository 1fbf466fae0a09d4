use mathlib.Core.Path.{ap}
use Prim.Native.Nat.{ℕ, ◌+◌}
use native.Mathlib.Omega.{arith}
use Rattle.named_tables.proofs.Marks.{marking_start, marking_whole, marking_inside, marking_node, marking_more, marking_end}
use Rattle.named_tables.proofs.named_nodes.Goals as goal

pub loop-at-init : goal.loop-at-init
loop-at-init c = marking_start c.args.bytes.now c.requires

pub field_at-table-requires : goal.field_at-table-requires
field_at-table-requires c =
    let l = c.loop-at in
    omega (arith, marking_inside c.args.bytes.now l.named l.at l.invariant c.loop-at-test.true)

pub bounds-named-table : goal.bounds-named-table
bounds-named-table c =
    let l = c.loop-at in
    omega (
      arith,
      l.invariant.long,
      c.field_at-table.ensures.is,
      marking_node c.args.bytes.now l.named l.at l.invariant c.loop-at-test.true,
    )

pub u16_at-requires : goal.u16_at-requires
u16_at-requires c =
    let l = c.loop-at in
    omega (arith, marking_inside c.args.bytes.now l.named l.at l.invariant c.loop-at-test.true)

pub loop-at-smaller : goal.loop-at-smaller
loop-at-smaller c =
    let l = c.loop-at in
    let w = marking_whole c.args.bytes.now l.named l.at l.invariant c.loop-at-test.true in
    omega (arith, w.least, c.u16_at.ensures.is, c.loop-at-test.true)

pub loop-at-preserved : goal.loop-at-preserved
loop-at-preserved c =
    let l = c.loop-at in
    marking_more c.args.bytes.now l.named l.at l.invariant c.loop-at-test.true c.field_at-table.result
    (l.at + c.u16_at.result) c.field_at-table.ensures.is (ap (λ (n : ℕ). l.at + n) c.u16_at.ensures.is)

pub returns : goal.returns
returns c =
    let l = c.loop-at in
    record { marks = marking_end c.args.bytes.now l.named l.at l.invariant (omega (arith, c.loop-at-test.false)) }
