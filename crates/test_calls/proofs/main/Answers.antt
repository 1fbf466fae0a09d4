use mathlib.Core.Path.{◌∙◌, ◌≡◌}
use mathlib.Core.List.{List}
use Prim.Native.Nat.{ℕ, ◌-◌, ◌≤◌}
use native.Mathlib.Omega.{arith}
use lib.ListN.{drop, length, take}
use lib.Seq.{length-take-le}
use Rattle.test_calls.proofs.Ran.{length-take-small, text-kept}
use Rattle.test_calls.proofs.main.Goals as goal
use Rattle.test_calls.proofs.main.Goals.{then-eq, else-eq}

-- the script's length
size : (input : List ℕ) (n : ℕ) → length input ≡ 65536 → n ≤ 65536 → length (take n input) ≡ n
size input n e h = length-take-le n input (omega arith)

pub slice_bounds-run-count : goal.slice_bounds-run-count
slice_bounds-run-count c =
    let i = c.loop-at.invariant in
    let w = c.operation_at-op.ensures in
    let n = size c.read_full-n.new.buf c.read_full-n.result i.0 i.1 in
    -- the network's part of the script, after the operation that may bring one
    let j : (c.if-eq.from ≤ c.if-eq.to) × (c.if-eq.to ≤ c.read_full-n.result) = elim c.if-eq.branch [
      | then-eq s ↦ (omega (arith, s.from-is, s.to-is, w.text), omega (arith, s.to-is, w.whole, n))
      | else-eq s ↦ (omega (arith, s.from-is, s.to-is, i.2), omega (arith, s.to-is, i.3))
    ] in
    j.0

pub slice_bounds-run-start : goal.slice_bounds-run-start
slice_bounds-run-start c =
    let i = c.loop-at.invariant in
    let w = c.operation_at-op.ensures in
    let n = size c.read_full-n.new.buf c.read_full-n.result i.0 i.1 in
    -- the network's part of the script, after the operation that may bring one
    let j : (c.if-eq.from ≤ c.if-eq.to) × (c.if-eq.to ≤ c.read_full-n.result) = elim c.if-eq.branch [
      | then-eq s ↦ (omega (arith, s.from-is, s.to-is, w.text), omega (arith, s.to-is, w.whole, n))
      | else-eq s ↦ (omega (arith, s.from-is, s.to-is, i.2), omega (arith, s.to-is, i.3))
    ] in
    omega (arith, j.0, j.1, n)

pub slice_bounds-run-end : goal.slice_bounds-run-end
slice_bounds-run-end c =
    let i = c.loop-at.invariant in
    let w = c.operation_at-op.ensures in
    let n = size c.read_full-n.new.buf c.read_full-n.result i.0 i.1 in
    -- the network's part of the script, after the operation that may bring one
    let j : (c.if-eq.from ≤ c.if-eq.to) × (c.if-eq.to ≤ c.read_full-n.result) = elim c.if-eq.branch [
      | then-eq s ↦ (omega (arith, s.from-is, s.to-is, w.text), omega (arith, s.to-is, w.whole, n))
      | else-eq s ↦ (omega (arith, s.from-is, s.to-is, i.2), omega (arith, s.to-is, i.3))
    ] in
    omega (arith, j.1, n)

pub slice_bounds-run-count-in-loop-at : goal.slice_bounds-run-count-in-loop-at
slice_bounds-run-count-in-loop-at c = c.operation_at-op.ensures.text

pub slice_bounds-run-start-in-loop-at : goal.slice_bounds-run-start-in-loop-at
slice_bounds-run-start-in-loop-at c = let w = c.operation_at-op.ensures in
    omega (arith, w.text, w.whole)

pub slice_bounds-run-end-in-loop-at : goal.slice_bounds-run-end-in-loop-at
slice_bounds-run-end-in-loop-at c = c.operation_at-op.ensures.whole

pub run-k-requires : goal.run-k-requires
run-k-requires c = let i = c.loop-at.invariant in
    let w = c.operation_at-op.ensures in
    let n = size c.read_full-n.new.buf
    c.read_full-n.result i.0 i.1 in (
      omega (
        arith,
        length-take-small (c.operation_at-op.result.next - c.operation_at-op.result.from) (drop c.operation_at-op.result.from (take c.read_full-n.result c.read_full-n.new.buf)),
        w.whole,
        n,
        i.1,
      ),
      i.5,
    )

pub slice_bounds-text-end : goal.slice_bounds-text-end
slice_bounds-text-end c = omega (
  arith,
  c.run-k.ensures.fits,
  c.loop-at.invariant.4,
  text-kept c.run-k.ensures,
)

pub loop-at-smaller : goal.loop-at-smaller
loop-at-smaller c = let i = c.loop-at.invariant in
    let w = c.operation_at-op.ensures in
    let n = size c.read_full-n.new.buf c.read_full-n.result i.0 i.1 in
    omega (
      arith,
      w.after,
      w.whole,
      n,
      c.loop-at-test.true,
    )

pub loop-at-preserved : goal.loop-at-preserved
loop-at-preserved c =
    let i = c.loop-at.invariant in
    let w = c.operation_at-op.ensures in
    let n = size c.read_full-n.new.buf c.read_full-n.result i.0 i.1 in
    -- the network's part of the script, after the operation that may bring one
    let j : (c.if-eq.from ≤ c.if-eq.to) × (c.if-eq.to ≤ c.read_full-n.result) = elim c.if-eq.branch [
      | then-eq s ↦ (omega (arith, s.from-is, s.to-is, w.text), omega (arith, s.to-is, w.whole, n))
      | else-eq s ↦ (omega (arith, s.from-is, s.to-is, i.2), omega (arith, s.to-is, i.3))
    ] in
    (i.0, i.1, j.0, j.1, text-kept c.run-k.ensures ∙ i.4, c.run-k.auto.out ∙ i.5)
