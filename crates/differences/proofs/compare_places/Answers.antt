use Prim.Native.Nat.{Ordering}
use native.Mathlib.Omega.{arith}
use Rattle.laws.proofs.Order.{lt≢gt}
use Rattle.merges.proofs.Merged.{told}
use Rattle.differences.proofs.Picked.{comparing_end, comparing_equal, comparing_greater, comparing_less, old-left}
use Rattle.differences.proofs.compare_places.Goals as goal

pub loop-j-preserved-in-Less : goal.loop-j-preserved-in-Less
loop-j-preserved-in-Less c =
    let a = c.args in
    let l = c.loop-j in
    comparing_less a.old.now a.m a.new.now a.n c.requires.1 c.requires.0 l.i l.j l.picks l.gained l.lost l.invariant (omega arith)
    (told c.in-Less.is c.compare_first.ensures)

pub loop-j-preserved-in-Equal : goal.loop-j-preserved-in-Equal
loop-j-preserved-in-Equal c =
    let a = c.args in
    let l = c.loop-j in
    comparing_equal a.old.now a.m a.new.now a.n c.requires.1 c.requires.0 l.i l.j l.picks l.gained l.lost l.invariant (omega arith)
    (told c.in-Equal.is c.compare_first.ensures)

pub bounds-picks-lost : goal.bounds-picks-lost
bounds-picks-lost c =
    let a = c.args in
    let l = c.loop-j in
    -- past the last old row a new one is less
    omega (
      arith,
      old-left a.old.now a.m a.new.now a.n c.requires.1 c.requires.0 l.i l.j l.picks l.gained l.lost l.invariant (omega arith)
          Ordering.gt (told c.in-Greater.is c.compare_first.ensures) lt≢gt,
    )

pub loop-j-smaller : goal.loop-j-smaller
loop-j-smaller c =
    let a = c.args in
    let l = c.loop-j in
    -- past the last old row a new one is less
    omega (
      arith,
      old-left a.old.now a.m a.new.now a.n c.requires.1 c.requires.0 l.i l.j l.picks l.gained l.lost l.invariant (omega arith)
          Ordering.gt (told c.in-Greater.is c.compare_first.ensures) lt≢gt,
    )

pub loop-j-preserved : goal.loop-j-preserved
loop-j-preserved c =
    let a = c.args in
    let l = c.loop-j in
    comparing_greater a.old.now a.m a.new.now a.n c.requires.1 c.requires.0 l.i l.j l.picks l.gained l.lost l.invariant (omega arith)
    (told c.in-Greater.is c.compare_first.ensures)

pub returns : goal.returns
returns c =
    let a = c.args in
    let l = c.loop-j in
    comparing_end a.old.now a.m a.new.now a.n c.requires.1 c.requires.0 l.i l.j l.picks l.gained l.lost l.invariant (omega arith)
    c.put_numbers.new.out c.put_numbers.ensures c.requires.4 c.requires.5
