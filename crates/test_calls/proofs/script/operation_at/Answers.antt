use native.Mathlib.Omega.{arith}
use lib.ListN.{length}
use borrow.Author.Tests.{le-leb, lt-leb}
use Rattle.test_calls.specs.Script.{operation_in}
use Rattle.test_calls.proofs.script.operation_at.Goals as goal

pub returns-then-end-at-lt10 : goal.returns-then-end-at-lt10
returns-then-end-at-lt10 c =
    let a = c.args in
    let short = lt-leb (operation_in a.bytes.now a.at).next (length a.bytes.now) (omega arith) in
    record { is = rw short; after = omega arith; text = omega arith; whole = omega arith }

pub returns-then-end-next : goal.returns-then-end-next
returns-then-end-next c =
    let a = c.args in
    let short = lt-leb (operation_in a.bytes.now a.at).next (length a.bytes.now) (omega (arith, c.u16_at.ensures.is)) in
    record { is = rw short; after = omega arith; text = omega arith; whole = omega arith }

pub returns : goal.returns
returns c =
    let a = c.args in
    let u = c.u16_at in
    let fits = le-leb (operation_in a.bytes.now a.at).next (length a.bytes.now) (omega (arith, c.if-end-next.false, u.ensures.is)) in
    record {
      is = rw (fits, c.from.ensures, c.from-2.ensures, c.u16_at-2.ensures.is, c.u32_at.ensures, u.ensures.is);
      after = omega arith;
      text = omega arith;
      whole = omega (arith, c.if-end-next.false);
    }
