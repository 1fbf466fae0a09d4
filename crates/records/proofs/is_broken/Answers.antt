use mathlib.Core.Path.{sym, ap, ◌∙◌}
use Prim.Native.Nat.{◌-◌, ◌<◌, ◌≤◌}
use lib.Dec.{ltb}
use lib.ListN.{length}
use Rattle.model.specs.Record.{length_at}
use Rattle.records.proofs.Header.{broken_rest, broken-size, broken-end}
use Rattle.records.proofs.is_broken.Goals as goal

pub returns-then-rest-lt4 : goal.returns-then-rest-lt4
returns-then-rest-lt4 c = sym (broken_rest c.args.bytes.now c.args.at c.if-rest-lt4.true)

pub returns-then-size-lt4 : goal.returns-then-size-lt4
returns-then-size-lt4 c =
    let a = c.args in
    let e : length_at a.bytes.now a.at < 4 = rw c.u16_at-size.ensures.is at c.if-size-lt4.true in
    sym (broken-size a.bytes.now a.at c.if-rest-lt4.false e)

pub returns : goal.returns
returns c =
    let a = c.args in
    let e : 4 ≤ length_at a.bytes.now a.at = rw c.u16_at-size.ensures.is at c.if-size-lt4.false in
    ap (ltb (length a.bytes.now - a.at)) c.u16_at-size.ensures.is ∙ sym (broken-end a.bytes.now a.at c.if-rest-lt4.false e)
