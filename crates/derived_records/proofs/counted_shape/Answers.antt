use mathlib.Core.Path.{sym}
use Rattle.records.proofs.Header.{whole}
use Rattle.derived_records.proofs.Body.{counted-short, counted_none, counted_many, counted-size}
use native.Mathlib.Omega.{arith}
use Rattle.derived_records.proofs.counted_shape.Goals as goal

pub u16_at-size-requires : goal.u16_at-size-requires
u16_at-size-requires c = let a = c.args in omega (arith, (whole a.bytes.now a.at c.requires.0).header)

pub returns-then-size-k : goal.returns-then-size-k
returns-then-size-k c = let a = c.args in sym (counted-short a.k a.most a.each a.bytes.now a.at c.u16_at-size.result
    c.u16_at-size.ensures.is c.if-size-k.true)

pub field_at-count-requires : goal.field_at-count-requires
field_at-count-requires c = let a = c.args in omega
    (arith, (whole a.bytes.now a.at c.requires.0).inside, c.if-size-k.false, c.u16_at-size.ensures.is)

pub returns-then-count-lt1 : goal.returns-then-count-lt1
returns-then-count-lt1 c = let a = c.args in sym
    (counted_none a.k a.most a.each a.bytes.now a.at c.u16_at-size.result c.u16_at-size.ensures.is c.if-size-k.false
    c.field_at-count.result c.field_at-count.ensures.is c.if-count-lt1.true)

pub returns-then-most-count : goal.returns-then-most-count
returns-then-most-count c = let a = c.args in sym
    (counted_many a.k a.most a.each a.bytes.now a.at c.u16_at-size.result c.u16_at-size.ensures.is
    c.if-size-k.false
    c.field_at-count.result c.field_at-count.ensures.is c.if-count-lt1.false c.if-most-count.true)

pub returns : goal.returns
returns c = let a = c.args in counted-size a.k a.most a.each a.bytes.now a.at c.u16_at-size.result
    c.u16_at-size.ensures.is c.if-size-k.false c.field_at-count.result c.field_at-count.ensures.is
    c.if-count-lt1.false c.if-most-count.false
