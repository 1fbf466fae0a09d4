use mathlib.Core.Path.{sym}
use Rattle.records.proofs.Header.{whole}
use Rattle.derived_records.proofs.Body.{join-short, join-pairs, join_no_count, join_none, join_many, join-size}
use native.Mathlib.Omega.{arith}
use Rattle.derived_records.proofs.join_shape.Goals as goal

pub u16_at-size-requires : goal.u16_at-size-requires
u16_at-size-requires c = let a = c.args in omega (arith, (whole a.bytes.now a.at c.requires).header)

pub returns-then-size-lt10 : goal.returns-then-size-lt10
returns-then-size-lt10 c = let a = c.args in sym (join-short a.bytes.now a.at c.u16_at-size.result c.u16_at-size.ensures.is c.if-size-lt10.true)

pub field_at-pairs-requires : goal.field_at-pairs-requires
field_at-pairs-requires c = let a = c.args in omega
    (arith, (whole a.bytes.now a.at c.requires).inside, c.if-size-lt10.false, c.u16_at-size.ensures.is)

pub returns-then-pairs-gt-MAX_PAIRS : goal.returns-then-pairs-gt-MAX_PAIRS
returns-then-pairs-gt-MAX_PAIRS c = let a = c.args in sym
    (join-pairs a.bytes.now a.at c.u16_at-size.result c.u16_at-size.ensures.is c.if-size-lt10.false
    c.field_at-pairs.result c.field_at-pairs.ensures.is c.if-pairs-gt-MAX_PAIRS.true)

pub returns-then-size-pairs : goal.returns-then-size-pairs
returns-then-size-pairs c = let a = c.args in sym
    (join_no_count a.bytes.now a.at c.u16_at-size.result c.u16_at-size.ensures.is c.if-size-lt10.false
    c.field_at-pairs.result c.field_at-pairs.ensures.is c.if-pairs-gt-MAX_PAIRS.false c.if-size-pairs.true)

pub field_at-columns-requires : goal.field_at-columns-requires
field_at-columns-requires c = let a = c.args in omega
    (arith, (whole a.bytes.now a.at c.requires).inside, c.if-size-pairs.false, c.u16_at-size.ensures.is)

pub returns-then-columns-lt1 : goal.returns-then-columns-lt1
returns-then-columns-lt1 c = let a = c.args in sym
    (join_none a.bytes.now a.at c.u16_at-size.result c.u16_at-size.ensures.is
    c.if-size-lt10.false c.field_at-pairs.result c.field_at-pairs.ensures.is
    c.if-pairs-gt-MAX_PAIRS.false c.if-size-pairs.false c.field_at-columns.result c.field_at-columns.ensures.is c.if-columns-lt1.true)

pub returns-then-columns-gt-MAX_WIDTH : goal.returns-then-columns-gt-MAX_WIDTH
returns-then-columns-gt-MAX_WIDTH c = let a = c.args in sym
    (join_many a.bytes.now a.at c.u16_at-size.result
    c.u16_at-size.ensures.is c.if-size-lt10.false
    c.field_at-pairs.result c.field_at-pairs.ensures.is c.if-pairs-gt-MAX_PAIRS.false
    c.if-size-pairs.false c.field_at-columns.result c.field_at-columns.ensures.is c.if-columns-lt1.false c.if-columns-gt-MAX_WIDTH.true)

pub returns : goal.returns
returns c = let a = c.args in join-size a.bytes.now a.at
    c.u16_at-size.result c.u16_at-size.ensures.is
    c.if-size-lt10.false c.field_at-pairs.result
    c.field_at-pairs.ensures.is c.if-pairs-gt-MAX_PAIRS.false c.if-size-pairs.false
    c.field_at-columns.result c.field_at-columns.ensures.is c.if-columns-lt1.false c.if-columns-gt-MAX_WIDTH.false
