use Rattle.records.proofs.Header.{whole}
use Rattle.node_records.proofs.Body.{table-size, table-low, table_high, table_ok}
use native.Mathlib.Omega.{arith}
use Rattle.node_records.proofs.read_table.Goals as goal

pub u16_at-requires : goal.u16_at-requires
u16_at-requires c = let a = c.args in omega (arith, (whole a.bytes.now a.at c.requires).header)

pub returns-then-u16_at-ne6 : goal.returns-then-u16_at-ne6
returns-then-u16_at-ne6 c = let a = c.args in λ ws signs. table-size ws signs a.bytes.now a.at c.u16_at.result c.u16_at.ensures.is c.if-u16_at-ne6.true

pub field_at-width-requires : goal.field_at-width-requires
field_at-width-requires c = let a = c.args in omega
    (arith, (whole a.bytes.now a.at c.requires).inside, c.if-u16_at-ne6.false, c.u16_at.ensures.is)

pub returns-then-width-lt1 : goal.returns-then-width-lt1
returns-then-width-lt1 c = let a = c.args in λ ws signs. table-low ws signs a.bytes.now a.at c.u16_at.result
    c.u16_at.ensures.is c.if-u16_at-ne6.false c.field_at-width.result c.field_at-width.ensures.is c.if-width-lt1.true

pub returns-then-width-gt-MAX_WIDTH : goal.returns-then-width-gt-MAX_WIDTH
returns-then-width-gt-MAX_WIDTH c = let a = c.args in λ ws signs. table_high ws signs a.bytes.now a.at c.u16_at.result
    c.u16_at.ensures.is c.if-u16_at-ne6.false c.field_at-width.result c.field_at-width.ensures.is
    c.if-width-gt-MAX_WIDTH.true

pub returns : goal.returns
returns c = let a = c.args in λ ws signs. table_ok ws signs a.bytes.now a.at c.u16_at.result
    c.u16_at.ensures.is c.if-u16_at-ne6.false c.field_at-width.result c.field_at-width.ensures.is
    c.if-width-lt1.false c.if-width-gt-MAX_WIDTH.false
