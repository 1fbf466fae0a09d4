use native.Mathlib.Omega.{arith}
use borrow.Author.Tests.{ne_eqb}
use Rattle.records.proofs.Header.{whole}
use Rattle.node_records.proofs.priority_at.Goals as goal

pub u16_at-requires : goal.u16_at-requires
u16_at-requires c = omega (arith, (whole c.args.bytes.now c.args.at c.requires).header)

pub field_at-requires : goal.field_at-requires
field_at-requires c = omega (arith, (whole c.args.bytes.now c.args.at c.requires).inside, c.if-u16_at-eq10.true, c.u16_at.ensures.is)

pub returns : goal.returns
returns c = rw (← c.u16_at.ensures.is, ne_eqb c.u16_at.result 10 c.if-u16_at-eq10.false)
