use native.Mathlib.Omega.{arith}
use borrow.Author.Tests.{ne_eqb}
use Rattle.records.proofs.Header.{whole}
use Rattle.node_records.proofs.watch_shape.Goals as goal

pub u16_at-size-requires : goal.u16_at-size-requires
u16_at-size-requires c = omega (arith, (whole c.args.bytes.now c.args.at c.requires).header)

pub returns : goal.returns
returns c = rw (← c.u16_at-size.ensures.is, ne_eqb c.u16_at-size.result 8 c.if-size-eq8.false)
