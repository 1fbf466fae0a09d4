use Rattle.std.proofs.lemmas.Result.{err_from_is_err_and}
use Rattle.records.proofs.Header.{whole}
use Rattle.derived_records.proofs.Body.{set-size, set_no_inputs, set_unequal, set_ok, reads_as}
use native.Mathlib.Omega.{arith}
use Rattle.derived_records.proofs.read_set.Goals as goal

pub returns-then-u16_at-ne8 : goal.returns-then-u16_at-ne8
returns-then-u16_at-ne8 c =
    let a = c.args in
    reads_as _ c.requires.2
    (λ signs. set-size a.widths.now a.count c.requires.1 signs a.bytes.now a.at a.operation c.u16_at.result
    c.u16_at.ensures.is c.if-u16_at-ne8.true)

pub inputs_at-requires : goal.inputs_at-requires
inputs_at-requires c = let a = c.args in omega
    (arith, (whole a.bytes.now a.at c.requires.0).inside, c.if-u16_at-ne8.false, c.u16_at.ensures.is)

pub returns-in_err-left : goal.returns-in_err-left
returns-in_err-left c =
    let a = c.args in
    let p = err_from_is_err_and c.from_residual.result c.from_residual.ensures.1 in
    rw (p.1, p.2, c.in_err-left.ensures.0)
    (reads_as _ c.requires.2
    (λ signs. set_no_inputs a.widths.now a.count c.requires.1 signs a.bytes.now a.at a.operation c.u16_at.result
    c.u16_at.ensures.is c.if-u16_at-ne8.false c.in_err-left.ensures.1))

pub returns-then-widths-left : goal.returns-then-widths-left
returns-then-widths-left c =
    let a = c.args in
    let i = c.in_ok-left in
    reads_as _ c.requires.2
    (λ signs. set_unequal a.widths.now a.count c.requires.1 signs a.bytes.now a.at a.operation c.u16_at.result
    c.u16_at.ensures.is c.if-u16_at-ne8.false i.field-0.left i.ensures.0 i.ensures.1 i.field-0.right i.ensures.2
    i.ensures.3 c.if-widths-left.true)

pub returns : goal.returns
returns c =
    let a = c.args in
    let i = c.in_ok-left in
    reads_as _ c.requires.2
    (λ signs. set_ok a.widths.now a.count c.requires.1 signs a.bytes.now a.at a.operation c.u16_at.result
    c.u16_at.ensures.is c.if-u16_at-ne8.false i.field-0.left i.ensures.0 i.ensures.1 i.field-0.right i.ensures.2
    i.ensures.3 c.if-widths-left.false)
