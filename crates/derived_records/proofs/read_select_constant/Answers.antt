use lib.ListN.{take}
use Rattle.std.proofs.lemmas.Result.{err_from_is_err_and}
use Rattle.records.proofs.Header.{whole}
use Rattle.derived_records.proofs.Body.{constant-size, constant-not, constant_ok, reads_as}
use native.Mathlib.Omega.{arith}
use Rattle.derived_records.proofs.read_select_constant.Goals as goal

pub returns-then-u16_at-ne14 : goal.returns-then-u16_at-ne14
returns-then-u16_at-ne14 c =
    let a = c.args in
    reads_as 2 c.requires.2
    (λ signs. constant-size (take a.count a.widths.now) signs a.bytes.now a.at c.u16_at.result c.u16_at.ensures.is c.if-u16_at-ne14.true)

pub selection_at-requires : goal.selection_at-requires
selection_at-requires c = let a = c.args in
    (omega (arith, (whole a.bytes.now a.at c.requires.0).inside, c.if-u16_at-ne14.false, c.u16_at.ensures.is), c.requires.1)

pub returns-in_err-input : goal.returns-in_err-input
returns-in_err-input c =
    let a = c.args in
    let p = err_from_is_err_and c.from_residual.result c.from_residual.ensures.1 in
    rw (p.1, p.2, c.in_err-input.ensures.0)
    (reads_as 2 c.requires.2
    (λ signs. constant-not (take a.count a.widths.now) signs a.bytes.now a.at c.u16_at.result
    c.u16_at.ensures.is c.if-u16_at-ne14.false c.in_err-input.ensures.1))

pub u32_at-requires : goal.u32_at-requires
u32_at-requires c = let a = c.args in omega (
  arith,
  (whole a.bytes.now a.at c.requires.0).inside,
  c.if-u16_at-ne14.false,
  c.u16_at.ensures.is,
)

pub returns : goal.returns
returns c =
    let a = c.args in
    let s = c.in_ok-input in
    reads_as 2 c.requires.2
    (λ signs. constant_ok (take a.count a.widths.now) signs a.bytes.now a.at c.u16_at.result
    c.u16_at.ensures.is c.if-u16_at-ne14.false s.ensures.4
    s.field-0.input s.field-0.column s.field-0.comparison c.u32_at.result
    s.ensures.0 s.ensures.1 s.ensures.2 c.u32_at.ensures)
