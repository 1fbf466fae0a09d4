use Prim.Native.Nat.{◌<◌}
use lib.ListN.{take}
use Rattle.std.proofs.lemmas.Result.{err_from_is_err_and}
use Rattle.records.proofs.Header.{whole}
use Rattle.derived_records.proofs.Body.{column-size, column-not, column_high, column_ok, select_input, first_at, reads_as}
use native.Mathlib.Omega.{arith}
use Rattle.derived_records.proofs.read_select_column.Goals as goal

pub returns-then-u16_at-ne12 : goal.returns-then-u16_at-ne12
returns-then-u16_at-ne12 c =
    let a = c.args in
    reads_as 3 c.requires.2
    (λ signs. column-size (take a.count a.widths.now) signs a.bytes.now a.at c.u16_at.result c.u16_at.ensures.is c.if-u16_at-ne12.true)

pub selection_at-requires : goal.selection_at-requires
selection_at-requires c = let a = c.args in
    (omega (arith, (whole a.bytes.now a.at c.requires.0).inside, c.if-u16_at-ne12.false, c.u16_at.ensures.is), c.requires.1)

pub returns-in_err-input : goal.returns-in_err-input
returns-in_err-input c =
    let a = c.args in
    let p = err_from_is_err_and c.from_residual.result c.from_residual.ensures.1 in
    rw (p.1, p.2, c.in_err-input.ensures.0)
    (reads_as 3 c.requires.2
    (λ signs. column-not (take a.count a.widths.now) signs a.bytes.now a.at c.u16_at.result
    c.u16_at.ensures.is c.if-u16_at-ne12.false c.in_err-input.ensures.1))

pub field_at-other-requires : goal.field_at-other-requires
field_at-other-requires c = let a = c.args in omega (
  arith,
  (whole a.bytes.now a.at c.requires.0).inside,
  c.if-u16_at-ne12.false,
  c.u16_at.ensures.is,
)

pub bounds-widths-input : goal.bounds-widths-input
bounds-widths-input c = let a = c.args in let s = c.in_ok-input in omega (
  arith,
  s.ensures.0,
  select_input a.widths.now a.count c.requires.1 a.bytes.now a.at s.ensures.4,
)

pub returns-then-widths-input : goal.returns-then-widths-input
returns-then-widths-input c =
    let a = c.args in
    let s = c.in_ok-input in
    let input : s.field-0.input < a.count = rw s.ensures.0
    (select_input a.widths.now a.count c.requires.1 a.bytes.now a.at s.ensures.4) in
    reads_as 3 c.requires.2
    (λ signs. column_high (take a.count a.widths.now) signs a.bytes.now a.at c.u16_at.result
    c.u16_at.ensures.is s.field-0.input c.field_at-other.result
    s.ensures.0 c.field_at-other.ensures.is c.if-u16_at-ne12.false s.ensures.4
    (rw (first_at a.widths.now a.count s.field-0.input input) c.if-widths-input.true))

pub returns : goal.returns
returns c =
    let a = c.args in
    let s = c.in_ok-input in
    let input : s.field-0.input < a.count = rw s.ensures.0
    (select_input a.widths.now a.count c.requires.1 a.bytes.now a.at s.ensures.4) in
    reads_as 3 c.requires.2
    (λ signs. column_ok (take a.count a.widths.now) signs a.bytes.now a.at c.u16_at.result
    c.u16_at.ensures.is s.field-0.input c.field_at-other.result
    s.ensures.0 c.field_at-other.ensures.is c.if-u16_at-ne12.false s.ensures.4
    (rw (first_at a.widths.now a.count s.field-0.input input) c.if-widths-input.false)
    s.field-0.column s.field-0.comparison s.ensures.1 s.ensures.2)
