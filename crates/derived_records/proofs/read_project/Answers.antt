use mathlib.Core.Path.{refl, sym, ◌∙◌}
use Rattle.std.proofs.lemmas.Result.{err_from_is_err_and}
use Rattle.records.proofs.Header.{whole}
use Rattle.derived_records.proofs.Body.{shape-counted, project_unshaped, project_no_input, project_high, project_ok, reads_as}
use native.Mathlib.Omega.{arith}
use Rattle.model.specs.Row.{max_width}
use Rattle.derived_records.proofs.read_project.Goals as goal

pub returns-then-not-counted_shape : goal.returns-then-not-counted_shape
returns-then-not-counted_shape c =
    let a = c.args in
    reads_as 4 c.requires.2
    (λ signs. project_unshaped a.widths.now a.count c.requires.1 signs a.bytes.now a.at
    (sym c.counted_shape.ensures ∙ c.if-not-counted_shape.true))

pub input_at-requires : goal.input_at-requires
input_at-requires c = let a = c.args in let sh = shape-counted 1 max_width 1 a.bytes.now a.at
    (sym c.counted_shape.ensures ∙ c.if-not-counted_shape.false) in omega (arith, (whole a.bytes.now a.at c.requires.0).inside, sh.size)

pub returns-in_err-input : goal.returns-in_err-input
returns-in_err-input c =
    let a = c.args in
    let p = err_from_is_err_and c.from_residual.result c.from_residual.ensures.1 in
    rw (p.1, p.2, c.in_err-input.ensures.0)
    (reads_as 4 c.requires.2
    (λ signs. project_no_input a.widths.now a.count c.requires.1 signs a.bytes.now a.at
    (sym c.counted_shape.ensures ∙ c.if-not-counted_shape.false) _ refl c.in_err-input.ensures.1))

pub field_at-columns-requires : goal.field_at-columns-requires
field_at-columns-requires c = let a = c.args in let sh = shape-counted 1 max_width 1 a.bytes.now a.at
    (sym c.counted_shape.ensures ∙ c.if-not-counted_shape.false) in omega
    (arith, (whole a.bytes.now a.at c.requires.0).inside, sh.size)

pub columns_below-requires : goal.columns_below-requires
columns_below-requires c = let a = c.args in let sh = shape-counted 1 max_width 1 a.bytes.now a.at
    (sym c.counted_shape.ensures ∙ c.if-not-counted_shape.false) in omega
    (arith, (whole a.bytes.now a.at c.requires.0).inside, sh.size, c.field_at-columns.ensures.is)

pub returns-then-not-columns_below : goal.returns-then-not-columns_below
returns-then-not-columns_below c =
    let a = c.args in
    let i = c.in_ok-input in
    reads_as 4 c.requires.2
    (λ signs. project_high a.widths.now a.count c.requires.1 signs a.bytes.now a.at
    (sym c.counted_shape.ensures ∙ c.if-not-counted_shape.false) i.input i.ensures.0 i.ensures.1
    c.field_at-columns.result c.field_at-columns.ensures.is (sym c.columns_below.ensures ∙ c.if-not-columns_below.true))

pub returns : goal.returns
returns c =
    let a = c.args in
    let i = c.in_ok-input in
    reads_as 4 c.requires.2
    (λ signs. project_ok a.widths.now a.count c.requires.1 signs a.bytes.now a.at
    (sym c.counted_shape.ensures ∙ c.if-not-counted_shape.false) i.input i.ensures.0 i.ensures.1
    c.field_at-columns.result c.field_at-columns.ensures.is (sym c.columns_below.ensures ∙ c.if-not-columns_below.false)
    (whole a.bytes.now a.at c.requires.0).inside)
