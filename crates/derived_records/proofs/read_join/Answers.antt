use mathlib.Core.Path.{◌≡◌, sym, ◌∙◌}
use Prim.Native.Nat.{◌+◌, ◌*◌}
use Rattle.std.proofs.lemmas.Result.{err_from_is_err_and}
use Rattle.model.specs.Record.{field_at}
use Rattle.records.proofs.Header.{whole}
use Rattle.derived_records.proofs.Body.{join-shaped, join_unshaped, join_no_inputs, join_bad_pair, join_high, join_ok, reads_as}
use native.Mathlib.Omega.{arith}
use Rattle.derived_records.proofs.read_join.Goals as goal

pub returns-then-not-join_shape : goal.returns-then-not-join_shape
returns-then-not-join_shape c =
    let a = c.args in
    reads_as 5 c.requires.3
    (λ signs. join_unshaped a.widths.now a.count c.requires.1 signs a.bytes.now a.at
    (sym c.join_shape.ensures ∙ c.if-not-join_shape.true))

pub inputs_at-requires : goal.inputs_at-requires
inputs_at-requires c = let a = c.args in let sh = join-shaped a.bytes.now a.at (sym c.join_shape.ensures ∙ c.if-not-join_shape.false)
    in omega (arith, (whole a.bytes.now a.at c.requires.0).inside, sh.size)

pub returns-in_err-left : goal.returns-in_err-left
returns-in_err-left c =
    let a = c.args in
    let p = err_from_is_err_and c.from_residual.result c.from_residual.ensures.1 in
    rw (p.1, p.2, c.in_err-left.ensures.0)
    (reads_as 5 c.requires.3
    (λ signs. join_no_inputs a.widths.now a.count c.requires.1 signs a.bytes.now a.at
    (sym c.join_shape.ensures ∙ c.if-not-join_shape.false) c.in_err-left.ensures.1))

pub field_at-pairs-requires : goal.field_at-pairs-requires
field_at-pairs-requires c = let a = c.args in let sh = join-shaped a.bytes.now a.at
    (sym c.join_shape.ensures ∙ c.if-not-join_shape.false) in omega
    (arith, (whole a.bytes.now a.at c.requires.0).inside, sh.size)

pub pairs_below-requires : goal.pairs_below-requires
pairs_below-requires c = let a = c.args in let sh = join-shaped a.bytes.now a.at
    (sym c.join_shape.ensures ∙ c.if-not-join_shape.false)
    in omega (
      arith,
      (whole a.bytes.now a.at c.requires.0).inside,
      sh.size,
      c.field_at-pairs.ensures.is,
    )

pub returns-then-not-pairs_below : goal.returns-then-not-pairs_below
returns-then-not-pairs_below c =
    let a = c.args in
    let i = c.in_ok-left in
    reads_as 5 c.requires.3
    (λ signs. join_bad_pair a.widths.now a.count c.requires.1 signs
    a.bytes.now a.at (sym c.join_shape.ensures ∙ c.if-not-join_shape.false)
    i.field-0.left i.ensures.0 i.ensures.1 i.field-0.right i.ensures.2 i.ensures.3
    c.field_at-pairs.result c.field_at-pairs.ensures.is
    (sym c.pairs_below.ensures ∙ c.if-not-pairs_below.true))

pub field_at-columns-requires : goal.field_at-columns-requires
field_at-columns-requires c = let a = c.args in let sh = join-shaped a.bytes.now
    a.at (sym c.join_shape.ensures
    ∙ c.if-not-join_shape.false) in omega (
      arith,
      (whole a.bytes.now a.at c.requires.0).inside,
      sh.size,
      sh.pairs,
      c.field_at-pairs.ensures.is,
    )

pub columns_below-requires : goal.columns_below-requires
columns_below-requires c =
    let a = c.args in let sh = join-shaped a.bytes.now
    a.at (sym c.join_shape.ensures
    ∙ c.if-not-join_shape.false) in
    let columns : c.field_at-columns.result ≡ _ = c.field_at-columns.ensures.is in
    let same : c.field_at-columns.result
    ≡ field_at a.bytes.now a.at (3 + 2 * field_at a.bytes.now a.at 2) = rw c.field_at-pairs.ensures.is at columns in
    omega (
      arith,
      (whole a.bytes.now a.at
          c.requires.0).inside,
      sh.size,
      sh.pairs,
      c.field_at-pairs.ensures.is,
      same,
    )

pub returns-then-not-columns_below : goal.returns-then-not-columns_below
returns-then-not-columns_below c =
    let a = c.args in
    let i = c.in_ok-left in
    reads_as 5 c.requires.3
    (λ signs. join_high a.widths.now a.count c.requires.1 signs a.bytes.now a.at
    (sym c.join_shape.ensures ∙ c.if-not-join_shape.false)
    i.field-0.left i.ensures.0 i.ensures.1 i.field-0.right i.ensures.2 i.ensures.3
    c.field_at-pairs.result c.field_at-pairs.ensures.is
    (sym c.pairs_below.ensures ∙ c.if-not-pairs_below.false) c.field_at-columns.result
    c.field_at-columns.ensures.is (sym c.columns_below.ensures ∙ c.if-not-columns_below.true))

pub returns : goal.returns
returns c =
    let a = c.args in
    let i = c.in_ok-left in
    reads_as 5 c.requires.3
    (λ signs. join_ok a.widths.now a.count c.requires.1 signs a.bytes.now a.at
    (sym c.join_shape.ensures ∙ c.if-not-join_shape.false)
    i.field-0.left i.ensures.0 i.ensures.1 i.field-0.right i.ensures.2 i.ensures.3
    c.field_at-pairs.result c.field_at-pairs.ensures.is
    (sym c.pairs_below.ensures ∙ c.if-not-pairs_below.false) c.field_at-columns.result
    c.field_at-columns.ensures.is (sym c.columns_below.ensures ∙ c.if-not-columns_below.false)
    (whole a.bytes.now a.at c.requires.0).inside)
