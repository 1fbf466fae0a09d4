use mathlib.Core.Path.{sym, ◌∙◌}
use Rattle.std.proofs.lemmas.Result.{err_from_is_err_and}
use Rattle.records.proofs.Header.{whole}
use Rattle.derived_records.proofs.Body.{reads_as, shape-counted}
use Rattle.derived_records.proofs.NoMatch.{no_match_unshaped, no_match_no_inputs, no_match_bad_pair, no_match_ok}
use native.Mathlib.Omega.{arith}
use Rattle.model.specs.Network.{max_pairs}
use Rattle.derived_records.proofs.read_no_match.Goals as goal

pub returns-then-not-counted_shape : goal.returns-then-not-counted_shape
returns-then-not-counted_shape c =
    let a = c.args in
    reads_as 10 c.requires.2
    (λ signs. no_match_unshaped a.widths.now a.count c.requires.1 signs a.bytes.now a.at
    (sym c.counted_shape.ensures ∙ c.if-not-counted_shape.true))

pub inputs_at-requires : goal.inputs_at-requires
inputs_at-requires c = let a = c.args in let sh = shape-counted 2 max_pairs 2 a.bytes.now a.at
    (sym c.counted_shape.ensures ∙ c.if-not-counted_shape.false)
    in omega (arith, (whole a.bytes.now a.at c.requires.0).inside, sh.size)

pub returns-in_err-left : goal.returns-in_err-left
returns-in_err-left c =
    let a = c.args in
    let p = err_from_is_err_and c.from_residual.result c.from_residual.ensures.1 in
    rw (p.1, p.2, c.in_err-left.ensures.0)
    (reads_as 10 c.requires.2
    (λ signs. no_match_no_inputs a.widths.now a.count c.requires.1 signs a.bytes.now a.at
    (sym c.counted_shape.ensures ∙ c.if-not-counted_shape.false) c.in_err-left.ensures.1))

pub field_at-pairs-requires : goal.field_at-pairs-requires
field_at-pairs-requires c = let a = c.args in let sh = shape-counted 2 max_pairs 2 a.bytes.now a.at
    (sym c.counted_shape.ensures ∙ c.if-not-counted_shape.false) in omega
    (arith, (whole a.bytes.now a.at c.requires.0).inside, sh.size)

pub pairs_below-requires : goal.pairs_below-requires
pairs_below-requires c = let a = c.args in let sh = shape-counted 2 max_pairs 2 a.bytes.now a.at
    (sym c.counted_shape.ensures ∙ c.if-not-counted_shape.false)
    in omega (
      arith,
      (whole a.bytes.now a.at c.requires.0).inside,
      sh.size,
      c.field_at-pairs.ensures.is,
    )

pub returns-then-not-pairs_below : goal.returns-then-not-pairs_below
returns-then-not-pairs_below c =
    let a = c.args in
    let i = c.in_ok-left in
    reads_as 10 c.requires.2
    (λ signs. no_match_bad_pair a.widths.now a.count c.requires.1 signs
    a.bytes.now a.at (sym c.counted_shape.ensures ∙ c.if-not-counted_shape.false)
    i.field-0.left i.ensures.0 i.ensures.1 i.field-0.right i.ensures.2 i.ensures.3
    c.field_at-pairs.result c.field_at-pairs.ensures.is (sym c.pairs_below.ensures ∙ c.if-not-pairs_below.true))

pub returns : goal.returns
returns c =
    let a = c.args in
    let i = c.in_ok-left in
    reads_as 10 c.requires.2
    (λ signs. no_match_ok a.widths.now a.count c.requires.1 signs
    a.bytes.now a.at (sym c.counted_shape.ensures ∙ c.if-not-counted_shape.false)
    i.field-0.left i.ensures.0 i.ensures.1 i.field-0.right i.ensures.2 i.ensures.3
    c.field_at-pairs.result c.field_at-pairs.ensures.is (sym c.pairs_below.ensures ∙ c.if-not-pairs_below.false)
    (whole a.bytes.now a.at c.requires.0).inside)
