use mathlib.Core.Path.{refl}
use Prim.Native.Nat.{◌+◌}
use native.Mathlib.Omega.{arith}
use lib.Seq.{take_all}
use Rattle.model.specs.Areas.{stride}
use Rattle.rows.specs.Rows.{first_rows}
use Rattle.masks.proofs.Masks.{uses}
use Rattle.joins.proofs.Masked.{masked_few, masked_long, masked_rows_lem, right_masked}
use Rattle.joins.proofs.join_masked.Goals as goal

pub mask_unordered-k-requires : goal.mask_unordered-k-requires
mask_unordered-k-requires c =
    let q = c.used_columns-used in
    let u = uses c.args.how c.requires.2 1 c.args.how.split (c.args.how.split + stride) (omega arith) (omega arith) q.result q.ensures in
    (c.requires.4, c.requires.1, omega (arith, u.mask.size), rw (take_all stride q.result (omega (arith, u.mask.size))) u.mask.below, refl)

pub join_all-requires-2 : goal.join_all-requires-2
join_all-requires-2 c =
    let a = c.args in
    let q = c.mask_unordered-k in
    let u = c.used_columns-used in
    let us = uses a.how c.requires.2 1 a.how.split (a.how.split + stride) (omega arith) (omega arith) u.result u.ensures in (
      c.requires.0,
      masked_long u.result us.mask a.right.now a.m c.requires.4 q.new.out q.result q.ensures,
      c.requires.2,
      c.requires.3,
      masked_few u.result us.mask a.right.now a.m c.requires.4 q.new.out q.result q.ensures,
    )

pub returns : goal.returns
returns c =
    let a = c.args in
    let q = c.mask_unordered-k in
    let u = c.used_columns-used in
    let p = c.join_all-2 in
    let us = uses a.how c.requires.2 1 a.how.split (a.how.split + stride) (omega arith) (omega arith) u.result u.ensures in
    let same = right_masked a.how c.requires.2 u.result us (first_rows a.left.now a.n) (first_rows a.right.now a.m) (first_rows q.new.out q.result)
    (masked_rows_lem u.result us.mask a.right.now a.m c.requires.4 q.new.out q.result q.ensures) in
    rw (← same) p.ensures
