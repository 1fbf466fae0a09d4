use mathlib.Core.Path.{◌≡◌, refl}
use mathlib.Core.Bool.{Bool, true, false, ◌||◌, true≢false}
use Prim.Native.Nat.{ℕ, ◌≤◌}
use native.Mathlib.Omega.{arith}
use lib.Dec.{leb, ltb}
use lib.Seq.{take_all}
use borrow.Author.Tests.{ltb-false}
use Rattle.model.specs.Row.{max_rows}
use Rattle.model.specs.Areas.{stride}
use Rattle.rows.specs.Rows.{first_rows}
use Rattle.masks.proofs.Masks.{uses}
use Rattle.joins.proofs.Joins.{join_makes}
use Rattle.joins.proofs.Masked.{left_masked, masked_long, masked_rows_lem}
use Rattle.joins.proofs.join_rows.Goals as goal

-- the left rows are few where the first test fails
few-left : (m n : ℕ) → (leb m 1 || ltb max_rows n) ≡ false → n ≤ max_rows
few-left m n e = ltb-false max_rows n (go (leb m 1) e)
  where
    go : (t : Bool) → (t || ltb max_rows n) ≡ false → ltb max_rows n ≡ false
    go true e = absurd (true≢false e)
    go false e = e

pub returns-then-m-n : goal.returns-then-m-n
returns-then-m-n c =
    let a = c.args in
    let p = c.join_masked in
    λ w pl pr inside. join_makes a.how w a.left.now a.n a.right.now a.m pl pr inside c.requires.2 p.new.out p.result p.ensures

pub returns-then-leaves_rows : goal.returns-then-leaves_rows
returns-then-leaves_rows c =
    let a = c.args in
    let p = c.join_masked-then-leaves_rows in
    λ w pl pr inside. join_makes a.how w a.left.now a.n a.right.now a.m pl pr inside c.requires.2 p.new.out p.result p.ensures

pub mask_unordered-k-requires : goal.mask_unordered-k-requires
mask_unordered-k-requires c =
    let q = c.used_columns-used in
    let u = uses c.args.how c.requires.2 0 0 c.args.how.split (omega arith) (omega (arith, c.requires.2.split)) q.result q.ensures in (
      few-left c.args.m c.args.n c.if-m-n.false,
      c.requires.0,
      omega (arith, u.mask.size),
      rw (take_all stride q.result (omega (arith, u.mask.size))) u.mask.below,
      refl,
    )

pub join_masked-requires-2 : goal.join_masked-requires-2
join_masked-requires-2 c =
    let a = c.args in
    let q = c.mask_unordered-k in
    let u = c.used_columns-used in
    let us = uses a.how c.requires.2 0 0 a.how.split (omega arith) (omega (arith, c.requires.2.split)) u.result u.ensures in (
      masked_long u.result us.mask a.left.now a.n (few-left a.m a.n c.if-m-n.false) q.new.out q.result q.ensures,
      c.requires.1,
      c.requires.2,
      c.requires.3,
      c.requires.4,
    )

pub returns : goal.returns
returns c =
    let a = c.args in
    let q = c.mask_unordered-k in
    let u = c.used_columns-used in
    let p = c.join_masked-2 in
    let us = uses a.how c.requires.2 0 0 a.how.split (omega arith) (omega (arith, c.requires.2.split)) u.result u.ensures in
    let same = left_masked a.how c.requires.2 u.result us (first_rows a.left.now a.n) (first_rows a.right.now a.m) (first_rows q.new.out q.result)
    (masked_rows_lem u.result us.mask a.left.now a.n (few-left a.m a.n c.if-m-n.false) q.new.out q.result q.ensures) in
    λ w pl pr inside. join_makes a.how w a.left.now a.n a.right.now a.m pl pr inside c.requires.2 p.new.out p.result (rw (← same) p.ensures)
