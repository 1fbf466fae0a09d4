use mathlib.Core.List.{[]}
use mathlib.Core.Path.{refl, ap, ◌∙◌, ◌≡◌}
use Prim.Native.Nat.{ℕ}
use Rattle.std.specs.Prelude.{Some, None}
use native.Mathlib.Omega.{arith}
use lib.ListN.{length, length-replicate}
use Rattle.joins.specs.Joins.{joined_with}
use Rattle.joins.proofs.Joins.{wide_with}
use Rattle.places.proofs.Puts.{put_all, put_exceeds, put_ready, put-stands, put_start, stands_none}
use Rattle.rows.specs.Rows.{first_rows}
use Rattle.model.specs.Areas.{place_size, stride}
use Rattle.rows.proofs.Words.{wide_rows}
use Rattle.joins.proofs.join_all.Goals as goal

pub loop-i-init : goal.loop-i-init
loop-i-init c =
    let a = c.args in
    let right = first_rows a.right.now a.m in (
      ap length c.requires.3 ∙ length-replicate {A = ℕ} place_size 0,
      put_start (joined_with a.how right) [] a.left.now a.n
          (λ l e. wide_with a.how c.requires.2 right l e (wide_rows stride a.right.now 0 a.m)) tt tt a.out.now 0 (stands_none a.out.now c.requires.3),
    )

pub join_row-requires : goal.join_row-requires
join_row-requires c =
    let a = c.args in
    let l = c.loop-i in
    let right = first_rows a.right.now a.m in
    let r = put_ready (joined_with a.how right) [] a.left.now a.n
    (λ l e. wide_with a.how c.requires.2 right l e (wide_rows stride a.right.now 0 a.m)) tt tt l.i l.out l.count l.invariant.1 in
    (omega (arith, c.requires.0, c.loop-i-test.true), c.requires.1, c.requires.2, r.0, r.1, l.invariant.0, c.requires.4, c.keys_of-keys.ensures, c.chain_keys.ensures)

pub returns-in_err-count : goal.returns-in_err-count
returns-in_err-count c =
    let a = c.args in
    let l = c.loop-i in
    let right = first_rows a.right.now a.m in
    let over = put_exceeds (joined_with a.how right) [] a.left.now a.n
    (λ l e. wide_with a.how c.requires.2 right l e (wide_rows stride a.right.now 0 a.m)) tt tt l.i l.out
    c.join_row.new.out l.count None refl (omega arith) l.invariant.1 c.in_err-count.ensures in
    rw c.from_residual.ensures (rw (← put_all (joined_with a.how right) a.left.now a.n) over.0, over.1)

pub loop-i-preserved : goal.loop-i-preserved
loop-i-preserved c =
    let a = c.args in
    let l = c.loop-i in
    let right = first_rows a.right.now a.m in
    let count = c.in_ok-count.count in
    put-stands (joined_with a.how right) [] a.left.now a.n
    (λ l e. wide_with a.how c.requires.2 right l e (wide_rows stride a.right.now 0 a.m)) tt tt l.i l.out
    c.join_row.new.out l.count count (Some count) refl l.invariant.1 c.in_ok-count.ensures

pub returns : goal.returns
returns c =
    let a = c.args in
    let e : c.loop-i.i ≡ a.n = omega arith in
    let s = rw e at c.loop-i.invariant.1 in
    rw (← put_all (joined_with a.how (first_rows a.right.now a.m)) a.left.now a.n) s
