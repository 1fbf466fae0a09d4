use mathlib.Core.List.{[]}
use mathlib.Core.Path.{refl, ap, ◌∙◌, ◌≡◌}
use Prim.Native.Nat.{ℕ}
use native.Mathlib.Omega.{arith}
use lib.ListN.{length, length-replicate, replicate, take}
use Rattle.places.specs.Places.{Stands}
use Rattle.std.specs.Prelude.{Some, None}
use Rattle.columns.proofs.Rows.{columns_more, few-columns, joined_length, masked_made}
use Rattle.places.proofs.Puts.{put_exceeds, put_ready, put-stands, put_start, put_up_to, stands_none}
use Rattle.projections.proofs.Projects.{project_all, project_makes, projected, wide_projected}
use Rattle.model.specs.Areas.{place_size, stride}
use Rattle.rows.specs.Rows.{row_at}
use Rattle.projections.proofs.project_rows.Goals as goal

pub loop-i-init : goal.loop-i-init
loop-i-init c =
    let a = c.args in
    let wf = wide_projected (take a.c a.columns.now) (few-columns a.c a.columns.now c.requires.1 c.requires.2) in (
      ap length c.requires.4 ∙ length-replicate {A = ℕ} place_size 0,
      put_start (projected (take a.c a.columns.now)) [] a.input.now a.n wf tt tt
          a.out.now 0 (stands_none a.out.now c.requires.4),
    )

pub columns_row-row-requires : goal.columns_row-row-requires
columns_row-row-requires c = (
  omega arith,
  omega arith,
  omega arith,
  c.requires.1,
  c.requires.2,
  columns_more stride _ (take c.args.c c.args.columns.now) (omega arith) c.requires.3,
)

pub put_row-requires : goal.put_row-requires
put_row-requires c =
    let a = c.args in
    let l = c.loop-i in
    let columns = take a.c a.columns.now in
    let few = few-columns a.c a.columns.now c.requires.1 c.requires.2 in
    let r = put_ready (projected columns) [] a.input.now a.n (wide_projected columns few) tt tt l.i l.out l.count l.invariant.1 in (
      r.0,
      omega (
        arith,
        ap length c.columns_row-row.ensures,
        joined_length stride columns (row_at stride a.input.now l.i) (row_at stride (replicate stride 0) 0) few,
      ),
      r.1,
      l.invariant.0,
    )

pub returns-in_err-count : goal.returns-in_err-count
returns-in_err-count c =
    let a = c.args in
    let l = c.loop-i in
    let q = c.columns_row-row in
    let out = c.put_row.new.out in
    let columns = take a.c a.columns.now in
    let few = few-columns a.c a.columns.now c.requires.1 c.requires.2 in
    let put = rw (masked_made columns (row_at stride a.input.now l.i) q.result few q.ensures) at c.in_err-count.ensures in
    let over = put_exceeds (projected columns) [] a.input.now a.n (wide_projected columns few) tt tt l.i l.out out l.count None
    refl (omega arith) l.invariant.1 put in
    λ w pl below. rw c.from_residual.ensures
    (project_makes columns w a.input.now a.n pl below few out None (rw (← project_all columns a.input.now a.n) over.0, over.1))

pub loop-i-preserved : goal.loop-i-preserved
loop-i-preserved c =
    let a = c.args in
    let l = c.loop-i in
    let q = c.columns_row-row in
    let columns = take a.c a.columns.now in
    let few = few-columns a.c a.columns.now c.requires.1 c.requires.2 in
    let put = rw (masked_made columns (row_at stride a.input.now l.i) q.result few q.ensures) at c.in_ok-count.ensures in
    let count = c.in_ok-count.count in
    put-stands (projected columns) [] a.input.now a.n (wide_projected columns few) tt tt l.i l.out c.put_row.new.out l.count count (Some count) refl l.invariant.1 put

pub returns : goal.returns
returns c =
    let a = c.args in
    let e : c.loop-i.i ≡ a.n = omega arith in
    let columns = take a.c a.columns.now in
    let s : Stands (put_up_to (projected columns) [] a.input.now a.n) c.loop-i.out c.loop-i.count = rw (← e) c.loop-i.invariant.1 in
    λ w pl below. project_makes columns w a.input.now a.n pl below (few-columns a.c a.columns.now c.requires.1 c.requires.2)
    c.loop-i.out (Some c.loop-i.count) (rw (← project_all columns a.input.now a.n) s)
