use Prim.Native.Nat.{◌+◌}
use native.Mathlib.Omega.{arith}
use Rattle.reporting.proofs.Reported.{sign-few, sign-inside, too_short, unwatched, written}
use Rattle.reporting.proofs.report_node.Goals as goal

pub sign_of-sign-requires : goal.sign_of-sign-requires
sign_of-sign-requires c = omega (arith, c.requires.0.sound.few, c.requires.0.signs-length)

pub returns-then-sign-eq0 : goal.returns-then-sign-eq0
returns-then-sign-eq0 c =
    let a = c.args in
    rw c.at.ensures (unwatched a.network c.requires.0 a.node a.gained.now a.lost.now a.head.now a.out.now c.sign_of-sign.result c.sign_of-sign.ensures c.if-sign-eq0.true)

pub offset_bounds-network-node : goal.offset_bounds-network-node
offset_bounds-network-node c =
    omega (arith, sign-few c.args.network c.requires.0 c.args.node c.sign_of-sign.result c.sign_of-sign.ensures c.if-sign-eq0.false)

pub bounds-network-node : goal.bounds-network-node
bounds-network-node c =
    omega (arith, sign-few c.args.network c.requires.0 c.args.node c.sign_of-sign.result c.sign_of-sign.ensures c.if-sign-eq0.false, c.requires.0.widths-length)

pub overflow_add-g : goal.overflow_add-g
overflow_add-g c =
    omega (arith, sign-few c.args.network c.requires.0 c.args.node c.sign_of-sign.result c.sign_of-sign.ensures c.if-sign-eq0.false)

pub offset_bounds-head-node : goal.offset_bounds-head-node
offset_bounds-head-node c =
    omega (arith, sign-few c.args.network c.requires.0 c.args.node c.sign_of-sign.result c.sign_of-sign.ensures c.if-sign-eq0.false)

pub bounds-head-node : goal.bounds-head-node
bounds-head-node c =
    omega (arith, sign-few c.args.network c.requires.0 c.args.node c.sign_of-sign.result c.sign_of-sign.ensures c.if-sign-eq0.false, c.requires.1.head-long)

pub overflow_cast-g : goal.overflow_cast-g
overflow_cast-g c = omega (arith, c.type_inv.head (65 + c.args.node))

pub overflow_add-l : goal.overflow_add-l
overflow_add-l c =
    omega (arith, sign-few c.args.network c.requires.0 c.args.node c.sign_of-sign.result c.sign_of-sign.ensures c.if-sign-eq0.false)

pub offset_bounds-head-node-2 : goal.offset_bounds-head-node-2
offset_bounds-head-node-2 c =
    omega (arith, sign-few c.args.network c.requires.0 c.args.node c.sign_of-sign.result c.sign_of-sign.ensures c.if-sign-eq0.false)

pub bounds-head-node-2 : goal.bounds-head-node-2
bounds-head-node-2 c =
    omega (arith, sign-few c.args.network c.requires.0 c.args.node c.sign_of-sign.result c.sign_of-sign.ensures c.if-sign-eq0.false, c.requires.1.head-long)

pub overflow_cast-l : goal.overflow_cast-l
overflow_cast-l c = omega (arith, c.type_inv.head (97 + c.args.node))

pub report_size-size-requires : goal.report_size-size-requires
report_size-size-requires c =
    let inside = sign-inside c.args.network c.requires.0 c.args.node c.sign_of-sign.result c.sign_of-sign.ensures c.if-sign-eq0.false in (
      c.requires.0.narrow c.args.node,
      c.requires.1.gained-few c.args.node inside,
      c.requires.1.lost-few c.args.node inside,
    )

pub returns-then-out-size : goal.returns-then-out-size
returns-then-out-size c =
    let a = c.args in
    rw c.at-then-out-size.ensures (too_short a.network c.requires.0 a.node a.gained.now a.lost.now a.head.now a.out.now
    c.sign_of-sign.result c.report_size-size.result c.sign_of-sign.ensures c.if-sign-eq0.false c.report_size-size.ensures c.if-out-size.true)

pub put_report-requires : goal.put_report-requires
put_report-requires c =
    let inside = sign-inside c.args.network c.requires.0 c.args.node c.sign_of-sign.result c.sign_of-sign.ensures c.if-sign-eq0.false in (
      c.requires.0.narrow c.args.node,
      c.requires.1.gained-few c.args.node inside,
      c.requires.1.lost-few c.args.node inside,
      sign-few c.args.network c.requires.0 c.args.node c.sign_of-sign.result c.sign_of-sign.ensures c.if-sign-eq0.false,
      c.requires.1.gained-long,
      c.requires.1.lost-long,
      omega (arith, c.if-out-size.false, c.report_size-size.ensures),
    )

pub returns : goal.returns
returns c =
    let a = c.args in
    written a.network c.requires.0 a.node a.gained.now a.lost.now a.head.now a.out.now
    c.sign_of-sign.result c.report_size-size.result c.sign_of-sign.ensures c.if-sign-eq0.false c.report_size-size.ensures
    c.put_report.new.out (omega (arith, c.if-out-size.false)) c.put_report.ensures
