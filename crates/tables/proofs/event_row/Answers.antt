use Prim.Native.Nat.{◌+◌}
use native.Mathlib.Omega.{arith}
use Rattle.tables.proofs.Folds.{row-filled}
use Rattle.tables.proofs.event_row.Goals as goal

pub loop-k-preserved : goal.loop-k-preserved
loop-k-preserved c =
    let a = c.args in
    row-filled a.bytes.now (a.at + 6) c.loop-k.k c.loop-k.row c.u32_at.result (omega arith) c.loop-k.invariant
    c.u32_at.ensures
