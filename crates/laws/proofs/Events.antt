-- Rows of events. Assumes nothing.
use mathlib.Core.Path.{ap, refl, ◌≡◌}
use Prim.Native.Nat.{◌+◌, suc, zero, ℕ}
use lib.ListN.{length}
use Rattle.model.specs.Record.{Bytes}
use Rattle.model.specs.Batch.{row_in}

pub length-row_in : (bs : Bytes) (at w : ℕ) → length (row_in bs at w) ≡ w
length-row_in bs at zero = refl
length-row_in bs at (suc w) = ap suc (length-row_in bs (at + 4) w)
