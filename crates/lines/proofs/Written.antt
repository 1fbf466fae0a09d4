-- Texts written one after the other. Assumes nothing.
use mathlib.Core.List.{◌++◌}
use Prim.Native.Nat.{ℕ, ◌+◌}
use native.Mathlib.Omega.{arith}
use lib.ListN.{length-append}
use Rattle.model.specs.Record.{Bytes}
use Rattle.laws.proofs.Parts.{sets_more}
use Rattle.lines.specs.Written.{Put}

-- one text more
pub put_more : (x y : Bytes) {m n at k r : ℕ} {text mid shown : Bytes} → Put x m at text mid k → Put y n k mid shown r → Put (x ++ y) (m + n) at text shown r
put_more x y {at = at} {k = k} {text = text} {mid = mid} {shown = shown} p q =
    record {
      bytes = sets_more text mid shown at k x y p.bytes p.next q.bytes;
      next = omega (arith, p.next, q.next, length-append x y);
      short = omega (arith, p.short, q.short);
    }
