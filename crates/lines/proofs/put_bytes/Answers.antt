use Prim.Native.Nat.{◌≤◌, ◌-◌, ◌+◌}
use mathlib.Core.Path.{refl, ◌≡◌}
use native.Mathlib.Omega.{arith}
use lib.ListN.{length, take}
use lib.Seq.{sets-eq, take_all}
use Rattle.std.proofs.lemmas.Slice.{put_mid-paste}
use native.Mathlib.Nat.{le_refl}
use Rattle.lines.proofs.put_bytes.Goals as goal

pub returns-clause-bytes : goal.returns-clause-bytes
returns-clause-bytes c =
    let a = c.args in
    let n = length a.text.now in
    let room : a.at + n ≤ length a.out.now = omega arith in
    let all : take n a.text.now ≡ a.text.now = take_all n a.text.now (le_refl n) in
    let one = put_mid-paste a.at (a.at + n - a.at) a.out.now c.copy_from_slice.new.self a.text.now n c.copy_from_slice.ensures.after (omega arith) refl in
    rw (sets-eq a.text.now a.out.now a.at room) (rw all at one)
