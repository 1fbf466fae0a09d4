use mathlib.Core.Path.{◌≡◌, sym, ap, ◌∙◌}
use Prim.Native.Nat.{ℕ, ◌+◌, ◌-◌, ◌*◌}
use native.Mathlib.Omega.{arith}
use lib.Dec.{eqb}
use lib.Bits.{bit_or}
use lib.ListN.{get_or}
use lib.Seq.{slice}
use Rattle.model.specs.Areas.{all_zero}
use Rattle.zeros.proofs.Zeros.{left_more, left_done, or-tells, pair_tells, zero_one}
use Rattle.zeros.proofs.gather_pairs.Goals as goal

pub loop-i-preserved : goal.loop-i-preserved
loop-i-preserved c =
    let a = c.args in
    let l = c.loop-i in
    let s = a.words.now in
    let k = a.from + 2 * l.i in
    let p = c.pair-bits.result in
    let next : k + 2 ≡ a.from + 2 * (l.i + 1) = omega arith in
    let more = or-tells l.bits p (all_zero (slice k (k + 2) s)) (pair_tells s k p (omega arith) c.pair-bits.ensures) in
    rw next at (left_more s a.from a.to (eqb l.bits 0) (eqb (bit_or l.bits p) 0) k (k + 2) (omega arith) (omega arith) (omega arith) more l.invariant)

pub returns-then-to-from-eq1 : goal.returns-then-to-from-eq1
returns-then-to-from-eq1 c =
    let a = c.args in
    let l = c.loop-i in
    let s = a.words.now in
    let k = a.from + 2 * l.i in
    let at : a.to - 1 ≡ k = omega arith in
    let last = c.from-bits.result in
    let is : eqb last 0 ≡ eqb (get_or s k 0) 0 = ap (λ (x : ℕ). eqb x 0) c.from-bits.ensures ∙ ap (λ (n : ℕ). eqb (get_or s n 0) 0) at in
    left_done s a.from a.to (eqb (bit_or l.bits last) 0) (k + 1) (omega arith)
    (left_more s a.from a.to (eqb l.bits 0) (eqb (bit_or l.bits last) 0) k (k + 1) (omega arith) (omega arith) (omega arith)
    (or-tells l.bits last (all_zero (slice k (k + 1) s)) (is ∙ sym (zero_one s k (omega arith)))) l.invariant)

pub returns-else-to-from-eq1 : goal.returns-else-to-from-eq1
returns-else-to-from-eq1 c =
    let a = c.args in
    let l = c.loop-i in
    left_done a.words.now a.from a.to (eqb l.bits 0) (a.from + 2 * l.i) (omega arith) l.invariant
