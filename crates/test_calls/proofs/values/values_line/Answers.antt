use Rattle.model.specs.Calls.{longest_report}
use mathlib.Core.Path.{ap, sym, ◌∙◌, ◌≡◌}
use mathlib.Core.List.{◌++◌}
use Prim.Native.Nat.{ℕ, ◌+◌}
use native.Mathlib.Omega.{arith}
use lib.ListN.{length, length-append, length-replicate, replicate, take}
use lib.Seq.{length-take-le}
use Rattle.test_calls.proofs.Numbers.{first_written, tells}
use Rattle.test_calls.proofs.values.values_line.Goals as goal

pub put_line_at-requires : goal.put_line_at-requires
put_line_at-requires c =
    let a = c.args in
    let n = length a.bytes.now + length a.words.now in
    let size = length-take-le n c.values.new.numbers (omega (
      arith,
      c.values.auto.numbers,
      c.requires.0,
    )) in
    omega (arith, size, c.requires.1)

pub returns : goal.returns
returns c =
    let a = c.args in
    let v = c.values in
    let p = c.put_line_at in
    let n = length a.bytes.now + length a.words.now in
    let all = a.bytes.now ++ a.words.now in
    let size : n ≡ length all = sym (length-append a.bytes.now a.words.now) in
    let shown : take n v.new.numbers ≡ all = ap (take n) v.ensures ∙ first_written (replicate longest_report 0) all n size
    (omega (arith, c.requires.0, length-replicate {A = ℕ} longest_report 0)) in
    tells a.word.now (take n v.new.numbers) all n a.at shown size p.ensures
