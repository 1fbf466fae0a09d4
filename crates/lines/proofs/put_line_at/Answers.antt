use mathlib.Core.List.{◌++◌, [], ◌∷◌}
use mathlib.Core.Path.{ap, refl, ◌∙◌, ◌≡◌}
use Prim.Native.Nat.{◌+◌}
use native.Mathlib.Omega.{arith}
use lib.ListN.{length, length-append, set}
use lib.Seq.{sets}
use Rattle.lines.proofs.Digits.{line_is}
use Rattle.model.specs.Text.{newline}
use Rattle.lines.specs.Numbers.{numbers_text}
use Rattle.laws.proofs.Parts.{sets_more}
use Rattle.lines.proofs.put_line_at.Goals as goal

pub returns : goal.returns
returns c =
    let a = c.args in
    let two = sets_more a.out.now c.put_bytes-from.new.out c.put_numbers-end.new.out a.at
    c.put_bytes-from.result a.word.now (numbers_text a.numbers.now)
    c.put_bytes-from.ensures.bytes c.put_bytes-from.ensures.next
    c.put_numbers-end.ensures.bytes in
    let end : c.put_numbers-end.result ≡ a.at + length (a.word.now ++ numbers_text a.numbers.now) = omega (
      arith,
      c.put_numbers-end.ensures.next,
      c.put_bytes-from.ensures.next,
      length-append a.word.now (numbers_text a.numbers.now),
    ) in
    let three = sets_more a.out.now c.put_numbers-end.new.out (set c.put_numbers-end.new.out c.put_numbers-end.result 10) a.at
    c.put_numbers-end.result (a.word.now ++ numbers_text a.numbers.now) (newline ∷ []) two end refl in
    let same = line_is a.word.now a.numbers.now in record {
      bytes = three ∙ ap (sets a.out.now a.at) same;
      next = omega (arith, end, ap length same, length-append (a.word.now ++ numbers_text a.numbers.now) (newline ∷ []));
      short = omega (arith, c.put_numbers-end.ensures.short, c.put_bytes-from.ensures.next);
    }
