use Rattle.std.proofs.Common.{arith, append_assoc, drop, take, refl, sym, ◌∙◌, ◌-◌, ◌+◌, ◌≡◌, length}
use Rattle.std.proofs.lemmas.List.Edits.{paste_all, sets-eq}
use Rattle.std.proofs.lemmas.Slice.{put_mid-paste}
use Rattle.reports.proofs.put.Goals as goal

pub returns : goal.returns
returns c =
    let a = c.args in
    let n = length a.bytes.now in
    let k : n ≡ a.at + n - a.at = omega arith in
    put_mid-paste a.at (a.at + n - a.at) a.out.now c.copy_from_slice.new.self a.bytes.now n c.copy_from_slice.ensures.after k refl
    ∙ paste_all a.out.now a.at a.bytes.now n refl
    ∙ sym (sets-eq a.bytes.now a.out.now a.at c.requires ∙ append_assoc (take a.at a.out.now) a.bytes.now (drop (a.at + n) a.out.now))
