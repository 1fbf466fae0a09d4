use mathlib.Core.List.{flat_map}
use mathlib.Core.Path.{ap, sym, ◌∙◌}
use Prim.Native.Nat.{◌*◌, ◌+◌, ℕ}
use lib.ListN.{get_or}
use lib.Seq.{sets}
use Rattle.model.specs.Record.{bytes32}
use Rattle.model.specs.Areas.{fields}
use Rattle.reports.proofs.Bytes.{fields_more, fields_none, fields-size, le_bytes}
use Rattle.laws.proofs.Parts.{sets_more}
use Rattle.reports.proofs.put_fields.Goals as goal

pub loop-k-init : goal.loop-k-init
loop-k-init c = let a = c.args in ap (sets a.out.now a.at) (sym (fields_none a.words.now a.from))

pub loop-k-preserved : goal.loop-k-preserved
loop-k-preserved c =
    let a = c.args in
    let k = c.loop-k.k in
    let x = get_or a.words.now (a.from + k) 0 in
    let before = flat_map bytes32 (fields k a.words.now a.from) in
    let bytes = c.put.ensures ∙ ap (sets c.loop-k.out (a.at + 4 * k)) (c.to_le_bytes.ensures ∙ le_bytes x) in
    sets_more a.out.now c.loop-k.out c.put.new.out a.at (a.at + 4 * k) before (bytes32 x) c.loop-k.invariant
    (ap (λ (n : ℕ). a.at + n) (sym (fields-size k a.words.now a.from))) bytes
    ∙ ap (sets a.out.now a.at) (sym (fields_more k a.words.now a.from))
