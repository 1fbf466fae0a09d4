use mathlib.Core.Path.{ap, sym, ◌∙◌}
use Prim.Native.Nat.{◌*◌, ◌+◌, ℕ}
use lib.Seq.{sets}
use Rattle.model.specs.Calls.{change_record}
use Rattle.model.specs.Areas.{fields, held_in, layout, place_size, stride}
use Rattle.reports.proofs.Bytes.{held_none, held_size, records_more}
use Rattle.laws.proofs.Parts.{sets_more}
use Rattle.reports.specs.Written.{records_of}
use Rattle.reports.proofs.put_records.Goals as goal

pub loop-j-init : goal.loop-j-init
loop-j-init c = let a = c.args in ap (sets a.out.now a.at) (sym (held_none a.kind a.node a.w a.area.now))

pub loop-j-preserved : goal.loop-j-preserved
loop-j-preserved c =
    let a = c.args in
    let j = c.loop-j.j in
    let row = change_record a.kind a.node (fields a.w a.area.now (a.node * place_size + j * stride)) in
    let before = records_of a.kind a.node (held_in layout a.w j a.area.now a.node) in
    let size = ap (λ (k : ℕ). a.at + k) (ap (λ (k : ℕ). j * k) c.record_size-size.ensures ∙ sym (held_size a.kind a.node a.w j a.area.now)) in
    sets_more a.out.now c.loop-j.out c.put_record.new.out a.at (a.at + j * c.record_size-size.result) before row c.loop-j.invariant size c.put_record.ensures
    ∙ ap (sets a.out.now a.at) (sym (records_more a.kind a.node a.w j a.area.now))
