use mathlib.Core.List.{◌++◌, flat_map}
use mathlib.Core.Path.{ap, refl, ◌∙◌}
use Prim.Native.Nat.{◌*◌, ◌+◌}
use lib.Seq.{sets}
use Rattle.model.specs.Record.{bytes16, bytes32}
use Rattle.model.specs.Areas.{fields}
use Rattle.reports.proofs.Bytes.{record_is}
use Rattle.laws.proofs.Parts.{sets_more}
use Rattle.reports.proofs.put_record.Goals as goal

pub returns : goal.returns
returns c =
    let a = c.args in
    let more = sets_more a.out.now in
    let size = bytes16 (6 + 4 * a.w) in
    let kind = bytes16 a.kind in
    let node = bytes16 a.node in
    let row = flat_map bytes32 (fields a.w a.words.now a.from) in
    let two = more c.put16.new.out c.put16-2.new.out a.at (a.at + 2) size kind (rw c.record_size.ensures at c.put16.ensures) refl c.put16-2.ensures in
    let three = more c.put16-2.new.out c.put16-3.new.out a.at (a.at + 4) (size ++ kind) node two refl c.put16-3.ensures in
    more c.put16-3.new.out c.put_fields.new.out a.at (a.at + 6) ((size ++ kind) ++ node) row three refl c.put_fields.ensures
    ∙ ap (sets a.out.now a.at) (record_is a.kind a.node a.w a.words.now a.from)
