use Rattle.network.proofs.Kept.{slot_is}
use Rattle.network.proofs.slot_at.Goals as goal

pub returns : goal.returns
returns c =
    let a = c.args in
    let are = c.parts_of-parts.ensures in
    let slot = slot_is a.node a.bytes.now a.at c.fields_of-columns.result c.fields_of-pairs.result c.requires
    (rw (are.pairs, are.columns, are.from) at c.fields_of-columns.ensures) (rw are.pairs at c.fields_of-pairs.ensures) in
    record { brings = slot.0; shaped = slot.1 }
