use mathlib.Core.Path.{refl}
use native.Mathlib.Omega.{arith}
use Rattle.std.proofs.Common.{rules}
use Rattle.areas.specs.Lent.{lent}
use Rattle.laws.proofs.Bounds.{ByteList, applied-small}
use Rattle.bagwezin.proofs.Answered.{small_none, told_none}
use Rattle.bagwezin.proofs.bagwezin_apply.Goals as goal

pub pack_answer-requires : goal.pack_answer-requires
pack_answer-requires c =
    let a = c.args in
    let net-bytes : ByteList a.net.now = λ i. omega (arith, c.type_inv.net i) in
    let batch-bytes : ByteList a.batch.now = λ i. omega (arith, c.type_inv.batch i) in
    small_none c.apply-v.result c.map.result (search rules)
    (applied-small a.net.now net-bytes (lent a.rows.now a.gained.now a.lost.now a.head.now) a.batch.now batch-bytes _ c.apply-v.ensures.applies)

pub returns : goal.returns
returns c =
    let told = told_none c.apply-v.result c.map.result (search rules) c.pack_answer.result c.pack_answer.ensures in
    record { applies = record { result = _; applied = c.apply-v.ensures.applies; areas = refl; answers = told } }
