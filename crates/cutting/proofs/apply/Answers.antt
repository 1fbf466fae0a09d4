use Rattle.stages.proofs.Steps.{accepted-batch, applied-head, refused-batch}
use mathlib.Core.Path.{refl}
use native.Mathlib.Omega.{arith}
use Rattle.model.specs.Calls.{Result}
use Rattle.model.specs.Record.{accepted}
use Rattle.verdicts.specs.Verdicts.{refusal_of}
use Rattle.verdicts.proofs.Numbers.{not-accepted}
use Rattle.areas.specs.Lent.{lent}
use Rattle.cutting.proofs.apply.Goals.{In-Ok}
use Rattle.cutting.proofs.apply.Goals as goal

-- what an accepted batch leaves
abbrev applied : In-Ok → Result
applied c = record { verdict = accepted; areas = lent c.apply.new.rows c.apply.new.gained c.apply.new.lost c.apply.new.head }

pub bounds-head-0 : goal.bounds-head-0
bounds-head-0 c =
    let a = c.args in
    omega (arith, applied-head a.net.now (lent a.rows.now a.gained.now a.lost.now a.head.now) c.requires.0 a.batch.now (applied (goal.at.bounds-head-0 c).In-Ok) c.in-Ok.ensures.applies)

pub overflow_cast-head : goal.overflow_cast-head
overflow_cast-head c = omega (arith, c.type_inv.head 0)

pub returns-in-Ok : goal.returns-in-Ok
returns-in-Ok c =
    let a = c.args in
    accepted-batch a.net.now (lent a.rows.now a.gained.now a.lost.now a.head.now) c.requires.0 a.batch.now a.next a.out.now c.put_batch-size.new.out c.put_batch-size.result c.requires.1
    (applied (goal.at.returns-in-Ok c).In-Ok) c.in-Ok.ensures.applies refl c.put_batch-size.ensures

pub returns-in-Err : goal.returns-in-Err
returns-in-Err c =
    let a = c.args in
    refused-batch a.net.now (lent a.rows.now a.gained.now a.lost.now a.head.now) c.requires.0 a.batch.now a.next a.out.now c.put_refused-size.new.out c.put_refused-size.result c.requires.1
    (record { verdict = refusal_of c.in-Err.refusal; areas = lent c.apply.new.rows c.apply.new.gained c.apply.new.lost c.apply.new.head })
    c.in-Err.ensures.applies (not-accepted c.in-Err.refusal) (rw (← c.number-number.ensures) c.put_refused-size.ensures)
