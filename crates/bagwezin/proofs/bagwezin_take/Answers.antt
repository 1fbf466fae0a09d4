use mathlib.Core.Path.{refl}
use native.Mathlib.Omega.{arith}
use Prim.Native.Nat.{◌≤◌}
use lib.ListN.{length}
use Rattle.model.specs.Areas.{stride}
use Rattle.areas.specs.Lent.{lent}
use Rattle.std.specs.Prelude.{Ok, Err}
use Rattle.verdicts.proofs.Numbers.{not-accepted}
use Rattle.bagwezin.proofs.Answered.{take-fits, take_short, take-refused, take_written}
use Rattle.bagwezin.proofs.bagwezin_take.Goals as goal

pub returns-then-answer-lt-STRIDE : goal.returns-then-answer-lt-STRIDE
returns-then-answer-lt-STRIDE c =
    let a = c.args in
    let told = take_short a.net.now (lent a.rows.now a.gained.now a.lost.now a.head.now) a.pending.now a.answer.now c.pack_answer.result
    (omega (arith, c.if-answer-lt-STRIDE.true)) (rw c.at.ensures at c.pack_answer.ensures) in
    record { answers = told.0; pending = told.1; row = told.2 }

pub copy_run-requires : goal.copy_run-requires
copy_run-requires c = (omega (arith, c.in-Ok.ensures.takes.row-long), omega (arith, c.if-answer-lt-STRIDE.false))

pub pack_answer-requires : goal.pack_answer-requires
pack_answer-requires c = rw c.at.ensures (record { number = omega arith; place = omega arith }, omega arith)

pub pack_answer-requires-in-Ok : goal.pack_answer-requires-in-Ok
pack_answer-requires-in-Ok c =
    let a = c.args in
    take-fits a.net.now (λ i. omega (arith, c.type_inv.net i)) (lent a.rows.now a.gained.now a.lost.now a.head.now) a.pending.now (Ok c.in-Ok.taken) c.take.new.pending c.in-Ok.ensures.takes

pub returns-in-Ok : goal.returns-in-Ok
returns-in-Ok c =
    let a = c.args in
    let long : stride ≤ length a.answer.now = omega (arith, c.if-answer-lt-STRIDE.false) in
    let told = take_written a.net.now (lent a.rows.now a.gained.now a.lost.now a.head.now) a.pending.now a.answer.now (Ok c.in-Ok.taken) c.take.new.pending c.in-Ok.ensures.takes long
    c.pack_answer-in-Ok.result c.pack_answer-in-Ok.ensures refl c.copy_run.new.dst c.copy_run.ensures in
    record { answers = told.0; pending = told.1; row = told.2 }

pub pack_answer-requires-in-Err : goal.pack_answer-requires-in-Err
pack_answer-requires-in-Err c =
    let a = c.args in
    take-fits a.net.now (λ i. omega (arith, c.type_inv.net i)) (lent a.rows.now a.gained.now a.lost.now a.head.now) a.pending.now (Err c.in-Err.refusal) c.take.new.pending c.in-Err.ensures.takes

pub returns-in-Err : goal.returns-in-Err
returns-in-Err c =
    let a = c.args in
    let long : stride ≤ length a.answer.now = omega (arith, c.if-answer-lt-STRIDE.false) in
    let told = take-refused a.net.now (lent a.rows.now a.gained.now a.lost.now a.head.now) a.pending.now a.answer.now (Err c.in-Err.refusal) c.take.new.pending c.in-Err.ensures.takes long
    c.pack_answer-in-Err.result c.pack_answer-in-Err.ensures (not-accepted c.in-Err.refusal) in
    record { answers = told.0; pending = told.1; row = told.2 }
