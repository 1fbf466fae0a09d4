use mathlib.Core.Path.{refl}
use native.Mathlib.Omega.{arith}
use Prim.Native.Nat.{◌≤◌}
use lib.ListN.{length}
use Rattle.std.specs.Prelude.{Ok, Err}
use Rattle.verdicts.proofs.Numbers.{rule_some}
use Rattle.reader.specs.Answer.{answer_of}
use Rattle.bagwezin.proofs.Answered.{read_fits, read_refused, read_short, read_written, reader_fits}
use Rattle.bagwezin.proofs.bagwezin_read.Goals as goal

pub pack_answer-requires : goal.pack_answer-requires
pack_answer-requires c = rw c.at.ensures (record { number = omega arith; place = omega arith }, omega arith)

pub returns-then-answer-lt-WORDS : goal.returns-then-answer-lt-WORDS
returns-then-answer-lt-WORDS c = let a = c.args in
    let told = read_short a.net.now a.answer.now c.pack_answer.result (omega (arith, c.if-answer-lt-WORDS.true)) (rw c.at.ensures at c.pack_answer.ensures) in
    record { answers = told.0; words = told.1 }

pub write_answer-requires : goal.write_answer-requires
write_answer-requires c = (omega (arith, c.if-answer-lt-WORDS.false), read_fits c.args.net.now (answer_of (Ok c.in-Ok.read)) c.in-Ok.ensures.answers)

pub pack_answer-requires-in-Ok : goal.pack_answer-requires-in-Ok
pack_answer-requires-in-Ok c = (record { number = omega arith; place = omega arith }, omega arith)

pub returns-in-Ok : goal.returns-in-Ok
returns-in-Ok c =
    let a = c.args in
    let long : 97 ≤ length a.answer.now = omega (arith, c.if-answer-lt-WORDS.false) in
    let told = read_written a.net.now a.answer.now (answer_of (Ok c.in-Ok.read)) c.in-Ok.ensures.answers long c.pack_answer-in-Ok.result c.write_answer.new.answer
    c.pack_answer-in-Ok.ensures refl c.write_answer.ensures in
    record { answers = told.0; words = told.1 }

pub pack_answer-requires-in-Err : goal.pack_answer-requires-in-Err
pack_answer-requires-in-Err c =
    (reader_fits c.args.net.now (λ i. omega (arith, c.type_inv.net i)) (answer_of (Err c.in-Err.refused)) c.in-Err.ensures.answers, omega arith)

pub returns-in-Err : goal.returns-in-Err
returns-in-Err c =
    let a = c.args in
    let long : 97 ≤ length a.answer.now = omega (arith, c.if-answer-lt-WORDS.false) in
    let told = read_refused a.net.now a.answer.now (answer_of (Err c.in-Err.refused)) c.in-Err.ensures.answers long c.pack_answer-in-Err.result c.pack_answer-in-Err.ensures
    (λ z. omega (arith, rule_some c.in-Err.refused.rule, z)) in
    record { answers = told.0; words = told.1 }
