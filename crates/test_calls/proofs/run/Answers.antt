use Rattle.areas.specs.Lent.{lent}
use Rattle.test_calls.proofs.Ran.{ran_asked, ran_batch, ran_clear, ran_name, ran_network, ran_opened, ran_values, ran_word}
use borrow.Author.Rules.{rules}
use native.Mathlib.Omega.{arith}
use Rattle.test_calls.proofs.run.Goals as goal

pub returns-in-Name : goal.returns-in-Name
returns-in-Name c =
    let a = c.args in
    ran_name a.op a.net.now a.part.now (lent a.rows.now a.gained.now a.lost.now a.head.now) a.out.now a.text.now
    c.in-Name.is c.copy.ensures.count c.copy.ensures.bytes (omega arith)

pub returns-in-Network : goal.returns-in-Network
returns-in-Network c =
    let a = c.args in
    ran_network a.op a.net.now a.part.now (lent a.rows.now a.gained.now a.lost.now a.head.now) a.out.now a.text.now
    c.in-Network.is

pub returns-in-Word : goal.returns-in-Word
returns-in-Word c =
    let a = c.args in
    ran_word a.op a.net.now a.part.now (lent a.rows.now a.gained.now a.lost.now a.head.now) a.out.now a.text.now
    c.in-Word.is c.store_word.ensures.word c.store_word.ensures.nothing

pub returns-in-Open : goal.returns-in-Open
returns-in-Open c =
    let a = c.args in
    ran_opened a.op a.net.now a.part.now (lent a.rows.now a.gained.now a.lost.now a.head.now) a.out.now a.text.now
    c.opened-v.result c.in-Open.is c.opened-v.ensures c.verdict_line.ensures

pub returns-in-Check : goal.returns-in-Check
returns-in-Check c =
    let a = c.args in
    ran_asked a.op a.net.now a.part.now (lent a.rows.now a.gained.now a.lost.now a.head.now) a.out.now a.text.now
    c.asked-v.result c.in-Check.is c.asked-v.ensures (c.answer_line.ensures c.asked-v.new.out)

pub returns-in-Values : goal.returns-in-Values
returns-in-Values c =
    let a = c.args in
    ran_values a.op a.net.now a.part.now (lent a.rows.now a.gained.now a.lost.now a.head.now) a.out.now a.text.now
    (search rules) c.room.result c.in-Values.is c.room.ensures.size c.room.ensures.inside c.values_line.ensures

pub returns-in-Batch : goal.returns-in-Batch
returns-in-Batch c =
    let a = c.args in
    ran_batch a.op a.net.now a.part.now (lent a.rows.now a.gained.now a.lost.now a.head.now) a.out.now a.text.now
    c.in-Batch.is c.apply_lines.ensures

pub returns-in-Clear : goal.returns-in-Clear
returns-in-Clear c =
    let a = c.args in
    ran_clear a.op a.net.now a.part.now (lent a.rows.now a.gained.now a.lost.now a.head.now) a.out.now a.text.now
    c.in-Clear.is c.clear.ensures.cleared c.clear.ensures.nothing
