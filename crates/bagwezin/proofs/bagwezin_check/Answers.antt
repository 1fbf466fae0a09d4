use mathlib.Core.Path.{subst}
use native.Mathlib.Omega.{arith}
use Rattle.std.proofs.Common.{rules}
use Rattle.model.specs.Calls.{CheckAnswer}
use Rattle.areas.specs.Lent.{lent}
use Rattle.bagwezin.specs.Answers.{AnswersCheck}
use Rattle.bagwezin.proofs.Answered.{check_fits, check_told, small_bit}
use Rattle.bagwezin.proofs.bagwezin_check.Goals as goal

pub pack_answer-requires : goal.pack_answer-requires
pack_answer-requires c =
    let a = c.args in
    small_bit c.check-v.result c.map.result (search rules)
    (check_fits a.net.now (λ i. omega (arith, c.type_inv.net i)) (lent a.rows.now a.gained.now a.lost.now a.head.now) _ c.check-v.ensures.checks)

pub returns : goal.returns
returns c =
    let told = check_told c.check-v.result c.map.result (search rules) c.pack_answer.result c.pack_answer.ensures in
    record { answers = subst (λ (x : CheckAnswer). AnswersCheck x c.pack_answer.result) c.check-v.ensures.checks told }
