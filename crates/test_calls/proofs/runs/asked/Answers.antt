use mathlib.Core.Path.{ap, ◌∙◌}
use Rattle.model.specs.Calls.{CheckAnswer}
use Rattle.test_calls.specs.Lines.{checked}
use Rattle.test_calls.proofs.runs.asked.Goals as goal

pub returns-in-Check : goal.returns-in-Check
returns-in-Check c = let out = c.args.out.now in rw c.in-Check.is (c.told.ensures out ∙ ap (λ (v : CheckAnswer). checked v out) c.check.ensures.checks)

pub returns-in-ShortGained : goal.returns-in-ShortGained
returns-in-ShortGained c = let out = c.args.out.now in rw c.in-ShortGained.is (c.told-in-ShortGained.ensures out ∙ ap (λ (v : CheckAnswer). checked v out) c.check-in-ShortGained.ensures.checks)
