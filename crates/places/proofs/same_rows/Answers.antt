use mathlib.Core.Path.{◌∙◌}
use Rattle.places.proofs.Same.{counts_differ, words_decide}
use Rattle.places.proofs.same_rows.Goals as goal

pub returns-then-n-m : goal.returns-then-n-m
returns-then-n-m c = let a = c.args in λ w p q. counts_differ w a.a.now a.n a.b.now a.m p q c.if-n-m.true

pub returns : goal.returns
returns c = let a = c.args in
    λ w p q. c.same_words.ensures ∙ words_decide w a.a.now a.n a.b.now a.m p q c.if-n-m.false
