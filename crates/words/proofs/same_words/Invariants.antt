use Rattle.words.proofs.Runs.{SameTo}
use Rattle.words.proofs.same_words.Given as goal

abbrev pub invariant-loop-k : goal.invariant-loop-k
invariant-loop-k l = SameTo l.a l.b l.count l.same l.k
