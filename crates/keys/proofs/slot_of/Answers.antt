use borrow.Author.Rules.{rules}
use Rattle.keys.specs.Chains.{slot_of}
use Rattle.keys.proofs.slot_of.Goals as goal

pub returns : goal.returns
unfolding slot_of
returns c = search rules
