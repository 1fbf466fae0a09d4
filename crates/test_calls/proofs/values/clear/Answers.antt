use mathlib.Core.Path.{refl}
use Rattle.model.specs.Calls.{longest_report}
use Rattle.test_calls.proofs.Numbers.{zeros}
use Rattle.test_calls.proofs.values.clear.Goals as goal

pub returns : goal.returns
returns c = record {
  cleared = zeros longest_report c.args.out.now c.copy.ensures.bytes c.requires;
  nothing = refl;
}
