use borrow.Author.Rules.{rules}
use native.Mathlib.Omega.{arith}
use Rattle.std.proofs.lemmas.List.{length-take}
use Rattle.stages.proofs.Steps.{long_is}
use Rattle.station.proofs.main.Goals as goal

pub run-ran-requires : goal.run-ran-requires
run-ran-requires c = (
  long_is _ _ _ _ (search rules) (search rules) (search rules) (search rules),
  omega (arith, length-take c.unwrap_or-2.result c.read_file-m.new.bytes, c.read_file-m.auto.bytes),
  search rules,
)
