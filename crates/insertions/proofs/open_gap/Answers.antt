use mathlib.Core.Path.{◌∙◌}
use Prim.Native.Nat.{◌+◌}
use native.Mathlib.Omega.{arith}
use Rattle.model.specs.Areas.{stride}
use Rattle.insertions.proofs.Gaps.{moved_within}
use Rattle.insertions.proofs.open_gap.Goals as goal

pub returns : goal.returns
returns c = let a = c.args in c.copy_within.ensures.after ∙ moved_within a.words.now (a.from + stride) a.from a.to (a.to + stride) (omega arith) (omega arith)
