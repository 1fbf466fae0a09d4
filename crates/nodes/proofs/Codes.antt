-- The codes of comparisons are 0 to 5. Assumes nothing.
use Prim.Native.Nat.{◌<◌}
use lib.Dec.{lit<}
use Rattle.nodes.specs.Nodes.{code_of}
use Rattle.nodes.specs.declared.Comparison.{Comparison}
use Rattle.nodes.specs.declared.Comparison.TheVariants.{Equal, Unequal, Less, AtMost, Greater, AtLeast}

pub code_below : (k : Comparison) → code_of k < 6
code_below Equal = lit< tt
code_below Unequal = lit< tt
code_below Less = lit< tt
code_below AtMost = lit< tt
code_below Greater = lit< tt
code_below AtLeast = lit< tt
