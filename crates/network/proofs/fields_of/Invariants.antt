use mathlib.Core.Path.{◌≡◌}
use lib.ListN.{length, take}
use Rattle.model.specs.Record.{fields_at}
use Rattle.network.specs.Reading.{Ends}
use Rattle.network.proofs.fields_of.Given as goal

abbrev pub invariant-loop-i : goal.invariant-loop-i
invariant-loop-i g l = (length l.fields ≡ g.row.N) × (take l.i l.fields ≡ fields_at l.bytes l.at l.k l.i) × Ends l.i l.fields
