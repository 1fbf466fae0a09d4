use mathlib.Core.Path.{◌≡◌}
use lib.ListN.{get_or}
use Rattle.laws.proofs.All.{AllTo}
use Rattle.network.specs.Reading.{no_slot}
use Rattle.coherence.specs.Held.{slot_agrees}
use Rattle.coherence.proofs.is_coherent.Given as goal

abbrev pub invariant-loop-i : goal.invariant-loop-i
invariant-loop-i l = (l.count ≡ l.net.count) × AllTo (λ j. slot_agrees (get_or l.net.slots j no_slot) l.net.widths l.head l.rows j) l.count l.i
