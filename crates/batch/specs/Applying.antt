-- What a batch needs of a network and its areas, and what it promises.
use Rattle.std.specs.Prelude.{◌≡◌, true, List, ℕ}
use Rattle.model.specs.Record.{Bytes, is_accepted}
use Rattle.model.specs.Batch.{read_batch}
use Rattle.model.specs.Areas.{Areas, layout, long_enough, good_form, state_in, batch_number}
use Rattle.model.specs.Station.{step, last_number}
use Rattle.model.specs.Calls.{Result, Keeps, promise_of}
use Rattle.network.specs.Reading.{nodes_of}
use Rattle.network.specs.declared.Network.{Network}
use Rattle.coherence.specs.Held.{Checkable}

-- a network that reading accepts, and areas of good form
pub record Applicable (net : Network) (a : Areas) : Type 0 where
  pub checkable : Checkable net a.rows a.head
  pub long : long_enough layout a ≡ true
  pub form : good_form layout (nodes_of net) a ≡ true

-- refusals 9 to 14, or the next state, as far as they are settled
abbrev pub AppliedTo : Network → Bytes → Areas → Result → Type 0
AppliedTo net bs a r = Keeps (promise_of (nodes_of net) a (step (nodes_of net) (state_in layout (nodes_of net) a) bs)) a r

-- a batch that 9 to 13 let pass
pub record Unrefused (net : Network) (bs : Bytes) (head : List ℕ) : Type 0 where
  pub number : batch_number head ≡ last_number → ⊥
  pub accepts : is_accepted (read_batch (nodes_of net) bs).verdict ≡ true
