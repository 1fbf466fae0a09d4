-- What refusals 1 to 8 promise, and what good form says of the gained and lost rows.
use Rattle.std.specs.Prelude.{◌≡◌, true, List, ℕ, ◌<◌, ◌≤◌, get_or, length, Result, IfOk}
use Rattle.model.specs.Record.{Bytes}
use Rattle.model.specs.Network.{read_network}
use Rattle.model.specs.Delta.{Change}
use Rattle.model.specs.Areas.{Areas, layout, long_enough, good_form, gained_count, held_in, lost_count, area_size}
use Rattle.model.specs.Areas.{head_words}
use Rattle.model.specs.Calls.{form_verdict}
use Rattle.model.specs.Row.{max_rows}
use Rattle.network.specs.Reading.{network_of, nodes_of, Built}
use Rattle.verdicts.specs.Verdicts.{verdict_of}
use Rattle.network.specs.declared.Network.{Network}
use Rattle.verdicts.specs.declared.Refusal.{Refusal}

-- what was read where 1 to 8 let pass: the network, and that the areas are long enough and of good form
pub record Admitted (net : Bytes) (a : Areas) (n : Network) : Type 0 where
  pub built : Built n
  pub network : network_of n ≡ (read_network net).network
  pub long : long_enough layout a ≡ true
  pub good : good_form layout (nodes_of n) a ≡ true

-- refusals 1 to 8: the verdict, and where they let pass what was read
pub record Admits (net : Bytes) (a : Areas) (r : Result Network Refusal) : Type 0 where
  pub verdict : verdict_of r ≡ form_verdict net a
  pub admitted : IfOk r (Admitted net a)

-- the gained and lost rows are of good form
pub record Changes (net : Network) (gained lost head : List ℕ) : Type 0 where
  pub gained-long : area_size ≤ length gained
  pub lost-long : area_size ≤ length lost
  pub head-long : head_words ≤ length head
  pub gained-few : (i : ℕ) → i < net.count → gained_count head i ≤ max_rows
  pub lost-few : (i : ℕ) → i < net.count → lost_count head i ≤ max_rows

-- a node's gained and lost rows
abbrev pub change_in : Network → ℕ → List ℕ → List ℕ → List ℕ → Change
change_in net node gained lost head =
    record {
      gained = held_in layout (get_or net.widths node 0) (gained_count head node) gained node;
      lost = held_in layout (get_or net.widths node 0) (lost_count head node) lost node;
    }
