-- Batches read with the numbers of a network.
use Rattle.std.specs.Prelude.{◌≡◌, Bool, List, ℕ, eqb, get_or, Result, Ok, Err}
use Rattle.model.specs.Record.{Bytes, length_at}
use Rattle.model.specs.Batch.{event_fits_by, event_fault_by}
use Rattle.network.specs.declared.Network.{Network}
use Rattle.network.specs.Reading.{Built}
use Rattle.verdicts.specs.declared.Rule.{Rule}
use Rattle.verdicts.specs.Verdicts as verdicts

-- a node count, widths and levels that are a network's
pub record NumbersOf (count : ℕ) (ws ls : List ℕ) : Type 0 where
  pub net : Network
  pub built : Built net
  pub count_is : net.count ≡ count
  pub widths-are : net.widths ≡ ws
  pub levels-are : net.levels ≡ ls

-- a table is a node of level 0
abbrev pub is_table_in : List ℕ → ℕ → Bool
is_table_in ls t = eqb (get_or ls t 0) 0

-- ---- what reading a record gives

-- the order's number for a reading: 0 for an event
abbrev pub number_of : Result ℕ Rule → ℕ
number_of (Ok n) = 0
number_of (Err rule) = verdicts.number_of rule

-- the length of the event
abbrev pub size_of : Result ℕ Rule → ℕ
size_of (Ok n) = n
size_of (Err rule) = 0

-- a record is read after so many events: its number, and where that is 0 its length
pub record ReadsEvent (count : ℕ) (ws ls : List ℕ) (before : ℕ) (bs : Bytes) (at : ℕ) (r : Result ℕ Rule) : Type 0 where
  pub number : number_of r ≡ event_fault_by (event_fits_by count (is_table_in ls) ws bs at) before bs at
  pub size : number_of r ≡ 0 → size_of r ≡ length_at bs at
