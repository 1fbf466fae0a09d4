-- What a record that brings a node or a watch is read as, and what rules 3 to 7 say of it.
use Rattle.std.specs.Prelude.{◌≡◌, List, ℕ, ◌<◌, length, Result, Ok, Err}
use Rattle.model.specs.Row.{max_nodes}
use Rattle.model.specs.Record.{Bytes, kind_at}
use Rattle.model.specs.Network.{item_at, record_fault}
use Rattle.nodes.specs.Nodes.{number_of}
use Rattle.nodes.specs.declared.Item.{Item}
use Rattle.nodes.specs.declared.Item.TheVariants.{Node as NodeBrought, Watch as WatchBrought}
use Rattle.verdicts.specs.declared.Rule.{Rule}
use Rattle.derived_records.specs.Bodies.{item_of, Fits}

-- a record that brings a watch
abbrev pub WatchRecord : ℕ → ℕ → ℕ → Result Item Rule
WatchRecord n s p = Ok (WatchBrought n s p)

-- a node comes after fewer than 32 others
abbrev pub Room : Result Item Rule → List ℕ → Type 0
Room (Ok (NodeBrought n)) ws = length ws < max_nodes
Room (Ok (WatchBrought n s p)) ws = Unit {0}
Room (Err k) ws = Unit {0}

-- any record is read
pub record ReadsRecord (ws signs : List ℕ) (bs : Bytes) (at : ℕ) (r : Result Item Rule) : Type 0 where
  pub number : number_of r ≡ record_fault ws signs bs at
  pub item : number_of r ≡ 0 → item_of r bs at ≡ item_at (kind_at bs at) bs at
  pub fits : Fits r ws signs bs at
  pub room : Room r ws
