-- What the reader's networks mean: the model's network and reading.
use Rattle.std.specs.Prelude.{◌≡◌, List, [], map, ℕ, ◌*◌, ◌≤◌, ◌<◌, get_or, take, length, Result, Ok, Err, IfOk}
use Rattle.model.specs.Record.{Bytes, accepted}
use Rattle.model.specs.Algebra.{Pair}
use Rattle.model.specs.Network.{Item, read_network, max_pairs}
use Rattle.model.specs.Areas.{Areas}
use Rattle.model.specs.Calls as calls
use Rattle.nodes.specs.Nodes.{node_of, lists_of, with_lists}
use Rattle.derived_records.specs.Bodies.{NodeFits}
use Rattle.nodes.specs.declared.Node.{Node}
use Rattle.nodes.specs.declared.Node.TheVariants.{Table}
use Rattle.nodes.specs.declared.Item.TheVariants.{Node as NodeBrought, Watch as WatchBrought}
use Rattle.network.specs.declared.Slot.{Slot}
use Rattle.network.specs.declared.Network.{Network}
use Rattle.verdicts.specs.declared.Refusal.{Refusal}
use Rattle.verdicts.specs.Verdicts.{refusal_of, verdict_of}
use Rattle.model.specs.Network as model
use Rattle.model.specs.Row.{max_nodes, max_width, Narrow}
use Rattle.nodes.specs.declared.Item as declaredItem

-- ---- networks

-- what an index past the end reads
abbrev pub no_slot : Slot
no_slot = record { node = Table 0; columns = []; pairs = [] }

-- the model's node of a slot
abbrev pub slot_node : Slot → model.Node
slot_node s = node_of s.node s.columns s.pairs

-- the model's nodes of a network
abbrev pub nodes_of : Network → List model.Node
nodes_of net = map slot_node (take net.count net.slots)

-- the model's network
abbrev pub network_of : Network → model.Network
network_of net =
    record {
      nodes = nodes_of net;
      signs = take net.count net.signs;
      priorities = take net.count net.priorities;
    }

-- an answer's verdict, with the areas that a call leaves
abbrev pub result_with : {X : Type 0} → Result X Refusal → Areas → calls.Result
result_with r a = record { verdict = verdict_of r; areas = a }

-- the model's reading
abbrev pub reading_of : Result Network Refusal → model.Reading
reading_of (Ok net) = record { verdict = accepted; network = network_of net }
reading_of (Err r) = record { verdict = refusal_of r; network = model.no_network }

-- a node's numbers of columns and of pairs are those that its slot has room for
abbrev pub CountsFit : Node → Type 0
CountsFit n = ((lists_of n).pairs ≤ max_pairs) × ((lists_of n).columns ≤ max_width)

-- a slot has room for its node's columns and pairs
pub record Shaped (s : Slot) : Type 0 where
  pub columns-length : length s.columns ≡ max_width
  pub pairs-length : length s.pairs ≡ 2 * max_pairs
  pub counts : CountsFit s.node

-- the arrays beside the nodes hold their widths and levels
pub record Sound (net : Network) : Type 0 where
  pub few : net.count ≤ max_nodes
  pub widths : take net.count net.widths ≡ model.widths (nodes_of net)
  pub levels : take net.count net.levels ≡ model.levels (nodes_of net)

-- from an index on every number is 0
abbrev pub Ends : ℕ → List ℕ → Type 0
Ends count l = (i : ℕ) → count ≤ i → get_or l i 0 ≡ 0

-- a network as the reader builds it
pub record Built (net : Network) : Type 0 where
  pub slots_length : length net.slots ≡ max_nodes
  pub widths-length : length net.widths ≡ max_nodes
  pub levels-length : length net.levels ≡ max_nodes
  pub signs-length : length net.signs ≡ max_nodes
  pub priorities-length : length net.priorities ≡ max_nodes
  pub sound : Sound net
  pub shaped : (i : ℕ) → i < net.count → Shaped (get_or net.slots i no_slot)
  pub narrow : Narrow net.widths
  pub low : (i : ℕ) → get_or net.levels i 0 ≤ i
  pub unwatched : Ends net.count net.signs
  pub unranked : Ends net.count net.priorities
  pub widths-end : Ends net.count net.widths
  pub levels-end : Ends net.count net.levels

-- an item that can come next
abbrev pub Follows : declaredItem.Item → Network → Bytes → ℕ → Type 0
Follows (NodeBrought n) net bs at = (net.count < max_nodes) × NodeFits n (take net.count net.widths) bs at
Follows (WatchBrought n s p) net bs at = n < net.count

-- a network with one item more
pub record Extends (net : Network) (item : Item) (r : Network) : Type 0 where
  pub built : Built r
  pub is : network_of r ≡ model.with_item (network_of net) item

-- a node's width, whatever its lists, from the widths of the nodes before it
abbrev pub WidthIs : Node → List ℕ → ℕ → Type 0
WidthIs n ws w =
    (columns : List ℕ) (pairs : List Pair) → length columns ≡ (lists_of n).columns → w
    ≡ model.width_of (with_lists n columns pairs) ws

-- a node's level, whatever its lists, from the levels of the nodes before it
abbrev pub LevelIs : Node → List ℕ → ℕ → Type 0
LevelIs n ls l = (columns : List ℕ) (pairs : List Pair) → l ≡ model.level_of (with_lists n columns pairs) ls

-- the inputs of a node, which are the same with any lists, are below a number
abbrev pub InputsBelow : Node → ℕ → Type 0
InputsBelow n m =
    (columns : List ℕ) × (pairs : List Pair) × (model.left_of (with_lists n columns pairs) < m)
    × (model.right_of (with_lists n columns pairs) < m)

-- a node that can come next, with its width and its level
pub record NextSlot (net : Network) (slot : Slot) (width level : ℕ) : Type 0 where
  pub built : Built net
  pub room : net.count < max_nodes
  pub shaped : Shaped slot
  pub width_is : width ≡ model.width_of (slot_node slot) (model.widths (nodes_of net))
  pub level_is : level ≡ model.level_of (slot_node slot) (model.levels (nodes_of net))
  pub narrow : width ≤ max_width
  pub low : level ≤ net.count

-- a network is read: "the first record that fails decides"
pub record ReadsNetwork (bs : Bytes) (r : Result Network Refusal) : Type 0 where
  pub is : reading_of r ≡ read_network bs
  pub built : IfOk r Built
