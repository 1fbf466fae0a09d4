-- Nodes' rows in the rows area, with the counts of the head.
use Rattle.std.specs.Prelude.{◌≡◌, Bool, true, false, cond, List, ℕ, ◌≤◌, ◌<◌, get_or, length}
use Rattle.model.specs.Row.{Relation, same_rows, max_nodes, Narrow}
use Rattle.model.specs.Areas.{layout, held_in, good_place, row_count, relations_in, same_relations, tables_of, area_size}
use Rattle.model.specs.Areas.{head_words}
use Rattle.network.specs.Reading.{slot_node, Shaped, nodes_of, Built}
use Rattle.network.specs.declared.Slot.{Slot}
use Rattle.network.specs.declared.Network.{Network}
use Rattle.model.specs.Network.{left_of, right_of, evaluate_on, fits_on}
use Rattle.model.specs.Evaluation.{evaluate}
use Rattle.model.specs.Network as model

-- node i's rows, given the nodes' widths
abbrev pub held_at : List ℕ → List ℕ → List ℕ → ℕ → Relation
held_at ws head rows i = held_in layout (get_or ws i 0) (row_count head i) rows i

-- the places of the first n nodes are of good form
pub record Places (ws : List ℕ) (n : ℕ) (rows head : List ℕ) : Type 0 where
  pub few : n ≤ max_nodes
  pub widths-long : n ≤ length ws
  pub narrow : Narrow ws
  pub rows_long : area_size ≤ length rows
  pub head-long : head_words ≤ length head
  pub good : (i : ℕ) → i < n → good_place layout (get_or ws i 0) (row_count head i) rows i ≡ true

-- a derived node, number i, whose inputs come before it and whose columns are inside their rows
pub record Derived (slot : Slot) (ws : List ℕ) (i : ℕ) : Type 0 where
  pub shaped : Shaped slot
  pub derived : model.is_table (slot_node slot) ≡ false
  pub left : left_of (slot_node slot) < i
  pub right : right_of (slot_node slot) < i
  pub fits : fits_on (get_or ws (left_of (slot_node slot)) 0) (get_or ws (right_of (slot_node slot)) 0) (slot_node slot) ≡ true
  pub width : get_or ws i 0 ≡ model.width_of (slot_node slot) ws

-- the rows that node i's kind gives from its inputs' rows in the area
abbrev pub given_at : Slot → List ℕ → List ℕ → List ℕ → Relation
given_at slot ws head rows = evaluate_on (slot_node slot) (held_at ws head rows (left_of (slot_node slot)))
    (held_at ws head rows (right_of (slot_node slot)))

-- a network that reading accepts, and areas whose rows are of good form
pub record Checkable (net : Network) (rows head : List ℕ) : Type 0 where
  pub built : Built net
  pub fit : model.AllFit (nodes_of net)
  pub places : Places net.widths net.count rows head

-- a node, number i, is a table, or its rows are what its kind gives from its inputs' rows
abbrev pub slot_agrees : Slot → List ℕ → List ℕ → List ℕ → ℕ → Bool
slot_agrees slot ws head rows i = cond (model.is_table (slot_node slot)) true
    (same_rows (held_at ws head rows i) (given_at slot ws head rows))

-- the nodes' rows in the area
abbrev pub rows_held : Network → List ℕ → List ℕ → List Relation
rows_held net rows head = relations_in layout (model.widths (nodes_of net)) (row_count head) rows

-- each derived node's rows equal its fresh evaluation on the tables
abbrev pub fresh_in : Network → List ℕ → List ℕ → Bool
fresh_in net rows head = same_relations (rows_held net rows head)
    (evaluate (nodes_of net) (tables_of (nodes_of net) (rows_held net rows head)))
