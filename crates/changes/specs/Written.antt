-- The places of rows, gained and lost that an accepted batch leaves.
use Rattle.std.specs.Prelude.{◌≡◌, Bool, true, false, cond, ℕ, ◌*◌, ◌≤◌, ◌<◌, length, get_or, take, drop}
use mathlib.Core.List.{List, ◌++◌, map, flat_map}
use Rattle.model.specs.Row.{Relation, max_nodes}
use Rattle.model.specs.Algebra.{difference_rows}
use Rattle.model.specs.Network.{Node, widths}
use Rattle.model.specs.Delta.{net_changes}
use Rattle.model.specs.Areas.{layout, place_of, good_form, long_enough, rows_in, row_count, gained_count, lost_count}
use Rattle.model.specs.Areas.{area_size, head_words, place_size}
use Rattle.network.specs.declared.Network.{Network}
use Rattle.network.specs.Reading.{nodes_of, Built}
use Rattle.areas.specs.Lent.{lent, place_at}
use Rattle.places.specs.Places.{Place, relation_in}
use Rattle.placing.specs.Placing.{placed}
use Rattle.states.specs.Fitting.{Fitting}
use Rattle.new_rows.specs.Working.{working}
use Rattle.working.specs.Worked.{told, SizedChanges, Tells, WorkedTo}

-- ---- one node

-- node i's new rows and its change are worked out, and its places are of good form
pub record Writable (rows gained lost head work counts : List ℕ) (changed : List Bool) (picks sizes : List ℕ)
    (i : ℕ) : Type 0 where
  pub inside : i < max_nodes
  pub rows_long : area_size ≤ length rows
  pub gained-long : area_size ≤ length gained
  pub lost-long : area_size ≤ length lost
  pub head-long : head_words ≤ length head
  pub work-long : area_size ≤ length work
  pub counts-long : length counts ≡ max_nodes
  pub changed-long : length changed ≡ max_nodes
  pub told-long : SizedChanges (told picks sizes)
  pub width : ℕ
  pub old_at : Place width (place_at rows i) (row_count head i)
  pub new_at : Place width (place_at (cond (get_or changed i false) work rows) i) (get_or counts i 0)
  pub gained_at : Place width (place_at gained i) (gained_count head i)
  pub lost_at : Place width (place_at lost i) (lost_count head i)
  pub tells : Tells (relation_in width (place_at rows i) (row_count head i)) (place_at rows i)
      (relation_in width (place_at (cond (get_or changed i false) work rows) i) (get_or counts i 0)) (place_at work i)
      (told picks sizes) i

-- node i's new rows and its change are written
pub record WritesNode (old new : Relation) (rows gained lost rows' gained' lost' : List ℕ) (i : ℕ) : Type 0 where
  pub rows_are : rows' ≡ placed rows i new
  pub gained-are : gained' ≡ placed gained i (difference_rows new old)
  pub lost-are : lost' ≡ placed lost i (difference_rows old new)

-- ---- all nodes

-- areas of good form, and every node's new rows and change worked out
pub record WorkedOut (net : Network) (rows gained lost head work counts : List ℕ) (changed : List Bool)
    (picks sizes : List ℕ) : Type 0 where
  pub built : Built net
  pub long : long_enough layout (lent rows gained lost head) ≡ true
  pub form : good_form layout (nodes_of net) (lent rows gained lost head) ≡ true
  pub new : List Relation
  pub worked : WorkedTo head new (working net.widths rows work counts changed) (told picks sizes) net.count
  pub fits : Fitting (widths (nodes_of net)) new

-- the same of a network with n nodes
pub record Writing (n : ℕ) (rows gained lost head work counts : List ℕ) (changed : List Bool)
    (picks sizes : List ℕ) : Type 0 where
  pub net : Network
  pub out : WorkedOut net rows gained lost head work counts changed picks sizes
  pub count_is : net.count ≡ n

-- the area with other rows in the places of the first i nodes
abbrev pub filled : List Relation → ℕ → List ℕ → List ℕ
filled rels i area = flat_map (place_of layout) (take i rels) ++ drop (i * place_size) area

-- each node's gained rows
abbrev pub gained_of : List Relation → List Relation → List Relation
gained_of old new = map (λ c. c.gained) (net_changes old new)

-- each node's lost rows
abbrev pub lost_of : List Relation → List Relation → List Relation
lost_of old new = map (λ c. c.lost) (net_changes old new)

-- the places of the first i nodes are written
pub record WritesNodes (nodes : List Node) (new : List Relation)
    (rows gained lost head rows' gained' lost' : List ℕ) (i : ℕ) : Type 0 where
  pub rows_are : rows' ≡ filled new i rows
  pub gained-are : gained' ≡ filled (gained_of (rows_in layout nodes (lent rows gained lost head)) new) i gained
  pub lost-are : lost' ≡ filled (lost_of (rows_in layout nodes (lent rows gained lost head)) new) i lost
