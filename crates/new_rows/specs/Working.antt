-- A node's rows after a batch, as they are worked out in words.
use Rattle.std.specs.Prelude.{◌≡◌, Bool, false, cond, List, ℕ, ◌≤◌, ◌<◌, eqb, get_or, length}
use Rattle.model.specs.Row.{Relation, max_nodes, Narrow}
use Rattle.model.specs.Record.{Bytes, offsets}
use Rattle.model.specs.Areas.{row_count, area_size, head_words}
use Rattle.network.specs.declared.Slot.{Slot}
use Rattle.network.specs.Reading.{slot_node}
use Rattle.new_rows.specs.declared.Work.{Work}
use Rattle.areas.specs.Lent.{place_at}
use Rattle.places.specs.Places.{Place, Blank, relation_in}
use Rattle.model.specs.Network.{left_of, right_of, evaluate_on}
use Rattle.coherence.specs.Held.{held_at, Derived}
use Rattle.tables.specs.Fold.{Foldable, fold_rows}

-- ---- what is read and written

-- what the working of nodes reads and writes: the nodes' widths, the rows area, and for each node worked so far
-- its new rows in a place of its own, where they are others than before, their count, and whether they are
pub record Working : Type 0 where
  pub widths : List ℕ
  pub rows : List ℕ
  pub work : List ℕ
  pub counts : List ℕ
  pub changed : List Bool

-- working memory by its parts
abbrev pub working : List ℕ → List ℕ → List ℕ → List ℕ → List Bool → Working
working widths rows work counts changed = record
    { widths = widths; rows = rows; work = work; counts = counts; changed = changed }

-- the same with a batch's working memory
abbrev pub working_in : List ℕ → List ℕ → Work → Working
working_in widths rows work = working widths rows work.rows work.counts work.changed

-- each of these has its size
pub record Sized (m : Working) : Type 0 where
  pub widths : length m.widths ≡ max_nodes
  pub narrow : Narrow m.widths
  pub rows : area_size ≤ length m.rows
  pub work : length m.work ≡ area_size
  pub counts : length m.counts ≡ max_nodes
  pub changed : length m.changed ≡ max_nodes

-- the place of node j's present rows: its own where they changed, else that of the rows area
abbrev pub present_place : Working → ℕ → List ℕ
present_place m j = place_at (cond (get_or m.changed j false) m.work m.rows) j

-- node j's present rows
abbrev pub present_rows : Working → ℕ → Relation
present_rows m j = relation_in (get_or m.widths j 0) (present_place m j) (get_or m.counts j 0)

-- they are of good form
abbrev pub Present : Working → ℕ → Type 0
Present m j = Place (get_or m.widths j 0) (present_place m j) (get_or m.counts j 0)

-- node i's old rows
abbrev pub old_rows : List ℕ → Working → ℕ → Relation
old_rows head m i = held_at m.widths head m.rows i

-- ---- one node

-- what working node i's record, of a level, gives: a table's rows after its events,
-- or what a derived node's kind gives from its inputs' present rows
abbrev pub worked_rows : Slot → ℕ → Bytes → List ℕ → Working → ℕ → Relation
worked_rows slot level bs head m i =
    cond (eqb level 0) (fold_rows bs i (get_or m.widths i 0) (offsets bs) (old_rows head m i))
    (evaluate_on (slot_node slot) (present_rows m (left_of (slot_node slot)))
    (present_rows m (right_of (slot_node slot))))

-- a node that can be worked, number i of a level
pub record Workable (slot : Slot) (level : ℕ) (bs : Bytes) (head : List ℕ) (m : Working) (i : ℕ) : Type 0 where
  pub sized : Sized m
  pub inside : i < max_nodes
  pub head-long : head_words ≤ length head
  pub old : Place (get_or m.widths i 0) (place_at m.rows i) (row_count head i)
  pub old_is : relation_in (get_or m.widths i 0) (place_at m.rows i) (row_count head i) ≡ old_rows head m i
  pub unchanged : get_or m.changed i false ≡ false
  pub blank : Blank (place_at m.work i)
  pub table : level ≡ 0 → Foldable bs i (get_or m.widths i 0)
  pub derived : (level ≡ 0 → ⊥) → Derived slot m.widths i
  pub left : (level ≡ 0 → ⊥) → Present m (left_of (slot_node slot))
  pub right : (level ≡ 0 → ⊥) → Present m (right_of (slot_node slot))
