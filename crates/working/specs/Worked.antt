-- A node worked: its new rows, its change, and what is written for it.
use Rattle.std.specs.Prelude.{◌≡◌, Bool, false, not, cond, List, map, ℕ, ◌+◌, ◌-◌, ◌*◌, ◌≤◌, ◌<◌, eqb, get_or, length}
use Rattle.std.specs.Prelude.{set, take, drop, Option, None, Some}
use Rattle.model.specs.Row.{Relation, same_rows, max_nodes, max_rows}
use Rattle.model.specs.Record.{Bytes}
use Rattle.model.specs.Algebra.{difference_rows}
use Rattle.model.specs.Evaluation.{rows_at}
use Rattle.model.specs.Areas.{layout, place_of, padded, area_size, stride}
use Rattle.network.specs.declared.Slot.{Slot}
use Rattle.areas.specs.Lent.{place_at}
use Rattle.places.specs.Places.{Blank}
use Rattle.differences.specs.Differences.{chosen, Within, picks_size}
use Rattle.worklist.specs.Listed.{input_changed}
use Rattle.working.specs.declared.Told.{Told}
use Rattle.new_rows.specs.Working.{Working, Sized, present_place, old_rows, worked_rows}

-- ---- changes

-- what is told of the nodes' changes: for each node the numbers of its rows that came and of those that went,
-- and for all nodes how many came, then how many went
pub record Changes : Type 0 where
  pub picks : List ℕ
  pub sizes : List ℕ

-- changes by their parts
abbrev pub told : List ℕ → List ℕ → Changes
told picks sizes = record { picks = picks; sizes = sizes }

-- what is told, as it is passed
abbrev pub told_in : Told → Changes
told_in t = told t.picks t.sizes

-- each of these has its size
pub record SizedChanges (d : Changes) : Type 0 where
  pub picks : length d.picks ≡ max_nodes * picks_size
  pub sizes : length d.sizes ≡ 2 * max_nodes

-- node i's numbers: of the rows that came, and then of those that went
abbrev pub picks_at : List ℕ → ℕ → List ℕ
picks_at picks i = take (i * picks_size + picks_size - i * picks_size) (drop (i * picks_size) picks)

-- how many rows node i gained, and how many it lost
abbrev pub gains_at : Changes → ℕ → ℕ
gains_at d i = get_or d.sizes i 0

abbrev pub losses_at : Changes → ℕ → ℕ
losses_at d i = get_or d.sizes (max_nodes + i) 0

-- a relation's rows are rows of a place, by their numbers
pub record Picked (rel : Relation) (words numbers : List ℕ) (n : ℕ) : Type 0 where
  pub count : n ≡ length rel
  pub rows : chosen words (take n numbers) ≡ map (padded stride) rel
  pub within : Within words (take n numbers)

-- the change from old rows, in a place, to new ones, in another, is told of node i
pub record Tells (old : Relation) (oldPlace : List ℕ) (new : Relation) (newPlace : List ℕ) (d : Changes)
    (i : ℕ) : Type 0 where
  pub came : Picked (difference_rows new old) newPlace (picks_at d.picks i) (gains_at d i)
  pub gone : Picked (difference_rows old new) oldPlace (drop max_rows (picks_at d.picks i)) (losses_at d i)

-- nothing is told but of node i
pub record KeepsTold (d after : Changes) (i : ℕ) : Type 0 where
  pub sized : SizedChanges after
  pub picks : (j : ℕ) → (j ≡ i → ⊥) → picks_at after.picks j ≡ picks_at d.picks j
  pub gains : (j : ℕ) → j < max_nodes → (j ≡ i → ⊥) → gains_at after j ≡ gains_at d j
  pub losses : (j : ℕ) → (j ≡ i → ⊥) → losses_at after j ≡ losses_at d j

-- nothing is told of node i yet
pub record Untold (d : Changes) (i : ℕ) : Type 0 where
  pub sized : SizedChanges d
  pub gains : gains_at d i ≡ 0
  pub losses : losses_at d i ≡ 0

-- ---- one node

-- node i must be worked: an event names the table, or an input changed
abbrev pub must_work : Slot → ℕ → ℕ → List Bool → List Bool → Bool
must_work slot level i changed due = cond (eqb level 0) (get_or due i false) (input_changed slot changed)

-- node i's new rows
abbrev pub next_rows : Slot → ℕ → Bytes → List ℕ → Working → List Bool → ℕ → Relation
next_rows slot level bs head m due i = cond (must_work slot level i m.changed due) (worked_rows slot level bs head m i)
    (old_rows head m i)

-- node i's new rows are there, with their count, whether they are others than the old ones, and the change
pub record Worked (head : List ℕ) (m : Working) (d : Changes) (new : Relation) (i : ℕ) : Type 0 where
  pub count : get_or m.counts i 0 ≡ length new
  pub few : length new ≤ max_rows
  pub changed : get_or m.changed i false ≡ not (same_rows new (old_rows head m i))
  pub place : present_place m i ≡ place_of layout new
  pub tells : Tells (old_rows head m i) (place_at m.rows i) new (place_at m.work i) d i

-- nothing is written but for node i
pub record KeepsOthers (m after : Working) (i : ℕ) : Type 0 where
  pub sized : Sized after
  pub counts : (j : ℕ) → (j ≡ i → ⊥) → get_or after.counts j 0 ≡ get_or m.counts j 0
  pub changed : (j : ℕ) → (j ≡ i → ⊥) → get_or after.changed j false ≡ get_or m.changed j false
  pub work : (j : ℕ) → j < max_nodes → (j ≡ i → ⊥) → place_at after.work j ≡ place_at m.work j

-- rows of a place put as node i's new ones
pub record Puts (old : Relation) (new : Relation) (out : List ℕ) (n : ℕ) (m after : Working) (d d' : Changes)
    (i : ℕ) : Type 0 where
  pub counts : after.counts ≡ set m.counts i n
  pub changed : after.changed ≡ set m.changed i (not (same_rows new old))
  pub place : present_place after i ≡ out
  pub work-long : length after.work ≡ area_size
  pub work : (j : ℕ) → j < max_nodes → (j ≡ i → ⊥) → place_at after.work j ≡ place_at m.work j
  pub tells : Tells old (place_at m.rows i) new (place_at after.work i) d' i
  pub keeps : KeepsTold d d' i

-- a node is worked: its new rows and its change are there, and whether it had to be
pub record WorksNode (head : List ℕ) (new : Relation) (m after : Working) (d d' : Changes) (due marked : List Bool)
    (must : Bool) (i : ℕ) : Type 0 where
  pub worked : Worked head after d' new i
  pub others : KeepsOthers m after i
  pub keeps : KeepsTold d d' i
  pub marks : marked ≡ set due i must

-- a node is worked, or its new rows are more than 64
abbrev pub WorksOr : Type 0 → Relation → Option (Unit {0}) → Type 0
WorksOr works new (Some _) = works
WorksOr works new None = max_rows < length new

-- ---- the nodes so far

-- the first n nodes are worked
pub record WorkedTo (head : List ℕ) (new : List Relation) (m : Working) (d : Changes) (n : ℕ) : Type 0 where
  pub sized : Sized m
  pub told : SizedChanges d
  pub worked : (j : ℕ) → j < n → Worked head m d (rows_at new j) j
  pub unchanged : (j : ℕ) → n ≤ j → get_or m.changed j false ≡ false
  pub uncounted : (j : ℕ) → n ≤ j → get_or m.counts j 0 ≡ 0
  pub untold : (j : ℕ) → n ≤ j → j < max_nodes → Untold d j
  pub blank : (j : ℕ) → n ≤ j → j < max_nodes → Blank (place_at m.work j)
