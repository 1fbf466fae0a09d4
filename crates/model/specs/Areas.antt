-- The areas that the caller lends: document 01, section of that name, and "The areas hold the plain station's state".
use Rattle.std.specs.Prelude.{◌≡◌, Bool, true, false, ◌&&◌, cond, ℕ, zero, suc, ◌+◌, ◌-◌, ◌*◌, leb, ltb, eqb, get_or, length, drop, replicate}
use mathlib.Core.List.{List, [], ◌∷◌, ◌++◌, map, zip_with, flat_map}
use Rattle.model.specs.Row.{Relation, max_rows, max_nodes, max_width, ascending, same_rows, all_of, numbers_below}
use Rattle.model.specs.Network.{Node, is_table, widths}
use Rattle.model.specs.Evaluation.{evaluate}
use Rattle.model.specs.Delta.{Change}
use Rattle.model.specs.Batch.{folded_rows}
use Rattle.model.specs.Station.{State}

-- "Four areas of 32-bit words"
pub record Areas : Type 0 where
  pub rows : List ℕ
  pub gained : List ℕ
  pub lost : List ℕ
  pub head : List ℕ

-- ---- the layout of rows, gained and lost

-- how many words a row takes, and how many rows a node's place has
pub record Layout : Type 0 where
  pub stride : ℕ
  pub capacity : ℕ

-- "field k of row j of node i is word 256 × i + 4 × j + k"
abbrev pub layout : Layout
layout = record { stride = max_width; capacity = max_rows }

-- the words of a node's place
abbrev pub place_words : Layout → ℕ
place_words L = L.capacity * L.stride

-- the named words of rows, gained or lost
abbrev pub area_words : Layout → ℕ
area_words L = max_nodes * place_words L

-- how many words a row takes: 4
abbrev pub stride : ℕ
stride = layout.stride

-- the words of a node's place: 256
abbrev pub place_size : ℕ
place_size = place_words layout

-- the named words of rows, gained or lost: 8,192
abbrev pub area_size : ℕ
area_size = area_words layout

-- the words of the array in which a table's events are folded: 512
abbrev pub folded_size : ℕ
folded_size = folded_rows * stride

-- n words from an index on; 0 past the end
unfoldable pub fields : ℕ → List ℕ → ℕ → List ℕ
fields zero words at = []
fields (suc n) words at = get_or words at 0 ∷ fields n words (suc at)

-- where row j of node i starts: word 256 × i + 4 × j
abbrev pub row_start : Layout → ℕ → ℕ → ℕ
row_start L i j = place_words L * i + L.stride * j

-- the rows that node i's place holds, given their width and their count
unfoldable pub held_in : Layout → ℕ → ℕ → List ℕ → ℕ → Relation
unfolding fields
held_in L w count area i = map (λ j. fields w area (row_start L i j)) (numbers_below count)

-- ---- the head

-- "Head, 162 words"
abbrev pub head_words : ℕ
head_words = 162

-- "word 0 batch number"
abbrev pub batch_number : List ℕ → ℕ
batch_number head = get_or head 0 0

-- "1..32 row counts"
abbrev pub row_count : List ℕ → ℕ → ℕ
row_count head i = get_or head (1 + i) 0

-- "33..64 change stamps"
abbrev pub stamp_at : List ℕ → ℕ → ℕ
stamp_at head i = get_or head (33 + i) 0

-- "65..96 gained counts"
abbrev pub gained_count : List ℕ → ℕ → ℕ
gained_count head i = get_or head (65 + i) 0

-- "97..128 lost counts"
abbrev pub lost_count : List ℕ → ℕ → ℕ
lost_count head i = get_or head (97 + i) 0

-- "129 how many nodes were worked on"
abbrev pub worked_count : List ℕ → ℕ
worked_count head = get_or head 129 0

-- "130..161 their numbers"
abbrev pub worked_at : List ℕ → ℕ → ℕ
worked_at head k = get_or head (130 + k) 0

-- ---- good form

-- every word is 0
abbrev pub all_zero : List ℕ → Bool
all_zero words = all_of (λ x. eqb x 0) words

-- the words of row j of a place that are not used: of the first rows, as many as the count, those past the width; of
-- the others all
unfoldable pub unused_of : Layout → ℕ → ℕ → List ℕ → ℕ → ℕ → List ℕ
unfolding fields
unused_of L w count area i j = cond (ltb j count) (fields (L.stride - w) area (row_start L i j + w))
    (fields L.stride area (row_start L i j))

-- "unused words 0"
unfoldable pub unused_zero : Layout → ℕ → ℕ → List ℕ → ℕ → Bool
unfolding unused_of
unused_zero L w count area i = all_of (λ j. all_zero (unused_of L w count area i j)) (numbers_below L.capacity)

-- "counts at most 64; rows strictly ascending in each place; unused words 0"
unfoldable pub good_place : Layout → ℕ → ℕ → List ℕ → ℕ → Bool
unfolding held_in unused_zero
good_place L w count area i = leb count L.capacity && ascending (held_in L w count area i)
    && unused_zero L w count area i

-- "nodes past the network's last have 0 throughout"
unfoldable pub empty_place : Layout → ℕ → List ℕ → ℕ → Bool
unfolding unused_zero
empty_place L count area i = eqb count 0 && unused_zero L 0 0 area i

-- one area's places, by the nodes' widths and their counts
unfoldable pub good_area : Layout → List ℕ → (ℕ → ℕ) → List ℕ → Bool
unfolding good_place empty_place
good_area L ws count area =
    all_of
    (λ i. cond (ltb i (length ws)) (good_place L (get_or ws i 0) (count i) area i) (empty_place L (count i) area i))
    (numbers_below max_nodes)

-- "stamps at most the batch number", and 0 past the last node
unfoldable pub good_stamps : ℕ → List ℕ → Bool
good_stamps n head = all_of (λ i. leb (stamp_at head i) (cond (ltb i n) (batch_number head) 0)) (numbers_below max_nodes)

-- "word 129 at most the node count, the entries it counts below the node count", and the others 0
unfoldable pub good_worked : ℕ → List ℕ → Bool
good_worked n head =
    leb (worked_count head) n
    && all_of (λ k. cond (ltb k (worked_count head)) (ltb (worked_at head k) n) (eqb (worked_at head k) 0))
    (numbers_below max_nodes)

-- "Good form" (document 01's term)
unfoldable pub good_form : Layout → List Node → Areas → Bool
unfolding widths good_area good_stamps good_worked
good_form L nodes a =
    good_area L (widths nodes) (row_count a.head) a.rows
    && good_area L (widths nodes) (gained_count a.head) a.gained
    && good_area L (widths nodes) (lost_count a.head) a.lost
    && good_stamps (length nodes) a.head
    && good_worked (length nodes) a.head

-- ---- what the areas hold

-- the relations of an area, by node number
unfoldable pub relations_in : Layout → List ℕ → (ℕ → ℕ) → List ℕ → List Relation
unfolding held_in
relations_in L ws count area = map (λ i. held_in L (get_or ws i 0) (count i) area i) (numbers_below (length ws))

-- each node's rows
unfoldable pub rows_in : Layout → List Node → Areas → List Relation
unfolding relations_in widths
rows_in L nodes a = relations_in L (widths nodes) (row_count a.head) a.rows

-- each node's gained and lost rows
unfoldable pub changes_in : Layout → List Node → Areas → List Change
unfolding relations_in widths zip_with
changes_in L nodes a =
    zip_with
    (λ g l. record { gained = g; lost = l })
    (relations_in L (widths nodes) (gained_count a.head) a.gained)
    (relations_in L (widths nodes) (lost_count a.head) a.lost)

-- the tables' rows alone, nothing at derived nodes
unfoldable pub tables_of : List Node → List Relation → List Relation
unfolding zip_with
tables_of nodes rels = zip_with (λ n r. cond (is_table n) r []) nodes rels

-- the state that the areas hold
unfoldable pub state_in : Layout → List Node → Areas → State
unfolding rows_in changes_in tables_of
state_in L nodes a =
    record {
      tables = tables_of nodes (rows_in L nodes a);
      number = batch_number a.head;
      stamps = map (stamp_at a.head) (numbers_below (length nodes));
      changes = changes_in L nodes a;
      worked = map (worked_at a.head) (numbers_below (worked_count a.head));
    }

-- the relations are the same at every node
abbrev pub same_relations : List Relation → List Relation → Bool
same_relations [] [] = true
same_relations [] (s ∷ m) = false
same_relations (r ∷ l) [] = false
same_relations (r ∷ l) (s ∷ m) = same_rows r s && same_relations l m

-- "Coherent" (document 01's term): "good form, and each derived node's rows equal its fresh evaluation"
unfoldable pub coherent : Layout → List Node → Areas → Bool
unfolding good_form rows_in tables_of evaluate
coherent L nodes a = good_form L nodes a
    && same_relations (rows_in L nodes a) (evaluate nodes (tables_of nodes (rows_in L nodes a)))

-- "The areas hold the plain station's state when they are of good form, each node's rows are its fresh evaluation on
-- the plain station's tables, and batch number, stamps, gained, lost and worked list are the plain station's, with
-- their counts"
pub record HoldsState (L : Layout) (nodes : List Node) (a : Areas) (s : State) : Type 0 where
  pub form : good_form L nodes a ≡ true
  pub rows : rows_in L nodes a ≡ evaluate nodes s.tables
  pub number : (state_in L nodes a).number ≡ s.number
  pub stamps : (state_in L nodes a).stamps ≡ s.stamps
  pub changes : (state_in L nodes a).changes ≡ s.changes
  pub worked : (state_in L nodes a).worked ≡ s.worked

-- ---- the words that hold a state

-- n words: the list, then zeros
abbrev pub padded : ℕ → List ℕ → List ℕ
padded n l = l ++ replicate (n - length l) 0

-- the words of a node's place: its rows, each with zeros up to the stride, then zeros
unfoldable pub place_of : Layout → Relation → List ℕ
unfolding flat_map
place_of L rel = padded (place_words L) (flat_map (padded L.stride) rel)

-- the words of an area: the places of the network's nodes, then zeros
unfoldable pub area_of : Layout → List Relation → List ℕ
unfolding place_of flat_map
area_of L rels = padded (area_words L) (flat_map (place_of L) rels)

-- the words of the head, given each node's rows
unfoldable pub head_of : List Relation → State → List ℕ
head_of rels s =
    (s.number ∷ [])
    ++ padded max_nodes (map length rels)
    ++ padded max_nodes s.stamps
    ++ padded max_nodes (map (λ c. length c.gained) s.changes)
    ++ padded max_nodes (map (λ c. length c.lost) s.changes)
    ++ (length s.worked ∷ [])
    ++ padded max_nodes s.worked

-- the named words set to some words; "Words past these are never read or written"
abbrev pub over : List ℕ → List ℕ → List ℕ
over words before = words ++ drop (length words) before

-- the areas with a state in all their named words, given each node's rows
abbrev pub holding_rows : Layout → List Relation → State → Areas → Areas
holding_rows L rels s before =
    record {
      rows = over (area_of L rels) before.rows;
      gained = over (area_of L (map (λ c. c.gained) s.changes)) before.gained;
      lost = over (area_of L (map (λ c. c.lost) s.changes)) before.lost;
      head = over (head_of rels s) before.head;
    }

-- the areas with a state in all their named words: each node's rows are its fresh evaluation
unfoldable pub holding : Layout → List Node → State → Areas → Areas
unfolding area_of head_of evaluate
holding L nodes s before = holding_rows L (evaluate nodes s.tables) s before

-- "Opening sets all named words to 0"
unfoldable pub cleared : Layout → Areas → Areas
cleared L before =
    record {
      rows = over (replicate (area_words L) 0) before.rows;
      gained = over (replicate (area_words L) 0) before.gained;
      lost = over (replicate (area_words L) 0) before.lost;
      head = over (replicate head_words 0) before.head;
    }

-- an area has at least its named words
unfoldable pub long_enough : Layout → Areas → Bool
long_enough L a =
    leb (area_words L) (length a.rows)
    && leb (area_words L) (length a.gained)
    && leb (area_words L) (length a.lost)
    && leb head_words (length a.head)

-- no word past the named ones, and no length, has changed
pub record KeepsRest (L : Layout) (before after : Areas) : Type 0 where
  pub rows-length : length after.rows ≡ length before.rows
  pub rows : drop (area_words L) after.rows ≡ drop (area_words L) before.rows
  pub gained-length : length after.gained ≡ length before.gained
  pub gained : drop (area_words L) after.gained ≡ drop (area_words L) before.gained
  pub lost-length : length after.lost ≡ length before.lost
  pub lost : drop (area_words L) after.lost ≡ drop (area_words L) before.lost
  pub head-length : length after.head ≡ length before.head
  pub head : drop head_words after.head ≡ drop head_words before.head
