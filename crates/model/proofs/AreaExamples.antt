-- Computed examples of the areas, on a small layout, and what holding a state and keeping the rest say. Each says in its comment what it pins.
use mathlib.Core.Path.{◌≡◌, refl, sym, ap, ◌∙◌}
use mathlib.Core.Bool.{Bool, true, false, true≢false}
use mathlib.Core.List.{List, [], ◌∷◌, ◌++◌, map}
use Prim.Native.Nat.{ℕ}
use native.Mathlib.Omega.{arith}
use lib.ListN.{get_or, set, replicate, take, drop, take-append-drop}
use Rattle.model.specs.Row.{Relation}
use Rattle.model.specs.Algebra.{constant}
use Rattle.model.specs.Network.{Node, nodes_in, read_network, table, select, project, set_operation, difference}
use Rattle.model.specs.Evaluation.{evaluate}
use Rattle.model.specs.Delta.{Change, no_change}
use Rattle.model.specs.Station.{State}
use Rattle.model.specs.Areas.{Areas, Layout, layout, row_start, area_words, head_words, good_form, coherent, rows_in, state_in, holding, cleared, long_enough, HoldsState, KeepsRest}
use Rattle.model.specs.Examples.{network_n, batch1, batch2, after}

-- ---- the order's own layout

-- "word 256 × i + 4 × j + k" for row 2 of node 3; "8,192 words each"; "Head, 162 words"
named_words : (row_start layout 3 2 ∷ area_words layout ∷ head_words ∷ []) ≡ 776 ∷ 8192 ∷ 162 ∷ []
named_words = refl

-- ---- N after its first two batches, on a layout of 3 rows of 2 words

small : Layout
small = record { stride = 2; capacity = 3 }

nodes_n : List Node
nodes_n =
    table 2
    ∷ select 0 1 5 (constant 8)
    ∷ project 1 (0 ∷ [])
    ∷ table 1
    ∷ set_operation difference 2 3
    ∷ []

nodes_read : nodes_in network_n ≡ nodes_n
unfolding read_network network_n nodes_n
nodes_read = refl

-- the change of nodes 0 and 1
abbrev lost_row : Change
lost_row = record { gained = []; lost = (5 ∷ 9 ∷ []) ∷ [] }

state_n : State
state_n = record {
  tables = ((5 ∷ 12 ∷ []) ∷ []) ∷ [] ∷ [] ∷ [] ∷ [] ∷ [];
  number = 2;
  stamps = 2 ∷ 2 ∷ 1 ∷ 0 ∷ 1 ∷ [];
  changes = lost_row ∷ lost_row ∷ no_change ∷ no_change ∷ no_change ∷ [];
  worked = 1 ∷ 2 ∷ [];
}

state-after : after network_n (batch1 ∷ batch2 ∷ []) ≡ state_n
unfolding after network_n batch1 batch2 state_n
state-after = refl

-- areas one word longer than named, whose words are all x, but the last is y
areas_of : ℕ → ℕ → Areas
unfolding small
areas_of x y =
    let words : List ℕ = replicate (area_words small) x ++ (y ∷ []) in
    record { rows = words; gained = words; lost = words; head = replicate head_words x ++ (y ∷ []) }

-- the words that hold N's state: node i's words are at 6 × i, row j's at 2 × j from there; zeros between; the word past the named ones is as it was
areas_n : Areas
areas_n = record {
  rows = (5 ∷ 12 ∷ 0 ∷ 0 ∷ 0 ∷ 0 ∷ []) ++ (5 ∷ 12 ∷ 0 ∷ 0 ∷ 0 ∷ 0 ∷ []) ++ (5 ∷ replicate 11 0) ++ (5 ∷ replicate 167 0) ++ (8 ∷ []);
  gained = replicate 192 0 ++ (8 ∷ []);
  lost = (5 ∷ 9 ∷ 0 ∷ 0 ∷ 0 ∷ 0 ∷ []) ++ (5 ∷ 9 ∷ replicate 184 0) ++ (8 ∷ []);
  head =
      (2 ∷ [])  -- batch number
      ++ (1 ∷ 1 ∷ 1 ∷ 0 ∷ 1 ∷ replicate 27 0)  -- row counts
      ++ (2 ∷ 2 ∷ 1 ∷ 0 ∷ 1 ∷ replicate 27 0)  -- stamps
      ++ replicate 32 0  -- gained counts
      ++ (1 ∷ 1 ∷ replicate 30 0)  -- lost counts
      ++ (2 ∷ 1 ∷ 2 ∷ replicate 30 0)  -- worked list
      ++ (8 ∷ []);
}

words_held : holding small nodes_n state_n (areas_of 9 8) ≡ areas_n
unfolding holding small nodes_n state_n areas_of areas_n
words_held = refl

-- the areas with one word of the rows, of gained, of lost, or of the head changed
with_rows : ℕ → ℕ → Areas
unfolding areas_n
with_rows i x = record { rows = set areas_n.rows i x; gained = areas_n.gained; lost = areas_n.lost; head = areas_n.head }

with_gained : ℕ → ℕ → Areas
unfolding areas_n
with_gained i x = record { rows = areas_n.rows; gained = set areas_n.gained i x; lost = areas_n.lost; head = areas_n.head }

with_lost : ℕ → ℕ → Areas
unfolding areas_n
with_lost i x = record { rows = areas_n.rows; gained = areas_n.gained; lost = set areas_n.lost i x; head = areas_n.head }

with_head : ℕ → ℕ → Areas
unfolding areas_n
with_head i x = record { rows = areas_n.rows; gained = areas_n.gained; lost = areas_n.lost; head = set areas_n.head i x }

-- ---- good form and coherence

is_form : Areas → Bool
unfolding good_form small nodes_n
is_form a = good_form small nodes_n a

is_coherent : Areas → Bool
unfolding coherent small nodes_n
is_coherent a = coherent small nodes_n a

-- what good form says of each of these areas
good-form :
    map is_form (
    areas_n
    ∷ with_rows 1 13  -- another catch in table 0
    ∷ with_rows 192 1  -- a word past the named ones
    ∷ with_head 162 1  -- a word past the named ones
    ∷ [])
    ++ map is_form (
    with_rows 13 1  -- a field past the width of node 2's row
    ∷ with_rows 4 1  -- a row past the count
    ∷ with_rows 190 1  -- a node past the last
    ∷ with_gained 0 1  -- gained past its count
    ∷ with_lost 31 7  -- lost of a node past the last
    ∷ with_head 1 4  -- a count above the capacity
    ∷ with_head 6 1  -- a count past the last node
    ∷ with_head 34 3  -- a stamp above the batch number
    ∷ with_head 38 1  -- a stamp past the last node
    ∷ with_head 129 6  -- more worked on than there are nodes
    ∷ with_head 131 5  -- a worked entry that is no node
    ∷ with_head 132 1  -- a worked entry past the count
    ∷ [])
    ≡ replicate 4 true ++ replicate 12 false
unfolding is_form areas_n with_rows with_gained with_lost with_head
good-form = refl

-- what coherence says: rows of node 1, and of the last node, that are not its fresh evaluation; a word past the named ones
coherence :
    map is_coherent (areas_n ∷ with_head 162 1 ∷ []) ++ map is_coherent (with_rows 1 13 ∷ with_rows 1 7 ∷ with_rows 24 6 ∷ []) ≡ replicate 2 true ++ replicate 3 false
unfolding is_coherent areas_n with_rows with_head
coherence = refl

-- the areas whose last node alone is wrong are of good form
last_node : is_form (with_rows 24 6) ≡ true
unfolding is_form areas_n with_rows
last_node = refl

-- ---- the words that hold a state, read back

-- what these words say, read back: the tables' rows, number, stamps, gained and lost rows, worked list
words_read : state_in small nodes_n areas_n ≡ state_n
unfolding state_in small nodes_n areas_n state_n
words_read = refl

-- opening sets all named words to 0, and no other
words-cleared :
    cleared small (areas_of 1 1)
    ≡ record { rows = replicate 192 0 ++ (1 ∷ []); gained = replicate 192 0 ++ (1 ∷ []); lost = replicate 192 0 ++ (1 ∷ []); head = replicate 162 0 ++ (1 ∷ []) }
unfolding cleared small areas_of
words-cleared = refl

-- ---- areas that hold N's state, and areas with one word wrong that do not

holds : HoldsState small nodes_n areas_n state_n
unfolding small nodes_n areas_n state_n good_form rows_in state_in evaluate
holds = record { form = refl; rows = refl; number = refl; stamps = refl; changes = refl; worked = refl }

-- a field past the width of node 2's row: not of good form
wrong_form : HoldsState small nodes_n (with_rows 13 1) state_n → ⊥
unfolding small nodes_n with_rows areas_n state_n good_form
wrong_form h = true≢false (sym h.form)

-- another catch in table 0's row
wrong_rows : HoldsState small nodes_n (with_rows 1 13) state_n → ⊥
unfolding small nodes_n with_rows areas_n state_n rows_in evaluate
wrong_rows h = let e : ◌≡◌ {A = ℕ} 13 12 = ap (λ (l : List Relation). get_or (get_or (get_or l 0 []) 0 []) 1 0) h.rows in omega arith

-- another batch number
wrong_number : HoldsState small nodes_n (with_head 0 3) state_n → ⊥
unfolding small nodes_n with_head areas_n state_n state_in
wrong_number h = let e : ◌≡◌ {A = ℕ} 3 2 = h.number in omega arith

-- another stamp of node 1
wrong_stamp : HoldsState small nodes_n (with_head 34 1) state_n → ⊥
unfolding small nodes_n with_head areas_n state_n state_in
wrong_stamp h = let e : ◌≡◌ {A = ℕ} 1 2 = ap (λ (l : List ℕ). get_or l 1 0) h.stamps in omega arith

-- another lost row of node 1
wrong_change : HoldsState small nodes_n (with_lost 7 8) state_n → ⊥
unfolding small nodes_n with_lost areas_n state_n state_in
wrong_change h = let e : ◌≡◌ {A = ℕ} 8 9 = ap (λ (l : List Change). get_or (get_or (get_or l 1 no_change).lost 0 []) 1 0) h.changes in omega arith

-- another node worked on
wrong_worked : HoldsState small nodes_n (with_head 131 4) state_n → ⊥
unfolding small nodes_n with_head areas_n state_n state_in
wrong_worked h = let e : ◌≡◌ {A = ℕ} 4 2 = ap (λ (l : List ℕ). get_or l 1 0) h.worked in omega arith

-- ---- what keeping the rest says: with the named words it leaves nothing open

module _ (L : Layout) (a b : Areas) (k : KeepsRest L a b) where
  whole : (n : ℕ) (l m : List ℕ) → take n l ≡ take n m → drop n l ≡ drop n m → l ≡ m
  whole n l m t d = sym (take-append-drop n l) ∙ rw (t, d) (take-append-drop n m)

  -- areas with the same named words and the same rest are the same, word for word
  pub rest_and_named :
      take (area_words L) b.rows ≡ take (area_words L) a.rows
      → take (area_words L) b.gained ≡ take (area_words L) a.gained
      → take (area_words L) b.lost ≡ take (area_words L) a.lost
      → take head_words b.head ≡ take head_words a.head
      → b ≡ a
  rest_and_named r g l h =
      let rows : b.rows ≡ a.rows = whole (area_words L) b.rows a.rows r (cc) in
      let gained : b.gained ≡ a.gained = whole (area_words L) b.gained a.gained g (cc) in
      let lost : b.lost ≡ a.lost = whole (area_words L) b.lost a.lost l (cc) in
      let head : b.head ≡ a.head = whole head_words b.head a.head h (cc) in
      λ i. record { rows = rows i; gained = gained i; lost = lost i; head = head i }

  -- and areas are long enough as they were
  pub rest_long : long_enough L b ≡ long_enough L a
  unfolding long_enough
  rest_long = cc
