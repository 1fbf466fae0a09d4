-- Computed examples of the pending area, of folding and of taking, on a small layout. Each says in its comment what it pins.
use mathlib.Core.Path.{◌≡◌, refl}
use mathlib.Core.Bool.{true, false}
use mathlib.Core.List.{List, [], ◌∷◌, ◌++◌, map}
use Prim.Native.Nat.{ℕ}
use lib.ListN.{set, replicate}
use Rattle.model.specs.Row.{Relation}
use Rattle.model.specs.Network.{Network, table}
use Rattle.model.specs.Delta.{Change}
use Rattle.model.specs.Record.{Bytes, accepted, refused}
use Rattle.model.specs.Areas.{Layout, Areas, layout}
use Rattle.model.specs.Pending.{pending_size, pending_count, alerts, good_pending, pending_in, pending_of, fold_rows, fold_all, highest_rank, next_node, lowest_row, without_lowest}
use Rattle.model.specs.Calls.{form_verdict, fold_rule, fold_in, fold_call, take_rule, take_in, take_call, refused_taking}

-- ---- the area

-- "A pending area of 8,224 words": rows, then the counts, that of node 3 in word 8195
pending-words : (pending_size ∷ pending_count layout (replicate 8195 0 ++ (7 ∷ [])) 3 ∷ []) ≡ 8224 ∷ 7 ∷ []
pending-words = refl

-- places of 2 rows of 2 words: 128 words of rows, 32 counts
small : Layout
small = record { stride = 2; capacity = 2 }

-- tables of widths 1, 2, 1, 1, 1, watched with signs 1, 3, 2, none, 3
network : Network
network = record {
  nodes = table 1 ∷ table 2 ∷ table 1 ∷ table 1 ∷ table 1 ∷ [];
  signs = 1 ∷ 3 ∷ 2 ∷ 0 ∷ 3 ∷ [];
  priorities = 2 ∷ 5 ∷ 9 ∷ 0 ∷ 5 ∷ [];
}

-- "nodes watched with sign 1 or 3", and no node past the last
who_alerts : map (alerts network) (0 ∷ 1 ∷ 2 ∷ 3 ∷ 4 ∷ 5 ∷ []) ≡ true ∷ true ∷ false ∷ false ∷ true ∷ false ∷ []
unfolding network
who_alerts = refl

-- rows (7), (9) of node 0 and (3,4) of node 1
held : List Relation
held = ((7 ∷ []) ∷ (9 ∷ []) ∷ []) ∷ ((3 ∷ 4 ∷ []) ∷ []) ∷ [] ∷ [] ∷ [] ∷ []

-- their words
words : List ℕ
words = (7 ∷ 0 ∷ 9 ∷ 0 ∷ []) ++ (3 ∷ 4 ∷ replicate 122 0) ++ (2 ∷ 1 ∷ replicate 30 0)

-- the words are those
words_are : pending_of small held ≡ words
unfolding small held words pending_of
words_are = refl

-- and the rows are read back
words_back : pending_in small network words ≡ held
unfolding small network held words pending_in
words_back = refl

-- of good form: these words; with one more, which is not named; zeros; a row of node 4, with sign 3
good-areas : map (good_pending small network) (words ∷ (words ++ (9 ∷ [])) ∷ replicate 160 0 ∷ set (set words 16 1) 132 1 ∷ []) ≡ replicate 4 true
unfolding small network words good_pending
good-areas = refl

-- 17: one word short; a count above the capacity, of rows that ascend; a row behind those that are counted; a row twice; rows in falling order; a word behind the rows; one past a
-- row's width
bad_rows :
    map (good_pending small network)
    (replicate 159 0 ∷ set (set (set words 0 1) 2 2) 128 3 ∷ set words 128 1 ∷ set words 0 9 ∷ set (set words 0 9) 2 7 ∷ set words 6 1 ∷ set words 1 1 ∷ [])
    ≡ replicate 7 false
unfolding small network words good_pending
bad_rows = refl

-- 17: a row of a node with sign 2, without a watch and past the last, each with its count and without
bad_nodes :
    map (good_pending small network)
    (set (set words 8 1) 130 1 ∷ set words 8 1 ∷ set (set words 12 1) 131 1 ∷ set words 12 1 ∷ set (set words 20 1) 133 1 ∷ set words 20 1 ∷ [])
    ≡ replicate 6 false
unfolding small network words good_pending
bad_nodes = refl

-- ---- folding

-- "the lost rows go out, then the gained ones come in": a row in both is pending
folded_rows_lem : fold_rows ((1 ∷ []) ∷ (2 ∷ []) ∷ (3 ∷ []) ∷ []) (record { gained = (0 ∷ []) ∷ (3 ∷ []) ∷ []; lost = (2 ∷ []) ∷ (3 ∷ []) ∷ (8 ∷ []) ∷ [] }) ≡ (0 ∷ []) ∷ (1 ∷ []) ∷ (3 ∷ []) ∷ []
unfolding fold_rows
folded_rows_lem = refl

-- one row gained and one lost at each node
one_each : List Change
one_each = map (λ i. record { gained = (i ∷ []) ∷ []; lost = (9 ∷ []) ∷ [] }) (0 ∷ 1 ∷ 2 ∷ 3 ∷ 4 ∷ [])

-- each at its node, for signs 1 and 3 alone; lost rows go out for sign 1 too
folded_all : fold_all network one_each (((9 ∷ []) ∷ []) ∷ [] ∷ ((9 ∷ []) ∷ []) ∷ [] ∷ ((5 ∷ []) ∷ []) ∷ [])
    ≡ ((0 ∷ []) ∷ []) ∷ ((1 ∷ []) ∷ []) ∷ ((9 ∷ []) ∷ []) ∷ [] ∷ ((4 ∷ []) ∷ (5 ∷ []) ∷ []) ∷ []
unfolding network one_each fold_all
folded_all = refl

-- 17: a node with 64 rows is right, one with 65 is not, wherever it stands; nor is an area that is not of good form
fold_judged : fold_rule layout true (replicate 64 (7 ∷ []) ∷ []) ∷ fold_rule layout true ([] ∷ replicate 65 (7 ∷ []) ∷ []) ∷ fold_rule layout false [] ∷ []
    ≡ accepted ∷ refused 17 0 ∷ refused 17 0 ∷ []
fold_judged = refl

-- gained: (8) at node 0, (1,2) at node 1, (5) at node 2, (1) and (2) at node 4; lost: so many rows of node 0, of which the first is (7), and (3,4) of node 1
changed : ℕ → Areas
changed n = record {
  rows = [];
  gained = (8 ∷ 0 ∷ 0 ∷ 0 ∷ []) ++ (1 ∷ 2 ∷ 0 ∷ 0 ∷ []) ++ (5 ∷ 0 ∷ 0 ∷ 0 ∷ []) ++ (0 ∷ 0 ∷ 0 ∷ 0 ∷ []) ++ (1 ∷ 0 ∷ 2 ∷ 0 ∷ []);
  lost = (7 ∷ 0 ∷ 0 ∷ 0 ∷ []) ++ (3 ∷ 4 ∷ 0 ∷ 0 ∷ []);
  head = replicate 65 0 ++ (1 ∷ 1 ∷ 1 ∷ 0 ∷ 2 ∷ replicate 27 0) ++ (n ∷ 1 ∷ []);
}

-- the words folded: 2 rows of node 0 wait still, though with those that it gained it had 3; the word past the named ones is as it was
fold_accepted : fold_in small network (changed 1) (words ++ (6 ∷ [])) ≡ record {
  verdict = accepted;
  pending = (8 ∷ 0 ∷ 9 ∷ 0 ∷ []) ++ (1 ∷ 2 ∷ replicate 10 0) ++ (1 ∷ 0 ∷ 2 ∷ replicate 109 0) ++ (2 ∷ 1 ∷ 0 ∷ 0 ∷ 2 ∷ replicate 27 0) ++ (6 ∷ []);
}
unfolding fold_in small network words changed
fold_accepted = refl

-- 17, which writes nothing: node 0 loses no row and would have 3; an area of one word
fold_refused : fold_in small network (changed 0) words ∷ fold_in small network (changed 1) (5 ∷ []) ∷ []
    ≡ record { verdict = refused 17 0; pending = words } ∷ record { verdict = refused 17 0; pending = 5 ∷ [] } ∷ []
unfolding fold_in small network words changed
fold_refused = refl

-- 17 comes after 8, whatever the pending area is
eight_before_17 : (net : Bytes) (a : Areas) (pending : List ℕ) → form_verdict net a ≡ refused 8 0 →
    (fold_call net a pending ≡ record { verdict = refused 8 0; pending = pending }) × (take_call net a pending ≡ refused_taking (refused 8 0) pending)
unfolding fold_call take_call
eight_before_17 net a pending e = rw e (refl, refl)

-- ---- taking

-- 17 comes before 18, which is for nothing pending
take_judged : take_rule false 0 ∷ take_rule true 0 ∷ take_rule true 1 ∷ [] ≡ refused 17 0 ∷ refused 18 0 ∷ accepted ∷ []
take_judged = refl

-- 17 and 18 write nothing: an area of one word, an area of zeros
take-refused : take_in small network (5 ∷ []) ∷ take_in small network (replicate 160 0) ∷ []
    ≡ refused_taking (refused 17 0) (5 ∷ []) ∷ refused_taking (refused 18 0) (replicate 160 0) ∷ []
unfolding take_in small network
take-refused = refl

-- so many rows at each node
at_nodes : List ℕ → List Relation
at_nodes counts = map (λ n. replicate n (7 ∷ [])) counts

-- the highest priority number with something pending, as a rank, and the lowest node there: nothing pending; node 0 alone; priority 5 before 2; of two with 5 the lower node; the
-- highest number first, though its node comes later
next-nodes :
    map (λ counts. highest_rank network (at_nodes counts) ∷ next_node network (at_nodes counts) ∷ [])
    ((0 ∷ 0 ∷ 0 ∷ 0 ∷ 0 ∷ []) ∷ (1 ∷ 0 ∷ 0 ∷ 0 ∷ 0 ∷ []) ∷ (1 ∷ 0 ∷ 0 ∷ 0 ∷ 1 ∷ []) ∷ (0 ∷ 1 ∷ 0 ∷ 0 ∷ 1 ∷ []) ∷ (1 ∷ 1 ∷ 1 ∷ 0 ∷ 0 ∷ []) ∷ [])
    ≡ (0 ∷ 0 ∷ []) ∷ (3 ∷ 0 ∷ []) ∷ (6 ∷ 4 ∷ []) ∷ (6 ∷ 1 ∷ []) ∷ (10 ∷ 2 ∷ []) ∷ []
unfolding network at_nodes highest_rank next_node
next-nodes = refl

-- "its lowest row" at each node, and every node's rows once that of node 0, or of node 1, is removed
lowest_rows : map lowest_row held ≡ (7 ∷ []) ∷ (3 ∷ 4 ∷ []) ∷ [] ∷ [] ∷ [] ∷ []
unfolding held
lowest_rows = refl

lowest_gone : without_lowest held 0 ∷ without_lowest held 1 ∷ []
    ≡ (((9 ∷ []) ∷ []) ∷ ((3 ∷ 4 ∷ []) ∷ []) ∷ [] ∷ [] ∷ [] ∷ []) ∷ (((7 ∷ []) ∷ (9 ∷ []) ∷ []) ∷ [] ∷ [] ∷ [] ∷ [] ∷ []) ∷ []
unfolding held
lowest_gone = refl

-- the words without the row of node 1
words_left : List ℕ
words_left = (7 ∷ 0 ∷ 9 ∷ 0 ∷ []) ++ replicate 124 0 ++ (2 ∷ replicate 31 0) ++ (6 ∷ [])

-- "removes its lowest row and returns node and row": first node 1, of priority 5, then the lower row of node 0; the word past the named ones is as it was
takes_next_lem : take_in small network (words ++ (6 ∷ [])) ∷ take_in small network words_left ∷ []
    ≡ record { verdict = accepted; node = 1; row = 3 ∷ 4 ∷ []; pending = words_left }
    ∷ record { verdict = accepted; node = 0; row = 7 ∷ []; pending = (9 ∷ replicate 127 0) ++ (1 ∷ replicate 31 0) ++ (6 ∷ []) }
    ∷ []
unfolding take_in small network words words_left
takes_next_lem = refl
