-- Networks: document 01, "Rows, nodes, levels", "Records", and refusals 2 to 7; document 02, points 1 and 2.
use Rattle.std.specs.Prelude.{Bool, true, false, not, ◌&&◌, ◌||◌, cond, List, [], ◌∷◌, ◌++◌, map, ◌≡◌, ℕ, zero, suc, ◌+◌, ◌*◌, max, ◌<◌, leb, ltb, eqb, get_or, length, set, take}
use Rattle.model.specs.Row.{Relation, max_width, max_nodes, all_of, is_empty, place}
use Rattle.model.specs.Algebra.{Operand, constant, column, Pair, select_rows, project_rows, join_rows, union_rows}
use Rattle.model.specs.Algebra.{difference_rows, intersect_rows, unmatched_rows}
use Rattle.model.specs.Record.{Bytes, u32, length_at, kind_at, field_at, fields_at, is_broken, offsets, Verdict}
use Rattle.model.specs.Record.{accepted, refused, rule}
use Rattle.model.specs.Record.{first_broken}

-- ---- nodes

-- kinds 6, 7, 8
pub data SetOperation : Type 0 where
  union : SetOperation
  difference : SetOperation
  intersection : SetOperation

-- "Each node is one of these kinds, with its own data"
pub data Node : Type 0 where
  table : ℕ → Node  -- width
  select : ℕ → ℕ → ℕ → Operand → Node  -- input, column, comparison, operand
  project : ℕ → List ℕ → Node  -- input, columns
  join : ℕ → ℕ → List Pair → List ℕ → Node  -- left, right, pairs, columns
  set_operation : SetOperation → ℕ → ℕ → Node  -- left, right
  no_match : ℕ → ℕ → List Pair → Node  -- left, right, pairs

-- "Kind 9 is a watch: node, sign (1 gained, 2 lost, 3 both)", and by document 02 "a priority 0 to 9"
pub record Watch : Type 0 where
  pub node : ℕ
  pub sign : ℕ
  pub priority : ℕ

-- nodes "numbered from 0 in order of their records", and for each node its watch's sign and priority, 0 if it has none
pub record Network : Type 0 where
  pub nodes : List Node
  pub signs : List ℕ
  pub priorities : List ℕ

-- what stands beside a refusal
abbrev pub no_network : Network
no_network = record { nodes = []; signs = []; priorities = [] }

-- ---- what goes by a node's kind

-- the number of a node's kind
abbrev pub kind_of : Node → ℕ
kind_of (table w) = 1
kind_of (select i c k (constant v)) = 2
kind_of (select i c k (column o)) = 3
kind_of (project i columns) = 4
kind_of (join l r pairs columns) = 5
kind_of (set_operation union l r) = 6
kind_of (set_operation difference l r) = 7
kind_of (set_operation intersection l r) = 8
kind_of (no_match l r pairs) = 10

-- the nodes that a node uses: none, one, or a left and a right one
pub data Inputs : Type 0 where
  no_input : Inputs
  one_input : ℕ → Inputs
  two_inputs : ℕ → ℕ → Inputs

-- the inputs in each kind's body
abbrev pub uses_of : Node → Inputs
uses_of (table w) = no_input
uses_of (select i c k o) = one_input i
uses_of (project i columns) = one_input i
uses_of (join l r pairs columns) = two_inputs l r
uses_of (set_operation o l r) = two_inputs l r
uses_of (no_match l r pairs) = two_inputs l r

-- how many fields a node's rows have, given the width of its first input
abbrev pub width_on : ℕ → Node → ℕ
width_on v (table w) = w
width_on v (select i c k o) = v
width_on v (project i columns) = length columns
width_on v (join l r pairs columns) = length columns
width_on v (set_operation o l r) = v
width_on v (no_match l r pairs) = v

-- every column is below a width
abbrev pub columns_below : ℕ → List ℕ → Bool
columns_below w columns = all_of (λ c. ltb c w) columns

-- each pair's columns are below the left and the right width
abbrev pub pairs_below : ℕ → ℕ → List Pair → Bool
pairs_below left right pairs = all_of (λ p. ltb p.left left && ltb p.right right) pairs

-- an operand that is a column is below a width
abbrev pub operand_below : ℕ → Operand → Bool
operand_below w (constant v) = true
operand_below w (column c) = ltb c w

-- low ≤ x ≤ high
abbrev pub within : ℕ → ℕ → ℕ → Bool
within low high x = leb low x && leb x high

-- a node's numbers are right, given the widths of its first and its last input
unfoldable pub fits_on : ℕ → ℕ → Node → Bool
fits_on v w (table n) = within 1 max_width n
fits_on v w (select i c k o) = ltb c v && ltb k 6 && operand_below v o
fits_on v w (project i columns) = columns_below v columns
fits_on v w (join l r pairs columns) = pairs_below v w pairs && columns_below (v + w) columns
fits_on v w (set_operation o l r) = eqb v w
fits_on v w (no_match l r pairs) = pairs_below v w pairs

-- kinds 6, 7, 8
unfoldable pub evaluate_set : SetOperation → Relation → Relation → Relation
unfolding union_rows difference_rows intersect_rows
evaluate_set union l r = union_rows l r
evaluate_set difference l r = difference_rows l r
evaluate_set intersection l r = intersect_rows l r

-- what a node's kind gives from the rows of its first and its last input; a table's kind gives none
unfoldable pub evaluate_on : Node → Relation → Relation → Relation
unfolding select_rows project_rows join_rows evaluate_set unmatched_rows
evaluate_on (table w) l r = []
evaluate_on (select i c k o) l r = select_rows c k o l
evaluate_on (project i columns) l r = project_rows columns l
evaluate_on (join i j pairs columns) l r = join_rows pairs columns l r
evaluate_on (set_operation o i j) l r = evaluate_set o l r
evaluate_on (no_match i j pairs) l r = unmatched_rows pairs l r

-- ---- a node's inputs

-- as a list
abbrev pub listed : Inputs → List ℕ
listed no_input = []
listed (one_input i) = i ∷ []
listed (two_inputs l r) = l ∷ r ∷ []

-- the first input, 0 if there is none
abbrev pub first_of : Inputs → ℕ
first_of no_input = 0
first_of (one_input i) = i
first_of (two_inputs l r) = l

-- the last input, 0 if there is none
abbrev pub last_of : Inputs → ℕ
last_of no_input = 0
last_of (one_input i) = i
last_of (two_inputs l r) = r

-- the nodes that a node uses, in order
abbrev pub inputs_of : Node → List ℕ
inputs_of n = listed (uses_of n)

-- of a node with one input left and right are that one
abbrev pub left_of : Node → ℕ
left_of n = first_of (uses_of n)

-- the last input
abbrev pub right_of : Node → ℕ
right_of n = last_of (uses_of n)

-- "A node that is no table is derived": a table is the node without inputs
abbrev pub is_table : Node → Bool
is_table n = is_empty (inputs_of n)

-- how many fields a node's rows have, given the widths of the nodes before it
abbrev pub width_of : Node → List ℕ → ℕ
width_of n widths = width_on (get_or widths (left_of n) 0) n

-- ---- one value for each node, made from its node and the values of the nodes before it

module _ {A : Type 0} where
  -- the values of some nodes, after those already there
  abbrev pub build_on : (Node → List A → A) → List A → List Node → List A
  build_on f done [] = done
  build_on f done (n ∷ nodes) = build_on f (done ++ (f n done ∷ [])) nodes

  -- the values of all nodes, by number
  unfoldable pub build : (Node → List A → A) → List Node → List A
  build f nodes = build_on f [] nodes

-- ---- widths and levels

-- every node's width, by number
unfoldable pub widths : List Node → List ℕ
unfolding build
widths nodes = build width_of nodes

-- the highest of some numbers, 0 of none
abbrev pub highest_of : List ℕ → ℕ
highest_of [] = 0
highest_of (x ∷ l) = max x (highest_of l)

-- the highest of the levels of some nodes
abbrev pub highest : List ℕ → List ℕ → ℕ
highest levels inputs = highest_of (map (λ i. get_or levels i 0) inputs)

-- "Tables have level 0; any other node has 1 more than the highest level among its inputs"
abbrev pub level_of : Node → List ℕ → ℕ
level_of n levels = cond (is_table n) 0 (suc (highest levels (inputs_of n)))

-- every node's level, by number
unfoldable pub levels : List Node → List ℕ
unfolding build
levels nodes = build level_of nodes

-- node i; past the last node a table of no width
abbrev pub node_at : List Node → ℕ → Node
node_at nodes i = get_or nodes i (table 0)

-- the sign of a node's watch, 0 if it has none
abbrev pub sign_of : Network → ℕ → ℕ
sign_of net i = get_or net.signs i 0

-- the priority of a node's watch, 0 if it has none
abbrev pub priority_of : Network → ℕ → ℕ
priority_of net i = get_or net.priorities i 0

-- ---- records of a network

-- the count in field k is inside the record and 1 to most, and behind it the record has so many fields for each counted
unfoldable pub counted_shape : ℕ → ℕ → ℕ → Bytes → ℕ → Bool
counted_shape k most each bs at =
    leb (6 + 2 * k) (length_at bs at)
    && within 1 most (field_at bs at k)
    && eqb (length_at bs at) (6 + 2 * (k + each * field_at bs at k))

-- the most pairs: "p 0..2" of a join, "p 1 or 2" of kind 10
abbrev pub max_pairs : ℕ
max_pairs = 2

-- kind 5: p is inside the record and 0 to 2, c likewise and 1 to 4, and the length is 12 + 4p + 2c
unfoldable pub join_shape : Bytes → ℕ → Bool
join_shape bs at =
    leb 10 (length_at bs at)
    && leb (field_at bs at 2) max_pairs
    && leb (12 + 4 * field_at bs at 2) (length_at bs at)
    && within 1 max_width (field_at bs at (3 + 2 * field_at bs at 2))
    && eqb (length_at bs at) (12 + 4 * field_at bs at 2 + 2 * field_at bs at (3 + 2 * field_at bs at 2))

-- n pairs of columns, from field k of the body on
abbrev pub pairs_at : Bytes → ℕ → ℕ → ℕ → List Pair
pairs_at bs at k zero = []
pairs_at bs at k (suc n) = record { left = field_at bs at k; right = field_at bs at (k + 1) } ∷ pairs_at bs at (k + 2) n

-- what a record brings
pub data Item : Type 0 where
  node_item : Node → Item
  watch_item : Watch → Item

-- the length is a kind's
abbrev pub has_length : ℕ → Bytes → ℕ → Bool
has_length n bs at = eqb (length_at bs at) n

-- kind 1: "width"
abbrev pub table_at : Bytes → ℕ → Item
table_at bs at = node_item (table (field_at bs at 0))

-- kinds 2 and 3: "input, column, comparison", then the constant or the column
abbrev pub select_at : (Bytes → ℕ → Operand) → Bytes → ℕ → Item
select_at operand bs at = node_item (select (field_at bs at 0) (field_at bs at 1) (field_at bs at 2) (operand bs at))

-- kind 4: "input, c 1..4, c columns"
abbrev pub project_at : Bytes → ℕ → Item
project_at bs at = node_item (project (field_at bs at 0) (fields_at bs at 2 (field_at bs at 1)))

-- kind 5: "left, right, p 0..2, p pairs (left column, right column), c 1..4, c columns"
abbrev pub join_at : Bytes → ℕ → Item
join_at bs at =
    node_item (join (field_at bs at 0) (field_at bs at 1) (pairs_at bs at 3 (field_at bs at 2))
    (fields_at bs at (4 + 2 * field_at bs at 2) (field_at bs at (3 + 2 * field_at bs at 2))))

-- kinds 6, 7, 8: "left, right"
abbrev pub set_at : SetOperation → Bytes → ℕ → Item
set_at o bs at = node_item (set_operation o (field_at bs at 0) (field_at bs at 1))

-- kind 9: "8 bytes"; document 02: "A watch may be 10 bytes long"
abbrev pub watch_shape : Bytes → ℕ → Bool
watch_shape bs at = has_length 8 bs at || has_length 10 bs at

-- "with a priority 0 to 9 at its end; without it the priority is 0"
abbrev pub priority_at : Bytes → ℕ → ℕ
priority_at bs at = cond (has_length 10 bs at) (field_at bs at 2) 0

-- kind 9: "node, sign", and the priority
abbrev pub watch_at : Bytes → ℕ → Item
watch_at bs at =
    watch_item (record { node = field_at bs at 0; sign = field_at bs at 1; priority = priority_at bs at })

-- kind 10: "left, right, p 1 or 2, p pairs"
abbrev pub no_match_at : Bytes → ℕ → Item
no_match_at bs at = node_item (no_match (field_at bs at 0) (field_at bs at 1) (pairs_at bs at 3 (field_at bs at 2)))

-- a kind: rule 6, and the column "body" of the table of kinds
pub record Kind : Type 0 where
  pub shape : Bytes → ℕ → Bool
  pub item : Bytes → ℕ → Item

-- the table of kinds, from 1 on
abbrev pub kinds : List Kind
kinds =
    record { shape = has_length 6; item = table_at }  -- 1
    ∷ record { shape = has_length 14; item = select_at (λ bs at. constant (u32 bs (at + 10))) }  -- 2
    ∷ record { shape = has_length 12; item = select_at (λ bs at. column (field_at bs at 3)) }  -- 3
    ∷ record { shape = counted_shape 1 max_width 1; item = project_at }  -- 4: 8 + 2c bytes
    ∷ record { shape = join_shape; item = join_at }  -- 5
    ∷ record { shape = has_length 8; item = set_at union }  -- 6
    ∷ record { shape = has_length 8; item = set_at difference }  -- 7
    ∷ record { shape = has_length 8; item = set_at intersection }  -- 8
    ∷ record { shape = watch_shape; item = watch_at }  -- 9: 8 or 10 bytes
    ∷ record { shape = counted_shape 2 max_pairs 2; item = no_match_at }  -- 10: 10 + 4p bytes
    ∷ []

-- what stands for a number outside the table
abbrev pub no_kind : Kind
no_kind = record { shape = λ bs at. false; item = λ bs at. node_item (table 0) }

-- rule 4: "Refusal 4 now means a kind outside 1 to 10"
unfoldable pub is_unknown : ℕ → Bool
is_unknown number = not (within 1 (length kinds) number)

-- rule 6: the length is its kind's, and counts p and c are in range and inside the record
unfoldable pub has_shape : ℕ → Bytes → ℕ → Bool
unfolding counted_shape join_shape
has_shape number bs at = (get_or (no_kind ∷ kinds) number no_kind).shape bs at

-- what the record at an offset brings, as a record of a kind
unfoldable pub item_at : ℕ → Bytes → ℕ → Item
item_at number bs at = (get_or (no_kind ∷ kinds) number no_kind).item bs at

-- a watch "takes no node number"
abbrev pub is_node : Item → Bool
is_node (node_item n) = true
is_node (watch_item w) = false

-- ---- rule 7: "One of its other fields breaks a rule above"

-- "A node uses earlier nodes only", and its numbers are right, given the widths of the nodes before it
unfoldable pub node_fits : List ℕ → Node → Bool
unfolding fits_on
node_fits ws n = all_of (λ i. ltb i (length ws)) (inputs_of n) && fits_on (get_or ws (left_of n) 0) (get_or ws (right_of n) 0) n

-- in a network that reading accepts each node's fields are right, given the widths of the nodes before it
abbrev pub AllFit : List Node → Type 0
AllFit nodes = (i : ℕ) → i < length nodes → node_fits (take i (widths nodes)) (node_at nodes i) ≡ true

-- "a priority 0 to 9"
abbrev pub max_priority : ℕ
max_priority = 9

-- "names an earlier node, and a node has at most one", signs being those of the nodes before it; "A priority above 9
-- falls under 7"
unfoldable pub watch_fits : List ℕ → Watch → Bool
watch_fits signs w = ltb w.node (length signs) && within 1 3 w.sign && eqb (get_or signs w.node 0) 0
    && leb w.priority max_priority

-- a record's fields are right, given the widths and the signs of the nodes before it
unfoldable pub item_fits : List ℕ → List ℕ → Item → Bool
unfolding node_fits watch_fits
item_fits ws signs (node_item n) = node_fits ws n
item_fits ws signs (watch_item w) = watch_fits signs w

-- ---- reading

-- the network with one record more
abbrev pub with_item : Network → Item → Network
with_item net (node_item n) =
    record {
      nodes = net.nodes ++ (n ∷ []);
      signs = net.signs ++ (0 ∷ []);
      priorities = net.priorities ++ (0 ∷ []);
    }
with_item net (watch_item w) =
    record {
      nodes = net.nodes;
      signs = set net.signs w.node w.sign;
      priorities = set net.priorities w.node w.priority;
    }

-- the lowest number that the record at an offset breaks, 0 if none, given the widths and the signs of the nodes before
-- it
unfoldable pub record_fault : List ℕ → List ℕ → Bytes → ℕ → ℕ
unfolding is_broken is_unknown has_shape item_at item_fits
record_fault ws signs bs at =
    let kind : ℕ = kind_at bs at in
    first_broken (
    rule 3 (is_broken bs at)
    ∷ rule 4 (is_unknown kind)
    ∷ rule 5 (is_node (item_at kind bs at) && leb max_nodes (length ws))
    ∷ rule 6 (not (has_shape kind bs at))
    ∷ rule 7 (not (item_fits ws signs (item_at kind bs at)))
    ∷ [])

-- what reading a network gives: the verdict, and the network where it is accepted
pub record Reading : Type 0 where
  pub verdict : Verdict
  pub network : Network

-- "A refusal returns its number and a place"
abbrev pub refused_reading : ℕ → ℕ → Reading
refused_reading number place = record { verdict = refused number place; network = no_network }

-- the records at some offsets, after those that the network holds: "the first record that fails decides"
unfoldable pub read_records : Bytes → Network → List ℕ → Reading
unfolding record_fault item_at widths
read_records bs net [] = record { verdict = accepted; network = net }
read_records bs net (at ∷ rest) =
    let later : Reading = read_records bs (with_item net (item_at (kind_at bs at) bs at)) rest in
    let fault : ℕ = record_fault (widths net.nodes) net.signs bs at in
    cond (eqb fault 0) later (refused_reading fault at)

-- a network from its bytes, with refusals 2 to 7
unfoldable pub read_network : Bytes → Reading
unfolding read_records offsets
read_network bs = cond (is_empty bs) (refused_reading 2 0) (read_records bs no_network (offsets bs))

-- the nodes that a network's bytes bring
abbrev pub nodes_in : Bytes → List Node
nodes_in bs = (read_network bs).network.nodes
