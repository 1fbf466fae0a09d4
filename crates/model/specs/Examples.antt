-- The starred examples of document 01 as one table, and what document 02 says of new kinds as another: from bytes to
-- what they must give, with one test over each table.
use Rattle.std.specs.Prelude.{◌≡◌, refl, Bool, true, ◌&&◌, ℕ, ◌+◌, ◌*◌, length}
use mathlib.Core.List.{List, [], ◌∷◌, ◌++◌, map, flat_map}
use Rattle.model.specs.Row.{Row, same_rows, all_of, count_from}
use Rattle.model.specs.Record.{Bytes, bytes16, bytes32, Verdict}
use Rattle.model.specs.Network.{Node, read_network, nodes_in, levels}
use Rattle.model.specs.Evaluation.{evaluate, rows_at}
use Rattle.model.specs.Delta.{change_at}
use Rattle.model.specs.Station.{State, opened, apply, verdicts, state_after}

-- ---- bytes of records

-- a record of a kind with fields of 2 bytes
unfoldable pub record_bytes : ℕ → List ℕ → Bytes
unfolding flat_map
record_bytes kind fields = bytes16 (4 + 2 * length fields) ++ bytes16 kind ++ flat_map bytes16 fields

-- an event of a kind with a row
unfoldable pub event_bytes : ℕ → ℕ → Row → Bytes
unfolding flat_map
event_bytes kind table r = bytes16 (6 + 4 * length r) ++ bytes16 kind ++ bytes16 table ++ flat_map bytes32 r

-- "kind 32 puts a row"
unfoldable pub put : ℕ → Row → Bytes
unfolding event_bytes
put table r = event_bytes 32 table r

-- "33 removes one"
unfoldable pub remove : ℕ → Row → Bytes
unfolding event_bytes
remove table r = event_bytes 33 table r

-- ---- networks

-- "Network N"
unfoldable pub network_n : Bytes
unfolding record_bytes
network_n =
    record_bytes 1 (2 ∷ [])  -- node 0 table of width 2 (block, catch)
    ++ record_bytes 2 (0 ∷ 1 ∷ 5 ∷ 8 ∷ 0 ∷ [])  -- node 1 select of 0, column 1, comparison 5, constant 8
    ++ record_bytes 4 (1 ∷ 1 ∷ 0 ∷ [])  -- node 2 project of 1 on column 0
    ++ record_bytes 1 (1 ∷ [])  -- node 3 table of width 1 (sprayed block)
    ++ record_bytes 7 (2 ∷ 3 ∷ [])  -- node 4 is 2 without 3
    ++ record_bytes 9 (4 ∷ 3 ∷ [])  -- watch on 4, sign 3

-- two tables of width 1, node 2 table 0 without itself, node 3 table 0 joined with itself on the pair (0,0), node 4 the
-- union of both tables
unfoldable pub network_s : Bytes
unfolding record_bytes
network_s =
    record_bytes 1 (1 ∷ [])
    ++ record_bytes 1 (1 ∷ [])
    ++ record_bytes 7 (0 ∷ 0 ∷ [])
    ++ record_bytes 5 (0 ∷ 0 ∷ 1 ∷ 0 ∷ 0 ∷ 1 ∷ 0 ∷ [])
    ++ record_bytes 6 (0 ∷ 1 ∷ [])

-- a table of width 1 (block), a table of width 2 (sprayed block, day), node 2 the blocks with no spray entry, nodes 3
-- and 4 the entries with no entry that agrees on both columns, and with none whose day is their block
unfoldable pub network_m : Bytes
unfolding record_bytes
network_m =
    record_bytes 1 (1 ∷ [])
    ++ record_bytes 1 (2 ∷ [])
    ++ record_bytes 10 (0 ∷ 1 ∷ 1 ∷ 0 ∷ 0 ∷ [])
    ++ record_bytes 10 (1 ∷ 1 ∷ 2 ∷ 0 ∷ 0 ∷ 1 ∷ 1 ∷ [])
    ++ record_bytes 10 (1 ∷ 1 ∷ 1 ∷ 0 ∷ 1 ∷ [])

-- ---- batches

-- "On N with four batches": put (5,9) and (5,12) in 0
unfoldable pub batch1 : Bytes
unfolding put
batch1 = put 0 (5 ∷ 9 ∷ []) ++ put 0 (5 ∷ 12 ∷ [])

-- remove (5,9) from 0
unfoldable pub batch2 : Bytes
unfolding remove
batch2 = remove 0 (5 ∷ 9 ∷ [])

-- put (5) in 3
unfoldable pub batch3 : Bytes
unfolding put
batch3 = put 3 (5 ∷ [])

-- remove (5,12) from 0 and (5) from 3
unfoldable pub batch4 : Bytes
unfolding remove
batch4 = remove 0 (5 ∷ 12 ∷ []) ++ remove 3 (5 ∷ [])

-- n rows put in table 0, from a number on
unfoldable pub puts : ℕ → ℕ → Bytes
unfolding put flat_map
puts from n = flat_map (λ x. put 0 (x ∷ [])) (count_from from n)

-- ---- what the plain station says and holds

-- a verdict as a row: number and place
abbrev pub shown : Verdict → Row
shown v = v.number ∷ v.place ∷ []

-- the verdicts on a network, then on each batch
unfoldable pub verdicts_on : Bytes → List Bytes → List Row
unfolding read_network verdicts opened
verdicts_on network batches = shown (read_network network).verdict ∷ map shown
    (verdicts (nodes_in network) (opened (nodes_in network)) (map apply batches))

-- the state after the batches
unfoldable pub after : Bytes → List Bytes → State
unfolding read_network state_after opened
after network batches = state_after (nodes_in network) (opened (nodes_in network)) (map apply batches)

-- ---- cases

-- what is asked for
pub data Question : Type 0 where
  levels_are : Question  -- each node's level
  worked_is : Question  -- the worked list after the batches
  stamps_are : Question  -- each node's stamp after the batches
  rows_of : ℕ → Question  -- a node's rows after the batches
  gained_of : ℕ → Question  -- a node's gained rows after the batches
  lost_of : ℕ → Question  -- a node's lost rows after the batches

-- what the definitions answer, as rows
unfoldable pub answer_to : Question → List Node → State → List Row
unfolding levels evaluate
answer_to levels_are nodes s = levels nodes ∷ []
answer_to worked_is nodes s = s.worked ∷ []
answer_to stamps_are nodes s = s.stamps ∷ []
answer_to (rows_of i) nodes s = rows_at (evaluate nodes s.tables) i
answer_to (gained_of i) nodes s = (change_at s.changes i).gained
answer_to (lost_of i) nodes s = (change_at s.changes i).lost

-- a question, and the answer that it must have
pub record Ask : Type 0 where
  pub question : Question
  pub answer : List Row

-- a network and batches, the verdict that each must have, and what is asked for afterwards
pub record Case : Type 0 where
  pub network : Bytes
  pub batches : List Bytes
  pub verdicts : List Row
  pub asks : List Ask

-- a question with its answer
abbrev pub ask : Question → List Row → Ask
ask question answer = record { question = question; answer = answer }

-- a case by its parts
abbrev pub case : Bytes → List Bytes → List Row → List Ask → Case
case network batches expected asks = record { network = network; batches = batches; verdicts = expected; asks = asks }

-- number 0 and place 0
abbrev pub passes : Row
passes = 0 ∷ 0 ∷ []

-- every verdict is the expected one, and every answer too
unfoldable pub is_right : Case → Bool
unfolding verdicts_on answer_to read_network after
is_right c =
    same_rows (verdicts_on c.network c.batches) c.verdicts
    && all_of (λ q. same_rows (answer_to q.question (nodes_in c.network) (after c.network c.batches))
    q.answer) c.asks

-- the starred examples, in document 01's order
unfoldable pub examples : List Case
unfolding network_n network_s batch1 batch2 batch3 batch4 put remove puts
examples =
    -- "Levels 0, 1, 2, 0, 3"
    case network_n [] (passes ∷ []) (ask levels_are ((0 ∷ 1 ∷ 2 ∷ 0 ∷ 3 ∷ []) ∷ []) ∷ [])
    -- "Worked on: 1 2 4", then "1 2", then "4", then "1 2 4"
    ∷ case network_n (batch1 ∷ []) (passes ∷ passes ∷ []) (ask worked_is ((1 ∷ 2 ∷ 4 ∷ []) ∷ []) ∷ [])
    ∷ case network_n (batch1 ∷ batch2 ∷ []) (passes ∷ passes ∷ passes ∷ []) (ask worked_is ((1 ∷ 2 ∷ []) ∷ []) ∷ [])
    ∷ case network_n (batch1 ∷ batch2 ∷ batch3 ∷ []) (passes ∷ passes ∷ passes ∷ passes ∷ [])
    (ask worked_is ((4 ∷ []) ∷ []) ∷ [])
    ∷ case network_n (batch1 ∷ batch2 ∷ batch3 ∷ batch4 ∷ []) (passes ∷ passes ∷ passes ∷ passes ∷ passes ∷ [])
    (ask worked_is ((1 ∷ 2 ∷ 4 ∷ []) ∷ []) ∷ [])
    -- "put then remove of a new row nets to nothing", beside a put that acts
    ∷ case
    network_s
    ((put 0 (8 ∷ []) ++ put 0 (7 ∷ []) ++ remove 0 (7 ∷ [])) ∷ [])
    (passes ∷ passes ∷ [])
    (ask (gained_of 0) ((8 ∷ []) ∷ []) ∷ ask (lost_of 0) [] ∷ ask (rows_of 0) ((8 ∷ []) ∷ []) ∷ [])
    ∷ case
    network_s
    ((put 0 (7 ∷ []) ++ remove 0 (7 ∷ [])) ∷ [])
    (passes ∷ passes ∷ [])
    (ask (gained_of 0) [] ∷ ask (lost_of 0) [] ∷ ask (rows_of 0) [] ∷ ask worked_is ([] ∷ []) ∷ [])
    -- "remove then put of a present row likewise", beside a removal that acts
    ∷ case
    network_s
    ((put 0 (7 ∷ []) ++ put 0 (8 ∷ [])) ∷ (remove 0 (8 ∷ []) ++ remove 0 (7 ∷ []) ++ put 0 (7 ∷ [])) ∷ [])
    (passes ∷ passes ∷ passes ∷ [])
    (ask (gained_of 0) [] ∷ ask (lost_of 0) ((8 ∷ []) ∷ []) ∷ ask (rows_of 0) ((7 ∷ []) ∷ []) ∷ [])
    ∷ case
    network_s
    (put 0 (7 ∷ []) ∷ (remove 0 (7 ∷ []) ++ put 0 (7 ∷ [])) ∷ [])
    (passes ∷ passes ∷ passes ∷ [])
    (ask (gained_of 0) [] ∷ ask (lost_of 0) [] ∷ ask (rows_of 0) ((7 ∷ []) ∷ []) ∷ ask worked_is ([] ∷ []) ∷ [])
    -- "a node without itself stays empty", while it is worked on: the node has a row
    ∷ case
    network_s
    (put 0 (7 ∷ []) ∷ [])
    (passes ∷ passes ∷ [])
    (ask (rows_of 0) ((7 ∷ []) ∷ []) ∷ ask (rows_of 2) [] ∷ ask (gained_of 2) [] ∷ ask worked_is
    ((2 ∷ 3 ∷ 4 ∷ []) ∷ []) ∷ [])
    -- "a node of one row joined with itself on the pair (0,0) gives one row"
    ∷ case
    network_s
    (put 0 (7 ∷ []) ∷ [])
    (passes ∷ passes ∷ [])
    (ask (rows_of 0) ((7 ∷ []) ∷ []) ∷ ask (rows_of 3) ((7 ∷ []) ∷ []) ∷ ask (gained_of 3) ((7 ∷ []) ∷ []) ∷ [])
    -- "64 rows accepted, 65 refused by 14": the 64 remain
    ∷ case network_s (puts 1 64 ∷ puts 65 1 ∷ []) (passes ∷ passes ∷ (14 ∷ 0 ∷ []) ∷ [])
    (ask (rows_of 0) (map (λ x. x ∷ []) (count_from 1 64)) ∷ [])
    -- "A union whose left loses a row that its right gains doesn't change": left and right do
    ∷ case
    network_s
    (put 0 (7 ∷ []) ∷ (remove 0 (7 ∷ []) ++ put 1 (7 ∷ [])) ∷ [])
    (passes ∷ passes ∷ passes ∷ [])
    (ask (lost_of 0) ((7 ∷ []) ∷ []) ∷ ask (gained_of 1) ((7 ∷ []) ∷ []) ∷ ask (gained_of 4) [] ∷ ask (lost_of 4) [] ∷ ask
    (rows_of 4)
    ((7 ∷ []) ∷ []) ∷ [])
    ∷ []

-- the whole table is right
pub examples-right : all_of is_right examples ≡ true
unfolding examples is_right
examples-right = refl

-- document 02, point 1
unfoldable pub requested : List Case
unfolding network_m put remove
requested =
    -- "one agreeing row on the right is enough to keep it out"
    case
    network_m
    ((put 0 (5 ∷ []) ++ put 0 (6 ∷ []) ++ put 1 (5 ∷ 1 ∷ []) ++ put 1 (1 ∷ 6 ∷ [])) ∷ [])
    (passes ∷ passes ∷ [])
    (ask (rows_of 2) ((6 ∷ []) ∷ []) ∷ ask (gained_of 2) ((6 ∷ []) ∷ []) ∷ ask levels_are
    ((0 ∷ 0 ∷ 1 ∷ 1 ∷ 1 ∷ []) ∷ []) ∷ [])
    -- "A lost right row can thus be a gain": it was the only one that agreed
    ∷ case
    network_m
    ((put 0 (5 ∷ []) ++ put 1 (5 ∷ 1 ∷ [])) ∷ remove 1 (5 ∷ 1 ∷ []) ∷ [])
    (passes ∷ passes ∷ passes ∷ [])
    (ask (gained_of 2) ((5 ∷ []) ∷ []) ∷ ask (lost_of 2) [] ∷ ask (rows_of 2) ((5 ∷ []) ∷ []) ∷ [])
    -- one of two right rows that agree lost is no change
    ∷ case
    network_m
    ((put 0 (5 ∷ []) ++ put 1 (5 ∷ 1 ∷ []) ++ put 1 (5 ∷ 2 ∷ [])) ∷ remove 1 (5 ∷ 1 ∷ []) ∷ [])
    (passes ∷ passes ∷ passes ∷ [])
    (ask (gained_of 2) [] ∷ ask (lost_of 2) [] ∷ ask (rows_of 2) [] ∷ ask worked_is ((2 ∷ 3 ∷ 4 ∷ []) ∷ []) ∷ [])
    -- a right row gained is a loss
    ∷ case
    network_m
    (put 0 (5 ∷ []) ∷ put 1 (5 ∷ 1 ∷ []) ∷ [])
    (passes ∷ passes ∷ passes ∷ [])
    (ask (gained_of 2) [] ∷ ask (lost_of 2) ((5 ∷ []) ∷ []) ∷ [])
    -- both inputs gain a row, and the two cancel
    ∷ case
    network_m
    ((put 0 (5 ∷ []) ++ put 1 (5 ∷ 1 ∷ [])) ∷ [])
    (passes ∷ passes ∷ [])
    (ask (gained_of 0) ((5 ∷ []) ∷ []) ∷ ask (gained_of 1) ((5 ∷ 1 ∷ []) ∷ []) ∷ ask (gained_of 2) [] ∷ ask (rows_of 2)
    [] ∷ [])
    -- of a node with itself: on the same columns no row is left, on crossed ones (2,5) is, since no entry has day 2
    ∷ case
    network_m
    ((put 1 (5 ∷ 1 ∷ []) ++ put 1 (2 ∷ 5 ∷ [])) ∷ [])
    (passes ∷ passes ∷ [])
    (ask (rows_of 3) [] ∷ ask (rows_of 4) ((2 ∷ 5 ∷ []) ∷ []) ∷ [])
    ∷ []

-- this table is right too
pub requested-right : all_of is_right requested ≡ true
unfolding requested is_right
requested-right = refl
