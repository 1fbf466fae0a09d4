-- Computed examples of batches, changes and the plain station, beyond the order's starred ones. Each says in its comment what it pins.
use mathlib.Core.Path.{◌≡◌, refl}
use mathlib.Core.Bool.{Bool, true, false}
use mathlib.Core.List.{List, [], ◌∷◌, ◌++◌, map}
use Prim.Native.Nat.{ℕ}
use Rattle.model.specs.Row.{same_rows, all_of, numbers_below}
use Rattle.model.specs.Algebra.{holds_of, compare_fields}
use Rattle.model.specs.Record.{Bytes}
use Rattle.model.specs.Evaluation.{built_on}
use Rattle.model.specs.Delta.{no_change, net_change}
use Rattle.model.specs.Batch.{Event, one_row_change, fold_changes}
use Rattle.model.specs.Batch as batch
use Rattle.model.specs.Station.{State, opened, step}
use Rattle.model.specs.Network.{nodes_in, read_network}
use Rattle.model.specs.Examples.{record_bytes, put, remove, network_n, network_s, batch1, batch2, batch3, batch4, puts}
use Rattle.model.specs.Examples.{shown, verdicts_on, Case, case, ask, levels_are, worked_is, stamps_are, rows_of, gained_of, lost_of, passes, is_right}
use Rattle.model.proofs.ReadExamples.{Expected, verdict}

-- two tables of width 2, joined on the pair (1,0) to columns 0 and 3; node 3 selects the first table's rows with column 0 at most 4,
-- node 4 projects node 3 to column 0, and node 5 the first table to column 1
network_j : Bytes
unfolding record_bytes
network_j =
    record_bytes 1 (2 ∷ [])
    ++ record_bytes 1 (2 ∷ [])
    ++ record_bytes 5 (0 ∷ 1 ∷ 1 ∷ 1 ∷ 0 ∷ 2 ∷ 0 ∷ 3 ∷ [])
    ++ record_bytes 2 (0 ∷ 0 ∷ 3 ∷ 4 ∷ 0 ∷ [])
    ++ record_bytes 4 (3 ∷ 1 ∷ 0 ∷ [])
    ++ record_bytes 4 (0 ∷ 1 ∷ 1 ∷ [])

-- a table, two selects one above the other, and unions whose inputs have levels 0 and 2, the higher one second and first
network_l : Bytes
unfolding record_bytes
network_l =
    record_bytes 1 (1 ∷ [])
    ++ record_bytes 2 (0 ∷ 0 ∷ 5 ∷ 0 ∷ 0 ∷ [])
    ++ record_bytes 2 (1 ∷ 0 ∷ 5 ∷ 0 ∷ 0 ∷ [])
    ++ record_bytes 6 (0 ∷ 2 ∷ [])
    ++ record_bytes 6 (2 ∷ 0 ∷ [])

-- ---- comparisons

-- what each code says of 4, 5 and 6, held against 5
comparisons_of_5 :
    map (λ code. map (λ x. holds_of code (compare_fields x 5)) (4 ∷ 5 ∷ 6 ∷ [])) (numbers_below 6)
    ≡ (false ∷ true ∷ false ∷ [])  -- equal: 5
    ∷ (true ∷ false ∷ true ∷ [])  -- unequal: 4 and 6
    ∷ (true ∷ false ∷ false ∷ [])  -- less: 4
    ∷ (true ∷ true ∷ false ∷ [])  -- at most: 4 and 5
    ∷ (false ∷ false ∷ true ∷ [])  -- greater: 6
    ∷ (false ∷ true ∷ true ∷ [])  -- at least: 5 and 6
    ∷ []
unfolding holds_of compare_fields
comparisons_of_5 = refl

-- ---- rows, changes, levels, worked lists

cases : List Case
unfolding network_n network_s network_j network_l batch1 batch2 batch3 batch4 put remove puts
cases =
    -- a left row joins the right row that agrees with it, and no other
    case network_j ((put 0 (4 ∷ 7 ∷ []) ++ put 1 (7 ∷ 9 ∷ []) ++ put 1 (4 ∷ 4 ∷ [])) ∷ []) (passes ∷ passes ∷ []) (ask (rows_of 2) ((4 ∷ 9 ∷ []) ∷ []) ∷ [])
    -- the worked list goes by level first: node 4, of level 2, comes after node 5, of level 1
    ∷ case network_j (put 0 (4 ∷ 7 ∷ []) ∷ []) (passes ∷ passes ∷ []) (ask worked_is ((2 ∷ 3 ∷ 5 ∷ 4 ∷ []) ∷ []) ∷ [])
    -- a projected row stays while one of its origins does
    ∷ case
    network_j
    ((put 0 (4 ∷ 7 ∷ []) ++ put 0 (5 ∷ 7 ∷ [])) ∷ remove 0 (4 ∷ 7 ∷ []) ∷ [])
    (passes ∷ passes ∷ passes ∷ [])
    (ask (lost_of 0) ((4 ∷ 7 ∷ []) ∷ []) ∷ ask (lost_of 5) [] ∷ ask (rows_of 5) ((7 ∷ []) ∷ []) ∷ [])
    -- a level comes from the highest input, whichever side it is on
    ∷ case network_l [] (passes ∷ []) (ask levels_are ((0 ∷ 1 ∷ 2 ∷ 3 ∷ 3 ∷ []) ∷ []) ∷ [])
    -- gained and lost rows of N's watched node: + 4 5 after batch 1, - 4 5 after batch 3, nothing after batches 2 and 4
    ∷ case network_n (batch1 ∷ []) (passes ∷ passes ∷ []) (ask (gained_of 4) ((5 ∷ []) ∷ []) ∷ ask (lost_of 4) [] ∷ [])
    ∷ case network_n (batch1 ∷ batch2 ∷ []) (passes ∷ passes ∷ passes ∷ []) (ask (gained_of 4) [] ∷ ask (lost_of 4) [] ∷ [])
    ∷ case network_n (batch1 ∷ batch2 ∷ batch3 ∷ []) (passes ∷ passes ∷ passes ∷ passes ∷ []) (ask (gained_of 4) [] ∷ ask (lost_of 4) ((5 ∷ []) ∷ []) ∷ [])
    ∷ case
    network_n
    (batch1 ∷ batch2 ∷ batch3 ∷ batch4 ∷ [])
    (passes ∷ passes ∷ passes ∷ passes ∷ passes ∷ [])
    (ask (gained_of 4) [] ∷ ask (lost_of 4) [] ∷ [])
    -- a changed node is stamped, another stamp remains: nodes 2 and 4 keep the stamp of batch 1
    ∷ case network_n (batch1 ∷ batch2 ∷ []) (passes ∷ passes ∷ passes ∷ []) (ask stamps_are ((2 ∷ 2 ∷ 1 ∷ 0 ∷ 1 ∷ []) ∷ []) ∷ [])
    -- an accepted batch adds 1, the empty one too, and a refused one nothing: the put after them is stamped 2
    ∷ case
    network_s
    ([] ∷ put 2 (1 ∷ []) ∷ put 1 (1 ∷ []) ∷ [])
    (passes ∷ passes ∷ (13 ∷ 0 ∷ []) ∷ passes ∷ [])
    (ask stamps_are ((0 ∷ 2 ∷ 0 ∷ 0 ∷ 2 ∷ []) ∷ []) ∷ [])
    ∷ []

cases_right : all_of is_right cases ≡ true
unfolding cases is_right
cases_right = refl

-- ---- refusals 10 to 13

-- a batch on network S, from its opening, has that verdict
judged : Expected → Bool
unfolding verdicts_on network_s
judged e = same_rows (verdicts_on network_s (e.bytes ∷ [])) (passes ∷ shown e.verdict ∷ [])

batch-verdicts :
    all_of judged (
    verdict 10 0 (3 ∷ 0 ∷ 32 ∷ 0 ∷ [])  -- a length below 4
    ∷ verdict 10 10 (put 0 (1 ∷ []) ++ (9 ∷ []))  -- one byte left, after an event
    ∷ verdict 10 0 (10 ∷ 0 ∷ 32 ∷ [])  -- three bytes left
    ∷ verdict 10 0 (11 ∷ 0 ∷ 32 ∷ 0 ∷ 0 ∷ 0 ∷ 1 ∷ 0 ∷ 0 ∷ 0 ∷ [])  -- a length beyond the end
    ∷ verdict 11 0 (record_bytes 34 [])  -- a kind that is no event's
    ∷ verdict 11 0 (record_bytes 31 [])  -- the kind below
    ∷ verdict 12 640 (puts 1 64 ++ put 0 (65 ∷ []))  -- the 65th event
    ∷ verdict 11 640 (puts 1 64 ++ record_bytes 34 [])  -- 11 comes before 12
    ∷ verdict 13 0 (record_bytes 32 [])  -- too short to name a node
    ∷ verdict 13 10 (put 0 (1 ∷ []) ++ put 2 (1 ∷ []))  -- a node that is no table, at the second record
    ∷ verdict 13 0 (put 5 (1 ∷ []))  -- a node past the last
    ∷ verdict 13 0 (put 1 [])  -- a row too short
    ∷ verdict 13 0 (put 1 (1 ∷ 2 ∷ []))  -- a row too long
    ∷ [])
    ≡ true
unfolding judged record_bytes put puts
batch-verdicts = refl

-- ---- the last batch number

-- N with a batch number
numbered : ℕ → State
unfolding network_n read_network opened
numbered n =
    let s : State = opened (nodes_in network_n) in
    record { tables = s.tables; number = n; stamps = s.stamps; changes = s.changes; worked = s.worked }

-- at 4,294,967,295 any batch is refused by 9, also one that 10 would refuse; one below, a batch is accepted, and a broken one refused by 10
last_number_lem :
    map (λ (s : State). shown (step (nodes_in network_n) s []).verdict) (numbered 4294967295 ∷ numbered 4294967294 ∷ [])
    ++ map (λ (s : State). shown (step (nodes_in network_n) s (1 ∷ [])).verdict) (numbered 4294967295 ∷ numbered 4294967294 ∷ [])
    ≡ (9 ∷ 0 ∷ []) ∷ passes ∷ (9 ∷ 0 ∷ []) ∷ (10 ∷ 0 ∷ []) ∷ []
unfolding numbered step network_n read_network
last_number_lem = refl

-- ---- what a node is built on

-- node 4 of N is built on both tables, a table on itself
built_on_lem : built_on (nodes_in network_n) ≡ (0 ∷ []) ∷ (0 ∷ []) ∷ (0 ∷ []) ∷ (3 ∷ []) ∷ (0 ∷ 3 ∷ []) ∷ []
unfolding built_on read_network network_n
built_on_lem = refl

-- ---- changes

-- gained is what is new, lost what is old
net_change_lem : net_change ((1 ∷ []) ∷ (2 ∷ []) ∷ []) ((2 ∷ []) ∷ (3 ∷ []) ∷ []) ≡ record { gained = (3 ∷ []) ∷ []; lost = (1 ∷ []) ∷ [] }
unfolding net_change
net_change_lem = refl

-- a put gains its row and a removal loses it; idle, each changes nothing
one_row-changes :
    map (λ (e : Event). one_row_change e ((1 ∷ []) ∷ [])) (batch.put 0 (2 ∷ []) ∷ batch.put 0 (1 ∷ []) ∷ batch.remove 0 (1 ∷ []) ∷ batch.remove 0 (2 ∷ []) ∷ [])
    ≡ record { gained = (2 ∷ []) ∷ []; lost = [] } ∷ no_change ∷ record { gained = []; lost = (1 ∷ []) ∷ [] } ∷ no_change ∷ []
unfolding one_row_change
one_row-changes = refl

-- the events of two tables in turn: what they change of table 1 alone
folded :
    fold_changes
    1
    no_change
    (batch.put 1 (2 ∷ []) ∷ batch.put 0 (9 ∷ []) ∷ batch.remove 1 (1 ∷ []) ∷ batch.put 1 (3 ∷ []) ∷ batch.remove 1 (2 ∷ []) ∷ batch.put 1 (3 ∷ []) ∷ [])
    ([] ∷ ((1 ∷ []) ∷ []) ∷ [])
    ≡ record { gained = (3 ∷ []) ∷ []; lost = (1 ∷ []) ∷ [] }
unfolding fold_changes
folded = refl
