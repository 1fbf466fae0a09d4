-- "The plain station": document 01, the section of that name, and its own term.
use Rattle.std.specs.Prelude.{Bool, ◌&&◌, cond, ℕ, ◌+◌, eqb, get_or, length, replicate}
use mathlib.Core.List.{List, [], ◌∷◌, zip_with, flat_map}
use Rattle.model.specs.Row.{Relation, keep, some_of, numbers_below}
use Rattle.model.specs.Record.{Bytes, Verdict, accepted, refused, is_accepted}
use Rattle.model.specs.Network.{Node, inputs_of, node_at, levels}
use Rattle.model.specs.Evaluation.{evaluate, overfull}
use Rattle.model.specs.Batch.{Event, BatchReading, read_batch, act_all}
use Rattle.model.specs.Delta.{Change, no_change, net_changes, is_changed, change_at}

-- "It keeps each table's rows, a batch number, a worked list, and for each node a change stamp, gained rows and lost
-- rows" The tables' rows stand at their node numbers, and nothing at those of derived nodes.
pub record State : Type 0 where
  pub tables : List Relation
  pub number : ℕ
  pub stamps : List ℕ
  pub changes : List Change
  pub worked : List ℕ

-- "At opening the numbers are 0 and the rest is empty"
unfoldable pub opened : List Node → State
opened nodes =
    record {
      tables = replicate (length nodes) [];
      number = 0;
      stamps = replicate (length nodes) 0;
      changes = replicate (length nodes) no_change;
      worked = [];
    }

-- the largest batch number: rule 9
abbrev pub last_number : ℕ
last_number = 4294967295

-- "A node with either is stamped with the new number; other stamps remain"
abbrev pub stamp_of : ℕ → Change → ℕ → ℕ
stamp_of number change stamp = cond (is_changed change) number stamp

-- node i has an input that gained or lost rows
abbrev pub has_changed_input : List Node → List Change → ℕ → Bool
has_changed_input nodes changes i = some_of (λ j. is_changed (change_at changes j)) (inputs_of (node_at nodes i))

-- the nodes of one level with an input that gained or lost rows, ascending
unfoldable pub worked_at_level : List Node → List Change → ℕ → List ℕ
unfolding levels
worked_at_level nodes changes level = keep (λ i. eqb (get_or (levels nodes) i 0) level && has_changed_input nodes changes i)
    (numbers_below (length nodes))

-- "The worked list is the derived nodes with an input that gained or lost rows, by level, then number":
-- a table has no input, and a level is below the number of nodes
unfoldable pub worked_list : List Node → List Change → List ℕ
unfolding worked_at_level flat_map
worked_list nodes changes = flat_map (worked_at_level nodes changes) (numbers_below (length nodes))

-- the state after an accepted batch whose events leave these tables, from each node's rows before and after
abbrev pub advance_rows : List Node → State → List Relation → List Relation → List Relation → State
advance_rows nodes s copy old new =
    let changes : List Change = net_changes old new in
    record {
      tables = copy;
      number = s.number + 1;
      stamps = zip_with (stamp_of (s.number + 1)) changes s.stamps;
      changes = changes;
      worked = worked_list nodes changes;
    }

-- the state after an accepted batch whose events leave these tables: each node's rows are its fresh evaluation
unfoldable pub advance : List Node → State → List Relation → State
unfolding evaluate net_changes zip_with worked_list
advance nodes s copy = advance_rows nodes s copy (evaluate nodes s.tables) (evaluate nodes copy)

-- what the plain station says of a batch, and its state afterwards
pub record Step : Type 0 where
  pub verdict : Verdict
  pub state : State

-- "A refused batch changes nothing"
abbrev pub refused_step : Verdict → State → Step
refused_step v s = record { verdict = v; state = s }

-- rule 14: "the lowest such node", the first of the nodes above 64 rows, is named
unfoldable pub limit : List Node → State → List Relation → List ℕ → Step
unfolding advance
limit nodes s copy [] = record { verdict = accepted; state = advance nodes s copy }
limit nodes s copy (i ∷ over) = refused_step (refused 14 i) s

-- the events of a batch that 9 to 13 let pass "act in order on a copy of the tables"
unfoldable pub apply_events : List Node → State → List Event → Step
unfolding limit evaluate act_all
apply_events nodes s events = limit nodes s (act_all events s.tables)
    (overfull 0 (evaluate nodes (act_all events s.tables)))

-- one batch: 9, else 10 to 13, else 14, else accepted
unfoldable pub step : List Node → State → Bytes → Step
unfolding read_batch apply_events
step nodes s batch =
    let reading : BatchReading = read_batch nodes batch in
    let result : Step = apply_events nodes s reading.events in
    cond (eqb s.number last_number) (refused_step (refused 9 0) s)
    (cond (is_accepted reading.verdict) result (refused_step reading.verdict s))

-- ---- a list of calls, refused ones included

-- a call of the list: a batch's bytes are applied
pub data Call : Type 0 where
  apply : Bytes → Call

-- what the plain station says of a call, and its state afterwards
unfoldable pub step_of : List Node → State → Call → Step
unfolding step
step_of nodes s (apply batch) = step nodes s batch

-- the verdicts, one for each call
unfoldable pub verdicts : List Node → State → List Call → List Verdict
unfolding step_of
verdicts nodes s [] = []
verdicts nodes s (c ∷ calls) = (step_of nodes s c).verdict ∷ verdicts nodes (step_of nodes s c).state calls

-- the state after the list
unfoldable pub state_after : List Node → State → List Call → State
unfolding step_of
state_after nodes s [] = s
state_after nodes s (c ∷ calls) = state_after nodes (step_of nodes s c).state calls
