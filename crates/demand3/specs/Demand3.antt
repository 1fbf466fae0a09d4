-- Demand 3, of the areas: every call of a list, and the list as a whole, against the plain station.
use Rattle.std.specs.Prelude.{◌≡◌, Bool, true, false, not, ◌&&◌, List, [], ◌∷◌, map, ℕ, ◌+◌, ◌<◌, eqb, get_or, length}
use Rattle.model.specs.Row.{Row, Relation, member, all_of, some_of}
use Rattle.model.specs.Record.{is_accepted}
use Rattle.model.specs.Network.{Node, node_at, is_table}
use Rattle.model.specs.Evaluation.{evaluate, rows_at, built_on}
use Rattle.model.specs.Batch.{Event, read_batch, fold_changes}
use Rattle.model.specs.Delta.{Change, change_at, net_change, no_change, is_changed}
use Rattle.model.specs.Station.{State, Call, apply, step_of, verdicts, state_after, stamp_of, has_changed_input, worked_list}
use Rattle.model.specs.Areas.{Areas, layout, long_enough, coherent, rows_in, changes_in, tables_of, batch_number, stamp_at}
use Rattle.model.specs.Areas.{state_in, holding}
use Rattle.model.specs.Areas.{HoldsState}
use Rattle.model.specs.Calls.{Result}
use Rattle.demand3.specs.Runs.{end_of, never_eight}

-- ---- what the areas say

-- node i's rows
abbrev pub rows_of : List Node → Areas → ℕ → Relation
rows_of nodes a i = rows_at (rows_in layout nodes a) i

-- node i's fresh evaluation on the tables that the areas hold
abbrev pub fresh_of : List Node → Areas → ℕ → Relation
fresh_of nodes a i = rows_at (evaluate nodes (tables_of nodes (rows_in layout nodes a))) i

-- node i's gained and lost rows
abbrev pub change_of : List Node → Areas → ℕ → Change
change_of nodes a i = change_at (changes_in layout nodes a) i

-- the nodes listed as worked on
abbrev pub worked_of : List Node → Areas → List ℕ
worked_of nodes a = (state_in layout nodes a).worked

-- node i is built only on tables without net change
abbrev pub is_untouched : List Node → Areas → ℕ → Bool
is_untouched nodes a i = all_of (λ t. not (is_changed (change_of nodes a t))) (get_or (built_on nodes) i [])

-- ---- one call

-- an accepted batch of some events, from the areas before it to those after it
pub record Advances (nodes : List Node) (events : List Event) (before after : Areas) : Type 0 where
  -- "A batch's events fold into net changes": each table's change is that of its events, folded in turn by delta-union
  pub folds : (t : ℕ) → t < length nodes → is_table (node_at nodes t) ≡ true →
      change_of nodes after t ≡ fold_changes t no_change events (tables_of nodes (rows_in layout nodes before))
  -- "each node's gained and lost rows share no row"
  pub share_no_row : (i : ℕ) (r : Row) → i < length nodes →
      (member r (change_of nodes after i).gained && member r (change_of nodes after i).lost) ≡ false
  -- "and equal the differences between fresh evaluations before and after it"
  pub change_is : (i : ℕ) → i < length nodes → change_of nodes after i
      ≡ net_change (fresh_of nodes before i) (fresh_of nodes after i)
  -- each node's rows are its fresh evaluation
  pub rows_are : (i : ℕ) → i < length nodes → rows_of nodes after i ≡ fresh_of nodes after i
  -- "the nodes listed as worked on are just those with a changed input"
  pub worked-are : (i : ℕ) → i < length nodes → some_of (λ k. eqb k i) (worked_of nodes after)
      ≡ has_changed_input nodes (changes_in layout nodes after) i
  -- they stand by level, then number, each once
  pub worked_list_is : worked_of nodes after ≡ worked_list nodes (changes_in layout nodes after)
  -- the batch number is the next one
  pub number_is : batch_number after.head ≡ batch_number before.head + 1
  -- "every node built only on tables without net change keeps its rows"
  pub rows-kept : (i : ℕ) → i < length nodes → is_untouched nodes after i ≡ true → rows_of nodes after i
      ≡ rows_of nodes before i
  -- "and its change stamp"
  pub stamp_kept : (i : ℕ) → i < length nodes → is_untouched nodes after i ≡ true → stamp_at after.head i
      ≡ stamp_at before.head i
  -- a node with a change is stamped with the new number; other stamps remain
  pub stamp_is : (i : ℕ) → i < length nodes → stamp_at after.head i
      ≡ stamp_of (batch_number after.head) (change_of nodes after i)
      (stamp_at before.head i)

-- the events of a call's batch
abbrev pub events_of : List Node → Call → List Event
events_of nodes (apply batch) = (read_batch nodes batch).events

-- a call on areas that hold the plain station's state s
pub record Answers (nodes : List Node) (s : State) (c : Call) (before : Areas) (r : Result) : Type 0 where
  -- number and place are the plain station's
  pub verdict_is : r.verdict ≡ (step_of nodes s c).verdict
  -- the plain station's next state is in every named word; the words past them are as they were
  pub words_are : r.areas ≡ holding layout nodes (step_of nodes s c).state before
  -- the areas hold it
  pub holds : HoldsState layout nodes r.areas (step_of nodes s c).state
  -- and are coherent
  pub coherent_again : coherent layout nodes r.areas ≡ true
  -- an accepted batch advances them
  pub accepted : is_accepted r.verdict ≡ true → Advances nodes (events_of nodes c) before r.areas
  -- "A refused batch changes no word"
  pub refused : is_accepted r.verdict ≡ false → r.areas ≡ before

-- every call of a list, one result for each: the state goes on as the plain station's, the areas as the calls leave
-- them
abbrev pub Throughout : List Node → State → Areas → List Call → List Result → Type 0
Throughout nodes s a [] [] = Unit {0}
Throughout nodes s a [] (r ∷ results) = ⊥
Throughout nodes s a (c ∷ calls) [] = ⊥
Throughout nodes s a (c ∷ calls) (r ∷ results) = Answers nodes s c a r
    × Throughout nodes (step_of nodes s c).state r.areas calls results

-- ---- a list of calls

-- areas that hold a state of the plain station, which keeps the rows of tables alone
pub record StartsFrom (nodes : List Node) (s : State) (a : Areas) : Type 0 where
  pub long : long_enough layout a ≡ true
  pub holds : HoldsState layout nodes a s
  pub tables-size : length s.tables ≡ length nodes
  pub tables_only : tables_of nodes s.tables ≡ s.tables

-- demand 3, for a list of calls on areas that hold the state s
pub record Demand3 (nodes : List Node) (s : State) (a : Areas) (calls : List Call)
    (results : List Result) : Type 0 where
  -- the verdicts are the plain station's, number and place
  pub verdicts-are : map (λ r. r.verdict) results ≡ verdicts nodes s calls
  -- reason 8 never holds
  pub no_eight : never_eight results ≡ true
  -- after the list the plain station's state is in every named word; the words past them are as they were
  pub words_are : end_of a results ≡ holding layout nodes (state_after nodes s calls) a
  -- the areas hold it
  pub holds : HoldsState layout nodes (end_of a results) (state_after nodes s calls)
  -- and are coherent
  pub coherent_still : coherent layout nodes (end_of a results) ≡ true
  -- and so it is at every call of the list
  pub throughout : Throughout nodes s a calls results
