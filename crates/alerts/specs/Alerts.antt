-- What holds of alerts over a list of turns: document 02, point 2.
use Rattle.std.specs.Prelude.{◌≡◌, Bool, true, false, ◌&&◌, cond, List, [], ◌∷◌, ℕ, ◌≤◌, ◌<◌, eqb, get_or, drop, replicate, take}
use Rattle.model.specs.Row.{Row, Relation, order, is_less, member, same_row, is_empty}
use Rattle.model.specs.Record.{is_accepted, accepted, refused}
use Rattle.model.specs.Network.{Node, Network, priority_of}
use Rattle.model.specs.Evaluation.{evaluate, rows_at}
use Rattle.model.specs.Delta.{Change, change_at}
use Rattle.model.specs.Station.{State, step}
use Rattle.model.specs.Areas.{Areas, layout, HoldsState}
use Rattle.model.specs.Pending.{alerts, good_pending, pending_in, pending_size}
use Rattle.model.specs.Calls.{TakeAnswer, refused_taking}
use Rattle.alerts.specs.Turns.{Turn, batch, taking, Outcome, refused_batch, folded_batch, took_row, areas_after}
use Rattle.alerts.specs.Turns.{pending_after, last_areas, last_pending}

-- ---- what happened, turn by turn

-- what a turn did: nothing, or an accepted batch's changes on the plain station, or a taking's node and row
pub data Happening : Type 0 where
  nothing : Happening
  changed : List Change → Happening
  took : ℕ → Row → Happening

-- what a taking answered
abbrev pub took_of : TakeAnswer → Happening
took_of t = cond (is_accepted t.verdict) (took t.node t.row) nothing

-- what the plain station says of a batch, and the row that a taking answered
unfoldable pub happening_of : List Node → State → Turn → Outcome → Happening
unfolding step
happening_of nodes s (batch b) o = cond (is_accepted (step nodes s b).verdict) (changed (step nodes s b).state.changes)
    nothing
happening_of nodes s taking (refused_batch r) = nothing
happening_of nodes s taking (folded_batch r f) = nothing
happening_of nodes s taking (took_row t) = took_of t

-- the plain station's state after a turn
unfoldable pub turn_state : List Node → State → Turn → State
unfolding step
turn_state nodes s (batch b) = (step nodes s b).state
turn_state nodes s taking = s

-- the plain station's state after the list
unfoldable pub last_state : List Node → State → List Turn → State
unfolding turn_state
last_state nodes s [] = s
last_state nodes s (t ∷ turns) = last_state nodes (turn_state nodes s t) turns

-- what happened in a list of turns, the last turn first, before what had happened already
unfoldable pub history : List Node → State → List Happening → List Turn → List Outcome → List Happening
unfolding happening_of turn_state
history nodes s earlier [] outcomes = earlier
history nodes s earlier (t ∷ turns) [] = earlier
history nodes s earlier (t ∷ turns) (o ∷ outcomes) =
    history nodes (turn_state nodes s t) (happening_of nodes s t o ∷ earlier) turns outcomes

-- a row of node i was gained
abbrev pub gains : Happening → ℕ → Row → Bool
gains nothing i r = false
gains (changed changes) i r = member r (change_at changes i).gained
gains (took node row) i r = false

-- a row of node i was lost or taken
abbrev pub removes : Happening → ℕ → Row → Bool
removes nothing i r = false
removes (changed changes) i r = member r (change_at changes i).lost
removes (took node row) i r = eqb node i && same_row r row

-- "it was gained since opening and neither lost nor taken since": at some turn, and at no later one, which stand before
-- it in the history
pub record GainedAndKept (h : List Happening) (i : ℕ) (r : Row) : Type 0 where
  pub at : ℕ
  pub gained : gains (get_or h at nothing) i r ≡ true
  pub kept : (later : ℕ) → later < at → removes (get_or h later nothing) i r ≡ false

-- ---- what is pending

-- node i's pending rows
abbrev pub waiting_at : Network → List ℕ → ℕ → Relation
waiting_at net p i = rows_at (pending_in layout net p) i

-- no node has a pending row
abbrev pub NothingPending : Network → List ℕ → Type 0
NothingPending net p = (i : ℕ) → waiting_at net p i ≡ []

-- "A row of such a node is pending exactly if it was gained since opening and neither lost nor taken since"
pub record PendingExactly (net : Network) (h : List Happening) (p : List ℕ) : Type 0 where
  pub only_if : (i : ℕ) (r : Row) → alerts net i ≡ true → member r (waiting_at net p i) ≡ true → GainedAndKept h i r
  pub if : (i : ℕ) (r : Row) → alerts net i ≡ true → GainedAndKept h i r → member r (waiting_at net p i) ≡ true
  -- no other node has pending rows
  pub none_else : (i : ℕ) → alerts net i ≡ false → waiting_at net p i ≡ []

-- ---- one taking

-- "Taking goes to the highest priority number with something pending, there to the lowest node, removes its lowest row
-- and returns node and row"
pub record TakesNext (net : Network) (before : List ℕ) (t : TakeAnswer) : Type 0 where
  -- the row is pending at that node
  pub was_pending : member t.row (waiting_at net before t.node) ≡ true
  -- no node with something pending has a higher priority number
  pub highest : (i : ℕ) → is_empty (waiting_at net before i) ≡ false → priority_of net i ≤ priority_of net t.node
  -- no node below it with something pending has that priority number
  pub lowest_node : (i : ℕ) → is_empty (waiting_at net before i) ≡ false → priority_of net i ≡ priority_of net t.node →
      t.node ≤ i
  -- every other pending row of that node is above it
  pub row_is_lowest : (r : Row) → member r (waiting_at net t.pending t.node) ≡ true →
      is_less (order t.row r) ≡ true
  -- it goes, and the others stay
  pub removed : waiting_at net before t.node ≡ t.row ∷ waiting_at net t.pending t.node
  -- no other node's pending rows change
  pub others-kept : (i : ℕ) → (i ≡ t.node → ⊥) → waiting_at net t.pending i ≡ waiting_at net before i

-- 18 with nothing pending, which writes nothing; else the next row is taken. 17 is neither
pub data Taking (net : Network) (before : List ℕ) (t : TakeAnswer) : Type 0 where
  nothing_pending : NothingPending net before → t ≡ refused_taking (refused 18 0) before → Taking net before t
  takes_next : t.verdict ≡ accepted → TakesNext net before t → Taking net before t

-- ---- a list of turns

-- a turn: a batch's verdict is the plain station's, a refused one writes nothing, folding is never refused
abbrev pub TurnHolds : Network → State → Turn → Areas → List ℕ → Outcome → Type 0
TurnHolds net s (batch b) a p (refused_batch r) = (r.verdict ≡ (step net.nodes s b).verdict) × (r.areas ≡ a)
TurnHolds net s (batch b) a p (folded_batch r f) = (r.verdict ≡ (step net.nodes s b).verdict)
    × (f.verdict ≡ accepted)
TurnHolds net s (batch b) a p (took_row t) = ⊥
TurnHolds net s taking a p (refused_batch r) = ⊥
TurnHolds net s taking a p (folded_batch r f) = ⊥
TurnHolds net s taking a p (took_row t) = Taking net p t

-- what holds after some turns: h has happened, the plain station is in state s, and first was the pending area before
pub record AlertsStand (net : Network) (first : List ℕ) (s : State) (h : List Happening) (a : Areas)
    (p : List ℕ) : Type 0 where
  -- the areas hold the plain station's state
  pub holds : HoldsState layout net.nodes a s
  -- the pending area is of good form: 17 does not hold of it
  pub form : good_pending layout net p ≡ true
  -- "A row of such a node is pending exactly if it was gained since opening and neither lost nor taken since"
  pub exactly : PendingExactly net h p
  -- every pending row is a row of its node
  pub are-rows : (i : ℕ) (r : Row) → member r (waiting_at net p i) ≡ true →
      member r (rows_at (evaluate net.nodes s.tables) i) ≡ true
  -- the words past the named ones are as they were
  pub rest_kept : drop pending_size p ≡ drop pending_size first

-- every turn of a list, one outcome for each: what it answers, and what holds after it
abbrev pub TurnsHold : Network → List ℕ → State → List Happening → Areas → List ℕ → List Turn → List Outcome → Type 0
TurnsHold net first s h a p [] [] = Unit {0}
TurnsHold net first s h a p [] (o ∷ outcomes) = ⊥
TurnsHold net first s h a p (t ∷ turns) [] = ⊥
TurnsHold net first s h a p (t ∷ turns) (o ∷ outcomes) = TurnHolds net s t a p o
    × AlertsStand net first (turn_state net.nodes s t) (happening_of net.nodes s t o ∷ h) (areas_after a o)
    (pending_after p o)
    × TurnsHold net first (turn_state net.nodes s t) (happening_of net.nodes s t o ∷ h) (areas_after a o)
    (pending_after p o) turns outcomes

-- "the caller sets it to 0 at opening"
abbrev pub Zeros : List ℕ → Type 0
Zeros p = take pending_size p ≡ replicate pending_size 0

-- the claim, for a list of turns from areas that hold the state s and a pending area of zeros
pub record AlertsHold (net : Network) (s : State) (a : Areas) (p : List ℕ) (turns : List Turn)
    (outcomes : List Outcome) : Type 0 where
  -- what holds after the list
  pub stands : AlertsStand net p (last_state net.nodes s turns) (history net.nodes s [] turns outcomes)
      (last_areas a outcomes) (last_pending p outcomes)
  -- and so it is at every turn of it
  pub throughout : TurnsHold net p s [] a p turns outcomes
