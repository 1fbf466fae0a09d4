-- Alerts over lists of turns, document 02, point 2: "A row of such a node is pending exactly if it was gained since opening and neither lost nor taken since". Assumes nothing.
use mathlib.Core.Bool.{Bool, false, true, true≢false}
use mathlib.Core.List.{List, [], ◌∷◌}
use mathlib.Core.Path.{ap, refl, sym, ◌∙◌, ◌≡◌}
use Prim.Native.Nat.{ℕ, ◌≤◌}
use lib.ListN.{length}
use Rattle.model.specs.Row.{max_nodes, member}
use Rattle.model.specs.Record.{Bytes, is_accepted}
use Rattle.model.specs.Network.{nodes_in, read_network, widths}
use Rattle.model.specs.Station.{State, apply, opened}
use Rattle.model.specs.Areas.{Areas}
use Rattle.model.specs.Calls.{Applied, Result, fold_call, open_call, take_call}
use Rattle.laws.proofs.Fits.{Small, read_fits, read_small, widths-few}
use Rattle.states.proofs.Pending.{zeros_good, zeros_none}
use Rattle.demand3.specs.Demand3.{StartsFrom}
use Rattle.demand3.proofs.Holds.{holds-state}
use Rattle.demand3.proofs.Theorem.{meets_some, open_accepts, opened-stands, stands_held}
use Rattle.alerts.specs.Turns.{MeetsTurn, Outcome, RunsTurns, Turn, areas_after, batch, folded_batch, last_areas, last_pending, pending_after, refused_batch, taking, took_row}
use Rattle.alerts.specs.Alerts.{AlertsHold, Happening, AlertsStand, TurnsHold, Zeros, happening_of, history, last_state, turn_state}
use Rattle.alerts.proofs.Exactly.{exactly_none}
use Rattle.alerts.proofs.Turns.{Going, GoesOn, turn_on}

-- a pending area of zeros holds what it should where nothing has happened
starts : (net : Bytes) (accepts : (read_network net).verdict.number ≡ 0) (s : State) (a : Areas) (p : List ℕ) → StartsFrom (nodes_in net) s a → Zeros p → Going net a p s a [] p
starts net accepts s a p k z =
    let small : Small (nodes_in net) = read_small net in
    let few : length (widths (nodes_in net)) ≤ max_nodes = widths-few (nodes_in net) small in
    record {
      held = stands_held net accepts s a k;
      form = zeros_good (read_network net).network few small.narrow p z;
      exactly = exactly_none (read_network net).network p (zeros_none (read_network net).network few small.narrow p z);
      are-rows = λ i r m. absurd (true≢false (sym m ∙ ap (member r) (zeros_none (read_network net).network few small.narrow p z i)));
      rest_kept = refl;
    }

module _ (net : Bytes) (accepts : (read_network net).verdict.number ≡ 0) (start : Areas) (first : List ℕ) where
  -- what holds then, in the claim's terms
  going_stands : (s : State) (a : Areas) (h : List Happening) (p : List ℕ) → Going net start first s a h p → AlertsStand (read_network net).network first s h a p
  going_stands s a h p k =
      record {
        holds = rw k.held.is (holds-state (nodes_in net) s k.held.proper start (read_fits net));
        form = k.form;
        exactly = k.exactly;
        are-rows = k.are-rows;
        rest_kept = k.rest_kept;
      }

  -- it goes on so to the end of a list
  run_going : (s : State) (a : Areas) (h : List Happening) (p : List ℕ) (turns : List Turn) (outcomes : List Outcome) → Going net start first s a h p → RunsTurns net a p turns outcomes →
      Going net start first (last_state (nodes_in net) s turns) (last_areas a outcomes) (history (nodes_in net) s h turns outcomes) (last_pending p outcomes)
  unfolding last_state history
  run_going s a h p [] [] k run = k
  run_going s a h p [] (o ∷ outcomes) k run = absurd run
  run_going s a h p (t ∷ turns) [] k run = absurd run
  run_going s a h p (t ∷ turns) (o ∷ outcomes) k run =
      run_going (turn_state (nodes_in net) s t) (areas_after a o) (happening_of (nodes_in net) s t o ∷ h) (pending_after p o) turns outcomes
      (turn_on net accepts start first s a h p k t o run.0).on run.1

  -- and every turn of it holds
  run_holds : (s : State) (a : Areas) (h : List Happening) (p : List ℕ) (turns : List Turn) (outcomes : List Outcome) → Going net start first s a h p → RunsTurns net a p turns outcomes →
      TurnsHold (read_network net).network first s h a p turns outcomes
  run_holds s a h p [] [] k run = tt
  run_holds s a h p [] (o ∷ outcomes) k run = absurd run
  run_holds s a h p (t ∷ turns) [] k run = absurd run
  run_holds s a h p (t ∷ turns) (o ∷ outcomes) k run =
      let one : GoesOn net start first s a h p t o = turn_on net accepts start first s a h p k t o run.0 in (
        one.holds,
        going_stands (turn_state (nodes_in net) s t) (areas_after a o) (happening_of (nodes_in net) s t o ∷ h) (pending_after p o) one.on,
        run_holds (turn_state (nodes_in net) s t) (areas_after a o) (happening_of (nodes_in net) s t o ∷ h) (pending_after p o) turns outcomes one.on run.1,
      )

-- from areas that hold a state and a pending area of zeros: every network that the reader accepts, every list of turns, refused batches and takings included
pub alerts_hold_from : (net : Bytes) (s : State) (a : Areas) (p : List ℕ) (turns : List Turn) (outcomes : List Outcome) → (read_network net).verdict.number ≡ 0 →
    StartsFrom (nodes_in net) s a → Zeros p → RunsTurns net a p turns outcomes → AlertsHold (read_network net).network s a p turns outcomes
alerts_hold_from net s a p turns outcomes accepts k z run =
    let begin : Going net a p s a [] p = starts net accepts s a p k z in
    let end : Going net a p (last_state (nodes_in net) s turns) (last_areas a outcomes) (history (nodes_in net) s [] turns outcomes) (last_pending p outcomes) =
    run_going net accepts a p s a [] p turns outcomes begin run in
    record {
      stands = going_stands net accepts a p (last_state (nodes_in net) s turns) (last_areas a outcomes) (history (nodes_in net) s [] turns outcomes) (last_pending p outcomes) end;
      throughout = run_holds net accepts a p s a [] p turns outcomes begin run;
    }

-- the same from opening
pub alerts_hold : (net : Bytes) (a : Areas) (p : List ℕ) (turns : List Turn) (outcomes : List Outcome) → (open_call net a).verdict.number ≡ 0 → Zeros p →
    RunsTurns net (open_call net a).areas p turns outcomes → AlertsHold (read_network net).network (opened (nodes_in net)) (open_call net a).areas p turns outcomes
alerts_hold net a p turns outcomes z zeros run =
    alerts_hold_from net (opened (nodes_in net)) (open_call net a).areas p turns outcomes (open_accepts net a z).1 (opened-stands net a z) zeros run

-- ---- the theorem is about something

-- some outcome meets the contracts of a turn
meets_some-turn : (net : Bytes) (t : Turn) (a : Areas) (p : List ℕ) → (o : Outcome) × MeetsTurn net t a p o
meets_some-turn net (batch b) a p =
    let some : (r : Result) × Applied net b a r = meets_some net (apply b) a in
    go some.0 some.1 (is_accepted some.0.verdict) refl
  where
    go : (r : Result) → Applied net b a r → (t : Bool) → is_accepted r.verdict ≡ t → (o : Outcome) × MeetsTurn net (batch b) a p o
    go r m true e = (folded_batch r (fold_call net r.areas p), (m, e, refl))
    go r m false e = (refused_batch r, (m, e))
meets_some-turn net taking a p = (took_row (take_call net a p), refl)

-- every list of turns has outcomes that meet the contracts
pub turns_exist : (net : Bytes) (a : Areas) (p : List ℕ) (turns : List Turn) → (outcomes : List Outcome) × RunsTurns net a p turns outcomes
turns_exist net a p [] = ([], tt)
turns_exist net a p (t ∷ turns) =
    let one : (o : Outcome) × MeetsTurn net t a p o = meets_some-turn net t a p in
    let rest : (outcomes : List Outcome) × RunsTurns net (areas_after a one.0) (pending_after p one.0) turns outcomes =
    turns_exist net (areas_after a one.0) (pending_after p one.0) turns in
    (one.0 ∷ rest.0, (one.1, rest.1))
