-- One turn, from areas that hold the plain station's state and a pending area that holds what it should. Assumes nothing.
use mathlib.Core.Bool.{Bool, ◌&&◌, and-true, cond, false, or-false, true}
use mathlib.Core.List.{List, [], ◌∷◌}
use mathlib.Core.Path.{ap, sym, ◌∙◌, ◌≡◌}
use Prim.Native.Nat.{ℕ, ◌≤◌}
use lib.ListN.{drop, length}
use Rattle.model.specs.Row.{Relation, Row, max_nodes, member}
use Rattle.model.specs.Record.{Bytes, Verdict, is_accepted}
use Rattle.model.specs.Network.{Network, nodes_in, read_network, widths}
use Rattle.model.specs.Evaluation.{evaluate, rows_at}
use Rattle.model.specs.Batch.{act_all, read_batch}
use Rattle.model.specs.Delta.{net_changes}
use Rattle.model.specs.Station.{State, advance, apply, step, step_of}
use Rattle.model.specs.Areas.{Areas, changes_in, layout}
use Rattle.model.specs.Pending.{alerts, good_pending, pending_size}
use Rattle.model.specs.Calls.{Applied, FoldAnswer, Result, TakeAnswer, fold_call, fold_in, refused_taking, take_call, take_in}
use Rattle.laws.proofs.Fits.{Small, read_fits, read_small, widths-few}
use Rattle.states.proofs.Pending.{pending_else}
use Rattle.demand3.proofs.Holds.{holding-changes}
use Rattle.demand3.proofs.Steps.{Sound, step-sound}
use Rattle.demand3.proofs.Theorem.{Held, answers, held_passes, next_held}
use Rattle.alerts.specs.Turns.{Outcome, MeetsTurn, Turn, areas_after, batch, folded_batch, pending_after, refused_batch, taking, took_row}
use Rattle.alerts.specs.Alerts.{Happening, PendingExactly, TurnHolds, changed, happening_of, nothing, turn_state, waiting_at}
use Rattle.alerts.proofs.Exactly.{exactly_more}
use Rattle.alerts.proofs.Folding.{Folded, folded_is}
use Rattle.alerts.proofs.Taking.{Took, took_is}

-- what holds before and after every turn, h having happened: start and first are the areas and the pending area before the first
pub record Going (net : Bytes) (start : Areas) (first : List ℕ) (s : State) (a : Areas) (h : List Happening) (p : List ℕ) : Type 0 where
  pub held : Held (nodes_in net) s start a
  pub form : good_pending layout (read_network net).network p ≡ true
  pub exactly : PendingExactly (read_network net).network h p
  pub are-rows : (i : ℕ) (r : Row) → member r (waiting_at (read_network net).network p i) ≡ true → member r (rows_at (evaluate (nodes_in net) s.tables) i) ≡ true
  pub rest_kept : drop pending_size p ≡ drop pending_size first

-- a turn holds, and it goes on
pub record GoesOn (net : Bytes) (start : Areas) (first : List ℕ) (s : State) (a : Areas) (h : List Happening) (p : List ℕ) (t : Turn) (o : Outcome) : Type 0 where
  pub holds : TurnHolds (read_network net).network s t a p o
  pub on : Going net start first (turn_state (nodes_in net) s t) (areas_after a o) (happening_of (nodes_in net) s t o ∷ h) (pending_after p o)

module _ (net : Bytes) (accepts : (read_network net).verdict.number ≡ 0) (start : Areas) (first : List ℕ) (s : State) (a : Areas) (h : List Happening) (p : List ℕ)
    (k : Going net start first s a h p) where
  -- the network that was read
  abbrev network : Network
  network = (read_network net).network

  -- its nodes are few and narrow
  small : Small (nodes_in net)
  small = read_small net

  -- so are their widths
  few : length (widths (nodes_in net)) ≤ max_nodes
  few = widths-few (nodes_in net) small

  -- a node that does not alert has nothing pending
  none_else : (q : List ℕ) → good_pending layout network q ≡ true → (i : ℕ) → alerts network i ≡ false → waiting_at network q i ≡ []
  none_else q g = pending_else network few small.narrow q g

  -- ---- a batch

  module _ (b : Bytes) (r : Result) (m : Applied net b a r) where
    -- the verdict is the plain station's
    verdict_is : r.verdict ≡ (step (nodes_in net) s b).verdict
    unfolding step_of
    verdict_is = (answers net accepts s start a k.held (apply b) r m).verdict_is

    -- the areas have the plain station's next state
    next : Held (nodes_in net) (step (nodes_in net) s b).state start r.areas
    unfolding step_of
    next = next_held net accepts s start a k.held (apply b) r m

    -- the plain station goes on or stays
    sound : Sound (nodes_in net) s (act_all (read_batch (nodes_in net) b).events s.tables) (step (nodes_in net) s b)
    sound = step-sound (nodes_in net) (read_fits net) s k.held.proper b

    -- both accept or both refuse
    accepted_is : (t : Bool) → is_accepted r.verdict ≡ t → is_accepted (step (nodes_in net) s b).verdict ≡ t
    accepted_is t e = ap is_accepted (sym verdict_is) ∙ e

    -- a refused one: nothing happens
    refused_on : is_accepted r.verdict ≡ false → GoesOn net start first s a h p (batch b) (refused_batch r)
    unfolding turn_state happening_of
    refused_on e =
        record {
          holds = (verdict_is, (answers net accepts s start a k.held (apply b) r m).refused e);
          on =
              record {
                held = next;
                form = k.form;
                exactly = rw (accepted_is false e)
                    (exactly_more network nothing h p p k.exactly (λ i x y. sym (or-false (member x (waiting_at network p i) && true) ∙ and-true (member x (waiting_at network p i))))
                    (none_else p k.form));
                are-rows = λ i x y. rw (sound.kept (accepted_is false e)) (k.are-rows i x y);
                rest_kept = k.rest_kept;
              };
        }

    -- the nodes' rows before the batch
    abbrev old : List Relation
    old = evaluate (nodes_in net) s.tables

    -- and after it
    abbrev new : List Relation
    new = evaluate (nodes_in net) (step (nodes_in net) s b).state.tables

    -- the plain station's changes are the net changes between them
    changes-are : is_accepted r.verdict ≡ true → (step (nodes_in net) s b).state.changes ≡ net_changes old new
    unfolding advance
    changes-are e =
        let copy : List Relation = act_all (read_batch (nodes_in net) b).events s.tables in
        let next-state : (step (nodes_in net) s b).state ≡ advance (nodes_in net) s copy = sound.advanced (accepted_is true e) in
        ap (λ (x : State). x.changes) next-state ∙ ap (λ (x : State). net_changes (evaluate (nodes_in net) s.tables) (evaluate (nodes_in net) x.tables)) (sym next-state)

    -- the areas hold these changes
    changes_held_lem : is_accepted r.verdict ≡ true → changes_in layout (nodes_in net) r.areas ≡ net_changes old new
    changes_held_lem e =
        ap (changes_in layout (nodes_in net)) next.is ∙ holding-changes (nodes_in net) (step (nodes_in net) s b).state next.proper start ∙ changes-are e

    -- 1 to 8 let the folding pass
    call_is : fold_call net r.areas p ≡ fold_in layout network r.areas p
    unfolding fold_call
    call_is =
        ap {B = FoldAnswer} (λ (v : Verdict). cond (is_accepted v) (fold_in layout network r.areas p) (record { verdict = v; pending = p }))
        (held_passes net accepts (step (nodes_in net) s b).state start r.areas next)

    -- an accepted one: its changes are folded in
    folded_on : (f : FoldAnswer) → is_accepted r.verdict ≡ true → f ≡ fold_call net r.areas p → GoesOn net start first s a h p (batch b) (folded_batch r f)
    unfolding turn_state happening_of
    folded_on f e q =
        let folded : Folded network old new p f = rw (q ∙ call_is)
        (folded_is network old new k.held.proper.rows next.proper.rows p k.form k.are-rows r.areas (changes_held_lem e)) in
        record {
          holds = (verdict_is, folded.passes);
          on =
              record {
                held = next;
                form = folded.form;
                exactly = rw (accepted_is true e, changes-are e)
                    (exactly_more network (changed (net_changes old new)) h p f.pending k.exactly folded.members (none_else f.pending folded.form));
                are-rows = folded.are-rows;
                rest_kept = folded.rest ∙ k.rest_kept;
              };
        }

  -- ---- a taking

  -- 1 to 8 let the taking pass
  take_is : take_call net a p ≡ take_in layout network p
  unfolding take_call
  take_is =
      ap {B = TakeAnswer} (λ (v : Verdict). cond (is_accepted v) (take_in layout network p) (refused_taking v p)) (held_passes net accepts s start a k.held)

  -- the next row is taken, or nothing is pending
  took_on : (t : TakeAnswer) → t ≡ take_call net a p → GoesOn net start first s a h p taking (took_row t)
  unfolding turn_state happening_of
  took_on t e =
      let took : Took network p t = rw (e ∙ take_is) (took_is network small p k.form) in
      record {
        holds = took.taking;
        on =
            record {
              held = k.held;
              form = took.form;
              exactly = exactly_more network (happening_of (nodes_in net) s taking (took_row t)) h p t.pending k.exactly (λ i r x. took.members i r)
                  (none_else t.pending took.form);
              are-rows = λ i r x. k.are-rows i r (took.were_pending i r x);
              rest_kept = took.rest ∙ k.rest_kept;
            };
      }

  -- every turn that meets its contracts
  pub turn_on : (t : Turn) (o : Outcome) → MeetsTurn net t a p o → GoesOn net start first s a h p t o
  turn_on (batch b) (refused_batch r) m = refused_on b r m.0 m.1
  turn_on (batch b) (folded_batch r f) m = folded_on b r m.0 f m.1 m.2
  turn_on (batch b) (took_row t) m = absurd m
  turn_on taking (refused_batch r) m = absurd m
  turn_on taking (folded_batch r f) m = absurd m
  turn_on taking (took_row t) m = took_on t m
