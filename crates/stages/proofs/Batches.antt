-- A batch and the opening: what the calls leave, by the model. Assumes nothing.
use mathlib.Core.Bool.{Bool, cond, false, true}
use mathlib.Core.List.{List}
use mathlib.Core.Path.{ap, refl, sym, ◌∙◌, ◌≡◌}
use borrow.Author.Tests.{eqb-true}
use Rattle.model.specs.Record.{Bytes, Verdict, is_accepted}
use Rattle.model.specs.Network.{Node, read_network, nodes_in}
use Rattle.model.specs.Station.{State, opened}
use Rattle.model.specs.Areas.{Areas, holding, layout, long_enough, state_in}
use Rattle.model.specs.Calls.{Applied, Keeps, Result, apply_promise, open_call, open_verdict, or_else, result_of, settled, unless}
use Rattle.laws.proofs.Fits.{read_fits, read_small}
use Rattle.demand3.proofs.Holds.{holding-coherent, holding-long, holding-state}
use Rattle.model.specs.Batch.{act_all, read_batch}
use Rattle.demand3.proofs.Steps.{Sound, step-sound}
use Rattle.demand3.proofs.Coherence.{state_proper}
use Rattle.demand3.proofs.Theorem.{Held, open_accepts, opened-coherent, opened_held, settled_on}
use Rattle.stages.specs.Stages.{Opened, areas_after, state_of, step_of}

-- ---- a batch on opened areas

module _ (net : Bytes) (a : Areas) (k : Opened net a) (b : Bytes) where
  abbrev ns : List Node
  ns = nodes_in net

  -- the call's result is settled
  pub result_is : (r : Result) → Applied net b a r → r ≡ result_of (nodes_in net) a (step_of net a b)
  result_is r m = keeps (settled_on net k.accepts a b k.long k.whole) m
    where
      keeps : apply_promise net b a ≡ settled (result_of ns a (step_of net a b)) → Keeps (apply_promise net b a) a r → r ≡ result_of (nodes_in net) a (step_of net a b)
      keeps e p = rw e at p

  sound : Sound (nodes_in net) (state_of net a) (act_all (read_batch (nodes_in net) b).events (state_of net a).tables)
      (step_of net a b)
  sound = step-sound ns (read_fits net) (state_of net a) (state_proper ns (read_small net) a k.whole) b

  areas-are : (t : Bool) → is_accepted (step_of net a b).verdict ≡ t → areas_after net a b ≡ cond t (holding layout (nodes_in net) (step_of net a b).state a) a
  unfolding result_of
  areas-are t e = ap (λ (u : Bool). cond u (holding layout ns (step_of net a b).state a) a) e

  -- the areas hold the next state
  pub state_is : state_of net (areas_after net a b) ≡ (step_of net a b).state
  state_is = go (is_accepted (step_of net a b).verdict) refl
    where
      go : (t : Bool) → is_accepted (step_of net a b).verdict ≡ t → state_of net (areas_after net a b) ≡ (step_of net a b).state
      go true e = ap (state_in layout ns) (areas-are true e) ∙ holding-state ns (step_of net a b).state sound.proper a (read_fits net)
      go false e = ap (state_in layout ns) (areas-are false e) ∙ sym (sound.kept e)

  pub opened_again : Opened net (areas_after net a b)
  opened_again = go (is_accepted (step_of net a b).verdict) refl
    where
      go : (t : Bool) → is_accepted (step_of net a b).verdict ≡ t → Opened net (areas_after net a b)
      go true e =
          let st : State = (step_of net a b).state in
          record {
            accepts = k.accepts;
            long = rw (areas-are true e) (holding-long ns st sound.proper a);
            whole = rw (areas-are true e) (holding-coherent ns st sound.proper a (read_fits net));
          }
      go false e = rw (areas-are false e) k

-- ---- opening

module _ (net : Bytes) (a : Areas) (long : long_enough layout a ≡ true) where
  -- on long enough areas only the network can be refused
  pub open_verdict_lem : (open_call net a).verdict ≡ (read_network net).verdict
  unfolding open_call open_verdict
  open_verdict_lem = ap (λ (t : Bool). or_else (unless t 1) (read_network net).verdict) long

  pub open_yes : is_accepted (read_network net).verdict ≡ true → (open_call net a).verdict.number ≡ 0
  open_yes y = ap (λ (v : Verdict). v.number) open_verdict_lem ∙ eqb-true (read_network net).verdict.number 0 y

-- opening leaves opened areas
pub opened_ready : (net : Bytes) (a : Areas) → (open_call net a).verdict.number ≡ 0 → Opened net (open_call net a).areas
opened_ready net a z =
    let h : Held (nodes_in net) (opened (nodes_in net)) a (open_call net a).areas = opened_held net a z in
    record {
      accepts = (open_accepts net a z).1;
      long = rw h.is (holding-long (nodes_in net) (opened (nodes_in net)) h.proper a);
      whole = opened-coherent net a z;
    }

-- and they hold the opened state
pub opened-state : (net : Bytes) (a : Areas) → (open_call net a).verdict.number ≡ 0 → state_of net (open_call net a).areas ≡ opened (nodes_in net)
opened-state net a z =
    let h : Held (nodes_in net) (opened (nodes_in net)) a (open_call net a).areas = opened_held net a z in
    ap (state_in layout (nodes_in net)) h.is ∙ holding-state (nodes_in net) (opened (nodes_in net)) h.proper a (read_fits net)
