-- Demand 3: for every network that opening accepts and every list of calls, refused ones included, the monitor gives what the plain
-- station gives, in every named word. Assumes nothing.
use mathlib.Core.Bool.{Bool, cond, false, not, true, ◌||◌}
use mathlib.Core.List.{List, [], map, ◌∷◌}
use mathlib.Core.Path.{ap, ap₂, refl, subst, sym, ◌∙◌, ◌≡◌}
use native.Mathlib.Omega.{arith}
use lib.Dec.{eqb}
use lib.ListN.{length}
use borrow.Author.Tests.{eq-eqb, ne_eqb}
use Rattle.model.specs.Record.{Bytes, Verdict, accepted, is_accepted}
use Rattle.model.specs.Network.{Node, AllFit, nodes_in, read_network, within}
use Rattle.model.specs.Batch.{act_all}
use Rattle.model.specs.Evaluation.{evaluate}
use Rattle.model.specs.Station.{Call, State, advance, apply, opened, state_after, step, step_of, verdicts}
use Rattle.model.specs.Areas.{Areas, HoldsState, cleared, coherent, good_form, holding, layout, long_enough, rows_in, same_relations, state_in, tables_of}
use Rattle.laws.proofs.Verdicts.{form-good}
use Rattle.model.specs.Calls.{Keeps, Promise, Result, apply_promise, form_verdict, free, freely_accepted, open_call, open_verdict, or_else, promise_of, result_of, settled, unless}
use Rattle.laws.proofs.Fits.{read_fits, read_small}
use Rattle.laws.proofs.Sets.{and_both, and_first}
use Rattle.laws.proofs.Fresh.{same_refl}
use Rattle.demand3.specs.Runs.{Meets, Runs, end_of, never_eight}
use Rattle.demand3.specs.Demand3.{Advances, Answers, events_of, Demand3, StartsFrom, Throughout}
use Rattle.demand3.proofs.Holds.{Proper, holding_again, holding-coherent, holding-good, holding-long, holding-state, holds-state, tables_back}
use Rattle.demand3.proofs.Steps.{Sound, step-sound}
use Rattle.demand3.proofs.Opening.{cleared-holds, opened_proper}
use Rattle.demand3.proofs.Coherence.{state_proper}
use Rattle.demand3.proofs.Determined.{own_words}
use Rattle.demand3.proofs.Advances.{advances_held}

-- areas that have a proper state in their named words, the others as they were before
pub record Held (nodes : List Node) (s : State) (before a : Areas) : Type 0 where
  pub is : a ≡ holding layout nodes s before
  pub proper : Proper nodes s

-- a step keeps the state proper; an accepted one advances it, a refusal keeps it
call_sound : (nodes : List Node) (fit : AllFit nodes) (s : State) (p : Proper nodes s) (c : Call) → Sound nodes s (act_all (events_of nodes c) s.tables) (step_of nodes s c)
unfolding step_of
call_sound nodes fit s p (apply b) = step-sound nodes fit s p b

-- ---- one call

module _ (net : Bytes) (accepts : (read_network net).verdict.number ≡ 0) where
  fit : AllFit (nodes_in net)
  fit = read_fits net

  -- 1 to 8 let pass
  form-passes : (a : Areas) → long_enough layout a ≡ true → good_form layout (nodes_in net) a ≡ true → form_verdict net a ≡ accepted
  form-passes a l g = form-good net a (read_network net).verdict l refl (eq-eqb (read_network net).verdict.number 0 accepts) g

  -- on coherent areas all is settled
  pub settled_on : (a : Areas) (b : Bytes) → long_enough layout a ≡ true → coherent layout (nodes_in net) a ≡ true → apply_promise net b a
      ≡ settled (result_of (nodes_in net) a (step (nodes_in net) (state_in layout (nodes_in net) a) b))
  unfolding apply_promise promise_of coherent
  settled_on a b l c =
      let ns : List Node = nodes_in net in
      let g : good_form layout (nodes_in net) a ≡ true = and_first (good_form layout ns a) (same_relations (rows_in layout ns a) (evaluate ns (tables_of ns (rows_in layout ns a)))) c in
      let ok : is_accepted (form_verdict net a) ≡ true = ap is_accepted (form-passes a l g) in
      ap (λ (t : Bool). cond t (promise_of ns a (step ns (state_in layout ns a) b)) (settled (record { verdict = form_verdict net a; areas = a }))) ok
      ∙ ap (λ (t : Bool). cond (t || within 9 13 (step ns (state_in layout ns a) b).verdict.number) (settled (result_of ns a (step ns (state_in layout ns a) b))) (free (length ns)))
      c

  module _ (s : State) (before a : Areas) (h : Held (nodes_in net) s before a) where
    long : long_enough layout a ≡ true
    long = rw h.is (holding-long (nodes_in net) s h.proper before)

    -- 1 to 8 let them pass
    pub held_passes : form_verdict net a ≡ accepted
    held_passes = form-passes a long (rw h.is (holding-good (nodes_in net) s h.proper before))

    whole : coherent layout (nodes_in net) a ≡ true
    whole = rw h.is (holding-coherent (nodes_in net) s h.proper before fit)

    state : state_in layout (nodes_in net) a ≡ s
    state = ap (state_in layout (nodes_in net)) h.is ∙ holding-state (nodes_in net) s h.proper before fit

    -- a call that meets its contract gives the plain station's result
    met : (c : Call) (r : Result) → Meets net c a r → r ≡ result_of (nodes_in net) a (step_of (nodes_in net) s c)
    unfolding step_of
    met (apply b) r m = keeps (settled_on a b long whole ∙ ap (λ (x : State). settled (result_of (nodes_in net) a (step (nodes_in net) x b))) state) m
      where
        keeps : apply_promise net b a ≡ settled (result_of (nodes_in net) a (step (nodes_in net) s b)) → Keeps (apply_promise net b a) a r →
            r ≡ result_of (nodes_in net) a (step (nodes_in net) s b)
        keeps e k = rw e at k

    module _ (c : Call) (r : Result) (m : Meets net c a r) where
      sound : Sound (nodes_in net) s (act_all (events_of (nodes_in net) c) s.tables) (step_of (nodes_in net) s c)
      sound = call_sound (nodes_in net) fit s h.proper c

      verdict_is : r.verdict ≡ (step_of (nodes_in net) s c).verdict
      unfolding result_of
      verdict_is = ap (λ (x : Result). x.verdict) (met c r m)

      areas-are : (t : Bool) → is_accepted (step_of (nodes_in net) s c).verdict ≡ t → r.areas ≡ cond t (holding layout (nodes_in net) (step_of (nodes_in net) s c).state a) a
      unfolding result_of
      areas-are t e = ap (λ (x : Result). x.areas) (met c r m) ∙ ap (λ (u : Bool). cond u (holding layout (nodes_in net) (step_of (nodes_in net) s c).state a) a) e

      accepted_is : (t : Bool) → is_accepted r.verdict ≡ t → is_accepted (step_of (nodes_in net) s c).verdict ≡ t
      accepted_is t e = ap is_accepted (sym verdict_is) ∙ e

      -- the areas have the next state
      pub next_held : Held (nodes_in net) (step_of (nodes_in net) s c).state before r.areas
      next_held = go (is_accepted (step_of (nodes_in net) s c).verdict) refl
        where
          go : (t : Bool) → is_accepted (step_of (nodes_in net) s c).verdict ≡ t → Held (nodes_in net) (step_of (nodes_in net) s c).state before r.areas
          go true e =
              record {
                is = areas-are true e ∙ ap (holding layout (nodes_in net) (step_of (nodes_in net) s c).state) h.is
                    ∙ holding_again (nodes_in net) s (step_of (nodes_in net) s c).state h.proper sound.proper before;
                proper = sound.proper;
              }
          go false e = record { is = areas-are false e ∙ h.is ∙ ap (λ (x : State). holding layout (nodes_in net) x before) (sym (sound.kept e)); proper = sound.proper }

      -- written over the areas before the call they are the same
      words_are : r.areas ≡ holding layout (nodes_in net) (step_of (nodes_in net) s c).state a
      words_are =
          next_held.is
          ∙ sym (ap (holding layout (nodes_in net) (step_of (nodes_in net) s c).state) h.is ∙ holding_again (nodes_in net) s (step_of (nodes_in net) s c).state h.proper
          sound.proper before)

      advances : is_accepted r.verdict ≡ true → Advances (nodes_in net) (events_of (nodes_in net) c) a r.areas
      advances e =
          let next : (step_of (nodes_in net) s c).state ≡ advance (nodes_in net) s (act_all (events_of (nodes_in net) c) s.tables) = sound.advanced (accepted_is true e) in
          let proper : Proper (nodes_in net) (advance (nodes_in net) s (act_all (events_of (nodes_in net) c) s.tables)) = rw next at sound.proper in
          let after : r.areas ≡ holding layout (nodes_in net) (advance (nodes_in net) s (act_all (events_of (nodes_in net) c) s.tables)) before =
          next_held.is ∙ ap (λ (x : State). holding layout (nodes_in net) x before) next in
          rw (h.is, after) (advances_held (nodes_in net) fit s (events_of (nodes_in net) c) h.proper proper before before)

      pub answers : Answers (nodes_in net) s c a r
      answers =
          record {
            verdict_is = verdict_is;
            words_are = words_are;
            holds = rw next_held.is (holds-state (nodes_in net) (step_of (nodes_in net) s c).state next_held.proper before fit);
            coherent_again = rw next_held.is (holding-coherent (nodes_in net) (step_of (nodes_in net) s c).state next_held.proper before fit);
            accepted = advances;
            refused = λ e. areas-are false (accepted_is false e);
          }

      not_eight : eqb r.verdict.number 8 ≡ false
      not_eight = ne_eqb r.verdict.number 8 (λ z. sound.high (ap (λ (v : Verdict). v.number) (sym verdict_is) ∙ z))

  -- ---- a list of calls

  run_verdicts : (s : State) (before a : Areas) (calls : List Call) (results : List Result) → Held (nodes_in net) s before a → Runs net a calls results →
      map (λ r. r.verdict) results ≡ verdicts (nodes_in net) s calls
  unfolding verdicts
  run_verdicts s before a [] [] h run = refl
  run_verdicts s before a [] (r ∷ results) h run = absurd run
  run_verdicts s before a (c ∷ calls) [] h run = absurd run
  run_verdicts s before a (c ∷ calls) (r ∷ results) h run =
      ap₂ {A = Verdict} {B = List Verdict} {C = List Verdict} (λ x y. x ∷ y) (verdict_is s before a h c r run.0)
      (run_verdicts (step_of (nodes_in net) s c).state before r.areas calls results (next_held s before a h c r run.0) run.1)

  run_held : (s : State) (before a : Areas) (calls : List Call) (results : List Result) → Held (nodes_in net) s before a → Runs net a calls results →
      Held (nodes_in net) (state_after (nodes_in net) s calls) before (end_of a results)
  unfolding state_after
  run_held s before a [] [] h run = h
  run_held s before a [] (r ∷ results) h run = absurd run
  run_held s before a (c ∷ calls) [] h run = absurd run
  run_held s before a (c ∷ calls) (r ∷ results) h run = run_held (step_of (nodes_in net) s c).state before r.areas calls results (next_held s before a h c r run.0) run.1

  run_eight : (s : State) (before a : Areas) (calls : List Call) (results : List Result) → Held (nodes_in net) s before a → Runs net a calls results → never_eight results ≡ true
  run_eight s before a [] [] h run = refl
  run_eight s before a [] (r ∷ results) h run = absurd run
  run_eight s before a (c ∷ calls) [] h run = absurd run
  run_eight s before a (c ∷ calls) (r ∷ results) h run =
      and_both (not (eqb r.verdict.number 8)) (never_eight results) (ap not (not_eight s before a h c r run.0))
      (run_eight (step_of (nodes_in net) s c).state before r.areas calls results (next_held s before a h c r run.0) run.1)

  run_throughout : (s : State) (before a : Areas) (calls : List Call) (results : List Result) → Held (nodes_in net) s before a → Runs net a calls results →
      Throughout (nodes_in net) s a calls results
  run_throughout s before a [] [] h run = tt
  run_throughout s before a [] (r ∷ results) h run = absurd run
  run_throughout s before a (c ∷ calls) [] h run = absurd run
  run_throughout s before a (c ∷ calls) (r ∷ results) h run =
      (answers s before a h c r run.0, run_throughout (step_of (nodes_in net) s c).state before r.areas calls results (next_held s before a h c r run.0) run.1)

  run_demand : (s : State) (a : Areas) (calls : List Call) (results : List Result) → Held (nodes_in net) s a a → Runs net a calls results → Demand3 (nodes_in net) s a calls results
  run_demand s a calls results h run =
      let end : Held (nodes_in net) (state_after (nodes_in net) s calls) a (end_of a results) = run_held s a a calls results h run in
      record {
        verdicts-are = run_verdicts s a a calls results h run;
        no_eight = run_eight s a a calls results h run;
        words_are = end.is;
        holds = rw end.is (holds-state (nodes_in net) (state_after (nodes_in net) s calls) end.proper a fit);
        coherent_still = rw end.is (holding-coherent (nodes_in net) (state_after (nodes_in net) s calls) end.proper a fit);
        throughout = run_throughout s a a calls results h run;
      }

  -- ---- areas that hold a state

  module _ (s : State) (a : Areas) (k : StartsFrom (nodes_in net) s a) where
    tables_held : tables_of (nodes_in net) (rows_in layout (nodes_in net) a) ≡ s.tables
    tables_held = ap (tables_of (nodes_in net)) k.holds.rows ∙ tables_back (nodes_in net) s.tables k.tables-size k.tables_only fit

    stands-coherent : coherent layout (nodes_in net) a ≡ true
    unfolding coherent
    stands-coherent =
        and_both (good_form layout (nodes_in net) a) (same_relations (rows_in layout (nodes_in net) a) (evaluate (nodes_in net) (tables_of (nodes_in net) (rows_in layout (nodes_in net) a))))
        k.holds.form
        (ap (same_relations (rows_in layout (nodes_in net) a)) (ap (evaluate (nodes_in net)) tables_held ∙ sym k.holds.rows) ∙ same_refl (rows_in layout (nodes_in net) a))

    stands-state : state_in layout (nodes_in net) a ≡ s
    unfolding state_in
    stands-state = λ i. record { tables = tables_held i; number = k.holds.number i; stamps = k.holds.stamps i; changes = k.holds.changes i; worked = k.holds.worked i }

    pub stands_held : Held (nodes_in net) s a a
    stands_held =
        record {
          is = own_words (nodes_in net) (read_small net) a stands-coherent k.long ∙ ap (λ (x : State). holding layout (nodes_in net) x a) stands-state;
          proper = rw stands-state at (state_proper (nodes_in net) (read_small net) a stands-coherent);
        }

-- demand 3 from any areas that hold a state: every network that the reader accepts, every list of calls, refused ones included
pub demand_3_from : (net : Bytes) (s : State) (a : Areas) (calls : List Call) (results : List Result) → (read_network net).verdict.number ≡ 0 → StartsFrom (nodes_in net) s a →
    Runs net a calls results → Demand3 (nodes_in net) s a calls results
demand_3_from net s a calls results accepts k run = run_demand net accepts s a calls results (stands_held net accepts s a k) run

-- coherent areas hold the state that is in their words
pub coherent-stands : (net : Bytes) (a : Areas) → long_enough layout a ≡ true → coherent layout (nodes_in net) a ≡ true → StartsFrom (nodes_in net) (state_in layout (nodes_in net) a) a
coherent-stands net a long c =
    let p : Proper (nodes_in net) (state_in layout (nodes_in net) a) = state_proper (nodes_in net) (read_small net) a c in
    record {
      long = long;
      holds = subst (λ (x : Areas). HoldsState layout (nodes_in net) x (state_in layout (nodes_in net) a)) (sym (own_words (nodes_in net) (read_small net) a c long))
          (holds-state (nodes_in net) (state_in layout (nodes_in net) a) p a (read_fits net));
      tables-size = p.tables-size;
      tables_only = p.tables_only;
    }

-- ---- opening

pub open_accepts : (net : Bytes) (a : Areas) → (open_call net a).verdict.number ≡ 0 → (long_enough layout a ≡ true) × ((read_network net).verdict.number ≡ 0)
unfolding open_call open_verdict
open_accepts net a z = go (long_enough layout a) refl z
  where
    go : (t : Bool) → long_enough layout a ≡ t → (or_else (unless t 1) (read_network net).verdict).number ≡ 0 → (long_enough layout a ≡ true) × ((read_network net).verdict.number ≡ 0)
    go true e y = (e, y)
    go false e y = absurd (omega arith)

-- opening leaves areas that have the opened state in their words
pub opened_held : (net : Bytes) (a : Areas) → (open_call net a).verdict.number ≡ 0 → Held (nodes_in net) (opened (nodes_in net)) a (open_call net a).areas
unfolding open_call
opened_held net a z =
    let clear : (open_call net a).areas ≡ cleared layout a = ap (λ (t : Bool). cond t (cleared layout a) a) (eq-eqb (open_verdict net a).number 0 z) in
    record {
      is = clear ∙ cleared-holds (nodes_in net) (read_fits net) (read_small net) a;
      proper = opened_proper (nodes_in net) (read_fits net) (read_small net);
    }

-- they are coherent
pub opened-coherent : (net : Bytes) (a : Areas) → (open_call net a).verdict.number ≡ 0 → coherent layout (nodes_in net) (open_call net a).areas ≡ true
opened-coherent net a z =
    let h : Held (nodes_in net) (opened (nodes_in net)) a (open_call net a).areas = opened_held net a z in
    rw h.is (holding-coherent (nodes_in net) (opened (nodes_in net)) h.proper a (read_fits net))

-- and hold the opened state
pub opened-stands : (net : Bytes) (a : Areas) → (open_call net a).verdict.number ≡ 0 → StartsFrom (nodes_in net) (opened (nodes_in net)) (open_call net a).areas
opened-stands net a z =
    let h : Held (nodes_in net) (opened (nodes_in net)) a (open_call net a).areas = opened_held net a z in
    record {
      long = rw h.is (holding-long (nodes_in net) (opened (nodes_in net)) h.proper a);
      holds = rw h.is (holds-state (nodes_in net) (opened (nodes_in net)) h.proper a (read_fits net));
      tables-size = h.proper.tables-size;
      tables_only = h.proper.tables_only;
    }

-- ---- the theorem

-- demand 3: every network that opening accepts, every list of calls, refused ones included
pub demand_3 : (net : Bytes) (a : Areas) (calls : List Call) (results : List Result) → (open_call net a).verdict.number ≡ 0 → Runs net (open_call net a).areas calls results →
    Demand3 (nodes_in net) (opened (nodes_in net)) (open_call net a).areas calls results
demand_3 net a calls results z run =
    demand_3_from net (opened (nodes_in net)) (open_call net a).areas calls results (open_accepts net a z).1 (opened-stands net a z) run

-- the words after the list, from the areas as they were before opening
pub demand-words : (net : Bytes) (a : Areas) (calls : List Call) (results : List Result) → (open_call net a).verdict.number ≡ 0 → Runs net (open_call net a).areas calls results →
    end_of (open_call net a).areas results ≡ holding layout (nodes_in net) (state_after (nodes_in net) (opened (nodes_in net)) calls) a
demand-words net a calls results z run =
    (run_held net (open_accepts net a z).1 (opened (nodes_in net)) a (open_call net a).areas calls results (opened_held net a z) run).is

-- ---- the theorem is about something

-- some result keeps a promise
keeps-some : (p : Promise) (a : Areas) → (r : Result) × Keeps p a r
keeps-some (settled x) a = (x, refl)
keeps-some (free n) a = (
  record { verdict = accepted; areas = a },
  freely_accepted refl (record { rows-length = refl; rows = refl; gained-length = refl; gained = refl; lost-length = refl; lost = refl; head-length = refl; head = refl }),
)

-- some result meets a call's contract
pub meets_some : (net : Bytes) (c : Call) (a : Areas) → (r : Result) × Meets net c a r
meets_some net (apply b) a = keeps-some (apply_promise net b a) a

-- every list of calls has results that meet the contracts
pub runs_exist : (net : Bytes) (a : Areas) (calls : List Call) → (results : List Result) × Runs net a calls results
runs_exist net a [] = ([], tt)
runs_exist net a (c ∷ calls) =
    let first : (r : Result) × Meets net c a r = meets_some net c a in
    let rest : (results : List Result) × Runs net first.0.areas calls results = runs_exist net first.0.areas calls in
    (first.0 ∷ rest.0, (first.1, rest.1))
