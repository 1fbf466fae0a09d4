-- What a batch leaves keeps the promise, case by case. Assumes nothing.
use mathlib.Core.List.{List, ◌∷◌, map, []}
use mathlib.Core.Path.{◌≡◌, refl, ◌∙◌, ap, subst, sym, ap₂}
use mathlib.Core.Bool.{false, true, true≢false, Bool, ◌||◌}
use Prim.Native.Nat.{ℕ, ◌≤◌, ◌<◌, ◌+◌}
use lib.ListN.{length, length-append, drop, length-drop}
use native.Mathlib.Omega.{arith}
use lib.Seq.{drop_at}
use borrow.Author.Tests.{eq-eqb, ne_eqb}
use Rattle.model.specs.Network.{Node, within, AllFit, widths}
use Rattle.model.specs.Areas.{Areas, holding, holding_rows, layout, coherent, over, state_in, batch_number, rows_in, tables_of, good_form, same_relations, stamp_at, head_of, KeepsRest, area_of}
use Rattle.model.specs.Station.{Step, State, limit, refused_step, advance, advance_rows, step, last_number, apply_events}
use Rattle.model.specs.Record.{is_accepted, refused, accepted, Bytes, Verdict, offsets}
use Rattle.verdicts.specs.declared.Refusal.{Refusal}
use Rattle.verdicts.specs.Verdicts.{refusal_of}
use Rattle.verdicts.proofs.Numbers.{not-accepted}
use Rattle.named_tables.specs.Named.{NamesNodes}
use Rattle.tables.proofs.Acts.{accepted_names}
use Rattle.model.specs.Calls.{result_of, promise_of, settled, free, Result, Keeps, Free, freely_refused, freely_accepted}
use Rattle.model.specs.Row.{Relation, numbers_below, max_nodes}
use Rattle.network.specs.declared.Network.{Network}
use Rattle.batch.specs.Applying.{Applicable, AppliedTo, Unrefused}
use Rattle.areas.specs.Lent.{lent}
use Rattle.network.specs.Reading.{nodes_of}
use Rattle.model.specs.Batch.{read_batch}
use Rattle.states.proofs.Batches.{batch-within}
use Rattle.propagation.specs.Propagated.{Propagatable, tables_after, new_rows, limit_verdict}
use Rattle.working.specs.Worked.{told, WorkedTo}
use Rattle.new_rows.specs.Working.{working}
use Rattle.coherence.specs.Held.{rows_held}
use Rattle.model.specs.Evaluation.{overfull, evaluate}
use Rattle.laws.proofs.Fresh.{same_eq}
use Rattle.laws.proofs.Bounds.{over_below}
use Rattle.laws.proofs.Sets.{and_second}
use Rattle.propagation.proofs.News.{new_fresh}
use Rattle.network.proofs.Nodes.{nodes-count}
use Rattle.states.proofs.Tables.{all_under}
use Rattle.states.specs.Fitting.{Fitting}
use Rattle.states.proofs.Written.{area_length}
use Rattle.propagation.proofs.Network.{new-fits, new_many as news-many}
use Rattle.changes.specs.Written.{WorkedOut}
use Rattle.areas.proofs.Good.{long_parts}
use Rattle.changes.proofs.Out.{changes-count, gained-fit, lost-fit}
use Rattle.laws.proofs.Parts.{length-counted}
use Rattle.model.specs.Areas.{area_size, head_words}
use Rattle.states.proofs.Changes.{stamps-length}
use Rattle.states.proofs.Head.{head-size}
use Rattle.states.proofs.Worked.{worked-few}

module _ (nodes : List Node) (a : Areas) (x : Step) where
  result-refused : is_accepted x.verdict ≡ false → result_of nodes a x ≡ record { verdict = x.verdict; areas = a }
  unfolding result_of
  result-refused e = rw e refl

  result-accepted : is_accepted x.verdict ≡ true → result_of nodes a x ≡ record { verdict = x.verdict; areas = holding layout nodes x.state a }
  unfolding result_of holding
  result-accepted e = rw e refl

  promise_settled : (t : Bool) → coherent layout nodes a ≡ t → (t || within 9 13 x.verdict.number) ≡ true → promise_of nodes a x ≡ settled (result_of nodes a x)
  unfolding promise_of
  promise_settled t c e = rw (c, e) refl

  promise_free : coherent layout nodes a ≡ false → within 9 13 x.verdict.number ≡ false → promise_of nodes a x ≡ free (length nodes)
  unfolding promise_of
  promise_free c e = rw (c, e) refl

  settles : (t : Bool) → coherent layout nodes a ≡ t → (t || within 9 13 x.verdict.number) ≡ true → (r : Result) → r ≡ result_of nodes a x → Keeps (promise_of nodes a x) a r
  settles t c e r f = rw (promise_settled t c e) f

  frees : coherent layout nodes a ≡ false → within 9 13 x.verdict.number ≡ false → (r : Result) → Free (length nodes) a r → Keeps (promise_of nodes a x) a r
  frees c e r f = rw (promise_free c e) f

limit-over : (nodes : List Node) (s : State) (copy : List Relation) (i : ℕ) (list : List ℕ) → limit nodes s copy (i ∷ list) ≡ refused_step (refused 14 i) s
unfolding limit
limit-over nodes s copy i list = refl

limit_under : (nodes : List Node) (s : State) (copy : List Relation) → limit nodes s copy [] ≡ record { verdict = accepted; state = advance nodes s copy }
unfolding limit
limit_under nodes s copy = refl

-- a refusal names the first of the list
limit-first : (list : List ℕ) (i : ℕ) → refused 14 i ≡ limit_verdict list → (rest : List ℕ) × (list ≡ i ∷ rest)
limit-first [] i e = let z : ◌≡◌ {A = ℕ} 14 0 = ap (λ (v : Verdict). v.number) e in absurd (omega arith)
limit-first (j ∷ list) i e = (list, ap (λ (v : Verdict). v.place ∷ list) (sym e))

-- a refusal that the limit gives has its number
limit_names : (list : List ℕ) (v : Verdict) → is_accepted v ≡ false → v ≡ limit_verdict list → (i : ℕ) × (v ≡ refused 14 i)
limit_names [] v n e = absurd (true≢false (sym (ap is_accepted e) ∙ n))
limit_names (i ∷ list) v n e = (i, e)

or_last : (t : Bool) → (t || true) ≡ true
or_last true = refl
or_last false = refl

-- words past those that are written stay
over-length : (words before : List ℕ) → length words ≤ length before → length (over words before) ≡ length before
over-length words before h = length-append words (drop (length words) before) ∙ rw (length-drop (length words) before) (omega arith)

over_rest : (words before : List ℕ) (n : ℕ) → length words ≡ n → drop n (over words before) ≡ drop n before
over_rest words before n e = drop_at words (drop (length words) before) n e ∙ ap (λ (k : ℕ). drop k before) e

module _ (net : Network) (bs : Bytes) (rows gained lost head : List ℕ) (can : Applicable net (lent rows gained lost head)) where
  abbrev a : Areas
  a = lent rows gained lost head

  abbrev nodes : List Node
  nodes = nodes_of net

  abbrev s : State
  s = state_in layout (nodes_of net) (lent rows gained lost head)

  abbrev st : Step
  st = step (nodes_of net) (state_in layout (nodes_of net) (lent rows gained lost head)) bs

  -- ---- 9 to 13

  refused_early : (v : Verdict) → st ≡ refused_step v s → is_accepted v ≡ false → within 9 13 v.number ≡ true →
      AppliedTo net bs (lent rows gained lost head) (record { verdict = v; areas = lent rows gained lost head })
  refused_early v e n w =
      subst (λ (x : Step). Keeps (promise_of (nodes_of net) (lent rows gained lost head) x) (lent rows gained lost head) (record { verdict = v; areas = lent rows gained lost head })) (sym e)
      (settles (nodes_of net) (lent rows gained lost head) (refused_step v s) (coherent layout (nodes_of net) (lent rows gained lost head)) refl
      (ap (λ (t : Bool). coherent layout (nodes_of net) (lent rows gained lost head) || t) w ∙ or_last (coherent layout (nodes_of net) (lent rows gained lost head)))
      (record { verdict = v; areas = lent rows gained lost head })
      (sym (result-refused (nodes_of net) (lent rows gained lost head) (refused_step v s) n)))

  pub last_refused : batch_number head ≡ last_number → AppliedTo net bs (lent rows gained lost head) (record { verdict = refused 9 0; areas = lent rows gained lost head })
  unfolding step state_in
  last_refused e = refused_early (refused 9 0) (rw (eq-eqb (batch_number head) last_number e) refl) refl refl

  pub read_refused : (batch_number head ≡ last_number → ⊥) → (v : Verdict) → v ≡ (read_batch (nodes_of net) bs).verdict → is_accepted v ≡ false →
      AppliedTo net bs (lent rows gained lost head) (record { verdict = v; areas = lent rows gained lost head })
  unfolding step state_in
  read_refused n v e r =
      let no : is_accepted (read_batch (nodes_of net) bs).verdict ≡ false = ap is_accepted (sym e) ∙ r in
      refused_early v (rw (ne_eqb (batch_number head) last_number n, no, e) refl) r (rw e (batch-within (nodes_of net) bs no))

  -- ---- 14, and acceptance

  module _ (u : Unrefused net bs head) where
    pub ready : Propagatable net rows head bs
    ready = record { checkable = can.checkable; accepts = u.accepts }

    -- the batch's events name nodes
    pub names : NamesNodes bs (offsets bs)
    names = accepted_names (nodes_of net) bs 0 u.accepts (rw (nodes-count net can.checkable.built) can.checkable.built.sound.few)

    abbrev old : List Relation
    old = rows_held net rows head

    abbrev copy : List Relation
    copy = tables_after net rows head bs

    abbrev new : List Relation
    new = new_rows net rows head bs

    fit : AllFit (nodes_of net)
    fit = can.checkable.fit

    -- the step looks at the limit alone
    step_is : st ≡ limit (nodes_of net) s (tables_after net rows head bs) (overfull 0 (evaluate (nodes_of net) (tables_after net rows head bs)))
    unfolding step apply_events state_in rows_in
    step_is = rw (ne_eqb (batch_number head) last_number u.number, u.accepts) refl

    limit-number : (list : List ℕ) → within 9 13 (limit (nodes_of net) s (tables_after net rows head bs) list).verdict.number ≡ false
    unfolding limit
    limit-number [] = refl
    limit-number (i ∷ list) = refl

    number-free : within 9 13 st.verdict.number ≡ false
    number-free = ap (λ (x : Step). within 9 13 x.verdict.number) step_is ∙ limit-number (overfull 0 (evaluate (nodes_of net) (tables_after net rows head bs)))

    -- coherent areas hold the fresh evaluation of their tables
    old_fresh : coherent layout (nodes_of net) (lent rows gained lost head) ≡ true → rows_held net rows head ≡ evaluate (nodes_of net) (tables_of (nodes_of net) (rows_held net rows head))
    unfolding coherent rows_in
    old_fresh c = same_eq (rows_held net rows head) (evaluate (nodes_of net) (tables_of (nodes_of net) (rows_held net rows head)))
        (and_second (good_form layout (nodes_of net) a) (same_relations (rows_held net rows head) (evaluate (nodes_of net) (tables_of (nodes_of net) (rows_held net rows head)))) c)

    now_fresh : coherent layout (nodes_of net) (lent rows gained lost head) ≡ true → new_rows net rows head bs ≡ evaluate (nodes_of net) (tables_after net rows head bs)
    now_fresh c = new_fresh (nodes_of net) fit (rows_held net rows head) (tables_after net rows head bs) (tables_of (nodes_of net) (rows_held net rows head)) (old_fresh c)

    new_many : length (new_rows net rows head bs) ≡ net.count
    new_many = news-many net rows head bs ready

    -- rule 14
    refused_over : (v : Verdict) (i : ℕ) → v ≡ refused 14 i → v ≡ limit_verdict (overfull 0 (new_rows net rows head bs)) →
        AppliedTo net bs (lent rows gained lost head) (record { verdict = v; areas = lent rows gained lost head })
    refused_over v i e f = rw e (go (coherent layout (nodes_of net) a) refl)
      where
        first : (rest : List ℕ) × (overfull 0 (new_rows net rows head bs) ≡ i ∷ rest)
        first = limit-first (overfull 0 (new_rows net rows head bs)) i (sym e ∙ f)

        go : (t : Bool) → coherent layout (nodes_of net) a ≡ t → AppliedTo net bs (lent rows gained lost head) (record { verdict = refused 14 i; areas = lent rows gained lost head })
        go true c =
            let list : overfull 0 (evaluate (nodes_of net) (tables_after net rows head bs)) ≡ i ∷ first.0 = ap (overfull 0) (sym (now_fresh c)) ∙ first.1 in
            let past = limit-over (nodes_of net) s (tables_after net rows head bs) i first.0 in
            let is : st ≡ refused_step (refused 14 i) s = step_is ∙ ap (limit (nodes_of net) s (tables_after net rows head bs)) list ∙ past in
            settles (nodes_of net) (lent rows gained lost head) st true c refl (record { verdict = refused 14 i; areas = lent rows gained lost head })
            (sym (ap (result_of (nodes_of net) (lent rows gained lost head)) is ∙ result-refused (nodes_of net) (lent rows gained lost head) (refused_step (refused 14 i) s) refl))
        go false c =
            let inside : i < net.count = omega (arith, over_below 0 (new_rows net rows head bs) i first.0 first.1, new_many) in
            let node : i < length (nodes_of net) = rw (nodes-count net can.checkable.built) inside in
            frees (nodes_of net) (lent rows gained lost head) st c number-free (record { verdict = refused 14 i; areas = lent rows gained lost head }) (freely_refused refl node refl)

    pub over-refused : (d : Refusal) → refusal_of d ≡ limit_verdict (overfull 0 (new_rows net rows head bs)) →
        AppliedTo net bs (lent rows gained lost head) (record { verdict = refusal_of d; areas = lent rows gained lost head })
    over-refused d f =
        let named = limit_names (overfull 0 (new_rows net rows head bs)) (refusal_of d) (not-accepted d) f in
        refused_over (refusal_of d) named.0 named.1 f

    -- every node's new rows worked out and written
    module _ (work counts : List ℕ) (changed : List Bool) (picks sizes : List ℕ)
        (to : WorkedTo head (new_rows net rows head bs) (working net.widths rows work counts changed) (told picks sizes) net.count) where
      pub fits : Fitting (widths (nodes_of net)) (new_rows net rows head bs)
      fits = new-fits net rows head bs ready (working net.widths rows work counts changed) (told picks sizes) to

      abbrev pub worked-out : WorkedOut net rows gained lost head work counts changed picks sizes
      worked-out = record { built = can.checkable.built; long = can.long; form = can.form; new = new_rows net rows head bs; worked = to; fits = fits }

      abbrev next : State
      next = advance_rows (nodes_of net) s (tables_after net rows head bs) (rows_in layout (nodes_of net) (lent rows gained lost head)) (new_rows net rows head bs)

      under : overfull 0 (new_rows net rows head bs) ≡ []
      under = all_under 0 (new_rows net rows head bs) (λ i h. (to.worked i (rw new_many at h)).few)

      few : net.count ≤ max_nodes
      few = can.checkable.built.sound.few

      longs : (area_size ≤ length rows) × (area_size ≤ length gained) × (area_size ≤ length lost) × (head_words ≤ length head)
      longs = long_parts rows gained lost head can.long

      changes_many : length next.changes ≡ net.count
      changes_many = changes-count net rows gained lost head work counts changed picks sizes worked-out

      stamps_many : length next.stamps ≤ max_nodes
      unfolding state_in
      stamps_many =
          let earlier : length (map (stamp_at head) (numbers_below (length (nodes_of net)))) ≡ length (nodes_of net) = length-counted (stamp_at head) 0 (length (nodes_of net)) in
          rw (stamps-length (batch_number head + 1) next.changes (map (stamp_at head) (numbers_below (length (nodes_of net))))
          (changes_many ∙ sym (earlier ∙ nodes-count net can.checkable.built)) ∙ earlier ∙ nodes-count net can.checkable.built) few

      head-words : length (head_of (new_rows net rows head bs) next) ≡ head_words
      head-words =
          head-size (new_rows net rows head bs) next (rw new_many few) stamps_many (rw changes_many few)
          (omega (arith, few, worked-few (nodes_of net) next.changes, nodes-count net can.checkable.built))

      -- no word past the named ones
      keeps_rest : KeepsRest layout (lent rows gained lost head) (holding_rows layout (new_rows net rows head bs) next (lent rows gained lost head))
      keeps_rest =
          let r : length (area_of layout (new_rows net rows head bs)) ≡ area_size = area_length (widths (nodes_of net)) (new_rows net rows head bs) fits in
          let g : length (area_of layout (map (λ c. c.gained) next.changes)) ≡ area_size = area_length (widths (nodes_of net)) (map (λ c. c.gained) next.changes)
          (gained-fit net rows gained lost head work counts changed picks sizes worked-out) in
          let l : length (area_of layout (map (λ c. c.lost) next.changes)) ≡ area_size = area_length (widths (nodes_of net)) (map (λ c. c.lost) next.changes)
          (lost-fit net rows gained lost head work counts changed picks sizes worked-out) in
          record {
            rows-length = over-length (area_of layout (new_rows net rows head bs)) rows (rw r longs.0);
            rows = over_rest (area_of layout (new_rows net rows head bs)) rows area_size r;
            gained-length = over-length (area_of layout (map (λ c. c.gained) next.changes)) gained (rw g longs.1);
            gained = over_rest (area_of layout (map (λ c. c.gained) next.changes)) gained area_size g;
            lost-length = over-length (area_of layout (map (λ c. c.lost) next.changes)) lost (rw l longs.2);
            lost = over_rest (area_of layout (map (λ c. c.lost) next.changes)) lost area_size l;
            head-length = over-length (head_of (new_rows net rows head bs) next) head (rw head-words longs.3);
            head = over_rest (head_of (new_rows net rows head bs) next) head head_words head-words;
          }

      -- from coherent areas they hold the plain station's next state
      held : coherent layout (nodes_of net) (lent rows gained lost head) ≡ true → holding_rows layout (new_rows net rows head bs) next (lent rows gained lost head)
          ≡ holding layout (nodes_of net) (advance (nodes_of net) s (tables_after net rows head bs)) (lent rows gained lost head)
      unfolding holding advance state_in rows_in
      held c =
          ap₂ {A = List Relation} {B = List Relation} {C = Areas} (λ x y. holding_rows layout y (advance_rows (nodes_of net) s (tables_after net rows head bs) x y) a) (old_fresh c) (now_fresh c)

      pub accepted-kept : (v : Verdict) (after : Areas) → v ≡ accepted → after ≡ holding_rows layout (new_rows net rows head bs) next (lent rows gained lost head) →
          AppliedTo net bs (lent rows gained lost head) (record { verdict = v; areas = after })
      accepted-kept v after f e = rw (f, e) (go (coherent layout (nodes_of net) a) refl)
        where
          go : (t : Bool) → coherent layout (nodes_of net) a ≡ t →
              AppliedTo net bs (lent rows gained lost head) (record { verdict = accepted; areas = holding_rows layout (new_rows net rows head bs) next (lent rows gained lost head) })
          go true c =
              let list : overfull 0 (evaluate (nodes_of net) (tables_after net rows head bs)) ≡ [] = ap (overfull 0) (sym (now_fresh c)) ∙ under in
              let is : st ≡ record { verdict = accepted; state = advance (nodes_of net) s (tables_after net rows head bs) } = step_is
              ∙ ap (limit (nodes_of net) s (tables_after net rows head bs)) list ∙ limit_under (nodes_of net) s (tables_after net rows head bs) in
              settles (nodes_of net) (lent rows gained lost head) st true c refl
              (record { verdict = accepted; areas = holding_rows layout (new_rows net rows head bs) next (lent rows gained lost head) })
              (ap (λ (x : Areas). record { verdict = accepted; areas = x }) (held c)
              ∙ sym (ap (result_of (nodes_of net) (lent rows gained lost head)) is ∙ result-accepted (nodes_of net) (lent rows gained lost head)
              (record { verdict = accepted; state = advance (nodes_of net) s (tables_after net rows head bs) }) refl))
          go false c = frees (nodes_of net) (lent rows gained lost head) st c number-free
              (record { verdict = accepted; areas = holding_rows layout (new_rows net rows head bs) next (lent rows gained lost head) }) (freely_accepted refl keeps_rest)
