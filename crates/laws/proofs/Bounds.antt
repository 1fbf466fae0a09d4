-- Every refusal's number is below 27 and every place below 2^32, for every input: at most 64 whole records stand before the first that fails,
-- and a record has at most 65,535 bytes. And the numbers of the reader's answer are at most 32. Assumes nothing.
use mathlib.Core.Bool.{◌&&◌, Bool, cond, false, not, true, ◌||◌}
use mathlib.Core.List.{◌++◌, List, [], ◌∷◌, map}
use mathlib.Core.Path.{ap, refl, sym, ◌∙◌, ◌≡◌, subst}
use Prim.Native.Nat.{◌+◌, ◌-◌, ◌*◌, ◌<◌, ◌≤◌, suc, zero, zero-le, ℕ}
use native.Mathlib.Omega.{arith}
use native.Mathlib.Nat.{le_of_suc-le-suc, not-suc-le-zero, max-le}
use lib.ListN.{get_or, length, length-append, length-set, replicate, set}
use lib.Dec.{eqb, leb, ltb}
use borrow.Author.Tests.{eq-eqb, eqb-false, eqb-true, leb-false, leb-true, ltb-true, ne_eqb, not-true}
use Rattle.model.specs.Row.{Relation, all_of, is_empty, max_rows}
use Rattle.model.specs.Record.{Bytes, Rule, SmallVerdict, Verdict, accepted, first_broken, is_accepted, is_broken, kind_at, length_at, offsets, offsets_from, refused, rule}
use Rattle.model.specs.Network.{Item, Network, Node, node_item, watch_item, kind_of, build, build_on, highest, level_of, levels, inputs_of, is_table, is_node, widths, is_unknown, within, max_priority}
use Rattle.model.specs.Network.{has_shape, item_at, item_fits, watch_fits, record_fault, no_network, with_item, read_network, nodes_in, read_records, refused_reading}
use Rattle.model.specs.Batch.{Event, act_all, event_at, event_fault, event_fits, read_batch, read_events}
use Rattle.model.specs.Evaluation.{evaluate, overfull}
use Rattle.model.specs.Station.{State, Step, apply_events, last_number, limit, refused_step, step}
use Rattle.model.specs.Areas.{Areas, changes_in, coherent, good_form, layout, long_enough, state_in}
use Rattle.model.specs.Pending.{fold_all, good_pending, highest_rank, next_node, pending_in}
use Rattle.model.specs.Calls.{Applied, Free, Keeps, Result, apply_promise, form_verdict, free, freely_accepted, freely_refused, is_watched, open_verdict, or_else, promise_of, read_call}
use Rattle.model.specs.Calls.{report_call, report_in, report_of, result_of, settled, unless, fold_call, fold_in, refused_taking, take_call, take_in, take_rule, taken_from}
use Rattle.laws.proofs.Alerts.{next-inside}
use Rattle.laws.proofs.Verdicts.{or-holds, unless_holds}
use Rattle.laws.proofs.Build.{length-evaluate}
use Rattle.laws.proofs.ByKind.{kind_most}
use Rattle.laws.proofs.Fits.{fault_fits, fault_shape, item_room, length-widths, most_more, read_small}
use Rattle.laws.proofs.Sets.{and_first, and_second}

-- each byte is below 256
abbrev pub ByteList : Bytes → Type 0
ByteList bs = (i : ℕ) → get_or bs i 0 < 256

length_most : (bs : Bytes) → ByteList bs → (at : ℕ) → length_at bs at ≤ 65535
length_most bs b at = omega (arith, b at, b (at + 1))

small-accepted : SmallVerdict accepted
small-accepted = record { number = omega arith; place = omega arith }

small-refused : (number place : ℕ) → number < 27 → place < 4294967296 → SmallVerdict (refused number place)
small-refused number place n p = record { number = n; place = p }

-- the first broken of some rules has one of their numbers
first_below : (rules : List Rule) → all_of (λ r. ltb r.number 27) rules ≡ true → first_broken rules < 27
first_below [] e = omega arith
first_below (r ∷ rules) e = go r.broken (first_below rules (and_second (ltb r.number 27) (all_of (λ q. ltb q.number 27) rules) e))
  where
    go : (t : Bool) → first_broken rules < 27 → cond t r.number (first_broken rules) < 27
    go true h = ltb-true r.number 27 (and_first (ltb r.number 27) (all_of (λ q. ltb q.number 27) rules) e)
    go false h = h

-- ---- a network

-- how many nodes have a watch
watches : List ℕ → ℕ
watches [] = 0
watches (s ∷ signs) = cond (eqb s 0) 0 1 + watches signs

watches_few : (signs : List ℕ) → watches signs ≤ length signs
unfolding watches
watches_few [] = zero-le
watches_few (s ∷ signs) = go (eqb s 0) (watches_few signs)
  where
    go : (t : Bool) → watches signs ≤ length signs → cond t 0 1 + watches signs ≤ suc (length signs)
    go true h = omega arith
    go false h = omega arith

-- a node that has none yet
watches_none : (signs : List ℕ) → watches (signs ++ (0 ∷ [])) ≡ watches signs
unfolding watches
watches_none [] = refl
watches_none (s ∷ signs) = ap (λ (n : ℕ). cond (eqb s 0) 0 1 + n) (watches_none signs)

-- a watch on a node that has none
watches_more : (signs : List ℕ) (i s : ℕ) → i < length signs → get_or signs i 0 ≡ 0 → 0 < s → watches (set signs i s) ≡ watches signs + 1
unfolding watches
watches_more [] i s h e p = absurd (not-suc-le-zero h)
watches_more (x ∷ signs) zero s h e p =
    let new : cond {A = ℕ} (eqb s 0) 0 1 ≡ 1 = ap (λ (t : Bool). cond {A = ℕ} t 0 1) (ne_eqb s 0 (λ z. omega arith)) in
    let old : cond {A = ℕ} (eqb x 0) 0 1 ≡ 0 = ap (λ (t : Bool). cond {A = ℕ} t 0 1) (eq-eqb x 0 e) in
    omega (arith, new, old)
watches_more (x ∷ signs) (suc i) s h e p = omega (arith, watches_more signs i s (le_of_suc-le-suc h) e p)

-- the records before an offset: each is a node or a watch of the network so far
record Passed (net : Network) (at : ℕ) : Type 0 where
  few : length net.nodes ≤ 32
  signed : length net.signs ≡ length net.nodes
  place : at ≤ 65535 * (length net.nodes + watches net.signs)

passed_small : (net : Network) (at : ℕ) → Passed net at → at < 4294967296
passed_small net at p = omega (arith, p.few, p.signed, p.place, watches_few net.signs)

-- one record more
passed_more : (net : Network) (at size : ℕ) (item : Item) → Passed net at → size ≤ 65535 → item_fits (widths net.nodes) net.signs item ≡ true →
    ((n : Node) → item ≡ node_item n → length (widths net.nodes) < 32) → Passed (with_item net item) (at + size)
unfolding item_fits watch_fits
passed_more net at size (node_item n) p s f room =
    let nodes : length (net.nodes ++ (n ∷ [])) ≡ length net.nodes + 1 = length-append net.nodes (n ∷ []) in
    let signs : length (net.signs ++ (0 ∷ [])) ≡ length net.signs + 1 = length-append net.signs (0 ∷ []) in
    record {
      few = omega (arith, nodes, room n refl, length-widths net.nodes);
      signed = omega (arith, nodes, signs, p.signed);
      place = omega (arith, nodes, watches_none net.signs, p.place);
    }
passed_more net at size (watch_item w) p s f room =
    let inside? : Bool = ltb w.node (length net.signs) in
    let none? : Bool = eqb (get_or net.signs w.node 0) 0 in
    let three : (inside? && within 1 3 w.sign && none?) ≡ true = and_first (inside? && within 1 3 w.sign && none?) (leb w.priority max_priority) f in
    let two : (inside? && within 1 3 w.sign) ≡ true = and_first (inside? && within 1 3 w.sign) none? three in
    let inside : w.node < length net.signs = ltb-true w.node (length net.signs) (and_first inside? (within 1 3 w.sign) two) in
    let sign : leb 1 w.sign ≡ true = and_first (leb 1 w.sign) (leb w.sign 3) (and_second inside? (within 1 3 w.sign) two) in
    let none : get_or net.signs w.node 0 ≡ 0 = eqb-true (get_or net.signs w.node 0) 0 (and_second (inside? && within 1 3 w.sign) none? three) in
    let more : watches (set net.signs w.node w.sign) ≡ watches net.signs + 1 = watches_more net.signs w.node w.sign inside none (leb-true 1 w.sign sign) in
    record {
      few = p.few;
      signed = length-set net.signs w.node w.sign ∙ p.signed;
      place = omega (arith, more, p.place);
    }

-- refusal 14 names a node
pub over_below : (i : ℕ) (rels : List Relation) (k : ℕ) (rest : List ℕ) → overfull i rels ≡ k ∷ rest → k < i + length rels
over_below i [] k rest e = absurd (none e)
  where
    none : [] ≡ k ∷ rest → ⊥
    none f = let z : ◌≡◌ {A = ℕ} 0 1 = cc in omega arith
over_below i (r ∷ rels) k rest e = go (ltb max_rows (length r)) e (over_below (suc i) rels k rest)
  where
    go : (t : Bool) → cond t (i ∷ overfull (suc i) rels) (overfull (suc i) rels) ≡ k ∷ rest →
        (overfull (suc i) rels ≡ k ∷ rest → k < suc i + length rels) → k < i + suc (length rels)
    go true f later = let same : i ≡ k = cc in omega arith
    go false f later = omega (arith, later f)

module _ (bs : Bytes) (b : ByteList bs) where
  fault_below : (ws signs : List ℕ) (at : ℕ) → record_fault ws signs bs at < 27
  unfolding record_fault
  fault_below ws signs at =
      let kind : ℕ = kind_at bs at in
      first_below
      (rule 3 (is_broken bs at)
      ∷ rule 4 (is_unknown kind)
      ∷ rule 5 (is_node (item_at kind bs at) && leb 32 (length ws))
      ∷ rule 6 (not (has_shape kind bs at))
      ∷ rule 7 (not (item_fits ws signs (item_at kind bs at)))
      ∷ [])
      refl

  -- what the record at an offset brings, and the network with it
  abbrev item : ℕ → Item
  item at = item_at (kind_at bs at) bs at

  abbrev next : Network → ℕ → Network
  next net at = with_item net (item_at (kind_at bs at) bs at)

  abbrev fault : Network → ℕ → ℕ
  fault net at = record_fault (widths net.nodes) net.signs bs at

  -- the record at an offset, given the verdict of those after it
  record_small : (net : Network) (at : ℕ) (rest : List ℕ) → Passed net at →
      (Passed (next net at) (at + length_at bs at) → SmallVerdict (read_records bs (next net at) rest).verdict) → SmallVerdict (read_records bs net (at ∷ rest)).verdict
  unfolding read_records
  record_small net at rest p later = go (eqb (fault net at) 0) refl
    where
      go : (t : Bool) → eqb (fault net at) 0 ≡ t → SmallVerdict (cond t (read_records bs (next net at) rest) (refused_reading (fault net at) at)).verdict
      go true e =
          let none : fault net at ≡ 0 = eqb-true (fault net at) 0 e in
          let space = item_room (item at) (widths net.nodes) (fault_shape (widths net.nodes) net.signs bs at none).0 in
          later (passed_more net at (length_at bs at) (item at) p (length_most bs b at) (fault_fits (widths net.nodes) net.signs bs at none) space)
      go false e = small-refused (fault net at) at (fault_below (widths net.nodes) net.signs at) (passed_small net at p)

  -- the offset behind the record at an offset, and those from there on
  abbrev rest_from : ℕ → ℕ → List ℕ
  rest_from n at = offsets_from n bs (at + length_at bs at)

  records_small : (n : ℕ) (net : Network) (at : ℕ) → Passed net at → SmallVerdict (read_records bs net (offsets_from n bs at)).verdict
  unfolding read_records offsets_from
  records_small zero net at p = small-accepted
  records_small (suc n) net at p = go (leb (length bs) at) (is_broken bs at) (records_small n (next net at) (at + length_at bs at))
    where
      go : (t u : Bool) → (Passed (next net at) (at + length_at bs at) → SmallVerdict (read_records bs (next net at) (rest_from n at)).verdict) →
          SmallVerdict (read_records bs net (cond t [] (at ∷ cond u [] (rest_from n at)))).verdict
      go true u later = small-accepted
      go false true later = record_small net at [] p (λ q. small-accepted)
      go false false later = record_small net at (rest_from n at) p later

  -- refusals 2 to 7
  pub network-small : SmallVerdict (read_network bs).verdict
  unfolding read_network offsets watches
  network-small = go (is_empty bs)
    where
      go : (t : Bool) → SmallVerdict (cond t (refused_reading 2 0) (read_records bs no_network (offsets bs))).verdict
      go true = small-refused 2 0 (omega arith) (omega arith)
      go false = records_small (length bs) no_network 0 (record { few = zero-le; signed = refl; place = zero-le })

  -- ---- a batch

  module _ (nodes : List Node) where
    event_below : (before at : ℕ) → event_fault nodes before bs at < 27
    unfolding event_fault
    event_below before at =
        first_below
        (rule 10 (is_broken bs at)
        ∷ rule 11 (not (eqb (kind_at bs at) 32 || eqb (kind_at bs at) 33))
        ∷ rule 12 (leb 64 before)
        ∷ rule 13 (not (event_fits nodes bs at))
        ∷ [])
        refl

    -- rule 12 of a record that breaks none
    room : (before at : ℕ) → event_fault nodes before bs at ≡ 0 → before < 64
    unfolding event_fault
    room before at z =
        leb-false 64 before
        (third (is_broken bs at) (not (eqb (kind_at bs at) 32 || eqb (kind_at bs at) 33)) (leb 64 before) (not (event_fits nodes bs at)) z)
      where
        third : (x y c d : Bool) → first_broken (rule 10 x ∷ rule 11 y ∷ rule 12 c ∷ rule 13 d ∷ []) ≡ 0 → c ≡ false
        third true y c d h = absurd (omega arith)
        third false true c d h = absurd (omega arith)
        third false false true d h = absurd (omega arith)
        third false false false d h = refl

    -- the events with the one at an offset
    abbrev with_event : List Event → ℕ → List Event
    with_event done at = done ++ (event_at (widths nodes) bs at ∷ [])

    -- so many whole events stand before an offset
    record Done (done : List Event) (at : ℕ) : Type 0 where
      few : length done ≤ 64
      place : at ≤ 65535 * length done

    -- the event at an offset, given the verdict of those after it
    event_small : (done : List Event) (at : ℕ) (rest : List ℕ) → Done done at →
        (Done (with_event done at) (at + length_at bs at) → SmallVerdict (read_events nodes bs (with_event done at) rest).verdict) →
        SmallVerdict (read_events nodes bs done (at ∷ rest)).verdict
    unfolding read_events
    event_small done at rest p later = go (eqb (event_fault nodes (length done) bs at) 0) refl
      where
        size : length (with_event done at) ≡ length done + 1
        size = length-append done (event_at (widths nodes) bs at ∷ [])

        go : (t : Bool) → eqb (event_fault nodes (length done) bs at) 0 ≡ t →
            SmallVerdict (cond t (read_events nodes bs (with_event done at) rest) (record { verdict = refused (event_fault nodes (length done) bs at) at; events = [] })).verdict
        go true e =
            let less : length done < 64 = room (length done) at (eqb-true (event_fault nodes (length done) bs at) 0 e) in
            later (record { few = omega (arith, size, less); place = omega (arith, size, p.place, length_most bs b at) })
        go false e = small-refused (event_fault nodes (length done) bs at) at (event_below (length done) at) (omega (arith, p.few, p.place))

    events-small : (n : ℕ) (done : List Event) (at : ℕ) → Done done at → SmallVerdict (read_events nodes bs done (offsets_from n bs at)).verdict
    unfolding read_events offsets_from
    events-small zero done at p = small-accepted
    events-small (suc n) done at p = go (leb (length bs) at) (is_broken bs at) (events-small n (with_event done at) (at + length_at bs at))
      where
        go : (t u : Bool) → (Done (with_event done at) (at + length_at bs at) → SmallVerdict (read_events nodes bs (with_event done at) (rest_from n at)).verdict) →
            SmallVerdict (read_events nodes bs done (cond t [] (at ∷ cond u [] (rest_from n at)))).verdict
        go true u later = small-accepted
        go false true later = event_small done at [] p (λ q. small-accepted)
        go false false later = event_small done at (rest_from n at) p later

    -- refusals 10 to 13
    batch-small : SmallVerdict (read_batch nodes bs).verdict
    unfolding read_batch offsets
    batch-small = events-small (length bs) [] 0 (record { few = zero-le; place = zero-le })

    module _ (few : length nodes ≤ 32) (s : State) where
      limit-small : (copy : List Relation) (over : List ℕ) → ((k : ℕ) (rest : List ℕ) → over ≡ k ∷ rest → k < 32) → SmallVerdict (limit nodes s copy over).verdict
      unfolding limit
      limit-small copy [] h = small-accepted
      limit-small copy (k ∷ over) h = small-refused 14 k (omega arith) (omega (arith, h k over refl))

      events-applied : (events : List Event) → SmallVerdict (apply_events nodes s events).verdict
      unfolding apply_events
      events-applied events =
          let copy : List Relation = act_all events s.tables in
          limit-small copy (overfull 0 (evaluate nodes copy)) (λ k rest e. omega (arith, few, over_below 0 (evaluate nodes copy) k rest e, length-evaluate nodes copy))

      -- refusals 9 to 14 of the plain station
      pub step_small : SmallVerdict (step nodes s bs).verdict
      unfolding step
      step_small = go (eqb s.number last_number) (is_accepted (read_batch nodes bs).verdict)
        where
          applied : Step
          applied = apply_events nodes s (read_batch nodes bs).events

          go : (t u : Bool) → SmallVerdict (cond t (refused_step (refused 9 0) s) (cond u applied (refused_step (read_batch nodes bs).verdict s))).verdict
          go true u = small-refused 9 0 (omega arith) (omega arith)
          go false true = events-applied (read_batch nodes bs).events
          go false false = batch-small

-- ---- the calls

small-or : (v w : Verdict) → SmallVerdict v → SmallVerdict w → SmallVerdict (or_else v w)
small-or v w p q = go (is_accepted v)
  where
    go : (t : Bool) → SmallVerdict (cond t w v)
    go true = q
    go false = p

small-unless : (t : Bool) (number : ℕ) → number < 27 → SmallVerdict (unless t number)
small-unless true number h = small-accepted
small-unless false number h = small-refused number 0 h (omega arith)

module _ (net : Bytes) (b : ByteList net) (a : Areas) where
  pub open_small : SmallVerdict (open_verdict net a)
  unfolding open_verdict
  open_small =
      small-or (unless (long_enough layout a) 1) (read_network net).verdict (small-unless (long_enough layout a) 1 (omega arith)) (network-small net b)

  pub form_small : SmallVerdict (form_verdict net a)
  unfolding form_verdict
  form_small =
      let good : Bool = good_form layout (nodes_in net) a in
      small-or (open_verdict net a) (unless good 8) open_small (small-unless good 8 (omega arith))

  pub report_small : (node : ℕ) (out : Bytes) → SmallVerdict (report_call net node a out).verdict
  unfolding report_call report_in
  report_small node out = go (is_accepted (form_verdict net a))
    where
      go : (t : Bool) → SmallVerdict (cond t (report_in (read_network net).network node a out) (record { verdict = form_verdict net a; size = 0; out = out })).verdict
      go true =
          let watched : Bool = is_watched (read_network net).network node in
          let long : Bool = leb (length (report_of (read_network net).network node a)) (length out) in
          small-or (unless watched 15) (unless long 16) (small-unless watched 15 (omega arith)) (small-unless long 16 (omega arith))
      go false = form_small

  pub fold_small : (p : List ℕ) → SmallVerdict (fold_call net a p).verdict
  unfolding fold_call fold_in
  fold_small p = go (is_accepted (form_verdict net a))
    where
      go : (t : Bool) → SmallVerdict (cond t (fold_in layout (read_network net).network a p) (record { verdict = form_verdict net a; pending = p })).verdict
      go true =
          let after : List Relation = fold_all (read_network net).network (changes_in layout (nodes_in net) a) (pending_in layout (read_network net).network p) in
          small-unless (good_pending layout (read_network net).network p && all_of (λ rel. leb (length rel) max_rows) after) 17 (omega arith)
      go false = form_small

  -- a taking's verdict is small, and its node a node
  take_in_small : (p : List ℕ) → SmallVerdict (take_in layout (read_network net).network p).verdict × ((take_in layout (read_network net).network p).node < 32)
  unfolding take_in taken_from
  take_in_small p = go (is_accepted rule) refl
    where
      n : Network
      n = (read_network net).network

      rels : List Relation
      rels = pending_in layout n p

      some : Bool
      some = not (eqb (highest_rank n rels) 0)

      rule : Verdict
      rule = take_rule (good_pending layout n p) (highest_rank n rels)

      ruled : SmallVerdict rule
      ruled = small-or (unless (good_pending layout n p) 17) (unless some 18) (small-unless (good_pending layout n p) 17 (omega arith)) (small-unless some 18 (omega arith))

      go : (t : Bool) → is_accepted rule ≡ t → SmallVerdict (cond t (taken_from layout rels (next_node n rels) p) (refused_taking rule p)).verdict
          × ((cond t (taken_from layout rels (next_node n rels) p) (refused_taking rule p)).node < 32)
      go true e =
          let passed : some ≡ true = unless_holds some 18 refl (or-holds (unless (good_pending layout n p) 17) (unless some 18) e).1 in
          let none : eqb (highest_rank n rels) 0 ≡ false = not-true (eqb (highest_rank n rels) 0) passed in
          let not-zero : highest_rank n rels ≡ 0 → ⊥ = eqb-false (highest_rank n rels) 0 none in
          (small-accepted, omega (arith, next-inside n rels (omega arith), (read_small net).few))
      go false e = (ruled, omega arith)

  pub take-small : (p : List ℕ) → SmallVerdict (take_call net a p).verdict × ((take_call net a p).node < 32)
  unfolding take_call
  take-small p = go (is_accepted (form_verdict net a))
    where
      go : (t : Bool) → SmallVerdict (cond t (take_in layout (read_network net).network p) (refused_taking (form_verdict net a) p)).verdict
          × ((cond t (take_in layout (read_network net).network p) (refused_taking (form_verdict net a) p)).node < 32)
      go true = take_in_small p
      go false = (form_small, omega arith)

  -- what is free is small
  free-small : (n : ℕ) (r : Result) → n ≤ 32 → Free n a r → SmallVerdict r.verdict
  free-small n r few (freely_accepted v rest) = subst SmallVerdict (sym v) small-accepted
  free-small n r few (freely_refused v p same) = record { number = omega (arith, v); place = omega (arith, p, few) }

  -- refusals 1 to 14
  pub applied-small : (batch : Bytes) → ByteList batch → (r : Result) → Applied net batch a r → SmallVerdict r.verdict
  unfolding apply_promise promise_of result_of
  applied-small batch c r k =
      go (is_accepted (form_verdict net a)) (coherent layout nodes a || within 9 13 (step nodes (state_in layout nodes a) batch).verdict.number) k
    where
      nodes : List Node
      nodes = nodes_in net

      result : Result
      result = result_of nodes a (step nodes (state_in layout nodes a) batch)

      go : (t u : Bool) → Keeps (cond t (cond u (settled result) (free (length nodes))) (settled (record { verdict = form_verdict net a; areas = a }))) a r →
          SmallVerdict r.verdict
      go true true e = subst (λ (y : Result). SmallVerdict y.verdict) (sym e) (step_small batch c nodes (read_small net).few (state_in layout nodes a))
      go true false e = free-small (length nodes) r (read_small net).few e
      go false u e = subst (λ (y : Result). SmallVerdict y.verdict) (sym e) form_small

-- ---- the reader's answer

-- zeros behind numbers that are at most m
most_padded : (l : List ℕ) (m n : ℕ) → ((i : ℕ) → get_or l i 0 ≤ m) → (i : ℕ) → get_or (l ++ replicate n 0) i 0 ≤ m
most_padded [] m zero h i = zero-le
most_padded [] m (suc n) h zero = zero-le
most_padded [] m (suc n) h (suc i) = most_padded [] m n (λ j. zero-le) i
most_padded (x ∷ l) m n h zero = h 0
most_padded (x ∷ l) m n h (suc i) = most_padded l m n (λ j. h (suc j)) i

kinds_most : (nodes : List Node) (i : ℕ) → get_or (map kind_of nodes) i 0 ≤ 32
kinds_most [] i = zero-le
kinds_most (n ∷ nodes) zero = kind_most n
kinds_most (n ∷ nodes) (suc i) = kinds_most nodes i

highest_most : (ls inputs : List ℕ) (m : ℕ) → ((i : ℕ) → get_or ls i 0 ≤ m) → highest ls inputs ≤ m
highest_most ls [] m h = zero-le
highest_most ls (i ∷ inputs) m h = max-le (h i) (highest_most ls inputs m h)

level_most : (n : Node) (ls : List ℕ) (m : ℕ) → ((i : ℕ) → get_or ls i 0 ≤ m) → level_of n ls ≤ suc m
level_most n ls m h = go (is_table n)
  where
    go : (t : Bool) → cond t 0 (suc (highest ls (inputs_of n))) ≤ suc m
    go true = zero-le
    go false = omega (arith, highest_most ls (inputs_of n) m h)

-- a level is at most the number of nodes
levels_on : (nodes : List Node) (ls : List ℕ) (m : ℕ) → ((i : ℕ) → get_or ls i 0 ≤ m) → (i : ℕ) → get_or (build_on level_of ls nodes) i 0 ≤ m + length nodes
levels_on [] ls m h i = omega (arith, h i)
levels_on (n ∷ nodes) ls m h i =
    omega (arith, levels_on nodes (ls ++ (level_of n ls ∷ [])) (suc m) (most_more ls (level_of n ls) (suc m) (λ j. omega (arith, h j)) (level_most n ls m h)) i)

levels_most : (nodes : List Node) (i : ℕ) → get_or (levels nodes) i 0 ≤ length nodes
unfolding levels build
levels_most nodes i = omega (arith, levels_on nodes [] 0 (λ j. zero-le) i)

module _ (net : Bytes) where
  abbrev nodes : List Node
  nodes = nodes_in net

  pub count_most : (read_call net).count ≤ 32
  unfolding read_call
  count_most = (read_small net).few

  pub kinds_read : (i : ℕ) → get_or (read_call net).kinds i 0 ≤ 32
  unfolding read_call
  kinds_read = most_padded (map kind_of nodes) 32 (32 - length (map kind_of nodes)) (kinds_most nodes)

  pub widths_read : (i : ℕ) → get_or (read_call net).widths i 0 ≤ 32
  unfolding read_call
  widths_read = most_padded (widths nodes) 32 (32 - length (widths nodes)) (λ i. omega (arith, (read_small net).narrow i))

  pub levels_read : (i : ℕ) → get_or (read_call net).levels i 0 ≤ 32
  unfolding read_call
  levels_read = most_padded (levels nodes) 32 (32 - length (levels nodes)) (λ i. omega (arith, levels_most nodes i, (read_small net).few))
