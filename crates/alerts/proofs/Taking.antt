-- One taking from a pending area of good form. Assumes nothing.
use mathlib.Core.Bool.{Bool, ◌&&◌, ◌||◌, and-true, cond, false, not, or-false, true, true≢false}
use mathlib.Core.List.{List, [], ◌∷◌}
use mathlib.Core.Path.{ap, refl, subst, sym, ◌∙◌, ◌≡◌}
use Prim.Native.Nat.{ℕ, ◌<◌, ◌≤◌}
use native.Mathlib.Omega.{arith}
use lib.Dec.{eqb, ltb}
use lib.ListN.{get_or-eq_default, drop, get_or, length, length-drop}
use lib.Seq.{get_or-set_other, get_or-set_same}
use borrow.Author.Tests.{eqb-false, eqb-true, ltb-false, ltb-true}
use Rattle.model.specs.Row.{Relation, Row, is_empty, max_nodes, member, same_row}
use Rattle.model.specs.Record.{Verdict, accepted, is_accepted, refused}
use Rattle.model.specs.Network.{Network, priority_of, widths}
use Rattle.model.specs.Evaluation.{rows_at}
use Rattle.model.specs.Areas.{layout, over}
use Rattle.model.specs.Pending.{alerts, good_pending, highest_rank, lowest_row, next_node, pending_in, pending_of, pending_size, rank_of, without_lowest}
use Rattle.model.specs.Calls.{TakeAnswer, or_else, refused_taking, take_in, take_rule, taken_from, unless}
use Rattle.laws.proofs.Order.{same_row_refl}
use Rattle.laws.proofs.Fits.{Small, length-widths, widths-few}
use Rattle.laws.proofs.Sets.{Above, Ascending, above_member, ascending-holds, ascending_true}
use Rattle.laws.proofs.Alerts.{asc_rest, lowest_first, member_rest, next-first, next-inside, next_rank, next-some, none_pending, rank_most, rank_some, wide_rest}
use Rattle.states.specs.Fitting.{Fitting}
use Rattle.states.proofs.Replaced.{set-case, set-fits}
use Rattle.states.proofs.Pending.{pending_back, pending_else, pending-fits, pending-good, pending_rest}
use Rattle.alerts.specs.Alerts.{NothingPending, TakesNext, Taking, gains, nothing_pending, removes, takes_next, took_of, waiting_at}

-- what holds after a taking
pub record Took (net : Network) (before : List ℕ) (t : TakeAnswer) : Type 0 where
  pub taking : Taking net before t
  pub form : good_pending layout net t.pending ≡ true
  pub members : (i : ℕ) (r : Row) → member r (waiting_at net t.pending i) ≡ (member r (waiting_at net before i) && not (removes (took_of t) i r) || gains (took_of t) i r)
  pub were_pending : (i : ℕ) (r : Row) → member r (waiting_at net t.pending i) ≡ true → member r (waiting_at net before i) ≡ true
  pub rest : drop pending_size t.pending ≡ drop pending_size before

module _ (net : Network) (small : Small net.nodes) (p : List ℕ) (g : good_pending layout net p ≡ true) where
  -- the network has at most 32 nodes
  few : length (widths net.nodes) ≤ max_nodes
  few = widths-few net.nodes small

  -- the pending rows fit into an area
  fits : Fitting (widths net.nodes) (pending_in layout net p)
  fits = pending-fits net few small.narrow p g

  -- past the last node nothing is pending
  outside : (i : ℕ) → length net.nodes ≤ i → waiting_at net p i ≡ []
  outside i h = get_or-eq_default (pending_in layout net p) [] {n = i} (rw (fits.size ∙ length-widths net.nodes) h)

  -- 17 does not hold, and 18 holds if the highest rank is 0
  rule_is : (t : Bool) → eqb (highest_rank net (pending_in layout net p)) 0 ≡ t → take_rule (good_pending layout net p) (highest_rank net (pending_in layout net p)) ≡ unless (not t) 18
  rule_is t e =
      ap (λ (b : Bool). or_else (unless b 17) (unless (not (eqb (highest_rank net (pending_in layout net p)) 0)) 18)) g ∙ ap (λ (b : Bool). unless (not b) 18) e

  -- what the verdict makes of the answer
  answer_is : (v : Verdict) → take_rule (good_pending layout net p) (highest_rank net (pending_in layout net p)) ≡ v →
      take_in layout net p ≡ cond (is_accepted v) (taken_from layout (pending_in layout net p) (next_node net (pending_in layout net p)) p) (refused_taking v p)
  unfolding take_in
  answer_is v e = ap (λ (x : Verdict). cond (is_accepted x) (taken_from layout (pending_in layout net p) (next_node net (pending_in layout net p)) p) (refused_taking x p)) e

  -- ---- nothing is pending

  -- 18 writes nothing
  none_took : eqb (highest_rank net (pending_in layout net p)) 0 ≡ true → Took net p (refused_taking (refused 18 0) p)
  none_took e =
      record {
        taking = nothing_pending (λ i. go i (ltb i (length net.nodes)) refl) refl;
        form = g;
        members = λ i r. sym (or-false (member r (waiting_at net p i) && true) ∙ and-true (member r (waiting_at net p i)));
        were_pending = λ i r m. m;
        rest = refl;
      }
    where
      go : (i : ℕ) (t : Bool) → ltb i (length net.nodes) ≡ t → waiting_at net p i ≡ []
      go i true b =
          none_pending net (pending_in layout net p) (eqb-true (highest_rank net (pending_in layout net p)) 0 e) i (ltb-true i (length net.nodes) b)
      go i false b = outside i (ltb-false i (length net.nodes) b)

  -- ---- the next row is taken

  module _ (some : 0 < highest_rank net (pending_in layout net p)) where
    -- the node that it goes to
    abbrev node : ℕ
    node = next_node net (pending_in layout net p)

    -- its lowest row
    abbrev lowest : Row
    lowest = lowest_row (waiting_at net p node)

    -- each node's rows without the one taken
    abbrev left : List Relation
    left = without_lowest (pending_in layout net p) node

    -- it is a node
    node-inside : node < length net.nodes
    node-inside = next-inside net (pending_in layout net p) some

    -- the node is without its lowest row
    left_here : rows_at left node ≡ drop 1 (waiting_at net p node)
    left_here = get_or-set_same (pending_in layout net p) node (drop 1 (waiting_at net p node)) [] (rw (fits.size ∙ length-widths net.nodes) node-inside)

    -- any other node keeps its rows
    left_other : (i : ℕ) → (i ≡ node → ⊥) → rows_at left i ≡ waiting_at net p i
    left_other i h = get_or-set_other (pending_in layout net p) node i (drop 1 (waiting_at net p node)) [] h

    -- the rows left fit into an area
    left-fits : Fitting (widths net.nodes) left
    left-fits =
        let w : ℕ = get_or (widths net.nodes) node 0 in
        let inside : node < length (widths net.nodes) = rw (length-widths net.nodes) node-inside in
        set-fits (widths net.nodes) (pending_in layout net p) fits node (drop 1 (waiting_at net p node)) inside (wide_rest w (waiting_at net p node) (fits.wide node inside))
        (rw (length-drop 1 (waiting_at net p node)) (omega (arith, fits.small node inside)))
        (ascending_true (drop 1 (waiting_at net p node)) (asc_rest (waiting_at net p node) (ascending-holds (waiting_at net p node) (fits.asc node inside))))

    -- a node that does not alert has none left
    left_none : (i : ℕ) → alerts net i ≡ false → rows_at left i ≡ []
    left_none i e =
        let none : (j : ℕ) → alerts net j ≡ false → waiting_at net p j ≡ [] = pending_else net few small.narrow p g in
        set-case (λ j l. alerts net j ≡ false → l ≡ []) (pending_in layout net p) node (drop 1 (waiting_at net p node)) (rw (fits.size ∙ length-widths net.nodes) node-inside)
        (λ f. ap (drop 1) (none node f)) i (none i) e

    -- the pending area afterwards
    abbrev taken_area : List ℕ
    taken_area = over (pending_of layout left) p

    -- they are read back from the area
    left-are : (i : ℕ) → waiting_at net taken_area i ≡ rows_at left i
    left-are i = ap (λ (l : List Relation). rows_at l i) (pending_back net left left-fits p)

    -- the node has pending rows
    node-some : is_empty (waiting_at net p node) ≡ false
    node-some = next-some net (pending_in layout net p) some

    -- the lowest of them comes first
    first_is : waiting_at net p node ≡ lowest ∷ drop 1 (waiting_at net p node)
    first_is = lowest_first (waiting_at net p node) node-some

    -- and the others are above it
    lowest_above : Above lowest (drop 1 (waiting_at net p node))
    lowest_above =
        (subst Ascending first_is (ascending-holds (waiting_at net p node) (fits.asc node (rw (length-widths net.nodes) node-inside)))).0

    -- a node with pending rows is one of the network's
    waits_inside : (i : ℕ) → is_empty (waiting_at net p i) ≡ false → i < length net.nodes
    waits_inside i e = go (ltb i (length net.nodes)) refl
      where
        go : (t : Bool) → ltb i (length net.nodes) ≡ t → i < length net.nodes
        go true b = ltb-true i (length net.nodes) b
        go false b = absurd (true≢false (sym (ap is_empty (outside i (ltb-false i (length net.nodes) b))) ∙ e))

    -- its priority is at most the taken node's
    node-highest : (i : ℕ) → is_empty (waiting_at net p i) ≡ false → priority_of net i ≤ priority_of net node
    node-highest i e =
        let most : rank_of net (pending_in layout net p) i ≤ highest_rank net (pending_in layout net p) = rank_most net (pending_in layout net p) i (waits_inside i e) in
        omega (
          arith,
          most,
          rank_some net (pending_in layout net p) i e,
          rank_some net (pending_in layout net p) node node-some,
          next_rank net (pending_in layout net p) some,
        )

    -- among those of its priority it is the lowest
    node_lowest : (i : ℕ) → is_empty (waiting_at net p i) ≡ false → priority_of net i ≡ priority_of net node → node ≤ i
    node_lowest i e f = go (ltb i node) refl
      where
        go : (t : Bool) → ltb i node ≡ t → node ≤ i
        go true b =
            let below : rank_of net (pending_in layout net p) i < highest_rank net (pending_in layout net p) = next-first net (pending_in layout net p) some i (ltb-true i node b) in
            absurd (omega (
              arith,
              below,
              rank_some net (pending_in layout net p) i e,
              rank_some net (pending_in layout net p) node node-some,
              next_rank net (pending_in layout net p) some,
            ))
        go false b = ltb-false i node b

    -- the taking is the one that was asked for
    takes : TakesNext net p (taken_from layout (pending_in layout net p) node p)
    unfolding taken_from
    takes =
        record {
          was_pending = ap (member lowest) first_is ∙ ap (λ (t : Bool). t || member lowest (drop 1 (waiting_at net p node))) (same_row_refl lowest);
          highest = node-highest;
          lowest_node = node_lowest;
          row_is_lowest = λ r m. above_member lowest r (drop 1 (waiting_at net p node)) lowest_above (ap (member r) (sym (left-are node ∙ left_here)) ∙ m);
          removed = first_is ∙ ap (λ (l : Relation). lowest ∷ l) (sym (left-are node ∙ left_here));
          others-kept = λ i h. left-are i ∙ left_other i h;
        }

    -- a row is pending if it was and is not the one taken
    members_left : (i : ℕ) (r : Row) → member r (waiting_at net taken_area i) ≡ (member r (waiting_at net p i) && not (eqb node i && same_row r lowest) || false)
    members_left i r = ap (member r) (left-are i) ∙ go (eqb node i) refl ∙ sym (or-false (member r (waiting_at net p i) && not (eqb node i && same_row r lowest)))
      where
        go : (t : Bool) → eqb node i ≡ t → member r (rows_at left i) ≡ (member r (waiting_at net p i) && not (t && same_row r lowest))
        go true e = rw (← eqb-true node i e)
            (ap (member r) left_here ∙ member_rest r (waiting_at net p node) (ascending-holds (waiting_at net p node) (fits.asc node (rw (length-widths net.nodes) node-inside))))
        go false e = ap (member r) (left_other i (λ q. eqb-false node i e (sym q))) ∙ sym (and-true (member r (waiting_at net p i)))

    -- the next row is taken
    some-took : Took net p (taken_from layout (pending_in layout net p) node p)
    unfolding taken_from
    some-took =
        record {
          taking = takes_next refl takes;
          form = pending-good net left left-fits p left_none;
          members = members_left;
          were_pending = λ i r m. was (member r (waiting_at net p i)) (eqb node i && same_row r lowest) (sym (members_left i r) ∙ m);
          rest = pending_rest (widths net.nodes) left left-fits p;
        }
      where
        was : (x y : Bool) → (x && not y || false) ≡ true → x ≡ true
        was true y e = refl
        was false y e = absurd (true≢false (sym e))

  -- a taking from an area of good form: 18 exactly if nothing is pending, else the next row
  pub took_is : Took net p (take_in layout net p)
  took_is = go (eqb (highest_rank net (pending_in layout net p)) 0) refl
    where
      go : (t : Bool) → eqb (highest_rank net (pending_in layout net p)) 0 ≡ t → Took net p (take_in layout net p)
      go true e = rw (answer_is (refused 18 0) (rule_is true e)) (none_took e)
      go false e =
          let nonzero : highest_rank net (pending_in layout net p) ≡ 0 → ⊥ = eqb-false (highest_rank net (pending_in layout net p)) 0 e in
          rw (answer_is accepted (rule_is false e)) (some-took (omega arith))

-- 18 is for nothing pending alone
pub eighteen_exactly : (net : Network) (p : List ℕ) (t : TakeAnswer) → Taking net p t → (t.verdict.number ≡ 18 → NothingPending net p) × (NothingPending net p → t.verdict.number ≡ 18)
eighteen_exactly net p t (nothing_pending none e) = (λ z. none, λ z. ap (λ (x : TakeAnswer). x.verdict.number) e)
eighteen_exactly net p t (takes_next e next) = (
  λ z. absurd (omega (arith, ap (λ (v : Verdict). v.number) e)),
  λ none. absurd (true≢false (sym next.was_pending ∙ ap (member t.row) (none t.node))),
)
