-- Node after node folded: what the pending area holds on the way. Assumes nothing.
use mathlib.Core.Bool.{Bool, true, false, cond}
use mathlib.Core.List.{List, [], ◌++◌}
use mathlib.Core.Path.{◌≡◌, ap, refl, subst, sym, ◌∙◌}
use Prim.Native.Nat.{ℕ, ◌+◌, ◌≤◌, ◌<◌}
use native.Mathlib.Nat.{le_refl}
use native.Mathlib.Omega.{arith}
use lib.Dec.{ltb}
use lib.ListN.{drop, get_or, length, set}
use lib.Seq.{ext_get_or, get_or-set_other, get_or-set_same}
use borrow.Author.Tests.{ltb-false, ltb-true}
use Rattle.model.specs.Row.{Relation, Wide, ascending, max_nodes, max_rows}
use Rattle.model.specs.Network.{Network, widths}
use Rattle.model.specs.Evaluation.{rows_at}
use Rattle.model.specs.Delta.{Change, change_at}
use Rattle.model.specs.Areas.{gained_count, layout, lost_count, over}
use Rattle.model.specs.Pending.{alerts, fold_all, fold_rows, good_pending, pending_count, pending_in, pending_of, pending_size}
use Rattle.laws.proofs.Fits.{length-widths}
use Rattle.laws.proofs.Sets.{ascending_true}
use Rattle.laws.proofs.Alerts.{asc_fold, fold_length, fold_node_lem}
use Rattle.areas.specs.Lent.{place_at}
use Rattle.places.specs.Places.{relation_in}
use Rattle.states.specs.Fitting.{Fitting}
use Rattle.states.proofs.Pending.{pending_back, pending_else, pending-fits, pending-good, pending-length, pending_own, pending_rest}
use Rattle.states.proofs.Replaced.{set-case, set-fits}
use Rattle.folding.specs.Folding.{FitTo, Ready, changes_held, folded_at, folded_words, with_node}
use Rattle.folding.proofs.Ready.{folded_is, widths-few}
use Rattle.folding.proofs.Written.{folded_wide}

-- the first k nodes are folded, the others are as they were
pub record Going (net : Network) (gained lost head before now : List ℕ) (k : ℕ) : Type 0 where
  pub good : good_pending layout net now ≡ true
  pub done : (j : ℕ) → j < k → rows_at (pending_in layout net now) j ≡ folded_at net gained lost head before j
  pub left : (j : ℕ) → k ≤ j → rows_at (pending_in layout net now) j ≡ rows_at (pending_in layout net before) j
  pub rest : drop pending_size now ≡ drop pending_size before

module _ (net : Network) (gained lost head before : List ℕ) (o : Ready net gained lost head before) where
  pub going_none : Going net gained lost head before before 0
  going_none = record { good = o.pending-good; done = λ j h. absurd (omega arith); left = λ j h. refl; rest = refl }

  few : length (widths net.nodes) ≤ max_nodes
  few = widths-few net gained lost head before o

  module _ (now : List ℕ) (k : ℕ) (g : Going net gained lost head before now k) where
    -- what folding reads, with the area as it is now
    pub going_ready : Ready net gained lost head now
    going_ready =
        record {
          few = o.few;
          narrow = o.narrow;
          changed = o.changed;
          pending-good = g.good;
        }

    -- the next node is folded from what it had
    next-same : folded_at net gained lost head now k ≡ folded_at net gained lost head before k
    next-same =
        let same : rows_at (pending_in layout net now) k ≡ rows_at (pending_in layout net before) k = g.left k (le_refl k) in
        ap (λ (l : Relation). cond (alerts net k) (fold_rows l (change_at (changes_held net.nodes gained lost head) k)) l) same

    module _ (h : k < length net.nodes) (fit : FitTo (length net.nodes) net gained lost head before) where
      pub next_fits : length (folded_at net gained lost head now k) ≤ max_rows
      next_fits = rw next-same (fit k h)

      inside : k < length (widths net.nodes)
      inside = rw (length-widths net.nodes) h

      abbrev rels : List Relation
      rels = pending_in layout net now

      fits : Fitting (widths net.nodes) rels
      fits = pending-fits net few o.narrow now g.good

      abbrev next : Relation
      next = folded_at net gained lost head now k

      -- its rows are of its width, and ascend
      next-shape : Wide (get_or (widths net.nodes) k 0) next × (ascending next ≡ true)
      next-shape = go (alerts net k) refl
        where
          go : (t : Bool) → alerts net k ≡ t → Wide (get_or (widths net.nodes) k 0) next × (ascending next ≡ true)
          go true e =
              let is : next ≡ folded_words (get_or (widths net.nodes) k 0) k gained lost head now = folded_is net gained lost head now going_ready k h e in
              rw is (
                folded_wide net gained lost head now going_ready k h,
                ascending_true (folded_words (get_or (widths net.nodes) k 0) k gained lost head now)
                    (asc_fold (relation_in (get_or (widths net.nodes) k 0) (place_at now k) (pending_count layout now k)) (record {
                      gained = relation_in (get_or (widths net.nodes) k 0) (place_at gained k) (gained_count head k);
                      lost = relation_in (get_or (widths net.nodes) k 0) (place_at lost k) (lost_count head k);
                    })),
              )
          go false e =
              let is : next ≡ rows_at rels k = ap (λ (t : Bool). cond t (fold_rows (rows_at rels k) (change_at (changes_held net.nodes gained lost head) k)) (rows_at rels k)) e in
              rw is (fits.wide k inside, fits.asc k inside)

      abbrev more : List Relation
      more = set rels k next

      more_fits : Fitting (widths net.nodes) more
      more_fits = set-fits (widths net.nodes) rels fits k next inside next-shape.0 next_fits next-shape.1

      more_none : (j : ℕ) → alerts net j ≡ false → rows_at more j ≡ []
      more_none j e = set-case (λ m l. alerts net m ≡ false → l ≡ []) rels k next (rw fits.size inside)
          (λ f. ap (λ (t : Bool). cond t (fold_rows (rows_at rels k) (change_at (changes_held net.nodes gained lost head) k)) (rows_at rels k)) f
          ∙ pending_else net few o.narrow now g.good k f) j (pending_else net few o.narrow now g.good j) e

      -- one node more
      pub going_more : (after : List ℕ) → after ≡ with_node net gained lost head now k → Going net gained lost head before after (k + 1)
      going_more after e = subst (λ (a : List ℕ). Going net gained lost head before a (k + 1)) (sym e) (record {
        good = pending-good net more more_fits now more_none;
        done = λ j l. back j ∙ by j l (ltb j k) refl;
        left = λ j l. back j ∙ get_or-set_other rels k j next [] (λ z. omega arith) ∙ g.left j (omega arith);
        rest = pending_rest (widths net.nodes) more more_fits now ∙ g.rest;
      })
        where
          back : (j : ℕ) → rows_at (pending_in layout net (over (pending_of layout more) now)) j ≡ rows_at more j
          back j = ap (λ (l : List Relation). rows_at l j) (pending_back net more more_fits now)

          by : (j : ℕ) → j < k + 1 → (t : Bool) → ltb j k ≡ t → rows_at more j ≡ folded_at net gained lost head before j
          by j l true f = let m : j < k = ltb-true j k f in get_or-set_other rels k j next [] (λ z. omega arith) ∙ g.done j m
          by j l false f =
              let m : k ≤ j = ltb-false j k f in
              let same : j ≡ k = omega arith in
              ap (λ (i : ℕ). get_or more i []) same ∙ get_or-set_same rels k next [] (rw fits.size inside) ∙ next-same ∙ ap (folded_at net gained lost head before) (sym same)

    -- every node
    pub going_all : k ≡ length net.nodes → now ≡ over (pending_of layout (fold_all net (changes_held net.nodes gained lost head) (pending_in layout net before))) before
    going_all e =
        let changes : List Change = changes_held net.nodes gained lost head in
        let all : List Relation = fold_all net changes (pending_in layout net before) in
        let own : Fitting (widths net.nodes) (pending_in layout net now) = pending-fits net few o.narrow now g.good in
        let size : length (pending_in layout net now) ≡ length net.nodes = own.size ∙ length-widths net.nodes in
        let is : pending_in layout net now ≡ all =
        ext_get_or [] (pending_in layout net now) all (size ∙ sym (fold_length net changes (pending_in layout net before)))
        (λ j h. let inside : j < length net.nodes = rw size at h in g.done j (omega (arith, e)) ∙ sym (fold_node_lem net changes (pending_in layout net before) j inside)) in
        let long : length (pending_of layout all) ≡ pending_size = ap (λ (l : List Relation). length (pending_of layout l)) (sym is) ∙ pending-length (widths net.nodes) (pending_in layout net now)
        own in
        sym (pending_own net few o.narrow now g.good)
        ∙ ap (λ (l : List Relation). over (pending_of layout l) now) is
        ∙ ap (λ (r : List ℕ). pending_of layout all ++ r) (ap (λ (m : ℕ). drop m now) long ∙ g.rest ∙ ap (λ (m : ℕ). drop m before) (sym long))
