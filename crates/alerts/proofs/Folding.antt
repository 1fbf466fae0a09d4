-- A batch's changes folded into pending rows that are rows of their nodes: folding is not refused. Assumes nothing.
use mathlib.Core.Bool.{Bool, ◌&&◌, ◌||◌, cond, false, not, true, true≢false}
use mathlib.Core.List.{List, []}
use mathlib.Core.Path.{ap, ap₂, refl, subst, sym, ◌∙◌, ◌≡◌}
use Prim.Native.Nat.{ℕ, ◌<◌, ◌≤◌}
use native.Mathlib.Nat.{le_trans}
use lib.Dec.{leb, ltb}
use lib.ListN.{get_or-eq_default, drop, get_or, length}
use borrow.Author.Tests.{le-leb, ltb-false, ltb-true}
use Rattle.model.specs.Row.{Relation, Row, Wide, ascending, max_rows, member}
use Rattle.model.specs.Record.{Verdict, accepted, is_accepted}
use Rattle.model.specs.Network.{Network, widths}
use Rattle.model.specs.Evaluation.{rows_at}
use Rattle.model.specs.Delta.{Change, change_at, net_change, net_changes}
use Rattle.model.specs.Areas.{Areas, changes_in, layout, over}
use Rattle.model.specs.Pending.{alerts, fold_all, fold_rows, good_pending, pending_in, pending_of, pending_size}
use Rattle.model.specs.Calls.{FoldAnswer, fold_in, fold_rule, unless}
use Rattle.laws.proofs.Fits.{length-widths}
use Rattle.laws.proofs.Sets.{Ascending, ascending-holds, ascending_true}
use Rattle.laws.proofs.All.{all_at}
use Rattle.laws.proofs.Alerts.{asc_fold, fold_at_lem, fold_inside, fold_length, member_fold, subset_few, wide_fold}
use Rattle.states.specs.Fitting.{Fitting}
use Rattle.states.proofs.Changes.{changes_at, changes-size, less_wide}
use Rattle.states.proofs.Pending.{pending_back, pending_else, pending-fits, pending-good, pending_rest}
use Rattle.alerts.specs.Alerts.{changed, gains, removes, waiting_at}

-- what holds after the changes from old to new rows are folded in
pub record Folded (net : Network) (old new : List Relation) (before : List ℕ) (f : FoldAnswer) : Type 0 where
  pub passes : f.verdict ≡ accepted
  pub form : good_pending layout net f.pending ≡ true
  pub members : (i : ℕ) (r : Row) → alerts net i ≡ true → member r (waiting_at net f.pending i)
      ≡ (member r (waiting_at net before i) && not (removes (changed (net_changes old new)) i r) || gains (changed (net_changes old new)) i r)
  pub are-rows : (i : ℕ) (r : Row) → member r (waiting_at net f.pending i) ≡ true → member r (rows_at new i) ≡ true
  pub rest : drop pending_size f.pending ≡ drop pending_size before

-- pending rows that are rows of their nodes, and a batch that takes the nodes' rows from old to new
module _ (net : Network) (old new : List Relation) (fo : Fitting (widths net.nodes) old) (fn : Fitting (widths net.nodes) new) (p : List ℕ)
    (g : good_pending layout net p ≡ true) (inside : (i : ℕ) (r : Row) → member r (waiting_at net p i) ≡ true → member r (rows_at old i) ≡ true) where
  -- the pending rows fit into an area
  fits : Fitting (widths net.nodes) (pending_in layout net p)
  fits = pending-fits net fo.few fo.narrow p g

  -- each node's rows once the changes are folded in
  abbrev after : List Relation
  after = fold_all net (net_changes old new) (pending_in layout net p)

  -- one relation for each node
  after-size : length after ≡ length (widths net.nodes)
  after-size = fold_length net (net_changes old new) (pending_in layout net p) ∙ sym (length-widths net.nodes)

  -- node i's rows after: folded if it alerts, else as they were
  after_at : (i : ℕ) (t : Bool) → alerts net i ≡ t → rows_at after i ≡ cond t (fold_rows (waiting_at net p i) (change_at (net_changes old new) i)) (waiting_at net p i)
  after_at i t e =
      fold_at_lem net (net_changes old new) (pending_in layout net p) (changes-size (widths net.nodes) old new fo fn ∙ length-widths net.nodes) (fits.size ∙ length-widths net.nodes) i
      ∙ ap (λ (b : Bool). cond b (fold_rows (waiting_at net p i) (change_at (net_changes old new) i)) (waiting_at net p i)) e

  -- node i's folded rows, if it alerts
  abbrev folded : ℕ → Relation
  folded i = fold_rows (waiting_at net p i) (net_change (rows_at old i) (rows_at new i))

  -- a node that alerts
  alerts_at : (i : ℕ) → i < length (widths net.nodes) → alerts net i ≡ true → rows_at after i ≡ folded i
  alerts_at i h e = after_at i true e ∙ ap (fold_rows (waiting_at net p i)) (changes_at old new i (fo.size ∙ sym fn.size) (rw fo.size h))

  -- any other node has none
  others_at : (i : ℕ) → alerts net i ≡ false → rows_at after i ≡ []
  others_at i e = after_at i false e ∙ pending_else net fo.few fo.narrow p g i e

  -- the folded rows of a node are rows of it
  after-rows : (i : ℕ) (r : Row) → member r (rows_at after i) ≡ true → member r (rows_at new i) ≡ true
  after-rows i r m = go (alerts net i) (ltb i (length (widths net.nodes))) refl refl
    where
      go : (t u : Bool) → alerts net i ≡ t → ltb i (length (widths net.nodes)) ≡ u → member r (rows_at new i) ≡ true
      go true true e b =
          fold_inside (waiting_at net p i) (rows_at old i) (rows_at new i) (inside i) r
          (ap (member r) (sym (alerts_at i (ltb-true i (length (widths net.nodes)) b) e)) ∙ m)
      go true false e b =
          let none : rows_at after i ≡ [] = get_or-eq_default after [] {n = i} (rw after-size (ltb-false i (length (widths net.nodes)) b)) in
          absurd (true≢false (sym m ∙ ap (member r) none))
      go false u e b = absurd (true≢false (sym m ∙ ap (member r) (others_at i e)))

  -- gained rows have the width of their node
  gained-wide : (i : ℕ) → i < length (widths net.nodes) → Wide (get_or (widths net.nodes) i 0) (net_change (rows_at old i) (rows_at new i)).gained
  unfolding net_change
  gained-wide i h = less_wide (get_or (widths net.nodes) i 0) (rows_at new i) (rows_at old i) (fn.wide i h)

  -- what holds of a node's pending rows, and of its folded ones, holds of the rows after
  after-case : (i : ℕ) (P : Relation → Type 0) → i < length (widths net.nodes) → P (waiting_at net p i) → P (folded i) → P (rows_at after i)
  after-case i P h a b = go (alerts net i) refl
    where
      go : (t : Bool) → alerts net i ≡ t → P (rows_at after i)
      go true e = subst P (sym (alerts_at i h e)) b
      go false e = subst P (sym (after_at i false e)) a

  -- folded rows ascend
  folded_asc : (i : ℕ) → Ascending (folded i)
  folded_asc i = asc_fold (waiting_at net p i) (net_change (rows_at old i) (rows_at new i))

  -- they fit into an area: a node has no more than 64 pending rows, since it has no more rows itself
  after-fits : Fitting (widths net.nodes) after
  after-fits =
      record {
        size = after-size;
        few = fo.few;
        narrow = fo.narrow;
        wide = λ i h. after-case i (λ l. Wide (get_or (widths net.nodes) i 0) l) h (fits.wide i h)
            (wide_fold (get_or (widths net.nodes) i 0) (waiting_at net p i) (net_change (rows_at old i) (rows_at new i)) (fits.wide i h) (gained-wide i h));
        small = λ i h. after-case i (λ l. length l ≤ max_rows) h (fits.small i h)
            (le_trans
            (subset_few (folded i) (rows_at new i) (folded_asc i) (ascending-holds (rows_at new i) (fn.asc i h)) (fold_inside (waiting_at net p i) (rows_at old i) (rows_at new i) (inside i)))
            (fn.small i h));
        asc = λ i h. after-case i (λ l. ascending l ≡ true) h (fits.asc i h) (ascending_true (folded i) (folded_asc i));
      }

  -- 17 does not hold
  rule-passes : fold_rule layout (good_pending layout net p) after ≡ accepted
  rule-passes =
      ap₂ {A = Bool} {B = Bool} {C = Verdict} (λ x y. unless (x && y) 17) g
      (all_at (λ rel. leb (length rel) max_rows) after [] (λ i h. le-leb (length (rows_at after i)) max_rows (after-fits.small i (rw after-size at h))))

  -- they are read back from the area
  after_back : pending_in layout net (over (pending_of layout after) p) ≡ after
  after_back = pending_back net after after-fits p

  module _ (a : Areas) (held : changes_in layout net.nodes a ≡ net_changes old new) where
    -- folding is accepted and writes them
    fold_is : fold_in layout net a p ≡ record { verdict = accepted; pending = over (pending_of layout after) p }
    unfolding fold_in
    fold_is =
        ap
        (λ (changes : List Change).
        record {
          verdict = fold_rule layout (good_pending layout net p) (fold_all net changes (pending_in layout net p));
          pending = cond (is_accepted (fold_rule layout (good_pending layout net p) (fold_all net changes (pending_in layout net p))))
              (over (pending_of layout (fold_all net changes (pending_in layout net p))) p) p;
        })
        held
        ∙ ap {B = FoldAnswer} (λ (v : Verdict). record { verdict = v; pending = cond (is_accepted v) (over (pending_of layout after) p) p }) rule-passes

    -- what the folding call answers on areas that hold the batch's changes
    pub folded_is : Folded net old new p (fold_in layout net a p)
    folded_is = rw fold_is
        (record {
          passes = refl;
          form = pending-good net after after-fits p others_at;
          members = λ i r e. ap (λ (l : List Relation). member r (rows_at l i)) after_back ∙ ap (member r) (after_at i true e)
              ∙ member_fold r (waiting_at net p i) (change_at (net_changes old new) i);
          are-rows = λ i r m. after-rows i r (ap (λ (l : List Relation). member r (rows_at l i)) (sym after_back) ∙ m);
          rest = pending_rest (widths net.nodes) after after-fits p;
        })
