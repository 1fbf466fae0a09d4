-- One node of all that folding reads: its places, and what folding makes of it. Assumes nothing.
use mathlib.Core.Bool.{Bool, true, false, not, ◌&&◌, cond, true≢false}
use mathlib.Core.List.{List, [], ◌∷◌, ◌++◌, map}
use mathlib.Core.Path.{◌≡◌, ap, ap₂, refl, sym, ◌∙◌}
use Prim.Native.Nat.{ℕ, ◌+◌, ◌≤◌, ◌<◌}
use native.Mathlib.Nat.{le_refl}
use native.Mathlib.Omega.{arith}
use lib.Dec.{eqb, leb}
use lib.ListN.{get_or, length, length-append}
use borrow.Author.Tests.{eqb-true, le-leb, lt-leb}
use Rattle.model.specs.Row.{Relation, Row, all_of, max_nodes, max_rows, numbers_below, set_of}
use Rattle.model.specs.Algebra.{difference_rows, union_rows}
use Rattle.model.specs.Network.{Network, widths}
use Rattle.model.specs.Evaluation.{rows_at}
use Rattle.model.specs.Delta.{Change, change_at, no_change}
use Rattle.model.specs.Areas.{area_size, gained_count, good_area, held_in, layout, lost_count}
use Rattle.model.specs.Watched.{allows, was_gained}
use Rattle.model.specs.Pending.{alerts, fold_all, fold_node, fold_rows, pending_count, pending_in, pending_size}
use Rattle.laws.proofs.Fits.{length-widths}
use Rattle.laws.proofs.Relations.{relation_at}
use Rattle.laws.proofs.Sets.{ascending-holds, and_first, and_second, insert_once}
use Rattle.laws.proofs.Alerts.{fold_none}
use Rattle.areas.specs.Lent.{lent, place_at}
use Rattle.places.specs.Places.{Makes, Place, relation_in}
use Rattle.std.specs.Prelude.{Option, Some, None}
use Rattle.std.specs.Option.{is_some}
use Rattle.rows.proofs.Place.{length_held}
use Rattle.places.proofs.Places.{place-count}
use Rattle.states.specs.Fitting.{Fitting}
use Rattle.states.proofs.Changes.{less_short}
use Rattle.states.proofs.Fitted.{area_place}
use Rattle.states.proofs.Pending.{pending-fits, pending_parts}
use Rattle.pending.proofs.Node.{node-place}
use Rattle.admission.proofs.Changes.{change_held}
use Rattle.folding.specs.Folding.{Foldable, Ready, Signed, changes_held, folded_at, folded_words, is_touched}
use Rattle.folding.proofs.Folded.{had_few, came-few}

-- ---- what making the rows says of their number

pub made_fits : (rel : Relation) (out : List ℕ) (r : Option ℕ) → Makes rel out r → is_some r ≡ leb (length rel) max_rows
made_fits rel out (Some m) fills = sym (le-leb (length rel) max_rows (omega (arith, fills.count, fills.few)))
made_fits rel out None over = sym (lt-leb (length rel) max_rows over.0)

-- ---- how many rows

set-few : (l : List Row) → length (set_of l) ≤ length l
set-few [] = le_refl 0
set-few (r ∷ l) = omega (arith, insert_once r (set_of l), set-few l)

fold_few : (p : Relation) (c : Change) → length (fold_rows p c) ≤ length p + length c.gained
unfolding fold_rows union_rows
fold_few p c =
    omega (arith, set-few (difference_rows p c.lost ++ c.gained), length-append (difference_rows p c.lost) c.gained, less_short p c.lost)

-- ---- all nodes

all_map : (p : Relation → Bool) (f : ℕ → Relation) (l : List ℕ) → all_of p (map f l) ≡ all_of (λ x. p (f x)) l
all_map p f [] = refl
all_map p f (x ∷ l) = ap (λ (t : Bool). p (f x) && t) (all_map p f l)

-- node i's folded rows fit
abbrev pub fits_at : Network → List ℕ → List ℕ → List ℕ → List ℕ → ℕ → Bool
fits_at net gained lost head pending i = leb (length (folded_at net gained lost head pending i)) max_rows

-- every node's do
pub all_fitted : (net : Network) (n : ℕ) (gained lost head pending : List ℕ) → length net.nodes ≡ n → (t : Bool) → all_of (fits_at net gained lost head pending) (numbers_below n) ≡ t →
    t ≡ all_of (λ rel. leb (length rel) max_rows) (fold_all net (changes_held net.nodes gained lost head) (pending_in layout net pending))
unfolding fold_all
all_fitted net n gained lost head pending e t f =
    sym (ap (λ (m : ℕ). all_of (λ rel. leb (length rel) max_rows) (map (fold_node net (changes_held net.nodes gained lost head) (pending_in layout net pending)) (numbers_below m))) e
    ∙ all_map (λ rel. leb (length rel) max_rows) (fold_node net (changes_held net.nodes gained lost head) (pending_in layout net pending)) (numbers_below n)
    ∙ f)

-- ---- one node

module _ (net : Network) (gained lost head pending : List ℕ) (o : Ready net gained lost head pending) where
  pub widths-few : length (widths net.nodes) ≤ max_nodes
  widths-few = rw (length-widths net.nodes) o.few

  module _ (i : ℕ) (h : i < length net.nodes) where
    abbrev w : ℕ
    w = get_or (widths net.nodes) i 0

    inside : i < length (widths net.nodes)
    inside = rw (length-widths net.nodes) h

    pending_at : Place w (place_at pending i) (pending_count layout pending i) × (relation_in w (place_at pending i) (pending_count layout pending i) ≡ rows_at (pending_in layout net pending) i)
    pending_at = node-place net widths-few o.narrow pending o.pending-good i inside

    -- its place in gained or lost
    change_at_lem : (count : ℕ → ℕ) (area : List ℕ) → area_size ≤ length area → good_area layout (widths net.nodes) count area ≡ true →
        Place w (place_at area i) (count i) × (relation_in w (place_at area i) (count i) ≡ held_in layout w (count i) area i)
    change_at_lem count area l g =
        let at = area_place (widths net.nodes) widths-few o.narrow count area g l i inside in
        (at.0, at.1 ∙ relation_at (widths net.nodes) count area i inside)

    -- its places are of good form
    pub node_foldable : Foldable (get_or (widths net.nodes) i 0) i gained lost head pending
    node_foldable =
        record {
          inside = omega (arith, h, o.few);
          gained-long = o.changed.gained-long;
          lost-long = o.changed.lost-long;
          head-long = o.changed.head-long;
          pending-long = (pending_parts net pending o.pending-good).0;
          gained_at = (change_at_lem (gained_count head) gained o.changed.gained-long o.changed.gained-good).0;
          lost_at = (change_at_lem (lost_count head) lost o.changed.lost-long o.changed.lost-good).0;
          pending_at = pending_at.0;
        }

    -- its counts are at most 64
    pub node_counts : (i < max_nodes) × (pending_size ≤ length pending) × (pending_count layout pending i ≤ max_rows) × (gained_count head i ≤ max_rows)
    node_counts = (
      node_foldable.inside,
      node_foldable.pending-long,
      had_few w i gained lost head pending node_foldable,
      came-few w i gained lost head pending node_foldable,
    )

    abbrev held : Change
    held = record { gained = held_in layout w (gained_count head i) gained i; lost = held_in layout w (lost_count head i) lost i }

    change_is : change_at (changes_held net.nodes gained lost head) i ≡ held
    change_is = change_held net.nodes (lent [] gained lost head) i inside

    -- a node that alerts
    pub folded_is : alerts net i ≡ true → folded_at net gained lost head pending i ≡ folded_words (get_or (widths net.nodes) i 0) i gained lost head pending
    folded_is e =
        let g = (change_at_lem (gained_count head) gained o.changed.gained-long o.changed.gained-good).1 in
        let l = (change_at_lem (lost_count head) lost o.changed.lost-long o.changed.lost-good).1 in
        ap (λ (t : Bool). cond t (fold_rows (rows_at (pending_in layout net pending) i) (change_at (changes_held net.nodes gained lost head) i)) (rows_at (pending_in layout net pending) i)) e
        ∙ ap₂ {A = Relation} {B = Change} {C = Relation} (λ p c. fold_rows p c) (sym pending_at.1)
        (change_is ∙ sym (ap₂ {A = Relation} {B = Relation} {C = Change} (λ x y. record { gained = x; lost = y }) g l))

    -- no more than 64 rows are pending
    fits : Fitting (widths net.nodes) (pending_in layout net pending)
    fits = pending-fits net widths-few o.narrow pending o.pending-good

    pub rows_few : length (rows_at (pending_in layout net pending) i) ≤ max_rows
    rows_few = fits.small i inside

    -- ---- by the counts

    held_count : length (rows_at (pending_in layout net pending) i) ≡ pending_count layout pending i
    held_count = ap length (sym pending_at.1) ∙ place-count w (place_at pending i) (pending_count layout pending i) pending_at.0

    -- no more than what is pending and what was gained
    pub most_fits : pending_count layout pending i + gained_count head i ≤ max_rows → length (folded_at net gained lost head pending i) ≤ max_rows
    most_fits m = go (alerts net i)
      where
        change : Change
        change = change_at (changes_held net.nodes gained lost head) i

        came : length change.gained ≡ gained_count head i
        came = ap (λ (c : Change). length c.gained) change_is ∙ length_held layout w (gained_count head i) gained i

        go : (t : Bool) → length (cond t (fold_rows (rows_at (pending_in layout net pending) i) change) (rows_at (pending_in layout net pending) i)) ≤ max_rows
        go true = omega (arith, fold_few (rows_at (pending_in layout net pending) i) change, held_count, came, m)
        go false = rows_few

    -- a node with more than that alerts, since any other has nothing pending
    pub crowded_alerts : max_rows < pending_count layout pending i + gained_count head i → alerts net i ≡ true
    crowded_alerts m = go (alerts net i) refl
      where
        go : (t : Bool) → alerts net i ≡ t → t ≡ true
        go true e = refl
        go false e =
            let none : pending_count layout pending i ≡ 0 = (pending_parts net pending o.pending-good).2 i (omega (arith, h, o.few)) e in
            absurd (omega (arith, none, node_counts.3, m))

    -- ---- by the test

    module _ (signs : List ℕ) (s : Signed net signs) where
      abbrev sign : ℕ
      sign = get_or signs i 0

      pub touched_alerts : is_touched (get_or signs i 0) head i ≡ true → alerts net i ≡ true
      touched_alerts e =
          ap (λ (k : ℕ). allows k was_gained) (sym (s.are i))
          ∙ and_first (allows sign was_gained) (not (eqb (gained_count head i) 0 && eqb (lost_count head i) 0)) e

      -- no rows, by their count
      none_held : (count : ℕ) (area : List ℕ) → count ≡ 0 → held_in layout w count area i ≡ []
      unfolding held_in
      none_held count area z = rw z

      -- a node that is not touched keeps its rows
      pub kept_is : is_touched (get_or signs i 0) head i ≡ false → folded_at net gained lost head pending i ≡ rows_at (pending_in layout net pending) i
      kept_is e = go (alerts net i) refl (ap (λ (k : ℕ). allows k was_gained && not none) (sym (s.are i)) ∙ e)
        where
          none : Bool
          none = eqb (gained_count head i) 0 && eqb (lost_count head i) 0

          no_change_lem : none ≡ true → change_at (changes_held net.nodes gained lost head) i ≡ no_change
          no_change_lem z =
              let g : gained_count head i ≡ 0 = eqb-true (gained_count head i) 0 (and_first (eqb (gained_count head i) 0) (eqb (lost_count head i) 0) z) in
              let l : lost_count head i ≡ 0 = eqb-true (lost_count head i) 0 (and_second (eqb (gained_count head i) 0) (eqb (lost_count head i) 0) z) in
              change_is
              ∙ ap₂ {A = Relation} {B = Relation} {C = Change} (λ x y. record { gained = x; lost = y }) (none_held (gained_count head i) gained g) (none_held (lost_count head i) lost l)

          go : (t : Bool) → alerts net i ≡ t → (t && not none) ≡ false →
              cond t (fold_rows (rows_at (pending_in layout net pending) i) (change_at (changes_held net.nodes gained lost head) i)) (rows_at (pending_in layout net pending) i)
              ≡ rows_at (pending_in layout net pending) i
          go false a z = refl
          go true a z = by none refl z
            where
              by : (u : Bool) → none ≡ u → not u ≡ false → fold_rows (rows_at (pending_in layout net pending) i) (change_at (changes_held net.nodes gained lost head) i)
                  ≡ rows_at (pending_in layout net pending) i
              by true b y = ap (fold_rows (rows_at (pending_in layout net pending) i)) (no_change_lem b) ∙ fold_none (rows_at (pending_in layout net pending) i)
                  (ascending-holds (rows_at (pending_in layout net pending) i) (fits.asc i inside))
              by false b y = absurd (true≢false y)
