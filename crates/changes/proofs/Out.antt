-- What is known of the areas and of the new rows when the writing begins, and after each node. Assumes nothing.
use mathlib.Core.List.{List, []}
use Prim.Native.Nat.{ℕ, ◌<◌, ◌+◌, ◌≤◌}
use lib.ListN.{length, get_or}
use mathlib.Core.Path.{◌≡◌, ap, ◌∙◌, refl, ap₂, sym}
use native.Mathlib.Omega.{arith}
use mathlib.Core.Bool.{Bool, true, cond, false, not}
use native.Mathlib.Nat.{le_refl}
use Rattle.model.specs.Row.{Relation, same_rows, max_nodes, max_width}
use Rattle.model.specs.Areas.{Areas, rows_in, layout, good_area, row_count, gained_count, lost_count, good_stamps, good_worked, held_in, area_size, head_words}
use Rattle.model.specs.Network.{widths}
use Rattle.network.specs.declared.Network.{Network}
use Rattle.placing.specs.Placing.{placed}
use Rattle.changes.specs.Written.{WorkedOut, Writable, gained_of, lost_of, WritesNodes, filled, WritesNode}
use Rattle.areas.specs.Lent.{lent, place_at}
use Rattle.network.specs.Reading.{nodes_of, Built}
use Rattle.areas.proofs.Good.{long_parts}
use Rattle.laws.proofs.Fits.{length-widths}
use Rattle.network.proofs.Nodes.{nodes-count, width_is}
use Rattle.laws.proofs.Relations.{relation_at}
use Rattle.states.proofs.Fitted.{form_parts, area_fits, area_place}
use Rattle.states.specs.Fitting.{Fitting}
use Rattle.states.proofs.Written.{sized}
use Rattle.model.specs.Delta.{net_changes, net_change, Change, is_changed, change_at}
use Rattle.states.proofs.Changes.{changes-length, gained-fits, lost-fits, map_at, changes_at, changed_is}
use Rattle.model.specs.Algebra.{difference_rows}
use Rattle.working.specs.Worked.{told, gains_at, losses_at, Worked}
use Rattle.new_rows.specs.Working.{working, old_rows}
use Rattle.places.specs.Places.{Place, relation_in}
use Rattle.places.proofs.Same.{fills_place}
use Rattle.laws.proofs.Sets.{ascending-holds}
use Rattle.changes.proofs.Filled.{filled-later, filled-length, filled_more, filled_none}

module _ (net : Network) (rows gained lost head work counts : List ℕ) (changed : List Bool) (picks sizes : List ℕ) (o : WorkedOut net rows gained lost head work counts changed picks sizes) where
  abbrev a : Areas
  a = lent rows gained lost head

  abbrev ws : List ℕ
  ws = widths (nodes_of net)

  abbrev old : List Relation
  old = rows_in layout (nodes_of net) (lent rows gained lost head)

  b : Built net
  b = o.built

  longs : (area_size ≤ length rows) × (area_size ≤ length gained) × (area_size ≤ length lost) × (head_words ≤ length head)
  longs = long_parts rows gained lost head o.long

  pub head-long : head_words ≤ length head
  head-long = longs.3

  pub size : length (widths (nodes_of net)) ≡ net.count
  size = length-widths (nodes_of net) ∙ nodes-count net b

  pub few-nodes : net.count ≤ max_nodes
  few-nodes = b.sound.few

  few : length (widths (nodes_of net)) ≤ max_nodes
  few = rw size few-nodes

  narrow : (i : ℕ) → get_or (widths (nodes_of net)) i 0 ≤ max_width
  narrow = o.fits.narrow

  inside : (i : ℕ) → i < net.count → i < length (widths (nodes_of net))
  inside i h = rw size h

  parts : (good_area layout (widths (nodes_of net)) (row_count head) rows ≡ true) × (good_area layout (widths (nodes_of net)) (gained_count head) gained ≡ true)
      × (good_area layout (widths (nodes_of net)) (lost_count head) lost ≡ true) × (good_stamps (length (nodes_of net)) head ≡ true) × (good_worked (length (nodes_of net)) head ≡ true)
  parts = form_parts (nodes_of net) (lent rows gained lost head) o.form

  pub old-fits : Fitting (widths (nodes_of net)) old
  unfolding rows_in
  old-fits = area_fits (widths (nodes_of net)) few narrow (row_count head) rows parts.0

  pub changes-count : length (net_changes old o.new) ≡ net.count
  changes-count = changes-length old o.new (old-fits.size ∙ sym o.fits.size) ∙ old-fits.size ∙ size

  pub gained-fit : Fitting (widths (nodes_of net)) (gained_of old o.new)
  gained-fit = gained-fits (widths (nodes_of net)) old o.new old-fits o.fits

  pub lost-fit : Fitting (widths (nodes_of net)) (lost_of old o.new)
  lost-fit = lost-fits (widths (nodes_of net)) old o.new old-fits o.fits

  gained_at : (i : ℕ) → i < net.count → get_or (gained_of old o.new) i [] ≡ difference_rows (get_or o.new i []) (get_or old i [])
  unfolding net_change
  gained_at i h = map_at (λ c. c.gained) (net_changes old o.new) i (rw changes-count h)
      ∙ ap (λ (c : Change). c.gained) (changes_at old o.new i (old-fits.size ∙ sym o.fits.size) (rw (old-fits.size ∙ size) h))

  lost_at : (i : ℕ) → i < net.count → get_or (lost_of old o.new) i [] ≡ difference_rows (get_or old i []) (get_or o.new i [])
  unfolding net_change
  lost_at i h = map_at (λ c. c.lost) (net_changes old o.new) i (rw changes-count h)
      ∙ ap (λ (c : Change). c.lost) (changes_at old o.new i (old-fits.size ∙ sym o.fits.size) (rw (old-fits.size ∙ size) h))

  -- ---- one node

  module _ (i : ℕ) (h : i < net.count) where
    w : ℕ
    w = get_or net.widths i 0

    width : get_or (widths (nodes_of net)) i 0 ≡ get_or net.widths i 0
    width = width_is net b i h

    ready : Worked head (working net.widths rows work counts changed) (told picks sizes) (get_or o.new i []) i
    ready = o.worked.worked i h

    rows-place : Place (get_or (widths (nodes_of net)) i 0) (place_at rows i) (row_count head i)
        × (relation_in (get_or (widths (nodes_of net)) i 0) (place_at rows i) (row_count head i) ≡ get_or old i [])
    unfolding rows_in
    rows-place = area_place (widths (nodes_of net)) few narrow (row_count head) rows parts.0 longs.0 i (inside i h)

    gained-place : Place (get_or (widths (nodes_of net)) i 0) (place_at gained i) (gained_count head i)
    gained-place = (area_place (widths (nodes_of net)) few narrow (gained_count head) gained parts.1 longs.1 i (inside i h)).0

    lost-place : Place (get_or (widths (nodes_of net)) i 0) (place_at lost i) (lost_count head i)
    lost-place = (area_place (widths (nodes_of net)) few narrow (lost_count head) lost parts.2 longs.2 i (inside i h)).0

    new-place : Place (get_or (widths (nodes_of net)) i 0) (place_at (cond (get_or changed i false) work rows) i) (get_or counts i 0)
        × (relation_in (get_or (widths (nodes_of net)) i 0) (place_at (cond (get_or changed i false) work rows) i) (get_or counts i 0) ≡ get_or o.new i [])
    new-place =
        fills_place (get_or (widths (nodes_of net)) i 0) (get_or o.new i []) (place_at (cond (get_or changed i false) work rows) i) (get_or counts i 0) (narrow i) (o.fits.wide i (inside i h))
        (ascending-holds (get_or o.new i []) (o.fits.asc i (inside i h)))
        (record { count = ready.count; few = rw ready.count ready.few; is = ready.place })

    old-same : old_rows head (working net.widths rows work counts changed) i ≡ get_or old i []
    unfolding rows_in
    old-same = ap (λ (x : ℕ). held_in layout x (row_count head i) rows i) (sym width) ∙ sym (relation_at (widths (nodes_of net)) (row_count head) rows i (inside i h))

    -- a node is marked as changed exactly if its change is nonempty
    pub flag_is : get_or changed i false ≡ is_changed (change_at (net_changes old o.new) i)
    flag_is =
        ready.changed
        ∙ ap (λ (r : Relation). not (same_rows (get_or o.new i []) r)) old-same
        ∙ sym (changed_is (get_or old i []) (get_or o.new i []) (ascending-holds (get_or old i []) (old-fits.asc i (inside i h)))
        (ascending-holds (get_or o.new i []) (o.fits.asc i (inside i h))))
        ∙ ap is_changed (sym (changes_at old o.new i (old-fits.size ∙ sym o.fits.size) (rw (old-fits.size ∙ size) h)))

    -- ---- while the places before it are written

    module _ (rows' gained' lost' : List ℕ) (k : WritesNodes (nodes_of net) o.new rows gained lost head rows' gained' lost' i) where
      before : (rels : List Relation) → Fitting (widths (nodes_of net)) rels → i ≤ length rels
      before rels f = omega (arith, f.size, size, h)

      later : (rels : List Relation) (area area' : List ℕ) → Fitting (widths (nodes_of net)) rels → area' ≡ filled rels i area → place_at area' i ≡ place_at area i
      later rels area area' f e = ap (λ (l : List ℕ). place_at l i) e ∙ filled-later rels area (sized (widths (nodes_of net)) rels f) i (before rels f) i (le_refl i)

      long_still : (rels : List Relation) (area area' : List ℕ) → Fitting (widths (nodes_of net)) rels → area_size ≤ length area → area' ≡ filled rels i area → area_size ≤ length area'
      long_still rels area area' f l e = rw (ap length e ∙ filled-length rels area (sized (widths (nodes_of net)) rels f) i (before rels f) (omega (arith, h, few-nodes, l))) l

      rows_still : place_at rows' i ≡ place_at rows i
      rows_still = later o.new rows rows' o.fits k.rows_are

      gained_still : place_at gained' i ≡ place_at gained i
      gained_still = later (gained_of old o.new) gained gained' gained-fit k.gained-are

      lost_still : place_at lost' i ≡ place_at lost i
      lost_still = later (lost_of old o.new) lost lost' lost-fit k.lost-are

      present_still : place_at (cond (get_or changed i false) work rows') i ≡ place_at (cond (get_or changed i false) work rows) i
      present_still = go (get_or changed i false)
        where
          go : (t : Bool) → place_at (cond t work rows') i ≡ place_at (cond t work rows) i
          go true = refl
          go false = rows_still

      was : relation_in (get_or (widths (nodes_of net)) i 0) (place_at rows' i) (row_count head i) ≡ get_or old i []
      was = ap (λ (s : List ℕ). relation_in (get_or (widths (nodes_of net)) i 0) s (row_count head i)) rows_still ∙ rows-place.1

      is : relation_in (get_or (widths (nodes_of net)) i 0) (place_at (cond (get_or changed i false) work rows') i) (get_or counts i 0) ≡ get_or o.new i []
      is = ap (λ (s : List ℕ). relation_in (get_or (widths (nodes_of net)) i 0) s (get_or counts i 0)) present_still ∙ new-place.1

      -- the node can be written
      pub can_write : Writable rows' gained' lost' head work counts changed picks sizes i
      can_write =
          record {
            inside = omega (arith, h, few-nodes);
            rows_long = long_still o.new rows rows' o.fits longs.0 k.rows_are;
            gained-long = long_still (gained_of old o.new) gained gained' gained-fit longs.1 k.gained-are;
            lost-long = long_still (lost_of old o.new) lost lost' lost-fit longs.2 k.lost-are;
            head-long = longs.3;
            work-long = omega (arith, o.worked.sized.work);
            counts-long = o.worked.sized.counts;
            changed-long = o.worked.sized.changed;
            told-long = o.worked.told;
            width = get_or (widths (nodes_of net)) i 0;
            old_at = rw rows_still rows-place.0;
            new_at = rw present_still new-place.0;
            gained_at = rw gained_still gained-place;
            lost_at = rw lost_still lost-place;
            tells = rw (was ∙ sym old-same, rows_still, is) ready.tells;
          }

      gained_is : difference_rows (relation_in (get_or (widths (nodes_of net)) i 0) (place_at (cond (get_or changed i false) work rows') i) (get_or counts i 0))
          (relation_in (get_or (widths (nodes_of net)) i 0) (place_at rows' i) (row_count head i)) ≡ get_or (gained_of old o.new) i []
      gained_is = ap₂ {A = Relation} {B = Relation} {C = Relation} (λ x y. difference_rows x y) is was ∙ sym (gained_at i h)

      lost_is : difference_rows (relation_in (get_or (widths (nodes_of net)) i 0) (place_at rows' i) (row_count head i))
          (relation_in (get_or (widths (nodes_of net)) i 0) (place_at (cond (get_or changed i false) work rows') i) (get_or counts i 0)) ≡ get_or (lost_of old o.new) i []
      lost_is = ap₂ {A = Relation} {B = Relation} {C = Relation} (λ x y. difference_rows x y) was is ∙ sym (lost_at i h)

      -- one node more
      pub writes_more : (rows'' gained'' lost'' : List ℕ) →
          ((q : Writable rows' gained' lost' head work counts changed picks sizes i) → WritesNode (relation_in q.width (place_at rows' i) (row_count head i))
          (relation_in q.width (place_at (cond (get_or changed i false) work rows') i) (get_or counts i 0)) rows' gained' lost' rows'' gained'' lost'' i) →
          WritesNodes (nodes_of net) o.new rows gained lost head rows'' gained'' lost'' (i + 1)
      unfolding can_write
      writes_more rows'' gained'' lost'' written =
          let n : WritesNode (relation_in (get_or (widths (nodes_of net)) i 0) (place_at rows' i) (row_count head i))
          (relation_in (get_or (widths (nodes_of net)) i 0) (place_at (cond (get_or changed i false) work rows') i) (get_or counts i 0)) rows' gained' lost' rows'' gained'' lost'' i = written can_write in
          record {
            rows_are = n.rows_are ∙ ap₂ {A = List ℕ} {B = Relation} {C = List ℕ} (λ s r. placed s i r) k.rows_are is
                ∙ filled_more o.new rows (sized (widths (nodes_of net)) o.new o.fits) i (below o.new o.fits);
            gained-are = n.gained-are ∙ ap₂ {A = List ℕ} {B = Relation} {C = List ℕ} (λ s r. placed s i r) k.gained-are gained_is
                ∙ filled_more (gained_of old o.new) gained (sized (widths (nodes_of net)) (gained_of old o.new) gained-fit) i (below (gained_of old o.new) gained-fit);
            lost-are = n.lost-are ∙ ap₂ {A = List ℕ} {B = Relation} {C = List ℕ} (λ s r. placed s i r) k.lost-are lost_is
                ∙ filled_more (lost_of old o.new) lost (sized (widths (nodes_of net)) (lost_of old o.new) lost-fit) i (below (lost_of old o.new) lost-fit);
          }
        where
          below : (rels : List Relation) → Fitting (widths (nodes_of net)) rels → i < length rels
          below rels f = omega (arith, f.size, size, h)

    -- how many rows the node gained and lost
    pub gains_is : gains_at (told picks sizes) i ≡ length (get_or (gained_of old o.new) i [])
    gains_is = ready.tells.came.count ∙ ap length (ap (difference_rows (get_or o.new i [])) old-same ∙ sym (gained_at i h))

    pub losses_is : losses_at (told picks sizes) i ≡ length (get_or (lost_of old o.new) i [])
    losses_is = ready.tells.gone.count ∙ ap length (ap (λ (r : Relation). difference_rows r (get_or o.new i [])) old-same ∙ sym (lost_at i h))

  -- nothing written yet
  pub writes_none : WritesNodes (nodes_of net) o.new rows gained lost head rows gained lost 0
  writes_none =
      record {
        rows_are = filled_none o.new rows (sized (widths (nodes_of net)) o.new o.fits);
        gained-are = filled_none (gained_of old o.new) gained (sized (widths (nodes_of net)) (gained_of old o.new) gained-fit);
        lost-are = filled_none (lost_of old o.new) lost (sized (widths (nodes_of net)) (lost_of old o.new) lost-fit);
      }
