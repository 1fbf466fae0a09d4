-- The words written are those of the next state. Assumes nothing.
use Prim.Native.Nat.{ℕ, ◌≤◌, ◌<◌, ◌+◌}
use mathlib.Core.Bool.{Bool, false, true, cond}
use mathlib.Core.Path.{◌≡◌, refl, sym, ◌∙◌, ap, ap₂, subst}
use mathlib.Core.List.{List, ◌∷◌, ◌++◌, map, zip_with, [], append_assoc}
use native.Mathlib.Nat.{zero-add}
use native.Mathlib.Omega.{arith}
use lib.Dec.{ltb}
use lib.ListN.{length, take, drop, length-map, length-drop, get_or, take-append-drop, get_or-eq_default}
use lib.Seq.{ext_get_or, get_or-take, get_or-drop, length-take-le}
use borrow.Author.Tests.{ltb-true, ltb-false}
use Rattle.model.specs.Row.{Relation, numbers_below, max_nodes}
use Rattle.model.specs.Network.{AllFit, widths}
use Rattle.network.specs.declared.Network.{Network}
use Rattle.changes.specs.Written.{WorkedOut, filled, WritesNodes, gained_of, lost_of}
use Rattle.transition.specs.Head.{stamps_from, head_from}
use Rattle.propagation.specs.Propagated.{Marked}
use Rattle.worklist.specs.Listed.{due_list}
use Rattle.worklist.proofs.Worked.{worked-are}
use Rattle.network.specs.Reading.{nodes_of, Built}
use Rattle.model.specs.Areas.{Areas, holding_rows, rows_in, layout, padded, stamp_at, good_area, over, area_of, batch_number, state_in, head_of, row_count, gained_count, lost_count, good_stamps}
use Rattle.model.specs.Areas.{good_worked, area_size, head_words}
use Rattle.areas.specs.Lent.{lent}
use Rattle.model.specs.Delta.{Change, net_changes, change_at}
use Rattle.network.proofs.Nodes.{nodes-count}
use Rattle.changes.proofs.Out.{size, changes-count, flag_is, gained-fit, lost-fit, gains_is, losses_is}
use Rattle.network.proofs.Kept.{ends_padded}
use Rattle.states.proofs.Changes.{lengths_at, map_twice, stamps-length, stamps_at}
use Rattle.model.specs.Station.{stamp_of, worked_list, advance_rows}
use Rattle.laws.proofs.Parts.{length-counted, counted_at}
use Rattle.states.specs.Fitting.{Fitting}
use Rattle.states.proofs.Written.{sized}
use Rattle.changes.proofs.Filled.{filled_all}
use Rattle.states.proofs.Fitted.{area_empty, form_parts}
use Rattle.areas.proofs.Good.{long_parts}

-- an array of 32 numbers whose first ones are the sizes of relations, with zeros behind
sizes-padded : (rels : List Relation) (l : List ℕ) (n : ℕ) → length l ≡ max_nodes → length rels ≡ n → n ≤ max_nodes → ((i : ℕ) → i < n → get_or l i 0 ≡ length (get_or rels i [])) →
    ((i : ℕ) → n ≤ i → i < max_nodes → get_or l i 0 ≡ 0) → l ≡ padded max_nodes (map length rels)
sizes-padded rels l n long many few at rest =
    ends_padded max_nodes n l long few (λ i h. ends i h (ltb i max_nodes) refl)
    ∙ ap (padded max_nodes)
    (ext_get_or 0 (take n l) (map length rels) (first ∙ sym (length-map rels length ∙ many)) (λ i h. let k : i < n = rw first at h in get_or-take n l i 0 k ∙ at i k ∙ sym (lengths_at rels i)))
  where
    first : length (take n l) ≡ n
    first = length-take-le n l (rw long few)

    ends : (i : ℕ) → n ≤ i → (t : Bool) → ltb i max_nodes ≡ t → get_or l i 0 ≡ 0
    ends i h true e = rest i h (ltb-true i max_nodes e)
    ends i h false e = get_or-eq_default l 0 (rw long (ltb-false i max_nodes e))

module _ (net : Network) (rows gained lost head work counts : List ℕ) (changed : List Bool) (picks sizes : List ℕ) (o : WorkedOut net rows gained lost head work counts changed picks sizes)
    (fit : AllFit (nodes_of net)) where
  abbrev before : Areas
  before = lent rows gained lost head

  abbrev old : List Relation
  old = rows_in layout (nodes_of net) (lent rows gained lost head)

  abbrev changes : List Change
  changes = net_changes old o.new

  b : Built net
  b = o.built

  -- node-count of the model
  many : length (nodes_of net) ≡ net.count
  many = nodes-count net b

  new_many : length o.new ≡ net.count
  new_many = o.fits.size ∙ size net rows gained lost head work counts changed picks sizes o

  changes_many : length (net_changes old o.new) ≡ net.count
  changes_many = changes-count net rows gained lost head work counts changed picks sizes o

  few : net.count ≤ max_nodes
  few = b.sound.few

  -- ---- counts

  counts-are : counts ≡ padded max_nodes (map length o.new)
  counts-are = sizes-padded o.new counts net.count o.worked.sized.counts new_many few (λ i h. (o.worked.worked i h).count) (λ i h k. o.worked.uncounted i h)

  change_sizes : (g : Change → Relation) (l : List ℕ) → length l ≡ max_nodes → ((i : ℕ) → i < net.count → get_or l i 0 ≡ length (get_or (map g (net_changes old o.new)) i [])) →
      ((i : ℕ) → net.count ≤ i → i < max_nodes → get_or l i 0 ≡ 0) → l ≡ padded max_nodes (map (λ c. length (g c)) (net_changes old o.new))
  change_sizes g l long at rest =
      sizes-padded (map g (net_changes old o.new)) l net.count long (length-map (net_changes old o.new) g ∙ changes_many) few at rest
      ∙ ap (padded max_nodes) (sym (map_twice g (net_changes old o.new)))

  abbrev gains : List ℕ
  gains = padded max_nodes (map (λ c. length c.gained) (net_changes old o.new))

  abbrev losses : List ℕ
  losses = padded max_nodes (map (λ c. length c.lost) (net_changes old o.new))

  -- the gained counts, then the lost counts
  sizes-are : sizes ≡ gains ++ losses
  sizes-are =
      sym (take-append-drop max_nodes sizes)
      ∙ ap₂ {A = List ℕ} {B = List ℕ} {C = List ℕ} (λ a b. a ++ b)
      (change_sizes (λ c. c.gained) (take max_nodes sizes) (length-take-le max_nodes sizes (rw o.worked.told.sizes (omega arith)))
      (λ i h. get_or-take max_nodes sizes i 0 (omega (arith, h, few)) ∙ gains_is net rows gained lost head work counts changed picks sizes o i h)
      (λ i h k. get_or-take max_nodes sizes i 0 k ∙ (o.worked.untold i h k).gains))
      (change_sizes (λ c. c.lost) (drop max_nodes sizes) (length-drop max_nodes sizes ∙ rw o.worked.told.sizes)
      (λ i h. get_or-drop max_nodes sizes i 0 ∙ losses_is net rows gained lost head work counts changed picks sizes o i h) (λ i h k. get_or-drop max_nodes sizes i 0 ∙ (o.worked.untold i h k).losses))

  -- ---- stamps

  stamps-are : (number : ℕ) → stamps_from head changed number net.count ≡ zip_with (stamp_of number) (net_changes old o.new) (map (stamp_at head) (numbers_below (length (nodes_of net))))
  stamps-are number =
      let earlier : length (map (stamp_at head) (numbers_below (length (nodes_of net)))) ≡ length (nodes_of net) = length-counted (stamp_at head) 0 (length (nodes_of net)) in
      let same : length (net_changes old o.new) ≡ length (map (stamp_at head) (numbers_below (length (nodes_of net)))) = changes_many ∙ sym (earlier ∙ many) in
      let first : length (stamps_from head changed number net.count) ≡ net.count = length-counted (λ j. cond (get_or changed j false) number (stamp_at head j)) 0 net.count in
      ext_get_or 0 (stamps_from head changed number net.count) (zip_with (stamp_of number) (net_changes old o.new) (map (stamp_at head) (numbers_below (length (nodes_of net)))))
      (first ∙ sym (stamps-length number (net_changes old o.new) (map (stamp_at head) (numbers_below (length (nodes_of net)))) same ∙ earlier ∙ many))
      (λ i h.
      let k : i < net.count = rw first at h in
      counted_at 0 (λ j. cond (get_or changed j false) number (stamp_at head j)) 0 net.count i k
      ∙ ap (λ (j : ℕ). cond (get_or changed j false) number (stamp_at head j)) (zero-add i)
      ∙ ap (λ (t : Bool). cond t number (stamp_at head i)) (flag_is net rows gained lost head work counts changed picks sizes o i k)
      ∙ ap (stamp_of number (change_at (net_changes old o.new) i)) (sym (counted_at 0 (stamp_at head) 0 (length (nodes_of net)) i (rw many k) ∙ ap (stamp_at head) (zero-add i)))
      ∙ sym (stamps_at number (net_changes old o.new) (map (stamp_at head) (numbers_below (length (nodes_of net)))) i same (rw changes_many k)))

  -- ---- all words

  area_are : (rels : List Relation) (area after : List ℕ) (count : ℕ → ℕ) → Fitting (widths (nodes_of net)) rels → area_size ≤ length area → good_area layout (widths (nodes_of net)) count area
      ≡ true → after ≡ filled rels net.count area → after ≡ over (area_of layout rels) area
  area_are rels area after count f long g e =
      let n : length rels ≡ net.count = f.size ∙ size net rows gained lost head work counts changed picks sizes o in
      e
      ∙ ap (λ (k : ℕ). filled rels k area) (sym n)
      ∙ filled_all rels area (sized (widths (nodes_of net)) rels f) (rw n few) long
      (λ j h k. area_empty (widths (nodes_of net)) f.few f.narrow count area g long j (rw (← f.size) h) k)

  pub state_written : (rows' gained' lost' head' stamps entries levels : List ℕ) (due : List Bool) (n number k : ℕ) (copy : List Relation) →
      net.count ≡ n → number ≡ batch_number head + 1 → WritesNodes (nodes_of net) o.new rows gained lost head rows' gained' lost' n →
      stamps ≡ padded max_nodes (stamps_from head changed number n) → net.levels ≡ levels → Marked net changed due net.count →
      entries ≡ padded max_nodes (due_list levels due n) → k ≡ length (due_list levels due n) →
      head' ≡ over (head_from number counts stamps sizes k entries) head →
      lent rows' gained' lost' head' ≡ holding_rows layout o.new (advance_rows (nodes_of net) (state_in layout (nodes_of net) (lent rows gained lost head)) copy old o.new)
      (lent rows gained lost head)
  unfolding head_of state_in
  state_written rows' gained' lost' head' stamps entries levels due n number k copy is en wn es le marked ee ek eh =
      let w : WritesNodes (nodes_of net) o.new rows gained lost head rows' gained' lost' net.count =
      subst (λ (j : ℕ). WritesNodes (nodes_of net) o.new rows gained lost head rows' gained' lost' j) (sym is) wn in
      let longs : (area_size ≤ length rows) × (area_size ≤ length gained) × (area_size ≤ length lost) × (head_words ≤ length head) = long_parts rows gained lost head o.long in
      let parts : (good_area layout (widths (nodes_of net)) (row_count head) rows ≡ true) × (good_area layout (widths (nodes_of net)) (gained_count head) gained ≡ true)
      × (good_area layout (widths (nodes_of net)) (lost_count head) lost ≡ true) × (good_stamps (length (nodes_of net)) head ≡ true) × (good_worked (length (nodes_of net)) head ≡ true) = form_parts
      (nodes_of net) (lent rows gained lost head) o.form in
      let r : rows' ≡ over (area_of layout o.new) rows = area_are o.new rows rows' (row_count head) o.fits longs.0 parts.0 w.rows_are in
      let g : gained' ≡ over (area_of layout (gained_of old o.new)) gained = area_are (gained_of old o.new) gained gained' (gained_count head)
      (gained-fit net rows gained lost head work counts changed picks sizes o) longs.1 parts.1 w.gained-are in
      let l : lost' ≡ over (area_of layout (lost_of old o.new)) lost = area_are (lost_of old o.new) lost lost' (lost_count head)
      (lost-fit net rows gained lost head work counts changed picks sizes o) longs.2 parts.2 w.lost-are in
      let list : due_list levels due n ≡ worked_list (nodes_of net) (net_changes old o.new) =
      ap₂ {A = List ℕ} {B = ℕ} {C = List ℕ} (λ x j. due_list x due j) (sym le) (sym is)
      ∙ worked-are net b fit (net_changes old o.new) changed (flag_is net rows gained lost head work counts changed picks sizes o) due marked in
      let words : head_from number counts stamps sizes k entries
      ≡ head_of o.new (advance_rows (nodes_of net) (state_in layout (nodes_of net) (lent rows gained lost head)) copy old o.new) =
      ap (λ (x : List ℕ). (number ∷ []) ++ counts ++ stamps ++ x ++ (k ∷ []) ++ entries) sizes-are
      ∙ ap (λ (x : List ℕ). x ++ (k ∷ []) ++ entries) (sym (append_assoc ((number ∷ []) ++ counts ++ stamps) gains losses))
      ∙ (λ j.
      (en j ∷ [])
      ++ counts-are j
      ++ (es ∙ ap₂ {A = ℕ} {B = ℕ} {C = List ℕ} (λ m j. padded max_nodes (stamps_from head changed m j)) en (sym is) ∙ ap (padded max_nodes) (stamps-are (batch_number head + 1))) j
      ++ gains
      ++ losses
      ++ ((ek ∙ ap length list) j ∷ [])
      ++ (ee ∙ ap (padded max_nodes) list) j) in
      λ j. record { rows = r j; gained = g j; lost = l j; head = (eh ∙ ap (λ (x : List ℕ). over x head) words) j }
