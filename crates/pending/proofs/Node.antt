-- One node of a pending area of good form: its place, and other rows written there. Assumes nothing.
use mathlib.Core.Bool.{true}
use mathlib.Core.List.{List}
use mathlib.Core.Path.{◌≡◌, ap, ap₂, sym, ◌∙◌}
use Prim.Native.Nat.{ℕ, ◌+◌, ◌≤◌, ◌<◌}
use native.Mathlib.Omega.{arith}
use lib.ListN.{get_or, length, set}
use lib.Seq.{set-get_or}
use Rattle.model.specs.Row.{Relation, Narrow, Wide, max_nodes, max_rows, same_rows}
use Rattle.model.specs.Network.{Network, widths}
use Rattle.model.specs.Evaluation.{rows_at}
use Rattle.model.specs.Areas.{area_size, layout, over}
use Rattle.model.specs.Pending.{good_pending, pending_count, pending_in, pending_of, pending_size}
use Rattle.laws.proofs.Sets.{same_rows_eq}
use Rattle.rows.proofs.Placed.{place-length}
use Rattle.areas.specs.Lent.{place_at}
use Rattle.places.specs.Places.{Place, relation_in}
use Rattle.places.proofs.Places.{place-count, place-few, place_is, place-wide}
use Rattle.placing.specs.Placing.{placed}
use Rattle.placing.proofs.Placing.{placed_same}
use Rattle.states.proofs.Fitted.{area_place}
use Rattle.states.proofs.Pending.{pending-fits, pending_own, pending_parts}
use Rattle.pending.specs.Placed.{pending_with}
use Rattle.pending.proofs.Put.{pending-put}

module _ (net : Network) (few : length (widths net.nodes) ≤ max_nodes) (narrow : Narrow (widths net.nodes)) (p : List ℕ) (g : good_pending layout net p ≡ true) (i : ℕ)
    (h : i < length (widths net.nodes)) where
  -- its place holds its rows
  pub node-place : Place (get_or (widths net.nodes) i 0) (place_at p i) (pending_count layout p i)
      × (relation_in (get_or (widths net.nodes) i 0) (place_at p i) (pending_count layout p i) ≡ rows_at (pending_in layout net p) i)
  unfolding pending_in
  node-place =
      let parts = pending_parts net p g in
      area_place (widths net.nodes) few narrow (pending_count layout p) p parts.1 (omega (arith, parts.0)) i h

  -- the area with other rows there
  pub node-put : (rel : Relation) → Wide (get_or (widths net.nodes) i 0) rel → length rel ≤ max_rows →
      pending_with p i rel ≡ over (pending_of layout (set (pending_in layout net p) i rel)) p
  node-put rel wide small =
      let rels : List Relation = pending_in layout net p in
      let fits = pending-fits net few narrow p g in
      ap (λ (q : List ℕ). pending_with q i rel) (sym (pending_own net few narrow p g))
      ∙ pending-put (widths net.nodes) rels fits i rel (rw fits.size h) (place-length (get_or (widths net.nodes) i 0) rel (narrow i) wide small) p

-- n rows of a place over node i's: those that it has, or others
module _ (w : ℕ) (src p : List ℕ) (n i : ℕ) (there : Place w src n) (here : Place w (place_at p i) (pending_count layout p i)) where
  -- the rows that it has are there already
  pub put_same : i < max_nodes → pending_size ≤ length p → same_rows (relation_in w src n) (relation_in w (place_at p i) (pending_count layout p i)) ≡ true → p ≡ pending_with p i (relation_in w src n)
  put_same h long e =
      let own : Relation = relation_in w (place_at p i) (pending_count layout p i) in
      let count : length own ≡ pending_count layout p i = place-count w (place_at p i) (pending_count layout p i) here in
      let size = place-length w own here.narrow (place-wide w (place_at p i) (pending_count layout p i) here) (rw count (place-few w (place_at p i) (pending_count layout p i) here)) in
      sym (set-get_or p (area_size + i) 0)
      ∙ ap₂ {A = List ℕ} {B = ℕ} {C = List ℕ} (λ l k. set l (area_size + i) k) (placed_same p i (omega (arith, h, long)) own size (place_is w (place_at p i) (pending_count layout p i) here)) (sym count)
      ∙ ap (pending_with p i) (sym (same_rows_eq (relation_in w src n) own e))

  -- others are written, with their count
  pub put_other : (after : List ℕ) → after ≡ placed p i (relation_in w src n) → set after (area_size + i) n ≡ pending_with p i (relation_in w src n)
  put_other after e = ap₂ {A = List ℕ} {B = ℕ} {C = List ℕ} (λ l k. set l (area_size + i) k) e (sym (place-count w src n there))
