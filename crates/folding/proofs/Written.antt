-- Nodes' folded rows written over their pending ones. Assumes nothing.
use mathlib.Core.Bool.{true, false}
use mathlib.Core.List.{List, []}
use mathlib.Core.Path.{◌≡◌, ap, sym, ◌∙◌}
use Prim.Native.Nat.{ℕ, ◌≤◌, ◌<◌}
use native.Mathlib.Omega.{arith}
use lib.ListN.{get_or, length, set}
use lib.Seq.{set-get_or}
use Rattle.model.specs.Row.{Relation, Wide, max_nodes, max_rows}
use Rattle.model.specs.Network.{Network, widths}
use Rattle.model.specs.Areas.{gained_count, layout, lost_count, over, place_size}
use Rattle.model.specs.Pending.{pending_count, pending_in, pending_of}
use Rattle.laws.proofs.Fits.{length-widths}
use Rattle.laws.proofs.Alerts.{asc_fold, wide_fold}
use Rattle.areas.specs.Lent.{place_at}
use Rattle.places.specs.Places.{Fills, Makes, Place, relation_in}
use Rattle.std.specs.Prelude.{Option, Some, None}
use Rattle.places.proofs.Places.{place-wide}
use Rattle.places.proofs.Same.{fills_place}
use Rattle.states.proofs.Pending.{pending_own}
use Rattle.pending.specs.Placed.{pending_with}
use Rattle.pending.proofs.Node.{node-put}
use Rattle.folding.specs.Folding.{Foldable, Ready, Signed, folded_at, folded_words, is_touched, with_node}
use Rattle.folding.proofs.Ready.{folded_is, kept_is, node_foldable, touched_alerts, widths-few}

module _ (net : Network) (gained lost head pending : List ℕ) (o : Ready net gained lost head pending) (i : ℕ) (h : i < length net.nodes) where
  few : length (widths net.nodes) ≤ max_nodes
  few = widths-few net gained lost head pending o

  abbrev w : ℕ
  w = get_or (widths net.nodes) i 0

  abbrev rels : List Relation
  rels = pending_in layout net pending

  abbrev folded : Relation
  folded = folded_words w i gained lost head pending

  ready : Foldable w i gained lost head pending
  ready = node_foldable net gained lost head pending o i h

  -- a node that is not touched
  pub write_none : (signs : List ℕ) → Signed net signs → is_touched (get_or signs i 0) head i ≡ false → pending ≡ with_node net gained lost head pending i
  write_none signs s e =
      sym (ap (λ (l : List Relation). over (pending_of layout l) pending)
      (ap (set rels i) (kept_is net gained lost head pending o i h signs s e) ∙ set-get_or rels i [])
      ∙ pending_own net few o.narrow pending o.pending-good)

  -- the folded rows are of the node's width
  pub folded_wide : Wide (get_or (widths net.nodes) i 0) (folded_words (get_or (widths net.nodes) i 0) i gained lost head pending)
  folded_wide =
      wide_fold w (relation_in w (place_at pending i) (pending_count layout pending i))
      (record { gained = relation_in w (place_at gained i) (gained_count head i); lost = relation_in w (place_at lost i) (lost_count head i) })
      (place-wide w (place_at pending i) (pending_count layout pending i) ready.pending_at) (place-wide w (place_at gained i) (gained_count head i) ready.gained_at)

  module _ (signs : List ℕ) (s : Signed net signs) (e : is_touched (get_or signs i 0) head i ≡ true) (out : List ℕ) (r : Option ℕ) (made : Makes folded out r) where
    -- the rows that were made
    made_fills : (m : ℕ) → r ≡ Some m → Fills folded out m
    made_fills m f = rw f at made

    pub made_place : (m : ℕ) → r ≡ Some m → Place w out m × (relation_in w out m ≡ folded)
    made_place m f =
        fills_place w folded out m ready.pending_at.narrow folded_wide
        (asc_fold (relation_in w (place_at pending i) (pending_count layout pending i))
        (record { gained = relation_in w (place_at gained i) (gained_count head i); lost = relation_in w (place_at lost i) (lost_count head i) }))
        (made_fills m f)

    -- written over those that were pending, with their count
    pub write_some : (m : ℕ) → r ≡ Some m → (after : List ℕ) →
        ((v : ℕ) → Place v out m → Place v (place_at pending i) (pending_count layout pending i) → after ≡ pending_with pending i (relation_in v out m)) →
        after ≡ with_node net gained lost head pending i
    write_some m f after p =
        let fills : Fills folded out m = made_fills m f in
        p w (made_place m f).0 ready.pending_at ∙ ap (pending_with pending i) (made_place m f).1
        ∙ node-put net few o.narrow pending o.pending-good i (rw (length-widths net.nodes) h) folded folded_wide (omega (arith, fills.count, fills.few))
        ∙ ap (λ (l : Relation). over (pending_of layout (set rels i l)) pending)
        (sym (folded_is net gained lost head pending o i h (touched_alerts net gained lost head pending o i h signs s e)))

    -- rows that fit are not too many
    pub write_fits : r ≡ None → length (folded_at net gained lost head pending i) ≤ max_rows → ⊥
    write_fits f fit =
        let over : (max_rows < length folded) × (length out ≡ place_size) = rw f at made in
        let is : folded_at net gained lost head pending i ≡ folded = folded_is net gained lost head pending o i h (touched_alerts net gained lost head pending o i h signs s e) in
        omega (arith, over.0, fit, ap length is)
