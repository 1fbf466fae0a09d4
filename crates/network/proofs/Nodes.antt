-- A network that was built, node by node: its slots, widths and levels are those of the model's nodes. Assumes nothing.
use mathlib.Core.Bool.{Bool, cond, false, true}
use mathlib.Core.List.{List, [], map, ◌∷◌}
use mathlib.Core.Path.{ap, refl, sym, ◌∙◌, ◌≡◌}
use Prim.Native.Nat.{◌<◌, suc, zero, ℕ, ◌≤◌, zero-le}
use native.Mathlib.Nat.{le_of_suc-le-suc, not-suc-le-zero}
use native.Mathlib.Omega.{arith}
use lib.ListN.{get_or, length, take, length-map, get_or-eq_default}
use lib.Seq.{get_or-take, length-take-le}
use lib.Dec.{ltb}
use borrow.Author.Tests.{ltb-true, ltb-false}
use Rattle.model.specs.Row.{max_width}
use Rattle.model.specs.Network.{Node, highest, inputs_of, is_table, level_of, levels, node_at, table, widths}
use Rattle.laws.proofs.Build.{build_at}
use Rattle.laws.proofs.Fits.{length-widths}
use Rattle.network.specs.declared.Network.{Network}
use Rattle.network.specs.declared.Slot.{Slot}
use Rattle.network.specs.Reading.{Built, no_slot, nodes_of, slot_node}

get_d_map : (l : List Slot) (i : ℕ) → i < length l → get_or (map slot_node l) i (table 0) ≡ slot_node (get_or l i no_slot)
get_d_map [] i h = absurd (not-suc-le-zero h)
get_d_map (x ∷ l) zero h = refl
get_d_map (x ∷ l) (suc i) h = get_d_map l i (le_of_suc-le-suc h)

module _ (net : Network) (b : Built net) where
  pub nodes-count : length (nodes_of net) ≡ net.count
  nodes-count = length-map (take net.count net.slots) slot_node ∙ length-take-le net.count net.slots (omega (arith, b.sound.few, b.slots_length))

  pub slot_node_lem : (i : ℕ) → i < net.count → node_at (nodes_of net) i ≡ slot_node (get_or net.slots i no_slot)
  slot_node_lem i h =
      get_d_map (take net.count net.slots) i (rw (length-take-le net.count net.slots (omega (arith, b.sound.few, b.slots_length))) h)
      ∙ ap slot_node (get_or-take net.count net.slots i no_slot h)

  -- a width of the model's network is that of the array
  pub width_is : (i : ℕ) → i < net.count → get_or (widths (nodes_of net)) i 0 ≡ get_or net.widths i 0
  width_is i h = ap (λ (l : List ℕ). get_or l i 0) (sym b.sound.widths) ∙ get_or-take net.count net.widths i 0 h

  pub narrow-widths : (i : ℕ) → get_or (widths (nodes_of net)) i 0 ≤ max_width
  narrow-widths i = go (ltb i net.count) refl
    where
      go : (t : Bool) → ltb i net.count ≡ t → get_or (widths (nodes_of net)) i 0 ≤ max_width
      go true e = rw (width_is i (ltb-true i net.count e)) (b.narrow i)
      go false e = rw (get_or-eq_default (widths (nodes_of net)) 0 {n = i} (rw (length-widths (nodes_of net), nodes-count) (ltb-false i net.count e))) zero-le

  -- a node's level is 0 exactly if it is a table
  pub level_at : (i : ℕ) → i < net.count → get_or net.levels i 0
      ≡ cond (is_table (slot_node (get_or net.slots i no_slot))) 0 (suc (highest (take i (levels (nodes_of net))) (inputs_of (slot_node (get_or net.slots i no_slot)))))
  unfolding levels
  level_at i h =
      let k : i < length (nodes_of net) = rw (nodes-count) h in
      sym (get_or-take net.count net.levels i 0 h)
      ∙ ap (λ (l : List ℕ). get_or l i 0) b.sound.levels
      ∙ build_at level_of i (nodes_of net) 0 k
      ∙ ap (λ (n : Node). level_of n (take i (levels (nodes_of net)))) (slot_node_lem i h)
