-- Areas whose rows are of good form: coherence judged node by node. Assumes nothing.
use mathlib.Core.Bool.{Bool, false, true, cond}
use mathlib.Core.List.{List}
use mathlib.Core.Path.{ap, refl, sym, ◌∙◌, ◌≡◌}
use Prim.Native.Nat.{◌<◌, suc, ℕ}
use native.Mathlib.Nat.{zero-add}
use native.Mathlib.Omega.{arith}
use lib.ListN.{get_or, length, take}
use Rattle.laws.proofs.All.{all_below, below_all}
use Rattle.model.specs.Network.{AllFit, is_table, node_at, widths, highest, inputs_of, levels}
use Rattle.network.specs.declared.Network.{Network}
use Rattle.network.specs.Reading.{Built, no_slot, nodes_of, slot_node}
use Rattle.coherence.specs.Held.{Derived, fresh_in, held_at, rows_held, slot_agrees}
use Rattle.model.specs.Row.{all_of, numbers_below}
use Rattle.network.specs.declared.Slot.{Slot}
use Rattle.laws.proofs.Fresh.{agree_at, columns-fit, fresh_checked, inputs_before, width_at}
use Rattle.laws.proofs.Sets.{bool_same}
use Rattle.model.specs.Network.{fits_on, left_of, right_of, width_on}
use Rattle.model.specs.Areas.{held_in, layout, row_count}
use Rattle.laws.proofs.Fits.{length-widths}
use Rattle.model.specs.Evaluation.{rows_at}
use Rattle.laws.proofs.Relations.{relation_at, relations_length}
use Rattle.network.proofs.Nodes.{level_at, nodes-count, slot_node_lem, width_is}

-- two tests that say the same of the numbers below n
all_same : (p q : ℕ → Bool) (n : ℕ) → ((j : ℕ) → j < n → p j ≡ q j) → all_of p (numbers_below n) ≡ all_of q (numbers_below n)
all_same p q n f =
    bool_same (all_of p (numbers_below n)) (all_of q (numbers_below n))
    (λ e. below_all q 0 n (λ j h. rw (zero-add j) (sym (f j h) ∙ ap p (sym (zero-add j)) ∙ all_below p 0 n e j h)))
    (λ e. below_all p 0 n (λ j h. rw (zero-add j) (f j h ∙ ap q (sym (zero-add j)) ∙ all_below q 0 n e j h)))

module _ (net : Network) (b : Built net) (fit : AllFit (nodes_of net)) where
  -- a derived node of a network that reading accepts
  pub derived_at : (i : ℕ) → i < net.count → is_table (slot_node (get_or net.slots i no_slot)) ≡ false → Derived (get_or net.slots i no_slot) net.widths i
  derived_at i h e =
      let slot : Slot = get_or net.slots i no_slot in
      let node : node_at (nodes_of net) i ≡ slot_node (get_or net.slots i no_slot) = slot_node_lem net b i h in
      let k : i < length (nodes_of net) = rw (nodes-count net b) h in
      let e' : is_table (node_at (nodes_of net) i) ≡ false = ap is_table node ∙ e in
      let before : (left_of (node_at (nodes_of net) i) < i) × (right_of (node_at (nodes_of net) i) < i) = inputs_before (nodes_of net) fit i k e' in
      let left : left_of (slot_node (get_or net.slots i no_slot)) < i = rw node at before.0 in
      let right : right_of (slot_node (get_or net.slots i no_slot)) < i = rw node at before.1 in
      let columns : fits_on (get_or (widths (nodes_of net)) (left_of (slot_node (get_or net.slots i no_slot))) 0) (get_or (widths (nodes_of net)) (right_of (slot_node (get_or net.slots i no_slot))) 0)
      (slot_node (get_or net.slots i no_slot)) ≡ true =
      rw node at (columns-fit (nodes_of net) fit i k e') in
      let width : get_or (widths (nodes_of net)) i 0 ≡ width_on (get_or (widths (nodes_of net)) (left_of (slot_node (get_or net.slots i no_slot))) 0) (slot_node (get_or net.slots i no_slot)) = rw node
      at (width_at (nodes_of net) fit i k e') in
      record {
        shaped = b.shaped i h;
        derived = e;
        left = left;
        right = right;
        fits = rw (← width_is net b (left_of (slot_node (get_or net.slots i no_slot))) (omega arith), ← width_is net b (right_of (slot_node (get_or net.slots i no_slot))) (omega arith)) columns;
        width =
            sym (width_is net b i h)
            ∙ width
            ∙ ap (λ (x : ℕ). width_on x (slot_node (get_or net.slots i no_slot))) (width_is net b (left_of (slot_node (get_or net.slots i no_slot))) (omega arith));
      }

  pub level_table : (i : ℕ) → i < net.count → get_or net.levels i 0 ≡ 0 → is_table (slot_node (get_or net.slots i no_slot)) ≡ true
  level_table i h z = go (is_table (slot_node (get_or net.slots i no_slot))) (sym (level_at net b i h) ∙ z)
    where
      go : (t : Bool) → cond t 0 (suc (highest (take i (levels (nodes_of net))) (inputs_of (slot_node (get_or net.slots i no_slot))))) ≡ 0 → t ≡ true
      go true e = refl
      go false e = absurd (omega arith)

  pub level_derived : (i : ℕ) → i < net.count → (get_or net.levels i 0 ≡ 0 → ⊥) → Derived (get_or net.slots i no_slot) net.widths i
  level_derived i h n = go (is_table (slot_node (get_or net.slots i no_slot))) refl
    where
      go : (t : Bool) → is_table (slot_node (get_or net.slots i no_slot)) ≡ t → Derived (get_or net.slots i no_slot) net.widths i
      go true e = absurd (n (level_at net b i h ∙ ap (λ (t : Bool). cond t 0 (suc (highest (take i (levels (nodes_of net))) (inputs_of (slot_node (get_or net.slots i no_slot)))))) e))
      go false e = derived_at i h e

  module _ (rows head : List ℕ) where
    pub rows-length : length (rows_held net rows head) ≡ length (nodes_of net)
    rows-length = relations_length (widths (nodes_of net)) (row_count head) rows ∙ length-widths (nodes_of net)

    pub rows_held_lem : (i : ℕ) → i < net.count → rows_at (rows_held net rows head) i ≡ held_at net.widths head rows i
    rows_held_lem i h =
        relation_at (widths (nodes_of net)) (row_count head) rows i (rw (length-widths (nodes_of net), nodes-count net b) h)
        ∙ ap (λ (w : ℕ). held_in layout w (row_count head i) rows i) (width_is net b i h)

    -- what is checked of node i
    abbrev pub agrees_here : ℕ → Bool
    agrees_here i = slot_agrees (get_or net.slots i no_slot) net.widths head rows i

    agrees_same : (i : ℕ) → i < net.count → agrees_here i ≡ agree_at (nodes_of net) fit (rows_held net rows head) rows-length i
    agrees_same i h = go (is_table (slot_node (get_or net.slots i no_slot))) refl
      where
        node : node_at (nodes_of net) i ≡ slot_node (get_or net.slots i no_slot)
        node = slot_node_lem net b i h

        go : (t : Bool) → is_table (slot_node (get_or net.slots i no_slot)) ≡ t → agrees_here i ≡ agree_at (nodes_of net) fit (rows_held net rows head) rows-length i
        go true e = rw (node, e)
        go false e =
            let d : Derived (get_or net.slots i no_slot) net.widths i = derived_at i h e in
            rw (
              node,
              e,
              rows_held_lem i h,
              rows_held_lem (left_of (slot_node (get_or net.slots i no_slot))) (omega (arith, d.left)),
              rows_held_lem (right_of (slot_node (get_or net.slots i no_slot)))
                  (omega (arith, d.right)),
            )

    pub coherent_is : all_of agrees_here (numbers_below net.count) ≡ fresh_in net rows head
    coherent_is =
        all_same agrees_here (agree_at (nodes_of net) fit (rows_held net rows head) rows-length) net.count agrees_same
        ∙ ap (λ (n : ℕ). all_of (agree_at (nodes_of net) fit (rows_held net rows head) rows-length) (numbers_below n)) (sym (nodes-count net b))
        ∙ fresh_checked (nodes_of net) fit (rows_held net rows head) rows-length
