-- The list that is made is the order's worked list. Assumes nothing.
use Prim.Native.Nat.{ℕ, ◌≤◌, ◌<◌, ◌+◌, ◌-◌}
use mathlib.Core.Bool.{Bool, ◌||◌, false, true, ◌&&◌}
use mathlib.Core.Path.{◌≡◌, refl, ap₂, sym, ◌∙◌, ap}
use mathlib.Core.List.{List, [], flat_map}
use native.Mathlib.Omega.{arith}
use lib.ListN.{length, get_or}
use lib.Seq.{get_or-take}
use lib.Dec.{eqb}
use borrow.Author.Tests.{eqb-true}
use Rattle.model.specs.Row.{keep, count_from, numbers_below}
use Rattle.model.specs.Network.{Node, is_table, AllFit, levels, node_at, left_of, right_of}
use Rattle.model.specs.Delta.{Change, change_at, is_changed}
use Rattle.model.specs.Station.{has_changed_input, worked_list, worked_at_level}
use Rattle.network.specs.declared.Network.{Network}
use Rattle.network.specs.Reading.{nodes_of, Built, slot_node, no_slot}
use Rattle.coherence.specs.Held.{Derived}
use Rattle.coherence.proofs.Coherent.{level_table, level_derived}
use Rattle.network.proofs.Nodes.{nodes-count, slot_node_lem}
use Rattle.laws.proofs.Inputs.{inputs_none, inputs_some}
use Rattle.laws.proofs.Parts.{keep_same}
use Rattle.worklist.specs.Listed.{input_changed, due_list, level_list, is_of_level}
use Rattle.worklist.proofs.Listing.{keep_none, flat_same, flat_first}

-- marks that say which nodes' changes are not empty
module _ (net : Network) (b : Built net) (fit : AllFit (nodes_of net)) (changes : List Change) (changed : List Bool)
    (flag : (i : ℕ) → i < net.count → get_or changed i false ≡ is_changed (change_at changes i)) where
  many : length (nodes_of net) ≡ net.count
  many = nodes-count net b

  level_is : (i : ℕ) → i < net.count → get_or (levels (nodes_of net)) i 0 ≡ get_or net.levels i 0
  level_is i h = ap (λ (l : List ℕ). get_or l i 0) (sym b.sound.levels) ∙ get_or-take net.count net.levels i 0 h

  -- a derived node with a changed input
  derived_is : (i : ℕ) → i < net.count → (get_or net.levels i 0 ≡ 0 → ⊥) → input_changed (get_or net.slots i no_slot) changed ≡ has_changed_input (nodes_of net) changes i
  derived_is i h n =
      let node : node_at (nodes_of net) i ≡ slot_node (get_or net.slots i no_slot) = slot_node_lem net b i h in
      let d : Derived (get_or net.slots i no_slot) net.widths i = level_derived net b fit i h n in
      ap₂ {A = Bool} {B = Bool} {C = Bool} (λ x y. x || y)
      (flag (left_of (slot_node (get_or net.slots i no_slot))) (omega (arith, h, d.left)))
      (flag (right_of (slot_node (get_or net.slots i no_slot))) (omega (arith, h, d.right)))
      ∙ ap (λ (x : Node). is_changed (change_at changes (left_of x)) || is_changed (change_at changes (right_of x))) (sym node)
      ∙ sym (inputs_some (node_at (nodes_of net) i) (λ j. is_changed (change_at changes j)) (ap is_table node ∙ d.derived))

  -- a table has none
  table_is : (i : ℕ) → i < net.count → get_or net.levels i 0 ≡ 0 → has_changed_input (nodes_of net) changes i ≡ false
  table_is i h z =
      inputs_none (node_at (nodes_of net) i) (λ j. is_changed (change_at changes j)) (ap is_table (slot_node_lem net b i h) ∙ level_table net b fit i h z)

  -- so level 0 has no entry
  tables_none : worked_at_level (nodes_of net) changes 0 ≡ []
  unfolding worked_at_level
  tables_none =
      keep_none (λ i. eqb (get_or (levels (nodes_of net)) i 0) 0 && has_changed_input (nodes_of net) changes i) 0 (length (nodes_of net))
      (λ i a h. let k : i < net.count = omega (arith, many) in go i k (eqb (get_or (levels (nodes_of net)) i 0) 0) refl)
    where
      go : (i : ℕ) → i < net.count → (t : Bool) → eqb (get_or (levels (nodes_of net)) i 0) 0 ≡ t → (t && has_changed_input (nodes_of net) changes i) ≡ false
      go i k true e = table_is i k (sym (level_is i k) ∙ eqb-true (get_or (levels (nodes_of net)) i 0) 0 e)
      go i k false e = refl

  -- the list made of marks that say of each derived node whether an input changed is the order's, whatever they say of tables
  pub worked-are : (due : List Bool) →
      ((i : ℕ) → i < net.count → (get_or net.levels i 0 ≡ 0 → ⊥) → get_or due i false ≡ input_changed (get_or net.slots i no_slot) changed) →
      due_list net.levels due net.count ≡ worked_list (nodes_of net) changes
  unfolding worked_list worked_at_level
  worked-are due f =
      flat_same (level_list net.levels due net.count) (worked_at_level (nodes_of net) changes) 1 (net.count - 1) same
      ∙ ap (λ (n : ℕ). flat_map (worked_at_level (nodes_of net) changes) (count_from 1 (n - 1))) (sym many)
      ∙ sym (flat_first (worked_at_level (nodes_of net) changes) (length (nodes_of net)) tables_none)
    where
      marked : (l i : ℕ) → 1 ≤ l → i < net.count → is_of_level net.levels due l i ≡ (eqb (get_or (levels (nodes_of net)) i 0) l && has_changed_input (nodes_of net) changes i)
      marked l i a k = go (eqb (get_or net.levels i 0) l) refl ∙ ap (λ (x : ℕ). eqb x l && has_changed_input (nodes_of net) changes i) (sym (level_is i k))
        where
          go : (t : Bool) → eqb (get_or net.levels i 0) l ≡ t → (t && get_or due i false) ≡ (t && has_changed_input (nodes_of net) changes i)
          go true e =
              let derived : get_or net.levels i 0 ≡ 0 → ⊥ = λ z. absurd (omega (arith, eqb-true (get_or net.levels i 0) l e)) in
              f i k derived ∙ derived_is i k derived
          go false e = refl

      same : (l : ℕ) → 1 ≤ l → l < 1 + (net.count - 1) → level_list net.levels due net.count l ≡ worked_at_level (nodes_of net) changes l
      same l a h =
          keep_same (is_of_level net.levels due l) (λ i. eqb (get_or (levels (nodes_of net)) i 0) l && has_changed_input (nodes_of net) changes i) 0 net.count
          (λ i z k. marked l i a (omega arith))
          ∙ ap (λ (n : ℕ). keep (λ i. eqb (get_or (levels (nodes_of net)) i 0) l && has_changed_input (nodes_of net) changes i) (numbers_below n)) (sym many)
