-- The lines of a batch's nodes: those of a node without change, those past the last node, and all of them. Assumes nothing.
use mathlib.Core.Bool.{Bool, ◌&&◌, false, true}
use mathlib.Core.List.{List, [], ◌∷◌, ◌++◌, append-nil, flat_map, zip_with}
use mathlib.Core.Path.{ap, ap₂, refl, sym, ◌∙◌, ◌≡◌}
use Prim.Native.Nat.{ℕ, zero, suc, ◌+◌, ◌-◌, ◌≤◌, ◌<◌}
use native.Mathlib.Nat.{zero-add}
use native.Mathlib.Numerals.{add-one}
use native.Mathlib.Omega.{arith}
use lib.Dec.{eqb, ltb}
use lib.ListN.{get_or-eq_default, get_or, length}
use borrow.Author.Tests.{eqb-true, ltb-false, ltb-true}
use Rattle.model.specs.Row.{Relation, count_from, numbers_below, max_nodes}
use Rattle.model.specs.Record.{Bytes}
use Rattle.model.specs.Network.{Network, read_network, nodes_in, sign_of, widths}
use Rattle.model.specs.Delta.{Change, change_at, no_change}
use Rattle.model.specs.Areas.{Areas, changes_in, gained_count, held_in, layout, lost_count, relations_in, state_in}
use Rattle.model.specs.Watched.{changes_of}
use Rattle.model.specs.Text.{change_line, node_lines}
use Rattle.laws.proofs.Watched.{none_changed}
use Rattle.laws.proofs.Fits.{length-widths, read_small}
use Rattle.laws.proofs.Parts.{count-split, flat_append}
use Rattle.laws.proofs.Sets.{and_first, and_second}
use Rattle.laws.proofs.Relations.{relation_at, relations_length}
use Rattle.stages.specs.Stages.{state_of}

-- a node without change prints nothing
pub silent : (net : Network) (changes : List Change) (i : ℕ) → change_at changes i ≡ no_change → node_lines net changes i ≡ []
unfolding node_lines flat_map
silent net changes i e = ap (λ (c : Change). flat_map change_line (changes_of (sign_of net i) i c)) e ∙ ap (flat_map change_line) (none_changed (sign_of net i) i)

zip_none : (a b : List Relation) (i : ℕ) → get_or a i [] ≡ [] → get_or b i [] ≡ [] → change_at (zip_with (λ g l. record { gained = g; lost = l }) a b) i ≡ no_change
unfolding zip_with
zip_none [] b i e f = refl
zip_none (x ∷ a) [] i e f = refl
zip_none (x ∷ a) (y ∷ b) zero e f = ap₂ {A = Relation} {B = Relation} {C = Change} (λ g l. record { gained = g; lost = l }) e f
zip_none (x ∷ a) (y ∷ b) (suc i) e f = zip_none a b i e f

none_held : (ws : List ℕ) (count : ℕ → ℕ) (area : List ℕ) (i : ℕ) → (i < length ws → count i ≡ 0) → get_or (relations_in layout ws count area) i [] ≡ []
unfolding held_in
none_held ws count area i z = go (ltb i (length ws)) refl
  where
    go : (t : Bool) → ltb i (length ws) ≡ t → get_or (relations_in layout ws count area) i [] ≡ []
    go true e = let h : i < length ws = ltb-true i (length ws) e in relation_at ws count area i h ∙ ap (λ (n : ℕ). held_in layout (get_or ws i 0) n area i) (z h)
    go false e = get_or-eq_default (relations_in layout ws count area) [] (rw (relations_length ws count area) (ltb-false i (length ws) e))

module _ (net : Bytes) (a : Areas) (i : ℕ) where
  -- no change where both counts are 0, or past the last node
  unchanged_at : (i < length (nodes_in net) → (gained_count a.head i ≡ 0) × (lost_count a.head i ≡ 0)) → change_at (state_of net a).changes i ≡ no_change
  unfolding state_in changes_in
  unchanged_at z =
      let ws : List ℕ = widths (nodes_in net) in
      let inside : i < length (widths (nodes_in net)) →
      i < length (nodes_in net) = λ h. omega (arith, h, length-widths (nodes_in net)) in
      zip_none (relations_in layout ws (gained_count a.head) a.gained) (relations_in layout ws (lost_count a.head) a.lost) i
      (none_held ws (gained_count a.head) a.gained i (λ h. (z (inside h)).0)) (none_held ws (lost_count a.head) a.lost i (λ h. (z (inside h)).1))

  pub silent_unchanged : (eqb (gained_count a.head i) 0 && eqb (lost_count a.head i) 0) ≡ true → node_lines (read_network net).network (state_of net a).changes i ≡ []
  silent_unchanged e =
      let g : eqb (gained_count a.head i) 0 ≡ true = and_first (eqb (gained_count a.head i) 0) (eqb (lost_count a.head i) 0) e in
      let l : eqb (lost_count a.head i) 0 ≡ true = and_second (eqb (gained_count a.head i) 0) (eqb (lost_count a.head i) 0) e in
      silent (read_network net).network (state_of net a).changes i (unchanged_at (λ h. (eqb-true (gained_count a.head i) 0 g, eqb-true (lost_count a.head i) 0 l)))

  pub silent_past : length (nodes_in net) ≤ i → node_lines (read_network net).network (state_of net a).changes i ≡ []
  silent_past p = silent (read_network net).network (state_of net a).changes i (unchanged_at (λ h. absurd (omega (arith, h, p))))

-- ---- all nodes

module _ (net : Bytes) (a : Areas) where
  -- the lines of the nodes from one on
  abbrev pub nodes_from : ℕ → Bytes
  nodes_from i = flat_map (node_lines (read_network net).network (state_of net a).changes) (count_from i (max_nodes - i))

  none_past : (i n : ℕ) → length (nodes_in net) ≤ i → flat_map (node_lines (read_network net).network (state_of net a).changes) (count_from i n) ≡ []
  unfolding flat_map
  none_past i zero h = refl
  none_past i (suc n) h = ap₂ {A = List ℕ} {B = List ℕ} {C = List ℕ} (λ x y. x ++ y) (silent_past net a i h) (none_past (suc i) n (omega (arith, h)))

  pub node-first : (i : ℕ) → i < max_nodes → nodes_from i ≡ node_lines (read_network net).network (state_of net a).changes i ++ nodes_from (i + 1)
  unfolding flat_map
  node-first i h =
      let n : max_nodes - i ≡ suc (max_nodes - (i + 1)) = omega arith in
      rw (n, add-one i)

  pub nodes-over : (i : ℕ) → max_nodes ≤ i → nodes_from i ≡ []
  unfolding flat_map
  nodes-over i h = let z : max_nodes - i ≡ 0 = omega arith in rw z

  pub nodes_all : flat_map (node_lines (read_network net).network (state_of net a).changes) (numbers_below (length (nodes_in net))) ≡ nodes_from 0
  nodes_all =
      let n : ℕ = length (nodes_in net) in
      let f : ℕ → Bytes = node_lines (read_network net).network (state_of net a).changes in
      let all : max_nodes ≡ n + (max_nodes - n) = omega (arith, (read_small net).few) in
      let split : count_from 0 max_nodes ≡ count_from 0 (length (nodes_in net)) ++ count_from (length (nodes_in net))
      (max_nodes - length (nodes_in net)) =
      ap (count_from 0) all ∙ count-split 0 n (max_nodes - n) ∙ ap (λ (k : ℕ). count_from 0 n ++ count_from k (max_nodes - n)) (zero-add n) in
      sym (append-nil (flat_map f (count_from 0 n)))
      ∙ ap (λ (l : List ℕ). flat_map f (count_from 0 n) ++ l) (sym (none_past n (max_nodes - n) (omega arith)))
      ∙ sym (flat_append f (count_from 0 n) (count_from n (max_nodes - n)))
      ∙ ap (flat_map f) (sym split)
