-- A node's gained and lost rows in the areas. Assumes nothing.
use mathlib.Core.List.{List, [], zip_with, ◌∷◌}
use mathlib.Core.Path.{ap, ap₂, refl, ◌∙◌, ◌≡◌}
use Prim.Native.Nat.{◌<◌, suc, zero, ℕ}
use native.Mathlib.Nat.{le_of_suc-le-suc, not-suc-le-zero}
use lib.ListN.{get_or, length}
use Rattle.network.specs.declared.Network.{Network}
use Rattle.model.specs.Areas.{Areas, changes_in, gained_count, held_in, layout, lost_count, relations_in}
use Rattle.network.specs.Reading.{Built, nodes_of}
use Rattle.model.specs.Delta.{Change, change_at}
use Rattle.admission.specs.Admission.{change_in}
use Rattle.model.specs.Row.{Relation}
use Rattle.model.specs.Network.{Node, widths}
use Rattle.laws.proofs.Fits.{length-widths}
use Rattle.network.proofs.Nodes.{nodes-count, width_is}
use Rattle.laws.proofs.Relations.{relation_at, relations_length}
use Rattle.areas.specs.Lent.{lent}

zip_at : (a b : List Relation) (i : ℕ) → i < length a → i < length b → change_at (zip_with (λ g l. record { gained = g; lost = l }) a b) i
    ≡ record { gained = get_or a i []; lost = get_or b i [] }
unfolding zip_with
zip_at [] b i h g = absurd (not-suc-le-zero h)
zip_at (x ∷ a) [] i h g = absurd (not-suc-le-zero g)
zip_at (x ∷ a) (y ∷ b) zero h g = refl
zip_at (x ∷ a) (y ∷ b) (suc i) h g = zip_at a b i (le_of_suc-le-suc h) (le_of_suc-le-suc g)

-- in a list of nodes
module _ (nodes : List Node) (a : Areas) (node : ℕ) (h : node < length (widths nodes)) where
  -- an area's rows of the node, by its counts
  abbrev held : (ℕ → ℕ) → List ℕ → Relation
  held count area = held_in layout (get_or (widths nodes) node 0) (count node) area node

  inside : (count : ℕ → ℕ) (area : List ℕ) → node < length (relations_in layout (widths nodes) count area)
  inside count area = rw (relations_length (widths nodes) count area) h

  pub change_held : change_at (changes_in layout nodes a) node ≡ record {
    gained = held_in layout (get_or (widths nodes) node 0) (gained_count a.head node) a.gained node;
    lost = held_in layout (get_or (widths nodes) node 0) (lost_count a.head node) a.lost node;
  }
  unfolding changes_in
  change_held =
      zip_at (relations_in layout (widths nodes) (gained_count a.head) a.gained) (relations_in layout (widths nodes) (lost_count a.head) a.lost) node
      (inside (gained_count a.head) a.gained) (inside (lost_count a.head) a.lost)
      ∙ ap₂ {A = Relation} {B = Relation} {C = Change} (λ x y. record { gained = x; lost = y })
      (relation_at (widths nodes) (gained_count a.head) a.gained node h) (relation_at (widths nodes) (lost_count a.head) a.lost node h)

-- in a network that was read, the rows not looked at
pub change_at_lem : (net : Network) (b : Built net) (node : ℕ) (gained lost head : List ℕ) → node < net.count →
    change_at (changes_in layout (nodes_of net) (lent [] gained lost head)) node ≡ change_in net node gained lost head
change_at_lem net b node gained lost head h =
    change_held (nodes_of net) (lent [] gained lost head) node (rw (length-widths (nodes_of net), nodes-count net b) h)
    ∙ ap (λ (w : ℕ). record { gained = held_in layout w (gained_count head node) gained node; lost = held_in layout w (lost_count head node) lost node }) (width_is net b node h)
