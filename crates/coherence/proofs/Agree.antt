-- A node's rows against what its kind gives. Assumes nothing.
use mathlib.Core.Bool.{Bool, false}
use mathlib.Core.List.{List}
use mathlib.Core.Path.{ap₂, ◌∙◌, ◌≡◌}
use Prim.Native.Nat.{◌+◌, ◌<◌, ℕ, ◌≤◌}
use native.Mathlib.Omega.{arith}
use lib.ListN.{get_or, length}
use Rattle.model.specs.Row.{Relation, same_rows, max_rows, Wide}
use Rattle.model.specs.Areas.{layout, row_count}
use Rattle.model.specs.Network.{left_of, right_of}
use Rattle.laws.proofs.ByKind.{on_wide, on_asc}
use Rattle.laws.proofs.Sets.{Ascending, ascending-holds}
use Rattle.rows.proofs.Place.{held_wide}
use Rattle.network.specs.declared.Slot.{Slot}
use Rattle.network.specs.Reading.{slot_node}
use Rattle.places.specs.Places.{Place, Fills, relation_in}
use Rattle.places.proofs.Places.{place-ascending}
use Rattle.places.proofs.Same.{fills_place, sizes_differ}
use Rattle.areas.specs.Lent.{place_at}
use Rattle.coherence.specs.Held.{Derived, Places, given_at, held_at}
use Rattle.coherence.proofs.Placed.{rows_few, place_at_lem, held_at_lem}

-- the same with fewer nodes
pub fewer : (ws : List ℕ) (n m : ℕ) (rows head : List ℕ) → m ≤ n → Places ws n rows head → Places ws m rows head
fewer ws n m rows head h p =
    record {
      few = omega (arith, p.few);
      widths-long = omega (arith, p.widths-long);
      narrow = p.narrow;
      rows_long = p.rows_long;
      head-long = p.head-long;
      good = λ i k. p.good i (omega arith);
    }

module _ (slot : Slot) (ws rows head : List ℕ) (i : ℕ) (p : Places ws (i + 1) rows head) (d : Derived slot ws i) where
  here : i < i + 1
  here = omega arith

  wide_given : Wide (get_or ws i 0) (given_at slot ws head rows)
  wide_given =
      rw d.width
      (on_wide (get_or ws (left_of (slot_node slot)) 0) (get_or ws (right_of (slot_node slot)) 0) (slot_node slot) (held_at ws head rows (left_of (slot_node slot)))
      (held_at ws head rows (right_of (slot_node slot))) d.derived d.fits
      (held_wide layout (get_or ws (left_of (slot_node slot)) 0) (row_count head (left_of (slot_node slot))) rows (left_of (slot_node slot)))
      (held_wide layout (get_or ws (right_of (slot_node slot)) 0) (row_count head (right_of (slot_node slot))) rows (right_of (slot_node slot))))

  ascend_given : Ascending (given_at slot ws head rows)
  ascend_given =
      let left : left_of (slot_node slot) < i + 1 = omega (arith, d.left) in
      on_asc (slot_node slot) (held_at ws head rows (left_of (slot_node slot))) (held_at ws head rows (right_of (slot_node slot)))
      (ascending-holds (held_at ws head rows (left_of (slot_node slot)))
      (rw (← held_at_lem ws (i + 1) rows head p (left_of (slot_node slot)) left)
      (place-ascending (get_or ws (left_of (slot_node slot)) 0) (place_at rows (left_of (slot_node slot))) (row_count head (left_of (slot_node slot)))
      (place_at_lem ws (i + 1) rows head p (left_of (slot_node slot)) left))))

  -- what the kind gives stands in a place: the answer about both places is that about both relations
  pub places-agree : (out : List ℕ) (count : ℕ) (t : Bool) → Fills (given_at slot ws head rows) out count →
      ((w : ℕ) → Place w (place_at rows i) (row_count head i) → Place w out count → t ≡ same_rows (relation_in w (place_at rows i) (row_count head i)) (relation_in w out count)) →
      t ≡ same_rows (held_at ws head rows i) (given_at slot ws head rows)
  places-agree out count t f same =
      let given = fills_place (get_or ws i 0) (given_at slot ws head rows) out count (p.narrow i) wide_given ascend_given f in
      same (get_or ws i 0) (place_at_lem ws (i + 1) rows head p i here) given.0
      ∙ ap₂ {A = Relation} {B = Relation} {C = Bool} same_rows (held_at_lem ws (i + 1) rows head p i here) given.1

  -- too many: other rows
  pub over_differs : max_rows < length (given_at slot ws head rows) → same_rows (held_at ws head rows i) (given_at slot ws head rows) ≡ false
  over_differs o = sizes_differ (held_at ws head rows i) (given_at slot ws head rows) (λ g. absurd (omega (arith, o, g, rows_few ws (i + 1) rows head p i here)))
