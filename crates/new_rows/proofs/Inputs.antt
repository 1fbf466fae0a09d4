-- A derived node's inputs, as they are read for it. Assumes nothing.
-- what stands at the places that are read are the inputs' present rows
use Prim.Native.Nat.{ℕ}
use mathlib.Core.List.{List}
use mathlib.Core.Path.{◌≡◌, refl}
use lib.ListN.{get_or}
use mathlib.Core.Bool.{true}
use Rattle.new_rows.specs.Working.{Working, present_place, Present, present_rows}
use Rattle.model.specs.Network.{left_of, right_of, fits_on}
use Rattle.network.specs.Reading.{slot_node}
use Rattle.places.specs.Places.{Place, relation_in}
use Rattle.network.specs.declared.Slot.{Slot}

pub as_present : (slot : Slot) (m : Working) (l r : ℕ) (from with : List ℕ) → l ≡ left_of (slot_node slot) → r ≡ right_of (slot_node slot) → from ≡ present_place m l → with ≡ present_place m r →
    Present m (left_of (slot_node slot)) → Present m (right_of (slot_node slot)) → fits_on (get_or m.widths (left_of (slot_node slot)) 0) (get_or m.widths (right_of (slot_node slot)) 0)
    (slot_node slot) ≡ true →
    Place (get_or m.widths l 0) from (get_or m.counts l 0) × Place (get_or m.widths r 0) with (get_or m.counts r 0)
    × (fits_on (get_or m.widths l 0) (get_or m.widths r 0) (slot_node slot) ≡ true)
    × (relation_in (get_or m.widths l 0) from (get_or m.counts l 0) ≡ present_rows m (left_of (slot_node slot)))
    × (relation_in (get_or m.widths r 0) with (get_or m.counts r 0) ≡ present_rows m (right_of (slot_node slot)))
as_present slot m l r from with el er ef ew pl pr f =
    (rw (ef, el) pl, rw (ew, er) pr, rw (el, er) f, rw (ef, el) refl, rw (ew, er) refl)
