use mathlib.Core.List.{List}
use mathlib.Core.Bool.{true}
use mathlib.Core.Path.{◌≡◌}
use Prim.Native.Nat.{ℕ}
use lib.ListN.{get_or}
use Rattle.evaluation.specs.declared.Held.{Held}
use Rattle.areas.specs.Lent.{place_at}
use Rattle.coherence.specs.Held.{Derived, Places, held_at}
use Rattle.places.specs.Places.{Place, relation_in}
use Rattle.network.specs.declared.Slot.{Slot}
use Rattle.model.specs.Network.{fits_on, left_of, right_of}
use Rattle.coherence.proofs.Placed.{held_at_lem, place_at_lem}
use Rattle.model.specs.Areas.{row_count}
use Rattle.network.specs.Reading.{slot_node}
use Rattle.coherence.proofs.evaluate_held.Goals as goal

as-held : (slot : Slot) (ws head rows : List ℕ) (n l r : ℕ) (lh rh : Held) → Places ws n rows head → Derived slot ws n → l ≡ left_of (slot_node slot) → r ≡ right_of (slot_node slot) →
    lh ≡ record { width = get_or ws l 0; count = row_count head l } → rh ≡ record { width = get_or ws r 0; count = row_count head r } →
    Place lh.width (place_at rows l) lh.count × Place rh.width (place_at rows r) rh.count × (fits_on lh.width rh.width (slot_node slot) ≡ true)
    × (relation_in lh.width (place_at rows l) lh.count ≡ held_at ws head rows (left_of (slot_node slot)))
    × (relation_in rh.width (place_at rows r) rh.count ≡ held_at ws head rows (right_of (slot_node slot)))
as-held slot ws head rows n l r lh rh p d el er ewl ewr =
    rw (ewl, ewr, el, er) (
      place_at_lem ws n rows head p (left_of (slot_node slot)) d.left,
      place_at_lem ws n rows head p (right_of (slot_node slot)) d.right,
      d.fits,
      held_at_lem ws n rows head p (left_of (slot_node slot)) d.left,
      held_at_lem ws n rows head p (right_of (slot_node slot)) d.right,
    )

pub evaluate-requires : goal.evaluate-requires
evaluate-requires c =
    let a = c.args in
    let s = as-held a.slot a.widths.now a.head.now a.rows.now a.n c.inputs_of-inputs.result.left
    c.inputs_of-inputs.result.right c.held-left.result c.held-right.result
    c.requires.0
    c.requires.1 c.inputs_of-inputs.ensures.left
    c.inputs_of-inputs.ensures.right c.held-left.ensures c.held-right.ensures in (
      c.requires.1.shaped,
      s.0,
      s.1,
      s.2,
      c.requires.2,
    )

pub returns : goal.returns
returns c =
    let a = c.args in
    let s = as-held a.slot a.widths.now a.head.now a.rows.now a.n c.inputs_of-inputs.result.left
    c.inputs_of-inputs.result.right c.held-left.result
    c.held-right.result
    c.requires.0
    c.requires.1
    c.inputs_of-inputs.ensures.left c.inputs_of-inputs.ensures.right
    c.held-left.ensures c.held-right.ensures in
    rw (← s.3, ← s.4) c.evaluate.ensures
