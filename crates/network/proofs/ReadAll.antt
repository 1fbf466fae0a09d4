-- Reading record after record: what is left to read decides. Assumes nothing.
use mathlib.Core.Path.{◌≡◌, refl, sym, ap, ap₂, ◌∙◌}
use mathlib.Core.Bool.{Bool, true, false}
use mathlib.Core.List.{List, [], ◌∷◌}
use Prim.Native.Nat.{ℕ, ◌+◌, ◌≤◌, ◌<◌}
use native.Mathlib.Omega.{arith}
use lib.ListN.{length, take}
use borrow.Author.Tests.{ne_eqb}
use Rattle.model.specs.Record.{Bytes, kind_at, length_at, is_broken, accepted}
use Rattle.model.specs.Network as model
use Rattle.model.specs.Network.{Item, item_at, record_fault, with_item, no_network, refused_reading, read_records, read_network}
use Rattle.records.proofs.Header.{Whole, whole}
use Rattle.records.proofs.Offsets.{remaining, remaining_all, remaining_none, remaining_broken, remaining_whole}
use Rattle.nodes.specs.Nodes.{number_of}
use Rattle.derived_records.specs.Bodies.{item_of, Fits}
use Rattle.node_records.specs.NodeRecords.{Room, ReadsRecord}
use Rattle.network.specs.Reading.{network_of, Built, Extends, Follows}
use Rattle.nodes.specs.declared.Item as declaredItem
use Rattle.nodes.specs.declared.Item.TheVariants.{Node as NodeBrought, Watch as WatchBrought}
use Rattle.std.specs.Prelude.{Result, Ok}
use Rattle.verdicts.specs.declared.Rule.{Rule}
use lib.Seq.{length-take-le}
use Rattle.network.specs.declared.Network.{Network}

-- a record without a fault is whole
pub fault_whole : (ws signs : List ℕ) (bs : Bytes) (at : ℕ) → 0 ≡ record_fault ws signs bs at → is_broken bs at ≡ false
unfolding record_fault
fault_whole ws signs bs at e = go (is_broken bs at) refl
  where
    go : (t : Bool) → is_broken bs at ≡ t → is_broken bs at ≡ false
    go true f = let z : ◌≡◌ {A = ℕ} 0 3 = rw f at e in absurd (omega arith)
    go false f = f

-- some record starts at an offset before the end
cons_left : (bs : Bytes) (at : ℕ) → at < length bs → (rest : List ℕ) × (remaining bs at ≡ at ∷ rest)
cons_left bs at h = go (is_broken bs at) refl
  where
    go : (t : Bool) → is_broken bs at ≡ t → (rest : List ℕ) × (remaining bs at ≡ at ∷ rest)
    go true e = ([], remaining_broken bs at h e)
    go false e = (remaining bs (at + length_at bs at), remaining_whole bs at h e)

-- a record with a fault ends the reading
refuse : (bs : Bytes) (net : model.Network) (at : ℕ) (rest : List ℕ) (k : ℕ) → 1 ≤ k → k ≡ record_fault (model.widths net.nodes) net.signs bs at → read_records bs net (at ∷ rest)
    ≡ refused_reading k at
unfolding read_records
refuse bs net at rest k h e = rw (← e, ne_eqb k 0 (λ z. omega arith))

-- a record without one is added
advance : (bs : Bytes) (net : model.Network) (at : ℕ) (rest : List ℕ) → 0 ≡ record_fault (model.widths net.nodes) net.signs bs at →
    read_records bs net (at ∷ rest) ≡ read_records bs (with_item net (item_at (kind_at bs at) bs at)) rest
unfolding read_records
advance bs net at rest e = rw (← e)

-- the reading so far
pub record Reached (bs : Bytes) (net : Network) (at : ℕ) : Type 0 where
  pub built : Built net
  pub same : read_network bs ≡ read_records bs (network_of net) (remaining bs at)

pub reached_start : (bs : Bytes) (net : Network) → (length bs ≡ 0 → ⊥) → Built net → network_of net ≡ no_network → Reached bs net 0
unfolding read_network
reached_start [] net h b e = absurd (h refl)
reached_start (x ∷ bs) net h b e =
    record {
      built = b;
      same = ap₂ {A = model.Network} {B = List ℕ} {C = model.Reading} (λ n l. read_records (x ∷ bs) n l) (sym e) (remaining_all (x ∷ bs));
    }

module _ (bs : Bytes) (net : Network) (at : ℕ) (so : Reached bs net at) (inside : at < length bs) (r : Result declaredItem.Item Rule)
    (reads : ReadsRecord (take net.count net.widths) (take net.count net.signs) bs at r) where
  fault : number_of r ≡ record_fault (model.widths (network_of net).nodes) (network_of net).signs bs at
  fault = reads.number ∙ ap (λ (ws : List ℕ). record_fault ws (take net.count net.signs) bs at) so.built.sound.widths

  pub reached_refused : (k : ℕ) → number_of r ≡ k → 1 ≤ k → refused_reading k at ≡ read_network bs
  reached_refused k e h =
      let l : (rest : List ℕ) × (remaining bs at ≡ at ∷ rest) = cons_left bs at inside in
      sym (so.same ∙ ap (read_records bs (network_of net)) l.1 ∙ refuse bs (network_of net) at l.0 k h (sym e ∙ fault))

  pub reached_whole : number_of r ≡ 0 → Whole bs at
  reached_whole e = whole bs at (fault_whole (model.widths (network_of net).nodes) (network_of net).signs bs at (sym e ∙ fault))

  pub reached_next : number_of r ≡ 0 → (net' : Network) (at' : ℕ) → Extends net (item_of r bs at) net' → at' ≡ at + length_at bs at → Reached bs net' at'
  reached_next e net' at' x p =
      let z : 0 ≡ record_fault (model.widths (network_of net).nodes) (network_of net).signs bs at = sym e ∙ fault in
      let w : is_broken bs at ≡ false = fault_whole (model.widths (network_of net).nodes) (network_of net).signs bs at z in
      let added : with_item (network_of net) (item_at (kind_at bs at) bs at) ≡ network_of net' = ap (with_item (network_of net)) (sym (reads.item e)) ∙ sym x.is in
      record {
        built = x.built;
        same = so.same
            ∙ ap (read_records bs (network_of net)) (remaining_whole bs at inside w)
            ∙ advance bs (network_of net) at (remaining bs (at + length_at bs at)) z
            ∙ ap₂ {A = model.Network} {B = ℕ} {C = model.Reading} (λ n k. read_records bs n (remaining bs k)) added (sym p);
      }

pub reached_end : (bs : Bytes) (net : Network) (at : ℕ) → Reached bs net at → length bs ≤ at → record { verdict = accepted; network = network_of net } ≡ read_network bs
unfolding read_records
reached_end bs net at so h = sym (so.same ∙ ap (read_records bs (network_of net)) (remaining_none bs at h))

-- what a record brings can come next
pub follows : (i : declaredItem.Item) (net : Network) (bs : Bytes) (at : ℕ) → Built net → Fits (Ok i) (take net.count net.widths) (take net.count net.signs) bs at →
    Room (Ok i) (take net.count net.widths) → Follows i net bs at
follows (NodeBrought n) net bs at b f r =
    let e : length (take net.count net.widths) ≡ net.count = length-take-le net.count net.widths (omega (arith, b.sound.few, b.widths-length)) in
    (rw e at r, f)
follows (WatchBrought n s p) net bs at b f r =
    let e : length (take net.count net.signs) ≡ net.count = length-take-le net.count net.signs (omega (arith, b.sound.few, b.signs-length)) in
    rw e at f

-- "The network has no bytes"
pub reached_empty : (bs : Bytes) → length bs ≡ 0 → refused_reading 2 0 ≡ read_network bs
unfolding read_network
reached_empty [] h = refl
reached_empty (x ∷ bs) h = absurd (omega arith)
