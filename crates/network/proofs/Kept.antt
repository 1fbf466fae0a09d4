-- Numbers stored one after the other, with zeros behind them. Assumes nothing.
use mathlib.Core.Path.{◌≡◌, sym, ap, ap₂, ◌∙◌}
use mathlib.Core.List.{List, ◌++◌}
use Prim.Native.Nat.{ℕ, ◌+◌, ◌*◌, ◌-◌, ◌≤◌}
use native.Mathlib.Omega.{arith}
use lib.ListN.{length, length-append, take, drop, replicate, take-append-drop, length-drop, length-replicate}
use lib.Seq.{length-take-le, ext_get_or, get_or-drop}
use Rattle.model.specs.Areas.{padded}
use Rattle.model.specs.Algebra.{Pair}
use Rattle.model.specs.Network.{pairs_at, max_pairs}
use Rattle.model.specs.Record.{Bytes, fields_at}
use Rattle.rows.proofs.Padding.{take-padded}
use Rattle.derived_records.proofs.Lists.{length-fields_at_lem, pairs-fields, pairs-take}
use Rattle.nodes.specs.Nodes.{lists_of, node_of, pairs_of, with_lists}
use Rattle.derived_records.specs.Bodies.{ListsFit, node_in_record}
use Rattle.nodes.specs.declared.Node.{Node}
use Rattle.network.specs.Reading.{Ends, Shaped}
use Rattle.network.proofs.Building.{zero_at}
use Rattle.model.specs.Network as model
use Rattle.model.specs.Row.{max_width}

-- a list that ends in zeros is its first numbers, padded
pub ends_padded : (n count : ℕ) (l : List ℕ) → length l ≡ n → count ≤ n → Ends count l → l ≡ padded n (take count l)
ends_padded n count l e h z =
    let rest : drop count l ≡ replicate (n - count) 0 =
    ext_get_or 0 (drop count l) (replicate (n - count) 0) (length-drop count l ∙ rw length-replicate (omega arith))
    (λ i b. get_or-drop count l i 0 ∙ z (count + i) (omega arith) ∙ sym (zero_at (n - count) i)) in
    let size : length (take count l) ≡ count = length-take-le count l (omega arith) in
    sym (take-append-drop count l) ∙ ap (λ (r : List ℕ). take count l ++ r) (rest ∙ ap (λ (k : ℕ). replicate (n - k) 0) (sym size))

-- fields of a record, padded to as many as a slot has
module _ (most : ℕ) (bs : Bytes) (at k n : ℕ) (r : List ℕ) (few : n ≤ most) (e : r ≡ padded most (fields_at bs at k n)) where
  pub fields-first : take n r ≡ fields_at bs at k n
  fields-first = ap (take n) e ∙ take-padded most n (fields_at bs at k n) (length-fields_at_lem bs at k n)

  pub fields-length : length r ≡ most
  fields-length =
      ap length e
      ∙ length-append (fields_at bs at k n) (replicate (most - length (fields_at bs at k n)) 0)
      ∙ rw (length-replicate {A = ℕ}, length-fields_at_lem) (omega arith)

-- a node with the lists of its record
pub slot_is : (n : Node) (bs : Bytes) (at : ℕ) (columns pairs : List ℕ) → ListsFit (lists_of n) bs at →
    columns ≡ padded max_width (fields_at bs at ((lists_of n).from + 2 * (lists_of n).pairs) (lists_of n).columns) → pairs ≡ padded (2 * max_pairs) (fields_at bs at 3 (2 * (lists_of n).pairs)) →
    (node_of n columns pairs ≡ node_in_record n bs at) × Shaped (record { node = n; columns = columns; pairs = pairs })
slot_is n bs at columns pairs fit ec ep =
    let p : ℕ = (lists_of n).pairs in
    let k : ℕ = (lists_of n).from + 2 * p in
    let few : 2 * p ≤ 2 * max_pairs = omega (arith, fit.few-pairs) in
    let size : length pairs ≡ 2 * max_pairs = fields-length (2 * max_pairs) bs at 3 (2 * p) pairs few ep in
    let left : take (lists_of n).columns columns ≡ fields_at bs at k (lists_of n).columns = fields-first max_width bs at k (lists_of n).columns columns fit.few-columns ec in
    let right : pairs_of p pairs ≡ pairs_at bs at 3 p =
    pairs-take p pairs (omega (arith, size, few)) ∙ ap (pairs_of p) (fields-first (2 * max_pairs) bs at 3 (2 * p) pairs few ep) ∙ pairs-fields bs at 3 p in (
      ap₂ {A = List ℕ} {B = List Pair} {C = model.Node} (λ x y. with_lists n x y) left right,
      record {
        columns-length = fields-length max_width bs at k (lists_of n).columns columns fit.few-columns ec;
        pairs-length = size;
        counts = (fit.few-pairs, fit.few-columns);
      },
    )
