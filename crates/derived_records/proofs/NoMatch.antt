-- Rules 6 and 7 on the record of a no match, by the tests that its reading makes. Assumes nothing.
use mathlib.Core.Path.{◌≡◌}
use mathlib.Core.Bool.{true, false}
use mathlib.Core.List.{List}
use Rattle.std.specs.Prelude.{Err}
use Prim.Native.Nat.{ℕ, ◌+◌, ◌≤◌, ◌<◌}
use native.Mathlib.Omega.{arith}
use lib.ListN.{length, get_or, take}
use borrow.Author.Tests.{lt-ltb}
use Rattle.model.specs.Record.{Bytes, length_at, field_at}
use Rattle.model.specs.Network.{has_shape, counted_shape, max_pairs, item_at, item_fits, node_fits, fits_on, pairs_below, pairs_at}
use Rattle.nodes.specs.declared.Node.TheVariants.{NoMatch}
use Rattle.verdicts.specs.declared.Rule.TheVariants.{WrongLength, WrongField}
use Rattle.derived_records.specs.Bodies.{NodeRecord, ReadsBody}
use Rattle.derived_records.proofs.Body.{Counted, shape-counted, reads_6, reads_7, reads-node, counted, first_at, missing}

module _ (xs : List ℕ) (count : ℕ) (long : count ≤ length xs) (signs : List ℕ) (bs : Bytes) (at : ℕ) where
  pub no_match_unshaped : counted_shape 2 max_pairs 2 bs at ≡ false → ReadsBody (take count xs) signs 10 bs at (Err WrongLength)
  unfolding has_shape
  no_match_unshaped e = reads_6 (take count xs) signs bs at 10 e

  module _ (shape : counted_shape 2 max_pairs 2 bs at ≡ true) where
    pub no_match_no_inputs : (field_at bs at 0 < count → count ≤ field_at bs at 1) → ReadsBody (take count xs) signs 10 bs at (Err WrongField)
    unfolding has_shape item_fits item_at node_fits fits_on
    no_match_no_inputs h = reads_7 (take count xs) signs bs at 10 shape (rw (counted xs count long bs at) (missing (field_at bs at 0) (field_at bs at 1) count _ h))

    module _ (l : ℕ) (is : l ≡ field_at bs at 0) (left : l < count) (r : ℕ) (of : r ≡ field_at bs at 1) where
      module _ (right : r < count) (p : ℕ) (paired : p ≡ field_at bs at 2) where
        pub no_match_bad_pair : pairs_below (get_or xs l 0) (get_or xs r 0) (pairs_at bs at 3 p) ≡ false → ReadsBody (take count xs) signs 10 bs at (Err WrongField)
        unfolding has_shape item_fits item_at node_fits fits_on
        no_match_bad_pair e =
            reads_7 (take count xs) signs bs at 10 shape
            (rw (← is, ← of, ← paired, counted xs count long bs at, lt-ltb l count left, lt-ltb r count right, first_at xs count l left, first_at xs count r right, e))

        pub no_match_ok : pairs_below (get_or xs l 0) (get_or xs r 0) (pairs_at bs at 3 p) ≡ true → at + length_at bs at ≤ length bs →
            ReadsBody (take count xs) signs 10 bs at (NodeRecord (NoMatch l r p))
        unfolding has_shape item_fits item_at node_fits fits_on
        no_match_ok e inside =
            let sh : Counted 2 max_pairs 2 bs at = shape-counted 2 max_pairs 2 bs at shape in
            reads-node (take count xs) signs bs at 10 shape
            (rw (← is, ← of, ← paired, counted xs count long bs at, lt-ltb l count left, lt-ltb r count right, first_at xs count l left, first_at xs count r right, e))
            (NoMatch l r p) (rw (is, of, paired))
            (record {
              few-pairs = rw paired sh.few;
              few-columns = omega arith;
              near = omega arith;
              pairs-inside = λ h. omega (arith, sh.size, paired);
              columns-inside = λ h. absurd (omega arith);
            })
