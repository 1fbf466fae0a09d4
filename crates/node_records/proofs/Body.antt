-- Rules 6 and 7 on the records of tables and watches, by the tests that the readings make. Assumes nothing.
use mathlib.Core.Path.{◌≡◌, refl}
use mathlib.Core.Bool.{Bool, true, false}
use mathlib.Core.List.{List}
use Rattle.std.specs.Prelude.{Err}
use Prim.Native.Nat.{ℕ, ◌≤◌, ◌<◌}
use native.Mathlib.Omega.{arith}
use lib.Dec.{leb, eqb}
use lib.ListN.{length, get_or, take}
use borrow.Author.Tests.{lt-ltb, le-ltb, le-leb, lt-leb, eq-eqb, ne_eqb, eqb-true}
use Rattle.model.specs.Record.{Bytes, length_at, field_at}
use Rattle.model.specs.Network.{has_shape, item_at, item_fits, node_fits, watch_fits, fits_on, watch_item, watch_shape, priority_at, max_priority}
use Rattle.model.specs.Row.{max_width}
use Rattle.derived_records.specs.Bodies.{NodeRecord, body_fault, ReadsBody}
use Rattle.nodes.specs.declared.Node.TheVariants.{Table}
use Rattle.verdicts.specs.declared.Rule.TheVariants.{WrongLength, WrongField}
use Rattle.derived_records.proofs.Body.{counted, first_at, no_second, none_fit, reads_6, reads_7, reads-node}
use Rattle.node_records.specs.NodeRecords.{WatchRecord}

-- a watch's outcome
module _ (ws signs : List ℕ) (bs : Bytes) (at : ℕ) (kind : ℕ) (shape : has_shape kind bs at ≡ true) (fits : item_fits ws signs (item_at kind bs at) ≡ true) where
  reads_watch : (n s p : ℕ) → watch_item (record { node = n; sign = s; priority = p }) ≡ item_at kind bs at → n < length signs → ReadsBody ws signs kind bs at (WatchRecord n s p)
  unfolding body_fault
  reads_watch n s p is below = record { number = rw (shape, fits); item = λ z. is; fits = below }

-- ---- kind 1

module _ (ws signs : List ℕ) (bs : Bytes) (at size : ℕ) (sized : size ≡ length_at bs at) where
  pub table-size : (size ≡ 6 → ⊥) → ReadsBody ws signs 1 bs at (Err WrongLength)
  unfolding has_shape
  table-size h = reads_6 ws signs bs at 1 (rw (← sized) (ne_eqb size 6 h))

  module _ (six : size ≡ 6) (w : ℕ) (is : w ≡ field_at bs at 0) where
    shaped : has_shape 1 bs at ≡ true
    unfolding has_shape
    shaped = rw (← sized) (eq-eqb size 6 six)

    pub table-low : w < 1 → ReadsBody ws signs 1 bs at (Err WrongField)
    unfolding item_fits item_at node_fits fits_on
    table-low h = reads_7 ws signs bs at 1 shaped (rw (← is, lt-leb 1 w h))

    pub table_high : max_width < w → ReadsBody ws signs 1 bs at (Err WrongField)
    unfolding item_fits item_at node_fits fits_on
    table_high h = reads_7 ws signs bs at 1 shaped (rw (← is) (no_second (leb 1 w) (leb w max_width) (lt-leb w max_width h)))

    pub table_ok : 1 ≤ w → w ≤ max_width → ReadsBody ws signs 1 bs at (NodeRecord (Table w))
    unfolding item_fits item_at node_fits fits_on
    table_ok h g = reads-node ws signs bs at 1 shaped (rw (← is, le-leb 1 w h, le-leb w max_width g)) (Table w) (rw is) (none_fit bs at)

-- ---- kind 9

-- a watch's record has at least 8 bytes
pub watch_least : (bs : Bytes) (at : ℕ) → watch_shape bs at ≡ true → 8 ≤ length_at bs at
watch_least bs at e = go (eqb (length_at bs at) 8) refl
  where
    go : (t : Bool) → eqb (length_at bs at) 8 ≡ t → 8 ≤ length_at bs at
    go true f = omega (arith, eqb-true (length_at bs at) 8 f)
    go false f = omega (arith, eqb-true (length_at bs at) 10 (rw f at e))

module _ (xs : List ℕ) (count : ℕ) (long : count ≤ length xs) (ws : List ℕ) (bs : Bytes) (at : ℕ) where
  pub watch_size : watch_shape bs at ≡ false → ReadsBody ws (take count xs) 9 bs at (Err WrongLength)
  unfolding has_shape
  watch_size e = reads_6 ws (take count xs) bs at 9 e

  module _ (shape : watch_shape bs at ≡ true) (n : ℕ) (is : n ≡ field_at bs at 0) where
    watch_shaped : has_shape 9 bs at ≡ true
    unfolding has_shape
    watch_shaped = shape

    pub watch_no_node : count ≤ n → ReadsBody ws (take count xs) 9 bs at (Err WrongField)
    unfolding item_fits item_at watch_fits
    watch_no_node h = reads_7 ws (take count xs) bs at 9 watch_shaped (rw (← is, counted xs count long bs at, le-ltb n count h))

    module _ (within : n < count) (s : ℕ) (of : s ≡ field_at bs at 1) where
      pub watch_low : s < 1 → ReadsBody ws (take count xs) 9 bs at (Err WrongField)
      unfolding item_fits item_at watch_fits
      watch_low h = reads_7 ws (take count xs) bs at 9 watch_shaped (rw (← is, ← of, counted xs count long bs at, lt-ltb n count within, lt-leb 1 s h))

      pub watch_high : 1 ≤ s → 3 < s → ReadsBody ws (take count xs) 9 bs at (Err WrongField)
      unfolding item_fits item_at watch_fits
      watch_high h g = reads_7 ws (take count xs) bs at 9 watch_shaped (rw (← is, ← of, counted xs count long bs at, lt-ltb n count within, le-leb 1 s h, lt-leb s 3 g))

      module _ (low : 1 ≤ s) (high : s ≤ 3) where
        pub watch_second : (get_or xs n 0 ≡ 0 → ⊥) → ReadsBody ws (take count xs) 9 bs at (Err WrongField)
        unfolding item_fits item_at watch_fits
        watch_second h =
            reads_7 ws (take count xs) bs at 9 watch_shaped
            (rw (← is, ← of, counted xs count long bs at, lt-ltb n count within, le-leb 1 s low, le-leb s 3 high, first_at xs count n within, ne_eqb (get_or xs n 0) 0 h))

        module _ (first : get_or xs n 0 ≡ 0) (p : ℕ) (ranks : p ≡ priority_at bs at) where
          watch_fits_lem : (t : Bool) → leb p max_priority ≡ t → item_fits ws (take count xs) (item_at 9 bs at) ≡ t
          unfolding item_fits item_at watch_fits
          watch_fits_lem t e = rw (
            ← is,
            ← of,
            counted xs count long bs at,
            lt-ltb n count within,
            le-leb 1 s low,
            le-leb s 3 high,
            first_at xs count n within,
            eq-eqb (get_or xs n 0) 0 first,
            ← ranks,
          ) e

          pub watch_above : max_priority < p → ReadsBody ws (take count xs) 9 bs at (Err WrongField)
          watch_above h = reads_7 ws (take count xs) bs at 9 watch_shaped (watch_fits_lem false (lt-leb p max_priority h))

          pub watch_ok : p ≤ max_priority → ReadsBody ws (take count xs) 9 bs at (WatchRecord n s p)
          unfolding item_at
          watch_ok h =
              reads_watch ws (take count xs) bs at 9 watch_shaped (watch_fits_lem true (le-leb p max_priority h)) n s p
              (rw (is, of, ranks))
              (rw (counted xs count long bs at) within)
