-- A node's place, lent as a part of the rows area. Assumes nothing.
use mathlib.Core.Bool.{◌&&◌}
use mathlib.Core.List.{List}
use mathlib.Core.Path.{ap, ◌∙◌, ◌≡◌}
use Prim.Native.Nat.{◌*◌, ◌+◌, ◌<◌, ℕ, ◌≤◌}
use native.Mathlib.Omega.{arith}
use lib.ListN.{drop, get_or, length, length-drop}
use lib.Dec.{leb}
use lib.Seq.{length-take-le}
use borrow.Author.Tests.{leb-true}
use Rattle.places.specs.Places.{Place, relation_in}
use Rattle.coherence.specs.Held.{Places, held_at}
use Rattle.laws.proofs.Sets.{and_first}
use Rattle.model.specs.Row.{ascending, max_rows}
use Rattle.model.specs.Areas.{good_place, layout, row_count, unused_zero, place_size}
use Rattle.rows.proofs.Place.{length_held}
use Rattle.rows.proofs.Placed.{part-good, part_held}
use Rattle.areas.proofs.Good.{part_is}
use Rattle.areas.specs.Lent.{place_at}

module _ (ws : List ℕ) (n : ℕ) (rows head : List ℕ) (p : Places ws n rows head) (j : ℕ) (h : j < n) where
  few-rows : row_count head j ≤ max_rows
  unfolding good_place
  few-rows =
      leb-true (row_count head j) max_rows
      (and_first (leb (row_count head j) max_rows) (ascending (held_at ws head rows j))
      (and_first (leb (row_count head j) max_rows && ascending (held_at ws head rows j)) (unused_zero layout (get_or ws j 0) (row_count head j) rows j) (p.good j h)))

  inside : place_size * j + place_size ≤ length rows
  inside = omega (arith, p.few, p.rows_long)

  pub place_at_lem : Place (get_or ws j 0) (place_at rows j) (row_count head j)
  place_at_lem =
      record {
        long = ap length (part_is rows j) ∙ length-take-le place_size (drop (place_size * j) rows) (rw length-drop (omega (arith, inside)));
        narrow = p.narrow j;
        good = rw (part_is rows j) (part-good (get_or ws j 0) (row_count head j) rows j (p.narrow j) few-rows inside (p.good j h));
      }

  pub held_at_lem : relation_in (get_or ws j 0) (place_at rows j) (row_count head j) ≡ held_at ws head rows j
  held_at_lem =
      ap (λ (s : List ℕ). relation_in (get_or ws j 0) s (row_count head j)) (part_is rows j)
      ∙ part_held (get_or ws j 0) (row_count head j) rows j (p.narrow j) few-rows inside (p.good j h)

  pub rows_few : length (held_at ws head rows j) ≤ max_rows
  rows_few = rw (length_held layout (get_or ws j 0) (row_count head j) rows j) few-rows
