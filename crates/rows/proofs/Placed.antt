-- A node's place in the areas' layout: its rows and its unused words, and the place taken out of its area. Assumes nothing.
use mathlib.Core.Bool.{◌&&◌, true}
use mathlib.Core.List.{◌++◌, List, map}
use mathlib.Core.Path.{ap, sym, ◌∙◌, ◌≡◌}
use Prim.Native.Nat.{◌*◌, ◌+◌, ◌-◌, ℕ, ◌≤◌}
use native.Mathlib.Omega.{arith}
use native.Mathlib.Nat.{le_refl}
use lib.ListN.{drop, length, length-drop, replicate, take, length-append, length-replicate}
use lib.Seq.{drop_at, length-take-le, take_all}
use lib.Dec.{leb}
use borrow.Author.Tests.{le-leb}
use Rattle.model.specs.Row.{Relation, ascending, max_rows, max_width, Wide}
use Rattle.rows.specs.Rows.{first_rows, words}
use Rattle.rows.proofs.Words.{length-words, rows_words}
use Rattle.model.specs.Areas.{good_place, held_in, layout, padded, place_of, unused_zero, place_size, stride}
use Rattle.laws.proofs.Sets.{and_both, and_first, and_second}
use Rattle.rows.proofs.Place.{held_wide, length_held, length-map-padded, place_clean, place-reads, place-words, wide-padded, words-map}

-- ---- the words of a place

-- the padded rows of a relation, then zeros
pub place-split : (rel : Relation) → place_of layout rel ≡ words (map (padded stride) rel) ++ replicate (place_size - length (words (map (padded stride) rel))) 0
unfolding place_of
place-split rel = rw (words-map (padded stride) rel)

pub place-length : (w : ℕ) (rel : Relation) → w ≤ max_width → Wide w rel → length rel ≤ max_rows → length (place_of layout rel) ≡ place_size
place-length w rel h a f =
    let size : length (words (map (padded stride) rel))
    ≡ length rel * stride = length-words stride (map (padded stride) rel) (wide-padded w stride rel h a) ∙ ap (λ (k : ℕ). k * stride) (length-map-padded stride rel) in
    ap length (place-split rel) ∙ length-append (words (map (padded stride) rel)) (replicate (place_size - length (words (map (padded stride) rel))) 0) ∙ rw (length-replicate, size) (omega arith)

pub placed-rows : (w : ℕ) (rel : Relation) → w ≤ max_width → Wide w rel → length rel ≤ max_rows → first_rows (place_of layout rel) (length rel) ≡ map (padded stride) rel
placed-rows w rel h a f =
    ap (λ (s : List ℕ). first_rows s (length rel)) (place-split rel)
    ∙ ap (first_rows (words (map (padded stride) rel) ++ replicate (place_size - length (words (map (padded stride) rel))) 0)) (sym (length-map-padded stride rel))
    ∙ rows_words stride (map (padded stride) rel) (replicate (place_size - length (words (map (padded stride) rel))) 0) (wide-padded w stride rel h a)

pub rest_zero : (w : ℕ) (rel : Relation) → w ≤ max_width → Wide w rel → length rel ≤ max_rows → drop (length rel * stride) (place_of layout rel) ≡ replicate (place_size - length rel * stride) 0
rest_zero w rel h a f =
    let size : length (words (map (padded stride) rel))
    ≡ length rel * stride = length-words stride (map (padded stride) rel) (wide-padded w stride rel h a) ∙ ap (λ (k : ℕ). k * stride) (length-map-padded stride rel) in
    ap (drop (length rel * stride)) (place-split rel)
    ∙ drop_at (words (map (padded stride) rel)) (replicate (place_size - length (words (map (padded stride) rel))) 0) (length rel * stride) size
    ∙ ap (λ (k : ℕ). replicate (place_size - k) 0) size

-- ---- a place taken out of its area

pub part-size : (area : List ℕ) (i : ℕ) → place_size * i + place_size ≤ length area → length (take place_size (drop (place_size * i) area)) ≡ place_size
part-size area i long = length-take-le place_size (drop (place_size * i) area) (rw length-drop (omega arith))

-- the words of a node's place, taken out of the area, hold the same rows in the same form
module _ (w count : ℕ) (area : List ℕ) (i : ℕ) (narrow : w ≤ max_width) (few : count ≤ max_rows) (long : place_size * i + place_size ≤ length area) (good : good_place layout w count area i ≡
    true) where
  abbrev alone : List ℕ
  alone = take place_size (drop (place_size * i) area)

  alone_size : length alone ≡ place_size
  alone_size = part-size area i long

  alone_same : take place_size (drop (place_size * 0) alone) ≡ alone
  alone_same = take_all place_size alone (rw alone_size (le_refl place_size))

  pub part_is : alone ≡ place_of layout (held_in layout w count area i)
  unfolding good_place
  part_is = place-words layout w area i count narrow few long (and_second (leb count max_rows && ascending (held_in layout w count area i)) (unused_zero layout w count area i) good)

  pub part_held : held_in layout w count alone 0 ≡ held_in layout w count area i
  part_held =
      let rel : Relation = held_in layout w count area i in
      let size : length (held_in layout w count area i) ≡ count = length_held layout w count area i in
      ap (λ (k : ℕ). held_in layout w k alone 0) (sym size)
      ∙ place-reads layout w alone 0 (held_in layout w count area i) narrow (held_wide layout w count area i) (rw size few) (rw alone_size (omega arith)) (alone_same ∙ part_is)

  pub part-good : good_place layout w count alone 0 ≡ true
  unfolding good_place
  part-good =
      let size : length (held_in layout w count area i) ≡ count = length_held layout w count area i in
      let asc : ascending (held_in layout w count area i) ≡ true = and_second (leb count max_rows) (ascending (held_in layout w count area i))
      (and_first (leb count max_rows && ascending (held_in layout w count area i)) (unused_zero layout w count area i) good) in
      let clean : unused_zero layout w count alone 0 ≡ true =
      ap (λ (k : ℕ). unused_zero layout w k alone 0) (sym size)
      ∙ place_clean layout w alone 0 (held_in layout w count area i) narrow (held_wide layout w count area i) (rw size few) (rw alone_size (omega arith)) (alone_same ∙ part_is) in
      and_both (leb count max_rows && ascending (held_in layout w count alone 0)) (unused_zero layout w count alone 0)
      (and_both (leb count max_rows) (ascending (held_in layout w count alone 0)) (le-leb count max_rows few) (rw part_held asc)) clean
