-- A place of good form: its rows, and its unused words 0. Assumes nothing.
use mathlib.Core.Bool.{◌&&◌, Bool, true}
use mathlib.Core.List.{◌++◌, List, [], map, ◌∷◌}
use mathlib.Core.Path.{ap, ap₂, refl, sym, ◌∙◌, ◌≡◌}
use Prim.Native.Nat.{◌*◌, ◌+◌, ◌-◌, ℕ, ◌≤◌}
use native.Mathlib.Omega.{arith}
use native.Mathlib.Nat.{zero-mul}
use Rattle.std.proofs.lemmas.List.{length-map}
use lib.ListN.{drop, length, length-drop, replicate, take, take-append-drop}
use lib.Seq.{drop_at, length-take-le, slice, take_all}
use lib.Dec.{leb}
use borrow.Author.Tests.{le-leb}
use Rattle.model.specs.Row.{Relation, Row, all_of, ascending, max_rows, max_width, Wide}
use Rattle.rows.specs.Rows.{first_rows, words}
use Rattle.rows.proofs.Words.{length-rows, wide_rows, words-rows}
use Rattle.model.specs.Areas.{all_zero, good_place, held_in, layout, padded, place_of, unused_zero, place_size, stride}
use Rattle.laws.proofs.Sets.{and_both, and_first, and_second, bool_same}
use Rattle.rows.proofs.Place.{held_wide, length_held, place_clean, place-reads, place-words, zeros_are, zeros_zero}
use Rattle.rows.proofs.Padding.{unpadded}
use Rattle.rows.proofs.Placed.{part-size, place-split, placed-rows, rest_zero}
use Rattle.row_checks.specs.RowChecks.{good_rows}
use Rattle.row_checks.proofs.Form.{slice-part, tail_padded, wide-take}

-- ---- rows with zeros past the width

tails_zero : (w : ℕ) (l : List Row) → Wide w l → all_of (λ r. all_zero (drop w r)) (map (padded stride) l) ≡ true
tails_zero w [] a = refl
tails_zero w (r ∷ l) a =
    let rest : drop w (padded stride r) ≡ replicate (stride - length r) 0 = drop_at r (replicate (stride - length r) 0) w a.0 in
    and_both (all_zero (drop w (padded stride r))) (all_of (λ s. all_zero (drop w s)) (map (padded stride) l)) (rw rest (zeros_zero (stride - length r))) (tails_zero w l a.1)

-- ---- the check of a place

module _ (w count : ℕ) (area : List ℕ) (i : ℕ) (narrow : w ≤ max_width) (few : count ≤ max_rows) (long : place_size * i + place_size ≤ length area) where
  abbrev part : List ℕ
  part = take place_size (drop (place_size * i) area)

  -- what is checked
  abbrev checked : Bool
  checked = good_rows w (first_rows part count) && all_zero (slice (count * stride) place_size part)

  slice_rest : slice (count * stride) place_size part ≡ drop (count * stride) part
  slice_rest =
      let e : count * stride + (place_size - count * stride) ≡ place_size = omega arith in
      ap (λ (k : ℕ). slice (count * stride) k part) (sym e)
      ∙ slice-part (count * stride) (place_size - count * stride) part (rw (part-size area i long) (omega arith))
      ∙ take_all (place_size - count * stride) (drop (count * stride) part) (rw (length-drop, part-size area i long) (omega arith))

  checked-good : checked ≡ true → good_place layout w count area i ≡ true
  unfolding good_place good_rows
  checked-good c =
      let rows : List Row = first_rows part count in
      let rel : Relation = map (take w) (first_rows part count) in
      let good : (ascending (map (take w) (first_rows part count)) && all_of (λ r. all_zero (drop w r)) (first_rows part count))
      ≡ true = and_first (good_rows w (first_rows part count)) (all_zero (slice (count * stride) place_size part)) c in
      let asc : ascending (map (take w) (first_rows part count)) ≡ true = and_first (ascending (map (take w) (first_rows part count))) (all_of (λ r. all_zero (drop w r)) (first_rows part count))
      good in
      let tails : all_of (λ r. all_zero (drop w r)) (first_rows part count) ≡ true = and_second (ascending (map (take w) (first_rows part count)))
      (all_of (λ r. all_zero (drop w r)) (first_rows part count)) good in
      let wide4 : Wide stride (first_rows part count) = wide_rows stride part 0 count in
      let same : map (padded stride) (map (take w) (first_rows part count)) ≡ first_rows part count = tail_padded stride w narrow (first_rows part count) wide4 tails in
      let size : length (map (take w) (first_rows part count)) ≡ count = length-map (first_rows part count) (take w) ∙ length-rows stride part 0 count in
      let front : words (first_rows part count) ≡ take (count * stride) part = words-rows stride part 0 count (rw (part-size area i long) (omega (arith, zero-mul stride))) in
      let front_size : length (take (count * stride) part) ≡ count * stride = length-take-le (count * stride) part (rw (part-size area i long) (omega arith)) in
      let zeros : drop (count * stride) part ≡ replicate (place_size - count * stride) 0 =
      zeros_are (drop (count * stride) part) (rw (← slice_rest) (and_second (good_rows w (first_rows part count)) (all_zero (slice (count * stride) place_size part)) c))
      ∙ ap (λ (k : ℕ). replicate k 0) (length-drop (count * stride) part ∙ ap (λ (k : ℕ). k - count * stride) (part-size area i long)) in
      let is : part ≡ place_of layout (map (take w) (first_rows part count)) =
      sym (take-append-drop (count * stride) part)
      ∙ ap₂ {A = List ℕ} {B = List ℕ} {C = List ℕ} (λ x y. x ++ y) (sym (ap words same ∙ front))
      (zeros ∙ ap (λ (k : ℕ). replicate (place_size - k) 0) (sym (ap (λ (l : List Row). length (words l)) same ∙ ap length front ∙ front_size)))
      ∙ sym (place-split (map (take w) (first_rows part count))) in
      let wide : Wide w (map (take w) (first_rows part count)) = wide-take stride w narrow (first_rows part count) wide4 in
      let held : held_in layout w count area i ≡ map (take w) (first_rows part count) =
      ap (λ (k : ℕ). held_in layout w k area i) (sym size) ∙ place-reads layout w area i (map (take w) (first_rows part count)) narrow wide (rw size few) long is in
      let clean : unused_zero layout w count area i ≡ true =
      ap (λ (k : ℕ). unused_zero layout w k area i) (sym size) ∙ place_clean layout w area i (map (take w) (first_rows part count)) narrow wide (rw size few) long is in
      and_both (leb count max_rows && ascending (held_in layout w count area i)) (unused_zero layout w count area i)
      (and_both (leb count max_rows) (ascending (held_in layout w count area i)) (le-leb count max_rows few) (rw held asc)) clean

  good-checked : good_place layout w count area i ≡ true → checked ≡ true
  unfolding good_place good_rows
  good-checked g =
      let rel : Relation = held_in layout w count area i in
      let first : (leb count max_rows && ascending (held_in layout w count area i)) ≡ true = and_first (leb count max_rows && ascending (held_in layout w count area i))
      (unused_zero layout w count area i) g in
      let asc : ascending (held_in layout w count area i) ≡ true = and_second (leb count max_rows) (ascending (held_in layout w count area i)) first in
      let clean : unused_zero layout w count area i ≡ true = and_second (leb count max_rows && ascending (held_in layout w count area i)) (unused_zero layout w count area i) g in
      let is : part ≡ place_of layout (held_in layout w count area i) = place-words layout w area i count narrow few long clean in
      let size : length (held_in layout w count area i) ≡ count = length_held layout w count area i in
      let wide : Wide w (held_in layout w count area i) = held_wide layout w count area i in
      let rows : first_rows part count ≡ map (padded stride) (held_in layout w count area i) =
      ap (λ (s : List ℕ). first_rows s count) is ∙ ap (first_rows (place_of layout (held_in layout w count area i))) (sym size)
      ∙ placed-rows w (held_in layout w count area i) narrow wide (rw size few) in
      let rest : drop (count * stride) part ≡ replicate (place_size - count * stride) 0 =
      ap (drop (count * stride)) is ∙ ap (λ (k : ℕ). drop (k * stride) (place_of layout (held_in layout w count area i))) (sym size)
      ∙ rest_zero w (held_in layout w count area i) narrow wide (rw size few) ∙ ap (λ (k : ℕ). replicate (place_size - k * stride) 0) size in
      and_both (good_rows w (first_rows part count)) (all_zero (slice (count * stride) place_size part))
      (and_both (ascending (map (take w) (first_rows part count))) (all_of (λ r. all_zero (drop w r)) (first_rows part count)) (rw (rows, unpadded stride w (held_in layout w count area i) wide) asc)
      (rw rows (tails_zero w (held_in layout w count area i) wide)))
      (rw (slice_rest, rest) (zeros_zero (place_size - count * stride)))

  -- the check is the good form of the place
  pub place-checked : checked ≡ good_place layout w count area i
  place-checked = bool_same checked (good_place layout w count area i) checked-good good-checked
