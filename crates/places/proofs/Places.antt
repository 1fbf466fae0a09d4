-- Places: what a place of good form holds, and rows kept or put into an empty one. Assumes nothing.
use mathlib.Core.Path.{◌≡◌, refl, sym, ap, ap₂, ◌∙◌}
use mathlib.Core.Bool.{Bool, true, false, ◌&&◌}
use mathlib.Core.List.{List, [], ◌∷◌, ◌++◌, map, append-nil}
use Prim.Native.Nat.{ℕ, zero, suc, ◌+◌, ◌-◌, ◌*◌, ◌≤◌, ◌<◌}
use native.Mathlib.Nat.{zero-add, le_refl, not-suc-le-zero, le_of_suc-le-suc}
use native.Mathlib.Omega.{arith}
use lib.Dec.{leb}
use lib.ListN.{length, get_or, take, drop, replicate, length-append, length-replicate, length-drop}
use lib.Seq.{take_all, paste, length-paste}
use borrow.Author.Tests.{leb-true}
use Rattle.model.specs.Row.{Row, Relation, ascending, keep, keep_if, max_rows, max_width, Wide}
use Rattle.model.specs.Areas.{layout, fields, unused_zero, good_place, padded, place_of, place_size, stride}
use Rattle.laws.proofs.Sets.{and_first, and_second}
use Rattle.rows.specs.Rows.{row_at, rows_from, first_rows, words, stored}
use Rattle.rows.proofs.Words.{length-row, length-words, rows_snoc, wide_rows, stored_push, paste_sets, fields-part, drop_zeros}
use Rattle.laws.proofs.Widths.{wide-keep}
use Rattle.laws.proofs.Parts.{keep_append}
use Rattle.rows.proofs.Place.{held_wide, length_held, length-map-padded, place-words, words-map}
use Rattle.rows.proofs.Padding.{ascending-padded, keep-padded}
use Rattle.rows.proofs.Placed.{placed-rows, rest_zero}
use Rattle.places.specs.Places.{relation_in, Place, Blank, Fills, Kept}

-- ---- a place of good form

module _ (w : ℕ) (s : List ℕ) (n : ℕ) (p : Place w s n) where
  few-ascending : (leb n max_rows && ascending (relation_in w s n)) ≡ true
  unfolding good_place
  few-ascending = and_first (leb n max_rows && ascending (relation_in w s n)) (unused_zero layout w n s 0) p.good

  pub place-few : n ≤ max_rows
  place-few = leb-true n max_rows (and_first (leb n max_rows) (ascending (relation_in w s n)) few-ascending)

  pub place-ascending : ascending (relation_in w s n) ≡ true
  place-ascending = and_second (leb n max_rows) (ascending (relation_in w s n)) few-ascending

  pub place-wide : Wide w (relation_in w s n)
  place-wide = held_wide layout w n s 0

  pub place-count : length (relation_in w s n) ≡ n
  place-count = length_held layout w n s 0

  -- the place is the words of its relation
  pub place_is : s ≡ place_of layout (relation_in w s n)
  unfolding good_place
  place_is =
      sym (take_all place_size s (omega (arith, p.long)))
      ∙ place-words layout w s 0 n p.narrow place-few (omega (arith, p.long)) (and_second (leb n max_rows && ascending (relation_in w s n)) (unused_zero layout w n s 0) p.good)

pub place-rows : (w : ℕ) (s : List ℕ) (n : ℕ) → Place w s n → first_rows s n ≡ map (padded stride) (relation_in w s n)
place-rows w s n p =
    let rel : Relation = relation_in w s n in
    let count : length (relation_in w s n) ≡ n = place-count w s n p in
    ap (λ (t : List ℕ). first_rows t n) (place_is w s n p)
    ∙ ap (first_rows (place_of layout rel)) (sym count)
    ∙ placed-rows w rel p.narrow (place-wide w s n p) (rw count (place-few w s n p))

-- behind the rows the place is 0
pub place_rest : (w : ℕ) (s : List ℕ) (n : ℕ) → Place w s n → drop (n * stride) s ≡ replicate (place_size - n * stride) 0
place_rest w s n p =
    let count : length (relation_in w s n) ≡ n = place-count w s n p in
    ap (drop (n * stride)) (place_is w s n p)
    ∙ ap (λ (k : ℕ). drop (k * stride) (place_of layout (relation_in w s n))) (sym count)
    ∙ rest_zero w (relation_in w s n) p.narrow (place-wide w s n p) (rw count (place-few w s n p))
    ∙ ap (λ (k : ℕ). replicate (place_size - k * stride) 0) count

pub rows_ascend : (w : ℕ) (s : List ℕ) (n : ℕ) → Place w s n → ascending (first_rows s n) ≡ true
rows_ascend w s n p = ap ascending (place-rows w s n p) ∙ ascending-padded stride w (relation_in w s n) (place-wide w s n p) ∙ place-ascending w s n p

-- ---- rows stored in an empty place

pub stored-blank : (w : ℕ) (rel : Relation) → w ≤ max_width → Wide w rel → length rel ≤ max_rows → stored (map (padded stride) rel) (replicate place_size 0) ≡ place_of layout rel
unfolding stored place_of
stored-blank w rel h a f =
    ap₂ {A = List ℕ} {B = List ℕ} {C = List ℕ} (λ x y. x ++ y) (words-map (padded stride) rel)
    (drop_zeros (length (words (map (padded stride) rel))) place_size ∙ ap (λ (l : List ℕ). replicate (place_size - length l) 0) (words-map (padded stride) rel))

-- the rows that pass a test, copied one after the other into an empty place
module _ (p : Row → Bool) (s : List ℕ) where
  kept_none : Kept p s 0 (replicate place_size 0) 0
  unfolding rows_from stored
  kept_none = record { count = refl; is = refl; few = le_refl 0; size = length-replicate {A = ℕ} place_size 0 }

  pub kept_start : (out : List ℕ) → Blank out → Kept p s 0 out 0
  kept_start out e = rw e kept_none

  kept_snoc : (i : ℕ) (t : Bool) → p (row_at stride s i) ≡ t → keep p (rows_from stride s 0 (i + 1)) ≡ keep p (rows_from stride s 0 i) ++ keep_if t (row_at stride s i) []
  kept_snoc i t e = ap (keep p) (rows_snoc stride s 0 i) ∙ keep_append p (rows_from stride s 0 i) (row_at stride s (0 + i) ∷ []) ∙ rw (zero-add, e)

  pub kept_no : (i : ℕ) (out : List ℕ) (m : ℕ) → p (row_at stride s i) ≡ false → Kept p s i out m → Kept p s (i + 1) out m
  kept_no i out m e k =
      let same : keep p (rows_from stride s 0 (i + 1)) ≡ keep p (rows_from stride s 0 i) = kept_snoc i false e ∙ append-nil (keep p (rows_from stride s 0 i)) in
      record { count = rw same k.count; is = rw same k.is; few = omega (arith, k.few); size = k.size }

  kept_yes : (i : ℕ) (out : List ℕ) (m : ℕ) → p (row_at stride s i) ≡ true → i < max_rows → i * stride + stride ≤ length s → Kept p s i out m
      → Kept p s (i + 1) (paste out (m * stride) (drop (i * stride) s) stride) (m + 1)
  unfolding row_at stored
  kept_yes i out m e h f k =
      let old : List Row = keep p (rows_from stride s 0 i) in
      let r : Row = row_at stride s i in
      let new : keep p (rows_from stride s 0 (i + 1)) ≡ old ++ (r ∷ []) = kept_snoc i true e in
      let wide : Wide stride old = wide-keep stride p (rows_from stride s 0 i) (wide_rows stride s 0 i) in
      let room : m * stride + stride ≤ place_size = omega (arith, k.few) in
      let size : length (stored old (replicate place_size 0)) ≡ place_size = stored-size old wide (omega (arith, k.few, k.count)) in
      record {
        count = rw (new, length-append) (omega (arith, k.count));
        is =
            ap (λ (l : List ℕ). paste l (m * stride) (drop (i * stride) s) stride) k.is
            ∙ paste_sets (stored old (replicate place_size 0)) (drop (i * stride) s) (m * stride) stride r (row-part i f) (length-row stride s i) (rw size room)
            ∙ stored_push stride old r (replicate place_size 0) m wide (length-row stride s i) k.count (rw length-replicate room)
            ∙ ap (λ (l : List Row). stored l (replicate place_size 0)) (sym new);
        few = omega (arith, k.few);
        size = length-paste out (m * stride) (drop (i * stride) s) stride (rw k.size room) (rw length-drop (omega arith)) ∙ k.size;
      }
    where
      row-part : (i : ℕ) → i * stride + stride ≤ length s → row_at stride s i ≡ take stride (drop (i * stride) s)
      row-part i f = fields-part stride s (i * stride) f

      stored-size : (l : List Row) → Wide stride l → length l ≤ max_rows → length (stored l (replicate place_size 0)) ≡ place_size
      stored-size l wl h = length-append (words l) (drop (length (words l)) (replicate place_size 0)) ∙ rw (length-drop, length-replicate, length-words stride l wl) (omega arith)

-- the same, with the words that the copy left
pub kept_copied : (p : Row → Bool) (s : List ℕ) (i : ℕ) (out after : List ℕ) (m : ℕ) → p (row_at stride s i) ≡ true → i < max_rows → i * stride + stride ≤ length s → Kept p s i out m →
    after ≡ paste out (m * stride) (drop (i * stride) s) stride → Kept p s (i + 1) after (m + 1)
kept_copied p s i out after m e h f k a = rw a (kept_yes p s i out m e h f k)

-- ---- fields of a row in words

row_field : (n : ℕ) (s : List ℕ) (at k : ℕ) → k < n → get_or (fields n s at) k 0 ≡ get_or s (at + k) 0
unfolding fields
row_field zero s at k h = absurd (not-suc-le-zero h)
row_field (suc n) s at zero h = let e : at + 0 ≡ at = omega arith in rw e
row_field (suc n) s at (suc k) h = let e : at + suc k ≡ suc at + k = omega arith in rw e (row_field n s (suc at) k (le_of_suc-le-suc h))

-- field k of row i
pub row_cell : (s : List ℕ) (i k : ℕ) → k < stride → get_or (row_at stride s i) k 0 ≡ get_or s (i * stride + k) 0
unfolding row_at
row_cell s i k h = row_field stride s (i * stride) k h

-- ---- the model's rows

-- rows kept from a place are the model's rows kept, in their place
pub kept_fills : (w : ℕ) (s : List ℕ) (n : ℕ) (p q : Row → Bool) (out : List ℕ) (m : ℕ) → Place w s n → ((r : Row) → length r ≡ w → p (padded stride r) ≡ q r) → Kept p s n out m →
    Fills (keep q (relation_in w s n)) out m
kept_fills w s n p q out m pl e k =
    let rel : Relation = relation_in w s n in
    let same : keep p (first_rows s n) ≡ map (padded stride) (keep q rel) = ap (keep p) (place-rows w s n pl) ∙ keep-padded stride w p q rel (place-wide w s n pl) e in
    let wide : Wide w (keep q rel) = wide-keep w q rel (place-wide w s n pl) in
    let count : m ≡ length (keep q rel) = k.count ∙ ap length same ∙ length-map-padded stride (keep q rel) in
    let few : m ≤ max_rows = omega (arith, k.few, place-few w s n pl) in
    record {
      count = count;
      few = few;
      is = k.is ∙ ap (λ (l : List Row). stored l (replicate place_size 0)) same ∙ stored-blank w (keep q rel) pl.narrow wide (rw (← count) few);
    }
