-- A node's place: of good form it is exactly the words of its rows, and the words of some rows read back as those rows. For any stride, capacity and width.
-- Assumes nothing.
use mathlib.Core.Path.{◌≡◌, refl, sym, ap, ap₂, ◌∙◌}
use mathlib.Core.Bool.{Bool, true, false, cond}
use mathlib.Core.List.{List, [], ◌∷◌, ◌++◌, map, flat_map, append-nil}
use Prim.Native.Nat.{ℕ, zero, suc, ◌+◌, ◌-◌, ◌*◌, ◌≤◌, ◌<◌, zero-le, suc-le-suc}
use native.Mathlib.Nat.{not-suc-le-zero, le_of_suc-le-suc, mul-zero, add-zero, zero-add, add-mul, mul_assoc, mul_comm, mul-sub, le_refl}
use native.Mathlib.Omega.{arith}
use lib.Dec.{eqb, ltb}
use Rattle.std.proofs.lemmas.List.{length-map}
use lib.ListN.{length, get_or, take, drop, replicate, length-append, length-replicate, get_or-replicate}
use lib.Seq.{take_at, drop_at}
use borrow.Author.Tests.{eqb-true, lt-ltb, le-ltb, ltb-true, ltb-false}
use Rattle.model.specs.Row.{Row, Relation, count_from, numbers_below, Wide}
use Rattle.model.specs.Areas.{Layout, place_words, fields, row_start, held_in, all_zero, unused_of, unused_zero, padded, place_of}
use Rattle.laws.proofs.Sets.{and_first, and_second}
use Rattle.laws.proofs.All.{all_below, below_all}
use Rattle.rows.specs.Rows.{row_at, rows_from, words}
use Rattle.rows.proofs.Words.{length_fields, words_append, words-rows, words_zeros, length-words, rows_words, rows-part}
use Rattle.rows.proofs.Search.{row_at_lem}
use Rattle.laws.proofs.Widths.{wide-append}

-- ---- words that are all 0

pub zeros_are : (l : List ℕ) → all_zero l ≡ true → l ≡ replicate (length l) 0
zeros_are [] e = refl
zeros_are (x ∷ l) e = λ i. eqb-true x 0 (and_first (eqb x 0) (all_zero l) e) i ∷ zeros_are l (and_second (eqb x 0) (all_zero l) e) i

pub zeros_zero : (n : ℕ) → all_zero (replicate n 0) ≡ true
zeros_zero zero = refl
zeros_zero (suc n) = zeros_zero n

-- ---- a row in its words

pub fields_split : (a b : ℕ) (s : List ℕ) (at : ℕ) → fields (a + b) s at ≡ fields a s at ++ fields b s (at + a)
unfolding fields
fields_split zero b s at = rw (zero-add, add-zero)
fields_split (suc a) b s at =
    let e : suc a + b ≡ suc (a + b) = omega arith in
    let f : suc at + a ≡ at + suc a = omega arith in
    rw e (ap (λ (l : List ℕ). get_or s at 0 ∷ l) (fields_split a b s (suc at) ∙ rw f))

-- zeros past the width: the row is padded
pub fields-padded : (w n : ℕ) (s : List ℕ) (at : ℕ) → w ≤ n → all_zero (fields (n - w) s (at + w)) ≡ true → fields n s at ≡ padded n (fields w s at)
fields-padded w n s at h z =
    let e : w + (n - w) ≡ n = omega arith in
    ap (λ (k : ℕ). fields k s at) (sym e)
    ∙ fields_split w (n - w) s at
    ∙ ap (λ (l : List ℕ). fields w s at ++ l) (zeros_are (fields (n - w) s (at + w)) z ∙ rw (length_fields (n - w) s (at + w), length_fields w s at))

-- ---- the rows of a place

module _ (L : Layout) where
  -- where row j of node i starts, counted in rows
  pub row_start_lem : (i j : ℕ) → (L.capacity * i + j) * L.stride ≡ row_start L i j
  row_start_lem i j =
      let e : L.capacity * i * L.stride ≡ L.capacity * L.stride * i = mul_assoc L.capacity i L.stride ∙ ap (λ (k : ℕ). L.capacity * k) (mul_comm i L.stride)
      ∙ sym (mul_assoc L.capacity L.stride i) in
      add-mul (L.capacity * i) j L.stride ∙ rw (e, mul_comm j L.stride)

  -- rows with zeros past the width, then rows of zeros
  rows_held_lem : (w : ℕ) (area : List ℕ) (i count j n : ℕ) → w ≤ L.stride → j + n ≤ L.capacity →
      ((k : ℕ) → k < L.capacity → all_zero (unused_of L w count area i k) ≡ true) → j + n ≤ count →
      rows_from L.stride area (L.capacity * i + j) n ≡ map (padded L.stride) (map (λ k. fields w area (row_start L i k)) (count_from j n))
  unfolding rows_from row_at unused_of
  rows_held_lem w area i count j zero h f z g = refl
  rows_held_lem w area i count j (suc n) h f z g =
      let here : all_zero (fields (L.stride - w) area (row_start L i j + w)) ≡ true = rw (lt-ltb j count (omega arith)) at (z j (omega arith)) in
      let next : suc (L.capacity * i + j) ≡ L.capacity * i + suc j = omega arith in
      ap₂ {A = Row} {B = List Row} {C = List Row} (λ r l. r ∷ l)
      (ap (fields L.stride area) (row_start_lem i j) ∙ fields-padded w L.stride area (row_start L i j) h here)
      (rw next (rows_held_lem w area i count (suc j) n h (omega arith) z (omega arith)))

  rows_unused : (w : ℕ) (area : List ℕ) (i count j n : ℕ) → j + n ≤ L.capacity →
      ((k : ℕ) → k < L.capacity → all_zero (unused_of L w count area i k) ≡ true) → count ≤ j →
      rows_from L.stride area (L.capacity * i + j) n ≡ replicate n (replicate L.stride 0)
  unfolding rows_from row_at unused_of
  rows_unused w area i count j zero f z g = refl
  rows_unused w area i count j (suc n) f z g =
      let here : all_zero (fields L.stride area (row_start L i j)) ≡ true = rw (le-ltb j count g) at (z j (omega arith)) in
      let next : suc (L.capacity * i + j) ≡ L.capacity * i + suc j = omega arith in
      ap₂ {A = Row} {B = List Row} {C = List Row} (λ r l. r ∷ l)
      (ap (fields L.stride area) (row_start_lem i j) ∙ zeros_are (fields L.stride area (row_start L i j)) here ∙ rw (length_fields L.stride area (row_start L i j)))
      (rw next (rows_unused w area i count (suc j) n (omega arith) z (omega arith)))

-- ---- lists of rows

pub rows_append : (w : ℕ) (s : List ℕ) (j a b : ℕ) → rows_from w s j (a + b) ≡ rows_from w s j a ++ rows_from w s (j + a) b
unfolding rows_from
rows_append w s j zero b = rw (zero-add, add-zero)
rows_append w s j (suc a) b =
    let e : suc a + b ≡ suc (a + b) = omega arith in
    let f : suc j + a ≡ j + suc a = omega arith in
    rw e (ap (λ (l : List Row). row_at w s j ∷ l) (rows_append w s (suc j) a b ∙ rw f))

pub words-map : (f : Row → List ℕ) (l : List Row) → words (map f l) ≡ flat_map f l
unfolding flat_map
words-map f [] = refl
words-map f (r ∷ l) = ap (λ (t : List ℕ). f r ++ t) (words-map f l)

-- every row has w fields
pub wide_zeros : (w k : ℕ) → Wide w (replicate k (replicate w 0))
wide_zeros w zero = tt
wide_zeros w (suc k) = (length-replicate w 0, wide_zeros w k)

pub length-padded : (n : ℕ) (r : Row) → length r ≤ n → length (padded n r) ≡ n
length-padded n r h = length-append r (replicate (n - length r) 0) ∙ rw length-replicate (omega arith)

pub wide-padded : (w n : ℕ) (l : List Row) → w ≤ n → Wide w l → Wide n (map (padded n) l)
wide-padded w n [] h a = tt
wide-padded w n (r ∷ l) h a = (length-padded n r (rw a.0 h), wide-padded w n l h a.1)

pub length-map-padded : (n : ℕ) (l : List Row) → length (map (padded n) l) ≡ length l
length-map-padded n l = length-map l (padded n)

wide_held : (w : ℕ) (s : List ℕ) (f : ℕ → ℕ) (l : List ℕ) → Wide w (map (λ k. fields w s (f k)) l)
wide_held w s f [] = tt
wide_held w s f (k ∷ l) = (length_fields w s (f k), wide_held w s f l)

length-below : (f : ℕ → Row) (from n : ℕ) → length (map f (count_from from n)) ≡ n
length-below f from zero = refl
length-below f from (suc n) = ap suc (length-below f (suc from) n)

-- the rows that a place holds have its width, and are as many as its count says
pub held_wide : (L : Layout) (w count : ℕ) (area : List ℕ) (i : ℕ) → Wide w (held_in L w count area i)
unfolding held_in
held_wide L w count area i = wide_held w area (row_start L i) (numbers_below count)

pub length_held : (L : Layout) (w count : ℕ) (area : List ℕ) (i : ℕ) → length (held_in L w count area i) ≡ count
unfolding held_in
length_held L w count area i = length-below (λ k. fields w area (row_start L i k)) 0 count

-- ---- the words of a place, from its rows padded and rows of zeros

pub placed-words : (L : Layout) (w : ℕ) (rel : Relation) → w ≤ L.stride → Wide w rel → length rel ≤ L.capacity →
    words (map (padded L.stride) rel ++ replicate (L.capacity - length rel) (replicate L.stride 0)) ≡ place_of L rel
unfolding place_of
placed-words L w rel h a f =
    let n : ℕ = L.stride in
    let used : length (words (map (padded n) rel)) ≡ length rel * n = length-words n (map (padded n) rel) (wide-padded w n rel h a) ∙ rw (length-map-padded n rel) in
    let rest : (L.capacity - length rel) * n ≡ L.capacity * n - length rel * n =
    mul_comm (L.capacity - length rel) n ∙ mul-sub n L.capacity (length rel) ∙ rw (mul_comm n L.capacity, mul_comm n (length rel)) in
    words_append (map (padded n) rel) (replicate (L.capacity - length rel) (replicate n 0))
    ∙ rw (words_zeros n (L.capacity - length rel), rest, ← used, words-map (padded n) rel)

-- ---- "unused words 0": the place is exactly the words of its rows

pub place-words : (L : Layout) (w : ℕ) (area : List ℕ) (i count : ℕ) → w ≤ L.stride → count ≤ L.capacity → place_words L * i + place_words L ≤ length area →
    unused_zero L w count area i ≡ true → take (place_words L) (drop (place_words L * i) area) ≡ place_of L (held_in L w count area i)
unfolding unused_zero held_in
place-words L w area i count h f g z =
    let n : ℕ = L.stride in
    let zero_at : (k : ℕ) → k < L.capacity → all_zero (unused_of L w count area i k) ≡ true =
    λ k b. ap (λ (j : ℕ). all_zero (unused_of L w count area i j)) (sym (zero-add k)) ∙ all_below (λ j. all_zero (unused_of L w count area i j)) 0 L.capacity z k b in
    let start : L.capacity * i * n ≡ place_words L * i = ap (λ (k : ℕ). k * n) (sym (add-zero (L.capacity * i))) ∙ row_start_lem L i 0 ∙ rw (mul-zero n, add-zero) in
    let split : count + (L.capacity - count) ≡ L.capacity = omega arith in
    let rows : rows_from n area (L.capacity * i) L.capacity ≡ map (padded n) (held_in L w count area i) ++ replicate (L.capacity - count) (replicate n 0) =
    ap (rows_from n area (L.capacity * i)) (sym split)
    ∙ rows_append n area (L.capacity * i) count (L.capacity - count)
    ∙ ap₂ {A = List Row} {B = List Row} {C = List Row} (λ a b. a ++ b)
    (ap (λ (j : ℕ). rows_from n area j count) (sym (add-zero (L.capacity * i))) ∙ first_rows_lem L w area i count h f zero_at)
    (rows_unused L w area i count count (L.capacity - count) (omega arith) zero_at (le_refl count)) in
    sym (words-rows n area (L.capacity * i) L.capacity (rw start g) ∙ rw start)
    ∙ ap words rows
    ∙ ap (λ (k : ℕ). words (map (padded n) (held_in L w count area i) ++ replicate (L.capacity - k) (replicate n 0))) (sym (length_held L w count area i))
    ∙ placed-words L w (held_in L w count area i) h (held_wide L w count area i) (rw (length_held L w count area i) f)
  where
    first_rows_lem : (L : Layout) (w : ℕ) (area : List ℕ) (i count : ℕ) → w ≤ L.stride → count ≤ L.capacity → ((k : ℕ) → k < L.capacity → all_zero (unused_of L w count area i k) ≡ true) →
        rows_from L.stride area (L.capacity * i + 0) count ≡ map (padded L.stride) (held_in L w count area i)
    first_rows_lem L w area i count h f z = rows_held_lem L w area i count 0 count h (rw zero-add f) z (rw zero-add (le_refl count))

-- ---- the words of some rows read back as those rows

map_below : (f : ℕ → Row) (from : ℕ) (l : List Row) → ((k : ℕ) → k < length l → f (from + k) ≡ get_or l k []) → map f (count_from from (length l)) ≡ l
map_below f from [] h = refl
map_below f from (r ∷ l) h =
    ap₂ {A = Row} {B = List Row} {C = List Row} (λ a b. a ∷ b)
    (ap f (sym (add-zero from)) ∙ h 0 (suc-le-suc zero-le))
    (map_below f (suc from) l (λ k b. let e : suc from + k ≡ from + suc k = omega arith in ap f e ∙ h (suc k) (suc-le-suc b)))

wide_at : (w : ℕ) (l : List Row) (k : ℕ) → Wide w l → k < length l → length (get_or l k []) ≡ w
wide_at w [] k a h = absurd (not-suc-le-zero h)
wide_at w (r ∷ l) zero a h = a.0
wide_at w (r ∷ l) (suc k) a h = wide_at w l k a.1 (le_of_suc-le-suc h)

padded_at : (n : ℕ) (l rest : List Row) (k : ℕ) → k < length l → get_or (map (padded n) l ++ rest) k [] ≡ padded n (get_or l k [])
padded_at n [] rest k h = absurd (not-suc-le-zero h)
padded_at n (r ∷ l) rest zero h = refl
padded_at n (r ∷ l) rest (suc k) h = padded_at n l rest k (le_of_suc-le-suc h)

zeros_at : (l : List Row) (z : Row) (m k : ℕ) → length l ≤ k → k < length l + m → get_or (l ++ replicate m z) k [] ≡ z
zeros_at [] z m k h f = get_or-replicate m k z [] (omega arith)
zeros_at (r ∷ l) z m zero h f = absurd (not-suc-le-zero h)
zeros_at (r ∷ l) z m (suc k) h f = zeros_at l z m k (le_of_suc-le-suc h) (omega arith)

module _ (L : Layout) (w : ℕ) (area : List ℕ) (i : ℕ) (rel : Relation) (narrow : w ≤ L.stride) (wide : Wide w rel) (few : length rel ≤ L.capacity)
    (long : place_words L * i + place_words L ≤ length area) (is : take (place_words L) (drop (place_words L * i) area) ≡ place_of L rel) where
  abbrev all : List Row
  all = map (padded L.stride) rel ++ replicate (L.capacity - length rel) (replicate L.stride 0)

  all_length : length all ≡ L.capacity
  all_length = length-append (map (padded L.stride) rel) (replicate (L.capacity - length rel) (replicate L.stride 0))
      ∙ rw (length-map-padded L.stride rel, length-replicate) (omega arith)

  all_wide : Wide L.stride all
  all_wide = wide-append L.stride (map (padded L.stride) rel) (replicate (L.capacity - length rel) (replicate L.stride 0)) (wide-padded w L.stride rel narrow wide)
      (wide_zeros L.stride (L.capacity - length rel))

  -- every row of the place, in all its words
  whole_row : (k : ℕ) → k < L.capacity → fields L.stride area (row_start L i k) ≡ get_or all k []
  unfolding row_at
  whole_row k h =
      let n : ℕ = L.stride in
      let start : L.capacity * i * n ≡ place_words L * i = ap (λ (m : ℕ). m * n) (sym (add-zero (L.capacity * i))) ∙ row_start_lem L i 0 ∙ rw (mul-zero n, add-zero) in
      let part : take (L.capacity * n) (drop (L.capacity * i * n) area) ≡ words all ++ [] = rw start (is ∙ sym (placed-words L w rel narrow wide few) ∙ sym (append-nil (words all))) in
      let rows : rows_from n area (L.capacity * i) L.capacity ≡ all =
      sym (rows-part n (L.capacity * n) area (L.capacity * i) L.capacity (le_refl (L.capacity * n)))
      ∙ ap (λ (s : List ℕ). rows_from n s 0 L.capacity) part
      ∙ ap (rows_from n (words all ++ []) 0) (sym all_length)
      ∙ rows_words n all [] all_wide in
      ap (fields n area) (sym (row_start_lem L i k)) ∙ sym (row_at_lem n area (L.capacity * i) L.capacity k h) ∙ ap (λ (l : List Row). get_or l k []) rows

  -- a used row: its fields, and zeros past them
  used_row : (k : ℕ) → k < length rel → fields w area (row_start L i k) ++ fields (L.stride - w) area (row_start L i k + w) ≡ get_or rel k [] ++ replicate (L.stride - w) 0
  used_row k h =
      let e : w + (L.stride - w) ≡ L.stride = omega arith in
      sym (fields_split w (L.stride - w) area (row_start L i k))
      ∙ rw e (whole_row k (omega arith) ∙ padded_at L.stride rel (replicate (L.capacity - length rel) (replicate L.stride 0)) k h ∙ rw (wide_at w rel k wide h))

  used_fields : (k : ℕ) → k < length rel → fields w area (row_start L i k) ≡ get_or rel k []
  used_fields k h =
      sym (take_at (fields w area (row_start L i k)) (fields (L.stride - w) area (row_start L i k + w)) w (length_fields w area (row_start L i k)))
      ∙ ap (take w) (used_row k h)
      ∙ take_at (get_or rel k []) (replicate (L.stride - w) 0) w (wide_at w rel k wide h)

  used_rest : (k : ℕ) → k < length rel → fields (L.stride - w) area (row_start L i k + w) ≡ replicate (L.stride - w) 0
  used_rest k h =
      sym (drop_at (fields w area (row_start L i k)) (fields (L.stride - w) area (row_start L i k + w)) w (length_fields w area (row_start L i k)))
      ∙ ap (drop w) (used_row k h)
      ∙ drop_at (get_or rel k []) (replicate (L.stride - w) 0) w (wide_at w rel k wide h)

  pub place-reads : held_in L w (length rel) area i ≡ rel
  unfolding held_in
  place-reads = map_below (λ k. fields w area (row_start L i k)) 0 rel (λ k h. ap (λ (j : ℕ). fields w area (row_start L i j)) (zero-add k) ∙ used_fields k h)

  pub place_clean : unused_zero L w (length rel) area i ≡ true
  unfolding unused_zero unused_of
  place_clean = below_all (λ j. all_zero (unused_of L w (length rel) area i j)) 0 L.capacity (λ k h. rw zero-add (go k h (ltb k (length rel)) refl))
    where
      go : (k : ℕ) → k < L.capacity → (t : Bool) → ltb k (length rel) ≡ t → all_zero (cond t (fields (L.stride - w) area (row_start L i k + w)) (fields L.stride area (row_start L i k)))
          ≡ true
      go k h true e = rw (used_rest k (ltb-true k (length rel) e)) (zeros_zero (L.stride - w))
      go k h false e =
          let past : length rel ≤ k = ltb-false k (length rel) e in
          let zeros : get_or all k [] ≡ replicate L.stride 0 =
          zeros_at (map (padded L.stride) rel) (replicate L.stride 0) (L.capacity - length rel) k (rw (length-map-padded L.stride rel) past)
          (rw (length-map-padded L.stride rel) (omega arith)) in
          rw (whole_row k h ∙ zeros) (zeros_zero L.stride)
