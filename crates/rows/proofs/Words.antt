-- Rows in a list of words, for rows of any number of words. Assumes nothing.
use mathlib.Core.Path.{◌≡◌, refl, sym, ap, ◌∙◌}
use mathlib.Core.List.{List, [], ◌∷◌, ◌++◌, append_assoc, append-nil}
use Prim.Native.Nat.{Ordering}
use Prim.Native.Nat.{ℕ, zero, suc, ◌+◌, ◌-◌, ◌*◌, ◌≤◌, ◌<◌, compare}
use native.Mathlib.Nat.{suc-mul, zero-mul, add-zero}
use native.Mathlib.Omega.{arith}
use Rattle.std.proofs.lemmas.List.{drop-replicate}
use lib.ListN.{length-drop, replicate, replicate-append-replicate, length, get_or, take, drop, length-append, take-append-drop}
use lib.Seq.{paste, get_or-drop, take-nil, drop-nil, get_or-take}
use lib.Seq.{sets, sets-eq, take-add, drop-drop, take-append-add, drop-append-add, length-take-le, drop-cons, take_at, drop_at}
use Rattle.model.specs.Row.{Row, and_then, order, Wide}
use Rattle.model.specs.Areas.{fields}
use Rattle.laws.proofs.Order.{lt_compare, gt_compare, eq_compare}
use Rattle.rows.specs.Rows.{row_at, rows_from, words, stored}
pub use Rattle.laws.proofs.Parts.{keep_append}

-- ---- comparing field by field

pub order-turn : (w k : ℕ) → k < w → (s : List ℕ) (i : ℕ) (t : List ℕ) (j : ℕ) →
    order (fields (w - k) s (i + k)) (fields (w - k) t (j + k))
    ≡ and_then (compare (get_or s (i + k) 0) (get_or t (j + k) 0)) (order (fields (w - (k + 1)) s (i + (k + 1))) (fields (w - (k + 1)) t (j + (k + 1))))
unfolding fields
order-turn w k h s i t j =
    let e : w - k ≡ suc (w - (k + 1)) = omega arith in
    let f : i + (k + 1) ≡ suc (i + k) = omega arith in
    let g : j + (k + 1) ≡ suc (j + k) = omega arith in
    rw (e, f, g)

-- w words of s from index i on and of t from index j on agree in their first k: what is left decides
abbrev pub Agree : ℕ → List ℕ → ℕ → List ℕ → ℕ → ℕ → Type 0
Agree w s i t j k = order (fields w s i) (fields w t j) ≡ order (fields (w - k) s (i + k)) (fields (w - k) t (j + k))

module _ (w : ℕ) (s : List ℕ) (i : ℕ) (t : List ℕ) (j : ℕ) where
  pub agree_none : Agree w s i t j 0
  agree_none =
      let e : w - 0 ≡ w = omega arith in
      let f : i + 0 ≡ i = omega arith in
      let g : j + 0 ≡ j = omega arith in
      rw (e, f, g)

  pub agree_more : (k : ℕ) → k < w → Agree w s i t j k → get_or t (j + k) 0 ≤ get_or s (i + k) 0 → get_or s (i + k) 0 ≤ get_or t (j + k) 0 → Agree w s i t j (k + 1)
  agree_more k h a p q = a ∙ order-turn w k h s i t j ∙ rw (eq_compare (get_or s (i + k) 0) (get_or t (j + k) 0) (omega arith))

  pub agree_less : (k : ℕ) → k < w → Agree w s i t j k → get_or s (i + k) 0 < get_or t (j + k) 0 → order (fields w s i) (fields w t j) ≡ Ordering.lt
  agree_less k h a p = a ∙ order-turn w k h s i t j ∙ rw (lt_compare (get_or s (i + k) 0) (get_or t (j + k) 0) p)

  pub agree_greater : (k : ℕ) → k < w → Agree w s i t j k → get_or t (j + k) 0 < get_or s (i + k) 0 → order (fields w s i) (fields w t j) ≡ Ordering.gt
  agree_greater k h a p = a ∙ order-turn w k h s i t j ∙ rw (gt_compare (get_or s (i + k) 0) (get_or t (j + k) 0) p)

  pub agree_all : (k : ℕ) → w ≤ k → Agree w s i t j k → order (fields w s i) (fields w t j) ≡ Ordering.eq
  unfolding fields
  agree_all k h a = let e : w - k ≡ 0 = omega arith in a ∙ rw e

-- ---- the rows from a place on

pub rows_cons : (w : ℕ) (s : List ℕ) (n j : ℕ) → j < n → rows_from w s j (n - j) ≡ row_at w s j ∷ rows_from w s (j + 1) (n - (j + 1))
unfolding rows_from
rows_cons w s n j h =
    let e : n - j ≡ suc (n - (j + 1)) = omega arith in
    let f : j + 1 ≡ suc j = omega arith in
    rw (e, f)

pub rows_none : (w : ℕ) (s : List ℕ) (n j : ℕ) → n ≤ j → rows_from w s j (n - j) ≡ []
unfolding rows_from
rows_none w s n j h = let e : n - j ≡ 0 = omega arith in rw e

pub length-rows : (w : ℕ) (s : List ℕ) (j n : ℕ) → length (rows_from w s j n) ≡ n
unfolding rows_from
length-rows w s j zero = refl
length-rows w s j (suc n) = ap suc (length-rows w s (suc j) n)

-- ---- the rows' words

pub words_append : (a b : List Row) → words (a ++ b) ≡ words a ++ words b
words_append [] b = refl
words_append (r ∷ a) b = rw (words_append a b) (sym (append_assoc r (words a) (words b)))

pub length_fields : (w : ℕ) (s : List ℕ) (at : ℕ) → length (fields w s at) ≡ w
unfolding fields
length_fields zero s at = refl
length_fields (suc w) s at = ap suc (length_fields w s (suc at))

pub length-row : (w : ℕ) (s : List ℕ) (j : ℕ) → length (row_at w s j) ≡ w
unfolding row_at
length-row w s j = length_fields w s (j * w)

pub wide_rows : (w : ℕ) (s : List ℕ) (j n : ℕ) → Wide w (rows_from w s j n)
unfolding rows_from
wide_rows w s j zero = tt
wide_rows w s j (suc n) = (length-row w s j, wide_rows w s (suc j) n)

pub length-words : (w : ℕ) (l : List Row) → Wide w l → length (words l) ≡ length l * w
length-words w [] h = sym (zero-mul w)
length-words w (r ∷ l) h = length-append r (words l) ∙ rw (h.0, length-words w l h.1, suc-mul) (omega arith)

pub take_words : (w p : ℕ) (l : List Row) → Wide w l → take (p * w) (words l) ≡ words (take p l)
take_words w zero l h = rw zero-mul
take_words w (suc p) [] h = take-nil (suc p * w)
take_words w (suc p) (r ∷ l) h =
    let e : suc p * w ≡ length r + p * w = suc-mul p w ∙ rw h.0 (omega arith) in
    rw (e, take-append-add, take_words w p l h.1)

pub drop-words : (w p : ℕ) (l : List Row) → Wide w l → drop (p * w) (words l) ≡ words (drop p l)
drop-words w zero l h = rw zero-mul
drop-words w (suc p) [] h = drop-nil (suc p * w)
drop-words w (suc p) (r ∷ l) h =
    let e : suc p * w ≡ length r + p * w = suc-mul p w ∙ rw h.0 (omega arith) in
    rw (e, drop-append-add, drop-words w p l h.1)

-- fields that lie within the list are a part of it
pub fields-part : (w : ℕ) (s : List ℕ) (at : ℕ) → at + w ≤ length s → fields w s at ≡ take w (drop at s)
unfolding fields
fields-part zero s at h = refl
fields-part (suc w) s at h = rw (drop-cons s at 0 (omega arith), fields-part w s (suc at) (omega arith))

pub words-rows : (w : ℕ) (s : List ℕ) (j n : ℕ) → j * w + n * w ≤ length s → words (rows_from w s j n) ≡ take (n * w) (drop (j * w) s)
unfolding rows_from row_at
words-rows w s j zero h = rw zero-mul
words-rows w s j (suc n) h =
    let e : suc n * w ≡ w + n * w = suc-mul n w ∙ omega arith in
    let f : suc j * w ≡ j * w + w = suc-mul j w in
    rw (e, fields-part w s (j * w) (omega (arith, e)), words-rows w s (suc j) n (omega (arith, e, f)), f, take-add, drop-drop)

-- ---- what is stored is there

pub stored_same : (w : ℕ) (s : List ℕ) (n : ℕ) → n * w ≤ length s → s ≡ stored (rows_from w s 0 n) s
unfolding stored
stored_same w s n h =
    let e : words (rows_from w s 0 n) ≡ take (n * w) s = words-rows w s 0 n (omega (arith, zero-mul w)) ∙ rw zero-mul in
    sym (rw (e, length-take-le (n * w) s h) (take-append-drop (n * w) s))

-- ---- one row more at the end

pub rows_snoc : (w : ℕ) (s : List ℕ) (j n : ℕ) → rows_from w s j (n + 1) ≡ rows_from w s j n ++ (row_at w s (j + n) ∷ [])
unfolding rows_from
rows_snoc w s j zero = rw add-zero
rows_snoc w s j (suc n) =
    let e : suc n + 1 ≡ suc (n + 1) = omega arith in
    let f : j + suc n ≡ suc j + n = omega arith in
    rw (e, f, rows_snoc w s (suc j) n)

pub stored_push : (w : ℕ) (l : List Row) (r : Row) (b : List ℕ) (n : ℕ) → Wide w l → length r ≡ w → n ≡ length l → n * w + w ≤ length b →
    sets (stored l b) (n * w) r ≡ stored (l ++ (r ∷ [])) b
unfolding stored
stored_push w l r b n wide lr ln fits =
    let size : length (words l) ≡ n * w = length-words w l wide ∙ rw ln in
    let more : words (l ++ (r ∷ [])) ≡ words l ++ r = words_append l (r ∷ []) ∙ rw append-nil in
    let whole : length (words l ++ drop (n * w) b) ≡ length b = length-append (words l) (drop (n * w) b) ∙ rw (size, length-drop) (omega arith) in
    rw size (sets-eq r (words l ++ drop (n * w) b) (n * w) (rw (whole, lr) fits)
    ∙ rw (take_at (words l) (drop (n * w) b) (n * w) size, lr)
    (rw (← drop-drop, drop_at (words l) (drop (n * w) b) (n * w) size, drop-drop, more, length-append, size, lr)))

-- ---- reading back

pub fields-drop : (w : ℕ) (s : List ℕ) (m at : ℕ) → fields w (drop m s) at ≡ fields w s (m + at)
unfolding fields
fields-drop zero s m at = refl
fields-drop (suc w) s m at =
    let e : m + suc at ≡ suc (m + at) = omega arith in
    rw (get_or-drop, fields-drop w s m (suc at), e)

pub rows_shift : (w : ℕ) (s : List ℕ) (j n : ℕ) → rows_from w (drop w s) j n ≡ rows_from w s (suc j) n
unfolding rows_from row_at
rows_shift w s j zero = refl
rows_shift w s j (suc n) =
    let e : suc j * w ≡ w + j * w = suc-mul j w ∙ omega arith in
    rw (e, fields-drop w s w (j * w), rows_shift w s (suc j) n)

-- the rows of a part that starts at row j
pub rows_drop : (w : ℕ) (s : List ℕ) (j n : ℕ) → rows_from w (drop (j * w) s) 0 n ≡ rows_from w s j n
rows_drop w s zero n = rw zero-mul
rows_drop w s (suc j) n =
    let e : suc j * w ≡ w + j * w = suc-mul j w ∙ omega arith in
    rw (e, ← drop-drop, rows_drop w (drop w s) j n) (rows_shift w s j n)

pub rows_words : (w : ℕ) (l : List Row) (t : List ℕ) → Wide w l → rows_from w (words l ++ t) 0 (length l) ≡ l
unfolding rows_from row_at
rows_words w [] t h = refl
rows_words w (r ∷ l) t h =
    let f : fields w (r ++ (words l ++ t)) 0 ≡ r =
    fields-part w (r ++ (words l ++ t)) 0 (simp (length-append, h.0) (omega arith)) ∙ take_at r (words l ++ t) w h.0 in
    let a : words (r ∷ l) ++ t ≡ r ++ (words l ++ t) = rw append_assoc in
    let split : rows_from w (r ++ (words l ++ t)) 0 (length (r ∷ l)) ≡ r ∷ l =
    rw (zero-mul, f, ← (rows_shift w (r ++ (words l ++ t)) 0 (length l)), drop_at r (words l ++ t) w h.0, rows_words w l t h.1) in
    ap (λ (s : List ℕ). rows_from w s 0 (length (r ∷ l))) a ∙ split

pub rows-stored : (w : ℕ) (l : List Row) (s : List ℕ) → Wide w l → rows_from w (stored l s) 0 (length l) ≡ l
unfolding stored
rows-stored w l s h = rows_words w l (drop (length (words l)) s) h

-- rows depend on their own words alone
pub fields_ext : (w : ℕ) (s t : List ℕ) (at : ℕ) → ((k : ℕ) → at ≤ k → k < at + w → get_or s k 0 ≡ get_or t k 0) → fields w s at ≡ fields w t at
unfolding fields
fields_ext zero s t at h = refl
fields_ext (suc w) s t at h = λ i. h at (omega arith) (omega arith) i ∷ fields_ext w s t (suc at) (λ k a b. h k (omega arith) (omega arith)) i

-- ---- one storing after another

pub stored-stored : (l k : List Row) (b : List ℕ) → length (words l) ≤ length (words k) → stored k (stored l b) ≡ stored k b
unfolding stored
stored-stored l k b h =
    let e : length (words k) ≡ length (words l) + (length (words k) - length (words l)) = omega arith in
    ap (λ (t : List ℕ). words k ++ t) (ap (λ (n : ℕ). drop n (words l ++ drop (length (words l)) b)) e ∙ rw (drop-append-add, drop-drop, ← e))

-- ---- rows of a list that agrees with another on their words

pub rows_ext : (w : ℕ) (s t : List ℕ) (j n : ℕ) → ((k : ℕ) → k < j * w + n * w → get_or s k 0 ≡ get_or t k 0) → rows_from w s j n ≡ rows_from w t j n
unfolding rows_from row_at
rows_ext w s t j zero h = refl
rows_ext w s t j (suc n) h =
    let e : suc n * w ≡ n * w + w = suc-mul n w in
    let f : suc j * w ≡ j * w + w = suc-mul j w in
    rw (fields_ext w s t (j * w) (λ k a b. h k (omega (arith, e))), rows_ext w s t (suc j) n (λ k b. h k (omega (arith, e, f))))

-- the rows of a part
pub rows-part : (w m : ℕ) (s : List ℕ) (j n : ℕ) → n * w ≤ m → rows_from w (take m (drop (j * w) s)) 0 n ≡ rows_from w s j n
rows-part w m s j n h =
    rows_ext w (take m (drop (j * w) s)) (drop (j * w) s) 0 n (λ k b. get_or-take m (drop (j * w) s) k 0 (omega (arith, zero-mul w)))
    ∙ rows_drop w s j n

-- ---- blocks: what stands past the rows is 0

pub drop_zeros : (k n : ℕ) → drop k (replicate n zero) ≡ replicate (n - k) zero
drop_zeros k n = drop-replicate k n zero

pub words_zeros : (w k : ℕ) → words (replicate k (replicate w zero)) ≡ replicate (k * w) zero
words_zeros w zero = rw zero-mul
words_zeros w (suc k) =
    let e : suc k * w ≡ w + k * w = suc-mul k w ∙ omega arith in
    rw (e, words_zeros w k) (replicate-append-replicate w (k * w) zero)

-- ---- a row copied to its place is a run of stores

pub paste_sets : (d s : List ℕ) (at n : ℕ) (r : Row) → r ≡ take n s → length r ≡ n → at + n ≤ length d → paste d at s n ≡ sets d at r
paste_sets d s at n r e l h = sym (sets-eq r d at (rw l h) ∙ rw (l, e))
