-- A gap for a row opened and closed in a list of words, for rows of any number of words. Assumes nothing.
use mathlib.Core.Path.{◌≡◌, sym, ap, ap₂, ◌∙◌}
use mathlib.Core.List.{List, [], ◌∷◌, ◌++◌, append_assoc, append-nil}
use Prim.Native.Nat.{ℕ, zero, suc, ◌+◌, ◌-◌, ◌*◌, ◌≤◌, ◌<◌}
use native.Mathlib.Nat.{suc-mul, zero-mul, suc-add, mul-le-mul_right}
use native.Mathlib.Omega.{arith}
use lib.ListN.{length-drop, replicate, length-replicate, length, get_or, set, take, drop, length-append, take-append-drop, get_or-append}
use lib.Seq.{paste, take_all, take-take, length-slice, take-append-le, slice, slice_empty, slice-cons, take-suc, get_or-take}
use lib.Seq.{append_snoc, set_at, sets, sets-eq, drop-drop, length-take-le, take_at, drop_at}
use Rattle.std.proofs.lemmas.List.{drop-take}
use Rattle.model.specs.Row.{Row}
use Rattle.model.specs.Areas.{fields}
use Rattle.rows.specs.Rows.{row_at, rows_from, words, stored}
use Rattle.rows.proofs.Words.{fields-part, length_fields, paste_sets, wide_rows, words_append, words-rows, take_words, drop-words}

-- ---- a gap of b words: the words from index k up to `to` moved b places up

abbrev pub gap : ℕ → ℕ → ℕ → List ℕ → List ℕ
gap b k to s = take (k + b) s ++ (slice k to s ++ drop (to + b) s)

pub gap_none : (b to : ℕ) (s : List ℕ) → to + b ≤ length s → s ≡ gap b to to s
gap_none b to s h = sym (rw (slice_empty to s) (take-append-drop (to + b) s))

gap_step : (b k to : ℕ) (s : List ℕ) → k < to → to + b ≤ length s → set (gap b (suc k) to s) (k + b) (get_or (gap b (suc k) to s) k 0) ≡ gap b k to s
gap_step b k to s h f =
    let r : List ℕ = slice (suc k) to s ++ drop (to + b) s in
    let e : take (suc k + b) s ≡ take (k + b) s ++ (get_or s (k + b) 0 ∷ []) = ap (λ (n : ℕ). take n s) (suc-add k b) ∙ take-suc s (k + b) 0 (omega arith) in
    let v : get_or (gap b (suc k) to s) k 0 ≡ get_or s k 0 =
    get_or-append (take (suc k + b) s) r 0 k (rw (length-take-le (suc k + b) s (omega arith)) (omega arith)) ∙ get_or-take (suc k + b) s k 0 (omega arith) in
    let g : gap b (suc k) to s ≡ take (k + b) s ++ (get_or s (k + b) 0 ∷ r) = ap (λ (l : List ℕ). l ++ r) e ∙ append_snoc (take (k + b) s) (get_or s (k + b) 0) r in
    ap₂ (λ (l : List ℕ) (x : ℕ). set l (k + b) x) g v
    ∙ set_at (take (k + b) s) (get_or s (k + b) 0) r (get_or s k 0) (k + b) (length-take-le (k + b) s (omega arith))
    ∙ ap (λ (l : List ℕ). take (k + b) s ++ (l ++ drop (to + b) s)) (sym (slice-cons k to s 0 h (omega arith)))

pub gap_turn : (b k to : ℕ) (s t : List ℕ) → 0 < k → k ≤ to → to + b ≤ length s → t ≡ gap b k to s → set t (k - 1 + b) (get_or t (k - 1) 0) ≡ gap b (k - 1) to s
gap_turn b k to s t p h f e =
    let q : k ≡ suc (k - 1) = omega arith in
    let e' : t ≡ gap b (suc (k - 1)) to s = e ∙ ap (λ (n : ℕ). gap b n to s) q in
    ap (λ (l : List ℕ). set l (k - 1 + b) (get_or l (k - 1) 0)) e' ∙ gap_step b (k - 1) to s (omega arith) f

-- words moved within a list, with the index behind their new place
pub moved_within : (s : List ℕ) (at from to end : ℕ) → from ≤ to → at + (to - from) ≡ end → paste s at (drop from s) (to - from) ≡ take at s ++ (slice from to s ++ drop end s)
moved_within s at from to end h f =
    let e : from + (to - from) ≡ to = omega arith in
    let part : take (to - from) (drop from s) ≡ slice from to s = sym (drop-take from (to - from) s) ∙ ap (λ (n : ℕ). drop from (take n s)) e in
    rw (part, f) (append_assoc (take at s) (slice from to s) (drop end s))

-- ---- a row put in at a place

module _ (w : ℕ) (r : Row) (s : List ℕ) (n p : ℕ) (wide : length r ≡ w) (fits : n * w + w ≤ length s) (within : p ≤ n) where
  abbrev all : List Row
  all = rows_from w s 0 n

  whole : words all ≡ take (n * w) s
  whole = words-rows w s 0 n (omega (arith, zero-mul w)) ∙ rw zero-mul

  front : words (take p all) ≡ take (p * w) s
  front = sym (take_words w p all (wide_rows w s 0 n)) ∙ rw (whole, take-take (p * w) (n * w) s (mul-le-mul_right w within))

  back : words (drop p all) ≡ slice (p * w) (n * w) s
  back = sym (drop-words w p all (wide_rows w s 0 n)) ∙ rw whole

  put-words : words (take p all ++ (r ∷ drop p all)) ≡ take (p * w) s ++ (r ++ slice (p * w) (n * w) s)
  put-words = words_append (take p all) (r ∷ drop p all) ∙ rw (front, back)

  put-size : length (words (take p all ++ (r ∷ drop p all))) ≡ n * w + w
  put-size =
      let h : p * w ≤ n * w = mul-le-mul_right w within in
      rw put-words (length-append (take (p * w) s) (r ++ slice (p * w) (n * w) s)
      ∙ rw (length-append, length-take-le (p * w) s (omega arith), length-slice (p * w) (n * w) s (omega arith), wide) (omega arith))

  pub put_in : sets (gap w (p * w) (n * w) s) (p * w) r ≡ stored (take p all ++ (r ∷ drop p all)) s
  unfolding stored
  put_in =
      let h : p * w ≤ n * w = mul-le-mul_right w within in
      let a : List ℕ = take (p * w + w) s in
      let b : List ℕ = slice (p * w) (n * w) s ++ drop (n * w + w) s in
      let la : length a ≡ p * w + w = length-take-le (p * w + w) s (omega arith) in
      sets-eq r (a ++ b) (p * w) (rw (length-append a b, wide, la) (omega arith))
      ∙ rw (wide, take-append-le (p * w) a b (rw la (omega arith)), take-take (p * w) (p * w + w) s (omega arith), drop_at a b (p * w + w) la, put-size, put-words)
      (simp append_assoc)

-- ---- closing a gap of b words: the words from index from + b up to k + b moved b places down

abbrev pub shut : ℕ → ℕ → ℕ → List ℕ → List ℕ
shut b from k s = take from s ++ (slice (from + b) (k + b) s ++ drop k s)

module _ (b from : ℕ) (s : List ℕ) where
  head-part : ℕ → List ℕ
  head-part k = take from s ++ slice (from + b) (k + b) s

  head-length : (k : ℕ) → from ≤ k → k + b ≤ length s → length (head-part k) ≡ k
  unfolding head-part
  head-length k h g = length-append (take from s) (slice (from + b) (k + b) s) ∙ rw (length-take-le from s (omega arith), length-slice (from + b) (k + b) s g) (omega arith)

  shut_split : (k : ℕ) → shut b from k s ≡ head-part k ++ drop k s
  unfolding head-part
  shut_split k = sym (append_assoc (take from s) (slice (from + b) (k + b) s) (drop k s))

  pub shut_clear : (to : ℕ) → from + b ≤ to → to ≤ length s → sets (shut b from (to - b) s) (to - b) (replicate b 0) ≡ take from s ++ (slice (from + b) to s ++ (replicate b 0 ++ drop to s))
  unfolding head-part
  shut_clear to h g =
      let k : ℕ = to - b in
      let e : k + b ≡ to = omega arith in
      let p : List ℕ = head-part k in
      let lp : length p ≡ k = head-length k (omega arith) (omega arith) in
      let z : List ℕ = replicate b 0 in
      let lz : length z ≡ b = length-replicate b 0 in
      let whole : length (p ++ drop k s) ≡ length s = length-append p (drop k s) ∙ rw (lp, length-drop) (omega arith) in
      let rest : drop (k + length z) (p ++ drop k s) ≡ drop to s =
      ap (λ (n : ℕ). drop (k + n) (p ++ drop k s)) lz ∙ sym (drop-drop b k (p ++ drop k s)) ∙ ap (drop b) (drop_at p (drop k s) k lp) ∙ drop-drop b k s ∙ ap (λ (n : ℕ). drop n s) e in
      ap (λ (l : List ℕ). sets l k (replicate b 0)) (shut_split k)
      ∙ sets-eq (replicate b 0) (p ++ drop k s) k (rw (lz, whole) (omega arith))
      ∙ rw (take_at p (drop k s) k lp, rest, e) (simp append_assoc)

-- ---- a row taken out at a place

module _ (w : ℕ) (s : List ℕ) (n p : ℕ) (fits : n * w ≤ length s) (within : p < n) where
  abbrev rest_of : List Row
  rest_of = take p (rows_from w s 0 n) ++ drop (suc p) (rows_from w s 0 n)

  out-words : words (rest_of ++ (replicate w 0 ∷ [])) ≡ take (p * w) s ++ (slice (p * w + w) (n * w) s ++ replicate w 0)
  out-words =
      let l : List Row = rows_from w s 0 n in
      let h : p * w ≤ n * w = mul-le-mul_right w (omega arith) in
      let whole : words l ≡ take (n * w) s = words-rows w s 0 n (omega (arith, zero-mul w)) ∙ rw zero-mul in
      let front : words (take p l) ≡ take (p * w) s = sym (take_words w p l (wide_rows w s 0 n)) ∙ rw (whole, take-take (p * w) (n * w) s h) in
      let back : words (drop (suc p) l) ≡ slice (p * w + w) (n * w) s = sym (drop-words w (suc p) l (wide_rows w s 0 n)) ∙ rw (suc-mul, whole) in
      words_append (take p l ++ drop (suc p) l) (replicate w 0 ∷ [])
      ∙ rw (words_append, front, back, append-nil) (append_assoc (take (p * w) s) (slice (p * w + w) (n * w) s) (replicate w 0))

  out-size : length (words (rest_of ++ (replicate w 0 ∷ []))) ≡ n * w
  out-size =
      let h : suc p * w ≤ n * w = mul-le-mul_right w within in
      let g : suc p * w ≡ p * w + w = suc-mul p w in
      let z : List ℕ = replicate w 0 in
      rw out-words (simp (length-append, length-take-le (p * w) s (omega (arith, h, g)), length-slice (p * w + w) (n * w) s fits, length-replicate) (omega (arith, h, g)))

  pub take_away : take (p * w) s ++ (slice (p * w + w) (n * w) s ++ (replicate w 0 ++ drop (n * w) s)) ≡ stored (rest_of ++ (replicate w 0 ∷ [])) s
  unfolding stored
  take_away = rw (out-size, out-words) (simp append_assoc)

-- row `at` of src, copied into the gap that was opened for it
pub put_copied : (w : ℕ) (src s : List ℕ) (at n p : ℕ) → at * w + w ≤ length src → n * w + w ≤ length s → p ≤ n →
    paste (gap w (p * w) (n * w) s) (p * w) (drop (at * w) src) w ≡ stored (take p (rows_from w s 0 n) ++ (row_at w src at ∷ drop p (rows_from w s 0 n))) s
unfolding row_at
put_copied w src s at n p g h f =
    let q : p * w ≤ n * w = mul-le-mul_right w f in
    let room : length (gap w (p * w) (n * w) s) ≡ length s =
    length-append (take (p * w + w) s) (slice (p * w) (n * w) s ++ drop (n * w + w) s)
    ∙ rw (length-append, length-take-le (p * w + w) s (omega arith), length-slice (p * w) (n * w) s (omega arith), length-drop) (omega arith) in
    paste_sets (gap w (p * w) (n * w) s) (drop (at * w) src) (p * w) w (fields w src (at * w)) (fields-part w src (at * w) g) (length_fields w src (at * w)) (rw room (omega arith))
    ∙ put_in w (fields w src (at * w)) s n p (length_fields w src (at * w)) h f

-- the gap of row p closed, and the place that becomes unused cleared
pub taken_cleared : (w : ℕ) (s : List ℕ) (n p : ℕ) → n * w ≤ length s → p < n →
    paste (take (p * w) s ++ (slice (p * w + w) (n * w) s ++ drop (n * w - w) s)) (n * w - w) (replicate w 0) w
    ≡ stored (take p (rows_from w s 0 n) ++ drop (suc p) (rows_from w s 0 n) ++ (replicate w 0 ∷ [])) s
taken_cleared w s n p h f =
    let q : suc p * w ≤ n * w = mul-le-mul_right w f in
    let g : suc p * w ≡ p * w + w = suc-mul p w in
    let e : n * w - w + w ≡ n * w = omega (arith, q, g) in
    let closed : take (p * w) s ++ (slice (p * w + w) (n * w) s ++ drop (n * w - w) s) ≡ shut w (p * w) (n * w - w) s = rw e in
    let z : List ℕ = replicate w 0 in
    let size : length (shut w (p * w) (n * w - w) s) ≡ length s =
    length-append (take (p * w) s) (slice (p * w + w) (n * w - w + w) s ++ drop (n * w - w) s)
    ∙ rw (length-append, length-take-le (p * w) s (omega (arith, q, g)), length-slice (p * w + w) (n * w - w + w) s (rw e h), length-drop) (omega (arith, q, g)) in
    ap (λ (l : List ℕ). paste l (n * w - w) z w) closed
    ∙ paste_sets (shut w (p * w) (n * w - w) s) z (n * w - w) w z (sym (take_all w z (omega (arith, length-replicate w zero)))) (length-replicate w 0) (rw size (omega (arith, q, g)))
    ∙ shut_clear w (p * w) s (n * w) (omega (arith, q, g)) h
    ∙ take_away w s n p h f
