-- Numbers of rows written one by one, and the rows copied by them. Assumes nothing.
use mathlib.Core.Path.{◌≡◌, refl, sym, ap, ◌∙◌}
use mathlib.Core.List.{List, [], ◌∷◌, ◌++◌, append-nil}
use Prim.Native.Nat.{ℕ, ◌+◌, ◌*◌, ◌≤◌, ◌<◌}
use native.Mathlib.Nat.{le_refl}
use native.Mathlib.Numerals.{add-one}
use native.Mathlib.Omega.{arith}
use lib.ListN.{length, get_or, take, drop, set, length-drop, length-map}
use lib.Seq.{get_or-drop, get_or-take, length-take-le, paste, sets, take_all, take-suc}
use Rattle.model.specs.Row.{Row, Wide, count_from}
use Rattle.model.specs.Areas.{stride}
use Rattle.laws.proofs.Parts.{count_more, map-append, sets_more}
use Rattle.rows.specs.Rows.{row_at, words}
use Rattle.rows.proofs.Words.{fields-part, length-row, length-words, paste_sets, words_append}
use Rattle.states.proofs.Worked.{length_numbers}
use Rattle.differences.specs.Differences.{chosen, Within}

-- one number more
pub put-turn : (d e : List ℕ) (at from k : ℕ) → e ≡ sets d at (count_from from k) → set e (at + k) (from + k) ≡ sets d at (count_from from (k + 1))
put-turn d e at from k p =
    sets_more d e (set e (at + k) (from + k)) at (at + k) (count_from from k) ((from + k) ∷ []) p (ap (λ (n : ℕ). at + n) (sym (length_numbers from k))) refl
    ∙ ap (sets d at) (sym (count_more from k) ∙ ap (count_from from) (sym (add-one k)))

module _ (s : List ℕ) where
  wide-chosen : (numbers : List ℕ) → Wide stride (chosen s numbers)
  wide-chosen [] = tt
  wide-chosen (k ∷ numbers) = (length-row stride s k, wide-chosen numbers)

  length-chosen : (numbers : List ℕ) → length (words (chosen s numbers)) ≡ length numbers * stride
  length-chosen numbers = length-words stride (chosen s numbers) (wide-chosen numbers) ∙ ap (λ (n : ℕ). n * stride) (length-map numbers (row_at stride s))

  row-part : (k : ℕ) → k * stride + stride ≤ length s → row_at stride s k ≡ take stride (drop (k * stride) s)
  unfolding row_at
  row-part k h = fields-part stride s (k * stride) h

module _ (s picks : List ℕ) (from count : ℕ) (d : List ℕ) (at : ℕ) (fits : from + count ≤ length picks) (in_src : Within s (take count (drop from picks)))
    (room : at + count * stride ≤ length d) where
  -- the words of the first k rows that are chosen
  abbrev words_to : ℕ → List ℕ
  words_to k = words (chosen s (take k (drop from picks)))

  size : (k : ℕ) → k ≤ count → length (take k (drop from picks)) ≡ k
  size k h = length-take-le k (drop from picks) (rw (length-drop from picks) (omega arith))

  length_to : (k : ℕ) → k ≤ count → length (words_to k) ≡ k * stride
  length_to k h = length-chosen s (take k (drop from picks)) ∙ ap (λ (n : ℕ). n * stride) (size k h)

  -- the row of a number stands in the words
  pub row_in : (k : ℕ) → k < count → get_or picks (from + k) 0 * stride + stride ≤ length s
  row_in k h =
      let is : get_or (take count (drop from picks)) k 0 ≡ get_or picks (from + k) 0 = get_or-take count (drop from picks) k 0 h ∙ get_or-drop from picks k 0 in
      rw is at (in_src k (rw (size count (le_refl count)) h))

  -- one row more
  pub copy_turn : (e after : List ℕ) (k : ℕ) → k < count → length e ≡ length d → e ≡ sets d at (words_to k)
      → after ≡ paste e (at + k * stride) (drop (get_or picks (from + k) 0 * stride) s) stride → after ≡ sets d at (words_to (k + 1))
  copy_turn e after k h l p q =
      let row : Row = row_at stride s (get_or picks (from + k) 0) in
      let one : after ≡ sets e (at + k * stride) row =
      q ∙ paste_sets e (drop (get_or picks (from + k) 0 * stride) s) (at + k * stride) stride row (row-part s (get_or picks (from + k) 0) (row_in k h))
      (length-row stride s (get_or picks (from + k) 0)) (omega arith) in
      let next : take (k + 1) (drop from picks) ≡ take k (drop from picks) ++ (get_or picks (from + k) 0 ∷ []) =
      rw (add-one k, ← (get_or-drop from picks k 0)) (take-suc (drop from picks) k 0 (rw (length-drop from picks) (omega arith))) in
      let more : words_to (k + 1) ≡ words_to k ++ row =
      ap (λ (l : List ℕ). words (chosen s l)) next
      ∙ ap words (map-append (row_at stride s) (take k (drop from picks)) (get_or picks (from + k) 0 ∷ []))
      ∙ words_append (chosen s (take k (drop from picks))) (row ∷ [])
      ∙ ap (λ (r : Row). words_to k ++ r) (append-nil row) in
      sets_more d e after at (at + k * stride) (words_to k) row p (ap (λ (n : ℕ). at + n) (sym (length_to k (omega arith)))) one
      ∙ ap (sets d at) (sym more)

  pub copy_all : (e : List ℕ) (k : ℕ) → k ≡ count → e ≡ sets d at (words_to k) → e ≡ paste d at (words_to count) (count * stride)
  copy_all e k f p =
      let is : length (words_to count) ≡ count * stride = length_to count (le_refl count) in
      p ∙ ap (λ (n : ℕ). sets d at (words_to n)) f
      ∙ sym (paste_sets d (words_to count) at (count * stride) (words_to count) (sym (take_all (count * stride) (words_to count) (omega (arith, is)))) is room)
