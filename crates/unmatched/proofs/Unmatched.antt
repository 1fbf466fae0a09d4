-- No match: right rows looked at one after the other, and the left rows that are kept. Assumes nothing.
use mathlib.Core.Path.{◌≡◌, refl, ap, ◌∙◌}
use mathlib.Core.Bool.{Bool, true, false, not, ◌||◌, or-true}
use mathlib.Core.List.{List, [], ◌∷◌, map}
use mathlib.Core.Logic.{⊎_elim}
use Prim.Native.Nat.{ℕ, zero, suc, ◌+◌, ◌<◌}
use native.Mathlib.Nat.{not-suc-le-zero, eq-or-lt_of_le, zero-add}
use native.Mathlib.Omega.{arith}
use lib.ListN.{length}
use Rattle.model.specs.Row.{Row, Relation, Wide, some_of}
use Rattle.model.specs.Algebra.{Pair, agree, unmatched_rows}
use Rattle.model.specs.Areas.{padded, stride}
use Rattle.model.specs.Network.{pairs_below}
use Rattle.laws.proofs.Algebra.{some-append}
use Rattle.rows.specs.Rows.{row_at, rows_from, first_rows}
use Rattle.rows.proofs.Words.{rows_snoc}
use Rattle.keys.proofs.Keys.{agree-padded}
use Rattle.places.specs.Places.{relation_in, Place, Fills, Kept}
use Rattle.places.proofs.Places.{place-rows, place-wide, kept_fills}

-- no right row agrees with a left one
abbrev pub unmet : List Pair → List Row → Row → Bool
unmet pairs right l = not (some_of (agree pairs l) right)

module _ (p : Row → Bool) (s : List ℕ) where
  -- one row more
  some_more : (j : ℕ) → some_of p (first_rows s (j + 1)) ≡ (some_of p (first_rows s j) || (p (row_at stride s j) || false))
  some_more j = ap (some_of p) (rows_snoc stride s 0 j) ∙ some-append p (first_rows s j) (row_at stride s (0 + j) ∷ []) ∙ rw zero-add

  -- none of no rows passes
  pub none_of_0 : some_of p (first_rows s 0) ≡ false
  unfolding rows_from
  none_of_0 = refl

  -- none of the rows before passes, and this one does not
  pub none_more : (j : ℕ) → some_of p (first_rows s j) ≡ false → p (row_at stride s j) ≡ false → some_of p (first_rows s (j + 1)) ≡ false
  none_more j e f = some_more j ∙ rw (e, f)

  -- a row that passes is one of the first m
  pub some_at : (j m : ℕ) → j < m → p (row_at stride s j) ≡ true → some_of p (first_rows s m) ≡ true
  some_at j zero h e = absurd (not-suc-le-zero h)
  some_at j (suc m) h e =
      let one : suc m ≡ m + 1 = omega arith in
      ap (λ (k : ℕ). some_of p (first_rows s k)) one ∙ some_more m ∙ ⊎_elim
      (λ (q : j ≡ m). rw (← q, e) (or-true (some_of p (first_rows s j))))
      (λ (q : j < m). rw (some_at j m q e))
      (eq-or-lt_of_le (omega arith))

-- a row and its words meet the same rows
module _ (pairs : List Pair) (v w : ℕ) (below : pairs_below v w pairs ≡ true) (l : Row) (wide : length l ≡ v) where
  some-padded : (rel : Relation) → Wide w rel → some_of (agree pairs (padded stride l)) (map (padded stride) rel) ≡ some_of (agree pairs l) rel
  some-padded [] h = refl
  some-padded (r ∷ rel) h = rw (agree-padded pairs v w l r below wide h.0, some-padded rel h.1)

  unmet_padded : (right : List ℕ) (m : ℕ) → Place w right m → unmet pairs (first_rows right m) (padded stride l) ≡ unmet pairs (relation_in w right m) l
  unmet_padded right m pr =
      ap (λ (rows : List Row). unmet pairs rows (padded stride l)) (place-rows w right m pr) ∙ ap not (some-padded (relation_in w right m) (place-wide w right m pr))

-- kind 10
pub unmatched_fills : (pairs : List Pair) (v w : ℕ) (left : List ℕ) (n : ℕ) (right : List ℕ) (m : ℕ) (out : List ℕ) (count : ℕ) → Place v left n → Place w right m →
    pairs_below v w pairs ≡ true → Kept (unmet pairs (first_rows right m)) left n out count → Fills (unmatched_rows pairs (relation_in v left n) (relation_in w right m)) out count
unfolding unmatched_rows
unmatched_fills pairs v w left n right m out count pl pr below k =
    kept_fills v left n (unmet pairs (first_rows right m)) (unmet pairs (relation_in w right m)) out count pl (λ r e. unmet_padded pairs v w below r e right m pr) k
