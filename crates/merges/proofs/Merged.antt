-- Rows written behind those of a place, a pass over two places, and the model's difference. Assumes nothing.
use mathlib.Core.Path.{◌≡◌, refl, sym, ap, ap₂, ◌∙◌}
use mathlib.Core.Bool.{Bool, true, false, not, beq}
use mathlib.Core.List.{List, [], ◌∷◌, ◌++◌, map, append-nil}
use mathlib.Core.Logic.{⊎_elim}
use Prim.Native.Nat.{ℕ, ◌+◌, ◌-◌, ◌*◌, ◌≤◌, ◌<◌, Ordering}
use native.Mathlib.Nat.{eq-or-lt_of_le}
use native.Mathlib.Omega.{arith}
use lib.ListN.{length, take, drop, replicate, length-append}
use lib.Seq.{paste, take_at, drop_at, drop-drop}
use Rattle.model.specs.Algebra.{difference_rows}
use Rattle.model.specs.Row.{Row, order, member, keep, max_rows}
use Rattle.model.specs.Areas.{padded, place_size, stride}
use Rattle.laws.proofs.Widths.{wide-append}
use Rattle.rows.specs.Rows.{row_at, rows_from, first_rows, order_of, words, stored}
use Rattle.std.specs.declared.cmp.Ordering.{Ordering as Outcome}
use Rattle.rows.proofs.Words.{length-rows, length-words, rows_cons, rows_none, wide_rows, words_append, words-rows}
use Rattle.rows.proofs.Padding.{difference-padded}
use Rattle.places.specs.Places.{relation_in, Place, Blank, Stands}
use Rattle.places.proofs.Places.{place-rows, place-wide}
use Rattle.places.proofs.Puts.{stands_none, stands-rows, stands-size}
use Rattle.merges.specs.Merges.{order_first, kept_by, Appends}
use Rattle.merges.proofs.Merge.{Gives, gives_then, Passes}

-- ---- rows behind those of a place

pub appended : (src : List ℕ) (i k : ℕ) (out after : List ℕ) (count : ℕ) → Stands (first_rows out count) out count → i * stride + k * stride ≤ length src → count + k ≤ max_rows
    → after ≡ paste out (count * stride) (drop (i * stride) src) (k * stride) → Appends (rows_from stride src i k) out count after (count + k)
unfolding stored
appended src i k out after count s fits few e =
    let old : List Row = first_rows out count in
    let more : List Row = rows_from stride src i k in
    let zeros : List ℕ = replicate place_size 0 in
    let at : length (words old) ≡ count * stride = length-words stride old (wide_rows stride out 0 count) ∙ ap (λ (p : ℕ). p * stride) (length-rows stride out 0 count) in
    let size : length (words more) ≡ k * stride = length-words stride more (wide_rows stride src i k) ∙ ap (λ (p : ℕ). p * stride) (length-rows stride src i k) in
    let both : words (old ++ more) ≡ words old ++ words more = words_append old more in
    let whole : length (words (old ++ more)) ≡ count * stride + k * stride = ap length both ∙ length-append (words old) (words more) ∙ rw (at, size) in
    let front : take (count * stride) out ≡ words old = ap (take (count * stride)) s.is ∙ take_at (words old) (drop (length (words old)) zeros) (count * stride) at in
    let behind : drop (count * stride) out ≡ drop (count * stride) zeros =
    ap (drop (count * stride)) s.is ∙ drop_at (words old) (drop (length (words old)) zeros) (count * stride) at ∙ ap (λ (p : ℕ). drop p zeros) at in
    let rest : drop (count * stride + k * stride) out ≡ drop (length (words (old ++ more))) zeros =
    sym (drop-drop (k * stride) (count * stride) out) ∙ ap (drop (k * stride)) behind ∙ drop-drop (k * stride) (count * stride) zeros ∙ ap (λ (p : ℕ). drop p zeros) (sym whole) in
    let is : after ≡ stored (old ++ more) zeros =
    e
    ∙ ap (λ (t : List ℕ). t ++ take (k * stride) (drop (i * stride) src) ++ drop (count * stride + k * stride) out) front
    ∙ ap (λ (t : List ℕ). words old ++ t ++ drop (count * stride + k * stride) out) (sym (words-rows stride src i k fits))
    ∙ ap₂ {A = List ℕ} {B = List ℕ} {C = List ℕ} (λ t u. t ++ u) (sym both) rest in
    let there : Stands (old ++ more) after (count + k) =
    record { count = sym (length-append old more ∙ rw (length-rows stride out 0 count, length-rows stride src i k)); few = few; is = is } in
    let rows : first_rows after (count + k) ≡ old ++ more =
    stands-rows (old ++ more) (wide-append stride old more (wide_rows stride out 0 count) (wide_rows stride src i k)) after (count + k) there in
    record { sum = ap (λ (p : ℕ). count + p) (sym (length-rows stride src i k)); stands = rw rows there; is = rows }

module _ (out : List ℕ) (count : ℕ) (s : Stands (first_rows out count) out count) where
  pub stands-long : length out ≡ place_size
  stands-long = stands-size (first_rows out count) (wide_rows stride out 0 count) out count s

  pub appended_none : Appends [] out count out count
  appended_none = record { sum = omega arith; stands = s; is = sym (append-nil (first_rows out count)) }

-- one row
pub appended_one : (src : List ℕ) (i : ℕ) {out after : List ℕ} {count total : ℕ} → Appends (rows_from stride src i 1) out count after total → Appends (row_at stride src i ∷ []) out count after total
unfolding rows_from
appended_one src i a = a

-- ---- a pass over two places

-- what was stored, and then the operation on what is left from rows i and j on, is the operation on both places
pub record Merged (op : List Row → List Row → List Row) (left : List ℕ) (n : ℕ) (right : List ℕ) (m i j : ℕ) (out : List ℕ) (count : ℕ) : Type 0 where
  pub stands : Stands (first_rows out count) out count
  pub gives : Gives op (first_rows left n) (first_rows right m) (first_rows out count) (rows_from stride left i (n - i)) (rows_from stride right j (m - j))

module _ (op : List Row → List Row → List Row) (left : List ℕ) (n : ℕ) (right : List ℕ) (m : ℕ) where
  pub merged_start : (out : List ℕ) → Blank out → Merged op left n right m 0 0 out 0
  unfolding rows_from
  merged_start out e =
      let a : n - 0 ≡ n = omega arith in
      let b : m - 0 ≡ m = omega arith in
      record { stands = stands_none out e; gives = rw (a, b) (λ hl hr. (hl, hr, refl)) }

  module _ (below same above : Row → List Row) (ps : Passes op below same above) (i j : ℕ) (out : List ℕ) (count : ℕ) (t : Merged op left n right m i j out count) (h : i < n) where
    abbrev first : Row
    first = row_at stride left i

    abbrev left_from : ℕ → List Row
    left_from k = rows_from stride left k (n - k)

    abbrev right_from : ℕ → List Row
    right_from k = rows_from stride right k (m - k)

    more : (i' j' : ℕ) (x : List Row) (after : List ℕ) (total : ℕ) → Gives op (left_from i) (right_from j) x (left_from i') (right_from j') → Appends x out count after total
        → Merged op left n right m i' j' after total
    more i' j' x after total g a =
        record {
          stands = a.stands;
          gives = rw a.is
              (gives_then op (first_rows left n) (first_rows right m) (first_rows out count) (left_from i) (right_from j) x (left_from i') (right_from j') t.gives g);
        }

    pub merged_less : (after : List ℕ) (total : ℕ) → order_first first (right_from j) ≡ Ordering.lt → Appends (below first) out count after total → Merged op left n right m (i + 1) j after total
    merged_less after total e a = more (i + 1) j (below first) after total (rw (rows_cons stride left n i h) (ps.less first (left_from (i + 1)) (right_from j) e)) a

    module _ (g : j < m) where
      facing : (o : Ordering) → order_first first (right_from j) ≡ o → order first (row_at stride right j) ≡ o
      facing o e = rw (rows_cons stride right m j g) at e

      pub merged_equal : (after : List ℕ) (total : ℕ) → order_first first (right_from j) ≡ Ordering.eq → Appends (same first) out count after total → Merged op left n right m (i + 1) (j + 1)
          after total
      merged_equal after total e a =
          more (i + 1) (j + 1) (same first) after total
          (rw (rows_cons stride left n i h, rows_cons stride right m j g) (ps.equal first (row_at stride right j) (left_from (i + 1)) (right_from (j + 1)) (facing Ordering.eq e))) a

      pub merged_greater : (after : List ℕ) (total : ℕ) → order_first first (right_from j) ≡ Ordering.gt → Appends (above (row_at stride right j)) out count after total →
          Merged op left n right m i (j + 1) after total
      merged_greater after total e a =
          more i (j + 1) (above (row_at stride right j)) after total
          (rw (rows_cons stride left n i h, rows_cons stride right m j g) (ps.greater first (row_at stride right j) (left_from (i + 1)) (right_from (j + 1)) (facing Ordering.gt e))) a

-- the outcome of a comparison, by its answer
pub told : {answer known : Outcome} {o : Ordering} → answer ≡ known → order_of answer ≡ o → o ≡ order_of known
told e f = sym f ∙ ap order_of e

-- a row that is not below the rest of some rows: there is a row left
pub first-left : (x : Row) (right : List ℕ) (m j : ℕ) (o : Ordering) → j ≤ m → order_first x (rows_from stride right j (m - j)) ≡ o → (Ordering.lt ≡ o → ⊥) → j < m
first-left x right m j o h e d =
    ⊎_elim (λ (q : j ≡ m). absurd (d (sym (ap (order_first x) (rows_none stride right m j (omega arith))) ∙ e))) (λ (f : j < m). f) (eq-or-lt_of_le h)

-- ---- the model's rows

beq_false : (b : Bool) → beq b false ≡ not b
beq_false true = refl
beq_false false = refl

-- the rows of the left place that are not in the right one are the model's difference
pub difference_is : (w : ℕ) (left : List ℕ) (n : ℕ) (right : List ℕ) (m : ℕ) → Place w left n → Place w right m →
    kept_by false (first_rows left n) (first_rows right m) ≡ map (padded stride) (difference_rows (relation_in w left n) (relation_in w right m))
unfolding difference_rows
difference_is w left n right m pl pr =
    (λ i. keep (λ x. beq_false (member x (first_rows right m)) i) (first_rows left n))
    ∙ ap₂ {A = List Row} {B = List Row} {C = List Row} (λ a b. difference_rows a b) (place-rows w left n pl) (place-rows w right m pr)
    ∙ difference-padded stride w (relation_in w left n) (relation_in w right m) (place-wide w left n pl) (place-wide w right m pr)
