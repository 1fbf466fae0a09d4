-- Union: what a step of a pass over two ascending lists gives, the end of the pass, and the model's rows. Assumes nothing.
use mathlib.Core.Path.{◌≡◌, refl, sym, ap, ap₂, ◌∙◌, subst}
use mathlib.Core.Bool.{Bool, true, false, ◌||◌, or-true}
use mathlib.Core.List.{List, [], ◌∷◌, ◌++◌, map}
use Prim.Native.Nat.{Ordering}
use Prim.Native.Nat.{ℕ, ◌+◌, ◌-◌, ◌≤◌, ◌<◌, zero-le, suc-le-suc}
use native.Mathlib.Nat.{le_refl, le_trans}
use native.Mathlib.Omega.{arith}
use lib.ListN.{length, length-append}
use Rattle.model.specs.Algebra.{union_rows}
use Rattle.model.specs.Row.{Row, Relation, order, same_row, member, insert_row, set_of, Wide, max_rows}
use Rattle.model.specs.Areas.{padded, stride}
use Rattle.laws.proofs.Order.{order_eq}
use Rattle.laws.proofs.Sets.{Above, Ascending, above_insert, above_trans, asc-set_of, ascending-holds, ext, insert_more, member-set_of, set_of-ascending}
use Rattle.laws.proofs.Algebra.{member-append}
use Rattle.laws.proofs.Widths.{wide-append, wide-set_of}
use Rattle.rows.specs.Rows.{row_at, rows_from, first_rows}
use Rattle.rows.proofs.Words.{length-rows, rows_cons, rows_none}
use Rattle.rows.proofs.Padding.{union-padded}
use Rattle.places.specs.Places.{relation_in, Place, Fills, Stands}
use Rattle.places.proofs.Places.{place-rows, place-wide, rows_ascend}
use Rattle.places.proofs.Puts.{model_exceeds, model_fills}
use Rattle.merges.specs.Merges.{Appends}
use Rattle.merges.proofs.Merge.{Passes, first_above, under}
use Rattle.merges.proofs.Merged.{Merged}

-- ---- a step of a pass

abbrev pub alone : Row → List Row
alone x = x ∷ []

abbrev pub union : List Row → List Row → List Row
union l r = set_of (l ++ r)

above_set_of : (x : Row) (l : List Row) → Above x l → Above x (set_of l)
above_set_of x [] a = tt
above_set_of x (y ∷ l) a = above_insert x y (set_of l) a.0 (above_set_of x l a.1)

above_both : (x : Row) (l r : List Row) → Above x l → Above x r → Above x (l ++ r)
above_both x [] r a b = b
above_both x (y ∷ l) r a b = (a.0, above_both x l r a.1 b)

-- the least row comes first
least_first : (x : Row) (l m : List Row) → Above x m → ((z : Row) → member z l ≡ (same_row z x || member z m)) → set_of l ≡ x ∷ set_of m
least_first x l m a e =
    ext (set_of l) (x ∷ set_of m) (asc-set_of l) (above_set_of x m a, asc-set_of m) (λ z. member-set_of z l ∙ e z ∙ ap (λ (b : Bool). same_row z x || b) (sym (member-set_of z m)))

pub union-passes : Passes union alone alone alone
union-passes =
    record {
      less = λ x l r e hl hr. (hl.1, hr, least_first x (x ∷ (l ++ r)) (l ++ r) (above_both x l r hl.0 (first_above x r e hr)) (λ z. refl));
      equal = λ x y l r e hl hr.
          let same : y ≡ x = sym (order_eq x y e) in (
            hl.1,
            hr.1,
            least_first x (x ∷ (l ++ (y ∷ r))) (l ++ r) (above_both x l r hl.0 (subst (λ (z : Row). Above z r) same hr.0))
                (λ z. rw (member-append z l (y ∷ r), member-append z l r, same) (twice (same_row z x) (member z l) (member z r))),
          );
      greater = λ x y l r e hl hr.
          let below : order y x ≡ Ordering.lt = under x y e in (
            hl,
            hr.1,
            least_first y (x ∷ (l ++ (y ∷ r))) (x ∷ (l ++ r)) (above_both y (x ∷ l) r (below, above_trans y x l below hl.0) hr.0)
                (λ z. member-append z (x ∷ l) (y ∷ r) ∙ moved (member z (x ∷ l)) (same_row z y) (member z r) ∙ ap (λ (b : Bool). same_row z y || b) (sym (member-append z (x ∷ l) r))),
          );
    }
  where
    twice : (s a b : Bool) → (s || (a || (s || b))) ≡ (s || (a || b))
    twice true a b = refl
    twice false a b = refl

    moved : (a s b : Bool) → (a || (s || b)) ≡ (s || (a || b))
    moved a true b = or-true a
    moved a false b = refl

-- ---- the end of a pass

some_first : (x : Row) (l : List Row) → 1 ≤ length (insert_row x l)
some_first x [] = le_refl 1
some_first x (y ∷ l) = le_trans (suc-le-suc zero-le) (insert_more x (y ∷ l))

module _ (left : List ℕ) (n : ℕ) (right : List ℕ) (m i j : ℕ) (out : List ℕ) (count : ℕ) (hl : Ascending (first_rows left n)) (hr : Ascending (first_rows right m)) where
  module _ (t : Merged union left n right m i j out count) where
    -- a row more than there is room for
    pub union-over : i < n → max_rows ≤ count → max_rows < length (union (first_rows left n) (first_rows right m))
    union-over h f =
        let rest : List Row = rows_from stride left (i + 1) (n - (i + 1)) ++ rows_from stride right j (m - j) in
        let same : union (first_rows left n) (first_rows right m) ≡ first_rows out count ++ insert_row (row_at stride left i) (set_of rest) =
        (t.gives hl hr).2 ∙ ap (λ (l : List Row). first_rows out count ++ union l (rows_from stride right j (m - j))) (rows_cons stride left n i h) in
        rw (same, length-append, length-rows) (omega (arith, some_first (row_at stride left i) (set_of rest)))

    rest_is : n ≤ i → union (first_rows left n) (first_rows right m) ≡ first_rows out count ++ rows_from stride right j (m - j)
    rest_is h =
        (t.gives hl hr).2
        ∙ ap (λ (l : List Row). first_rows out count ++ union l (rows_from stride right j (m - j))) (rows_none stride left n i h)
        ∙ ap (λ (l : List Row). first_rows out count ++ l) (set_of-ascending (rows_from stride right j (m - j)) (t.gives hl hr).1)

    pub union_rest_over : n ≤ i → max_rows < count + (m - j) → max_rows < length (union (first_rows left n) (first_rows right m))
    union_rest_over h f = rw (rest_is h, length-append, length-rows stride out 0 count, length-rows stride right j (m - j)) f

    pub union_all : n ≤ i → (after : List ℕ) (total : ℕ) → Appends (rows_from stride right j (m - j)) out count after total → Stands (union (first_rows left n) (first_rows right m)) after total
    union_all h after total a = rw (rest_is h ∙ sym a.is) a.stands

-- ---- the model's rows

module _ (w : ℕ) (left : List ℕ) (n : ℕ) (right : List ℕ) (m : ℕ) (pl : Place w left n) (pr : Place w right m) where
  abbrev lefts : Relation
  lefts = relation_in w left n

  abbrev rights : Relation
  rights = relation_in w right m

  wl : Wide w lefts
  wl = place-wide w left n pl

  wr : Wide w rights
  wr = place-wide w right m pr

  union_is : union (first_rows left n) (first_rows right m) ≡ map (padded stride) (union_rows lefts rights)
  unfolding union_rows
  union_is =
      ap₂ {A = List Row} {B = List Row} {C = List Row} (λ a b. union_rows a b) (place-rows w left n pl) (place-rows w right m pr) ∙ union-padded stride w lefts rights wl wr

  union-wide : Wide w (union_rows lefts rights)
  unfolding union_rows
  union-wide = wide-set_of w (lefts ++ rights) (wide-append w lefts rights wl wr)

  pub union_fills : (out : List ℕ) (k : ℕ) → Stands (union (first_rows left n) (first_rows right m)) out k → Fills (union_rows lefts rights) out k
  union_fills out k s = model_fills (union (first_rows left n) (first_rows right m)) (union_rows lefts rights) w pl.narrow union-wide union_is out k s

  pub union_exceeds : max_rows < length (union (first_rows left n) (first_rows right m)) → max_rows < length (union_rows lefts rights)
  union_exceeds h = model_exceeds (union (first_rows left n) (first_rows right m)) (union_rows lefts rights) w pl.narrow union-wide union_is h

  pub left_ascends : Ascending (first_rows left n)
  left_ascends = ascending-holds (first_rows left n) (rows_ascend w left n pl)
