-- Rows padded with zeros to a number of words: the order, membership and each set operation are those of the rows. For rows of any width. Assumes nothing.
use mathlib.Core.Path.{◌≡◌, refl, sym, ap, ap₂, ◌∙◌}
use mathlib.Core.Bool.{Bool, true, false, not, ◌&&◌, ◌||◌}
use mathlib.Core.List.{List, [], ◌∷◌, ◌++◌, map, append_assoc}
use Prim.Native.Nat.{ℕ, suc, ◌+◌, ◌-◌, ◌<◌, compare, Ordering}
use native.Mathlib.Omega.{arith}
use lib.Dec.{compare_is_eq}
use Rattle.std.proofs.lemmas.List as lists
use lib.ListN.{length, length-append, get_or, set, take, replicate, get_or-append}
use lib.Seq.{set_at, take_at}
use Rattle.model.specs.Row.{Row, Relation, and_then, order, is_less, same_row, below_first, ascending, member, place, insert_row, keep_if, keep, set_of, delete_row, Wide}
use Rattle.model.specs.Algebra.{union_rows, difference_rows, intersect_rows}
use Rattle.model.specs.Areas.{padded}
use Rattle.laws.proofs.Order.{order_refl}
use Rattle.laws.proofs.Widths.{wide-set_of, wide-append}

-- one number more, at the place of the first zero
pub padded_more : (n : ℕ) (l : List ℕ) (x i : ℕ) → length l ≡ i → i < n → set (padded n l) i x ≡ padded n (l ++ (x ∷ []))
padded_more n l x i e h =
    let f : n - length l ≡ suc (n - (length l + 1)) = omega arith in
    let g : length (l ++ (x ∷ [])) ≡ length l + 1 = length-append l (x ∷ []) in
    rw (f, g) (set_at l 0 (replicate (n - (length l + 1)) 0) x i e ∙ sym (append_assoc l (x ∷ []) (replicate (n - (length l + 1)) 0)))

order-append : (r s z : Row) → length r ≡ length s → order (r ++ z) (s ++ z) ≡ order r s
order-append [] [] z e = order_refl z
order-append [] (y ∷ s) z e = absurd (omega arith)
order-append (x ∷ r) [] z e = absurd (omega arith)
order-append (x ∷ r) (y ∷ s) z e = ap (and_then (compare x y)) (order-append r s z (omega arith))

module _ (n : ℕ) where
  -- padding keeps the order of rows of one width
  pub order-padded : (r s : Row) → length r ≡ length s → order (padded n r) (padded n s) ≡ order r s
  order-padded r s e = rw e (order-append r s (replicate (n - length s) 0) e)

  pub take-padded : (w : ℕ) (r : Row) → length r ≡ w → take w (padded n r) ≡ r
  take-padded w r e = take_at r (replicate (n - length r) 0) w e

  pub unpadded : (w : ℕ) (l : Relation) → Wide w l → map (take w) (map (padded n) l) ≡ l
  unpadded w [] h = refl
  unpadded w (r ∷ l) h = ap₂ {A = Row} {B = List Row} {C = List Row} (λ a b. a ∷ b) (take-padded w r h.0) (unpadded w l h.1)

  -- a field of the row is the same field of the padded one
  pub field_padded : (r : Row) (k : ℕ) → k < length r → get_or (padded n r) k 0 ≡ get_or r k 0
  field_padded r k h = get_or-append r (replicate (n - length r) 0) 0 k h

  pub map-append : (a b : List Row) → map (padded n) (a ++ b) ≡ map (padded n) a ++ map (padded n) b
  map-append a b = lists.map-append (padded n) a b

  module _ (w : ℕ) where
    pub same-padded : (r s : Row) → length r ≡ w → length s ≡ w → same_row (padded n r) (padded n s) ≡ same_row r s
    same-padded r s e f = ap compare_is_eq (order-padded r s (e ∙ sym f))

    pub member-padded : (r : Row) (l : Relation) → length r ≡ w → Wide w l → member (padded n r) (map (padded n) l) ≡ member r l
    member-padded r [] e h = refl
    member-padded r (s ∷ l) e h = ap₂ {A = Bool} {B = Bool} {C = Bool} (λ a b. a || b) (same-padded r s e h.0) (member-padded r l e h.1)

    below-padded : (r : Row) (l : Relation) → length r ≡ w → Wide w l → below_first (padded n r) (map (padded n) l) ≡ below_first r l
    below-padded r [] e h = refl
    below-padded r (s ∷ l) e h = ap is_less (order-padded r s (e ∙ sym h.0))

    pub ascending-padded : (l : Relation) → Wide w l → ascending (map (padded n) l) ≡ ascending l
    ascending-padded [] h = refl
    ascending-padded (r ∷ l) h = ap₂ {A = Bool} {B = Bool} {C = Bool} (λ a b. a && b) (below-padded r l h.0 h.1) (ascending-padded l h.1)

    place-padded : (o : Ordering) (r s : Row) (l m : Relation) → place o (padded n r) (padded n s) (map (padded n) l) (map (padded n) m) ≡ map (padded n) (place o r s l m)
    place-padded Ordering.lt r s l m = refl
    place-padded Ordering.eq r s l m = refl
    place-padded Ordering.gt r s l m = refl

    pub insert_padded : (r : Row) (l : Relation) → length r ≡ w → Wide w l → insert_row (padded n r) (map (padded n) l) ≡ map (padded n) (insert_row r l)
    insert_padded r [] e h = refl
    insert_padded r (s ∷ l) e h = rw (order-padded r s (e ∙ sym h.0), insert_padded r l e h.1) (place-padded (order r s) r s l (insert_row r l))

    pub set_of-padded : (l : List Row) → Wide w l → set_of (map (padded n) l) ≡ map (padded n) (set_of l)
    set_of-padded [] h = refl
    set_of-padded (r ∷ l) h = ap (insert_row (padded n r)) (set_of-padded l h.1) ∙ insert_padded r (set_of l) h.0 (wide-set_of w l h.1)

    -- rows kept by a test that says the same of each padded row
    pub keep-padded : (p q : Row → Bool) (l : Relation) → Wide w l → ((r : Row) → length r ≡ w → p (padded n r) ≡ q r) → keep p (map (padded n) l) ≡ map (padded n) (keep q l)
    keep-padded p q [] h e = refl
    keep-padded p q (r ∷ l) h e = rw (e r h.0) (go (q r) (keep-padded p q l h.1 e))
      where
        go : (t : Bool) → keep p (map (padded n) l) ≡ map (padded n) (keep q l) → keep_if t (padded n r) (keep p (map (padded n) l)) ≡ map (padded n) (keep_if t r (keep q l))
        go true ih = ap (λ (m : List Row). padded n r ∷ m) ih
        go false ih = ih

    pub delete_padded : (r : Row) (l : Relation) → length r ≡ w → Wide w l → delete_row (padded n r) (map (padded n) l) ≡ map (padded n) (delete_row r l)
    unfolding delete_row
    delete_padded r l e h = keep-padded (λ s. not (same_row s (padded n r))) (λ s. not (same_row s r)) l h (λ s f. ap not (same-padded s r f e))

    pub difference-padded : (a b : Relation) → Wide w a → Wide w b → difference_rows (map (padded n) a) (map (padded n) b) ≡ map (padded n) (difference_rows a b)
    unfolding difference_rows
    difference-padded a b h g = keep-padded (λ s. not (member s (map (padded n) b))) (λ s. not (member s b)) a h (λ s f. ap not (member-padded s b f g))

    pub intersect_padded : (a b : Relation) → Wide w a → Wide w b → intersect_rows (map (padded n) a) (map (padded n) b) ≡ map (padded n) (intersect_rows a b)
    unfolding intersect_rows
    intersect_padded a b h g = keep-padded (λ s. member s (map (padded n) b)) (λ s. member s b) a h (λ s f. member-padded s b f g)

    pub union-padded : (a b : Relation) → Wide w a → Wide w b → union_rows (map (padded n) a) (map (padded n) b) ≡ map (padded n) (union_rows a b)
    unfolding union_rows
    union-padded a b h g = ap set_of (sym (map-append a b)) ∙ set_of-padded (a ++ b) (wide-append w a b h g)
