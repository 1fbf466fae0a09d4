-- What each operator's rows are, in the words of a textbook, and that each result is strictly ascending. For rows of any width. Assumes nothing.
use mathlib.Core.Path.{◌≡◌, refl, sym, ap, ◌∙◌}
use mathlib.Core.Bool.{Bool, true, false, not, ◌&&◌, ◌||◌, or_assoc, or-true, or_comm, true≢false}
use mathlib.Core.List.{List, [], ◌∷◌, ◌++◌, map, flat_map}
use Prim.Native.Nat.{ℕ, Ordering, compare, ◌<◌}
use lib.Dec.{eqb, leb, ltb}
use borrow.Author.Tests.{lt-ltb, le-ltb, le-leb, lt-leb, eq-eqb, ne_eqb}
use native.Mathlib.Omega.{arith}
use Rattle.model.specs.Row.{Row, Relation, same_row, member, keep, keep_if, some_of, numbers_below}
use Rattle.model.specs.Algebra.{holds_of, compare_fields, columns_of, Pair, agree, Operand, passes, select_rows, project_rows, join_one, join_rows, union_rows, difference_rows, intersect_rows, unmatched_rows}
use Rattle.laws.proofs.Order.{compare-says, same_row_refl, same_row_eq}
use Rattle.laws.proofs.Sets.{Ascending, member-keep, member-set_of, asc-keep, asc-set_of, ext}

-- ---- comparisons

-- codes 0 to 5 are equal, unequal, less, at most, greater, at least
pub comparisons_mean : (x y : ℕ) → map (λ k. holds_of k (compare_fields x y)) (numbers_below 6) ≡ eqb x y ∷ not (eqb x y) ∷ ltb x y ∷ leb x y ∷ ltb y x ∷ leb y x ∷ []
unfolding holds_of compare_fields
comparisons_mean x y = go (compare x y) refl
  where
    go : (o : Ordering) → compare x y ≡ o → map (λ k. holds_of k o) (numbers_below 6) ≡ eqb x y ∷ not (eqb x y) ∷ ltb x y ∷ leb x y ∷ ltb y x ∷ leb y x ∷ []
    go Ordering.lt e =
        let h : x < y = compare-says x y Ordering.lt e in
        rw (ne_eqb x y (omega arith), lt-ltb x y h, le-leb x y (omega arith), le-ltb y x (omega arith), lt-leb y x (omega arith))
    go Ordering.eq e =
        let h : x ≡ y = compare-says x y Ordering.eq e in
        rw (eq-eqb x y h, le-ltb x y (omega arith), le-leb x y (omega arith), le-ltb y x (omega arith), le-leb y x (omega arith))
    go Ordering.gt e =
        let h : y < x = compare-says x y Ordering.gt e in
        rw (ne_eqb x y (omega arith), le-ltb x y (omega arith), lt-leb x y (omega arith), lt-ltb y x h, le-leb y x (omega arith))

-- ---- some row

module _ {A : Type 0} where
  pub some-keep : (p q : A → Bool) (l : List A) → some_of q (keep p l) ≡ some_of (λ s. p s && q s) l
  some-keep p q [] = refl
  some-keep p q (s ∷ l) = go (p s) (some-keep p q l)
    where
      go : (t : Bool) → some_of q (keep p l) ≡ some_of (λ s. p s && q s) l → some_of q (keep_if t s (keep p l)) ≡ (t && q s || some_of (λ s. p s && q s) l)
      go true ih = ap (λ (b : Bool). q s || b) ih
      go false ih = ih

  pub some-append : (p : A → Bool) (a b : List A) → some_of p (a ++ b) ≡ (some_of p a || some_of p b)
  some-append p [] b = refl
  some-append p (s ∷ a) b = rw (some-append p a b) (sym (or_assoc (p s) (some_of p a) (some_of p b)))

-- some row passes a test exactly if there is a row of the list that does
pub some-row : (p : Row → Bool) (l : List Row) → some_of p l ≡ true → (s : Row) × (member s l ≡ true) × (p s ≡ true)
some-row p [] e = absurd (true≢false (sym e))
some-row p (x ∷ l) e = go (p x) refl e (some-row p l)
  where
    go : (t : Bool) → p x ≡ t → (t || some_of p l) ≡ true → (some_of p l ≡ true → (s : Row) × (member s l ≡ true) × (p s ≡ true)) → (s : Row) × (member s (x ∷ l) ≡ true) × (p s ≡ true)
    go true f h ih = (x, ap (λ (b : Bool). b || member x l) (same_row_refl x), f)
    go false f h ih = ((ih h).0, ap (λ (b : Bool). same_row (ih h).0 x || b) (ih h).1 ∙ or-true (same_row (ih h).0 x), (ih h).2)

pub row-some : (p : Row → Bool) (l : List Row) (s : Row) → member s l ≡ true → p s ≡ true → some_of p l ≡ true
row-some p [] s m h = absurd (true≢false (sym m))
row-some p (x ∷ l) s m h = go (same_row s x) refl m (row-some p l s)
  where
    go : (t : Bool) → same_row s x ≡ t → (t || member s l) ≡ true → (member s l ≡ true → p s ≡ true → some_of p l ≡ true) → (p x || some_of p l) ≡ true
    go true f n ih = rw (← (same_row_eq s x f), h)
    go false f n ih = rw (ih n h) (or-true (p x))

-- ---- membership in lists made of lists

pub member-append : (r : Row) (a b : List Row) → member r (a ++ b) ≡ (member r a || member r b)
member-append r [] b = refl
member-append r (x ∷ a) b = rw (member-append r a b) (sym (or_assoc (same_row r x) (member r a) (member r b)))

pub member-map : (f : Row → Row) (r : Row) (l : List Row) → member r (map f l) ≡ some_of (λ s. same_row r (f s)) l
member-map f r [] = refl
member-map f r (x ∷ l) = ap (λ (b : Bool). same_row r (f x) || b) (member-map f r l)

pub member-flat_map : (f : Row → List Row) (r : Row) (l : List Row) → member r (flat_map f l) ≡ some_of (λ s. member r (f s)) l
unfolding flat_map
member-flat_map f r [] = refl
member-flat_map f r (x ∷ l) = member-append r (f x) (flat_map f l) ∙ ap (λ (b : Bool). member r (f x) || b) (member-flat_map f r l)

-- ---- the operators

-- kinds 2 and 3: the input's rows whose column compares so with the constant or the other column
pub member-select : (r : Row) (c k : ℕ) (o : Operand) (input : Relation) → member r (select_rows c k o input) ≡ (passes c k o r && member r input)
unfolding select_rows
member-select r c k o input = member-keep (passes c k o) r input

-- kind 4: what the named columns of some row of the input give
pub member-project : (r : Row) (columns : List ℕ) (input : Relation) → member r (project_rows columns input) ≡ some_of (λ s. same_row r (columns_of columns s)) input
unfolding project_rows
member-project r columns input = member-set_of r (map (columns_of columns) input) ∙ member-map (columns_of columns) r input

member-join_one : (r : Row) (pairs : List Pair) (columns : List ℕ) (right : Relation) (l : Row) →
    member r (join_one pairs columns right l) ≡ some_of (λ s. agree pairs l s && same_row r (columns_of columns (l ++ s))) right
unfolding join_one
member-join_one r pairs columns right l =
    member-map (λ s. columns_of columns (l ++ s)) r (keep (agree pairs l) right)
    ∙ some-keep (agree pairs l) (λ s. same_row r (columns_of columns (l ++ s))) right

some_cong : (p q : Row → Bool) (l : List Row) → ((s : Row) → p s ≡ q s) → some_of p l ≡ some_of q l
some_cong p q [] e = refl
some_cong p q (x ∷ l) e = rw (e x, some_cong p q l e)

-- kind 5: a row is in the join exactly if some left row and some right row agree on all pairs and give it
pub member-join : (r : Row) (pairs : List Pair) (columns : List ℕ) (left right : Relation) →
    member r (join_rows pairs columns left right)
    ≡ some_of (λ l. some_of (λ s. agree pairs l s && same_row r (columns_of columns (l ++ s))) right) left
unfolding join_rows
member-join r pairs columns left right =
    member-set_of r (flat_map (join_one pairs columns right) left)
    ∙ member-flat_map (join_one pairs columns right) r left
    ∙ some_cong
    (λ l. member r (join_one pairs columns right l))
    (λ l. some_of (λ s. agree pairs l s && same_row r (columns_of columns (l ++ s))) right)
    left
    (member-join_one r pairs columns right)

-- kind 6: in one or the other
pub member_union : (r : Row) (a b : Relation) → member r (union_rows a b) ≡ (member r a || member r b)
unfolding union_rows
member_union r a b = member-set_of r (a ++ b) ∙ member-append r a b

-- kind 7: in the left and not in the right
pub member-difference : (r : Row) (a b : Relation) → member r (difference_rows a b) ≡ (not (member r b) && member r a)
unfolding difference_rows
member-difference r a b = member-keep (λ s. not (member s b)) r a

-- kind 8: in both
pub member_intersect : (r : Row) (a b : Relation) → member r (intersect_rows a b) ≡ (member r b && member r a)
unfolding intersect_rows
member_intersect r a b = member-keep (λ s. member s b) r a

-- kind 10: in the left, and no right row agrees on all pairs
pub member_unmatched : (r : Row) (pairs : List Pair) (a b : Relation) → member r (unmatched_rows pairs a b) ≡ (not (some_of (agree pairs r) b) && member r a)
unfolding unmatched_rows
member_unmatched r pairs a b = member-keep (λ l. not (some_of (agree pairs l) b)) r a

-- ---- each result is strictly ascending

pub asc-select : (c k : ℕ) (o : Operand) (input : Relation) → Ascending input → Ascending (select_rows c k o input)
unfolding select_rows
asc-select c k o input a = asc-keep (passes c k o) input a

pub asc-project : (columns : List ℕ) (input : Relation) → Ascending (project_rows columns input)
unfolding project_rows
asc-project columns input = asc-set_of (map (columns_of columns) input)

pub asc-join : (pairs : List Pair) (columns : List ℕ) (left right : Relation) → Ascending (join_rows pairs columns left right)
unfolding join_rows
asc-join pairs columns left right = asc-set_of (flat_map (join_one pairs columns right) left)

pub asc-union : (a b : Relation) → Ascending (union_rows a b)
unfolding union_rows
asc-union a b = asc-set_of (a ++ b)

pub asc-difference : (a b : Relation) → Ascending a → Ascending (difference_rows a b)
unfolding difference_rows
asc-difference a b h = asc-keep (λ s. not (member s b)) a h

pub asc_intersect : (a b : Relation) → Ascending a → Ascending (intersect_rows a b)
unfolding intersect_rows
asc_intersect a b h = asc-keep (λ s. member s b) a h

pub asc_unmatched : (pairs : List Pair) (a b : Relation) → Ascending a → Ascending (unmatched_rows pairs a b)
unfolding unmatched_rows
asc_unmatched pairs a b h = asc-keep (λ l. not (some_of (agree pairs l) b)) a h

-- ---- a union does not depend on the order of its sides

pub union_comm : (a b : Relation) → union_rows a b ≡ union_rows b a
union_comm a b = ext (union_rows a b) (union_rows b a) (asc-union a b) (asc-union b a) (λ r. simp member_union (or_comm (member r a) (member r b)))
