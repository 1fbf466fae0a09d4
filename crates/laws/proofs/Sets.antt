-- Relations as strictly ascending lists, for rows of any width: each operation keeps them ascending, and an ascending list is known by its members.
-- Assumes nothing.
use mathlib.Core.Path.{◌≡◌, refl, sym, ap, ◌∙◌, subst}
use mathlib.Core.Bool.{Bool, true, false, not, ◌&&◌, ◌||◌, or_self_left, or_assoc, or_comm, true≢false, and-false}
use mathlib.Core.List.{List, [], ◌∷◌}
use Prim.Native.Nat.{Ordering, suc, zero-le, ◌≤◌}
use native.Mathlib.Omega.{arith}
use native.Mathlib.Nat.{le_refl}
use lib.Dec.{compare_is_eq}
use lib.ListN.{length}
use Rattle.model.specs.Row.{Row, order, is_less, same_row, below_first, ascending, member, same_rows, place, insert_row, keep_if, keep, delete_row, set_of}
use Rattle.laws.proofs.Order.{flip, order_flip, order_eq, order_trans, same_row_refl, same_row_eq, lt≢eq, order_refl}

-- ---- membership

pub member_insert : (r s : Row) (l : List Row) → member r (insert_row s l) ≡ (same_row r s || member r l)
member_insert r s [] = refl
member_insert r s (x ∷ l) = go (order s x) refl (member_insert r s l)
  where
    go : (o : Ordering) → order s x ≡ o → member r (insert_row s l) ≡ (same_row r s || member r l) → member r (place o s x l (insert_row s l)) ≡ (same_row r s || (same_row r x || member r l))
    go Ordering.lt e ih = refl
    go Ordering.eq e ih = rw (order_eq s x e) (sym (or_self_left (same_row r x) (member r l)))
    go Ordering.gt e ih = rw ih
        (sym (or_assoc (same_row r x) (same_row r s) (member r l)) ∙ ap (λ (b : Bool). b || member r l) (or_comm (same_row r x) (same_row r s))
        ∙ or_assoc (same_row r s) (same_row r x) (member r l))

pub member-keep : (p : Row → Bool) (r : Row) (l : List Row) → member r (keep p l) ≡ (p r && member r l)
member-keep p r [] = sym (and-false (p r))
member-keep p r (x ∷ l) = go (p x) (same_row r x) refl refl (member-keep p r l)
  where
    go : (b t : Bool) → p x ≡ b → same_row r x ≡ t → member r (keep p l) ≡ (p r && member r l) → member r (keep_if b x (keep p l)) ≡ (p r && (t || member r l))
    go true true e f ih = rw (f, same_row_eq r x f, e)
    go true false e f ih = rw (f, ih)
    go false true e f ih = rw (ih, same_row_eq r x f, e)
    go false false e f ih = rw ih

pub member_delete : (r s : Row) (l : List Row) → member r (delete_row s l) ≡ (not (same_row r s) && member r l)
unfolding delete_row
member_delete r s l = member-keep (λ t. not (same_row t s)) r l

pub member-set_of : (r : Row) (l : List Row) → member r (set_of l) ≡ member r l
member-set_of r [] = refl
member-set_of r (x ∷ l) = member_insert r x (set_of l) ∙ rw (member-set_of r l)

-- ---- strictly ascending

-- every row of the list is above r
abbrev pub Above : Row → List Row → Type 0
Above r [] = Unit {0}
Above r (s ∷ l) = (order r s ≡ Ordering.lt) × Above r l

-- each row is below every row after it
abbrev pub Ascending : List Row → Type 0
Ascending [] = Unit {0}
Ascending (r ∷ l) = Above r l × Ascending l

pub above_trans : (r s : Row) (l : List Row) → order r s ≡ Ordering.lt → Above s l → Above r l
above_trans r s [] h a = tt
above_trans r s (x ∷ l) h a = (order_trans r s x h a.0, above_trans r s l h a.1)

pub above_insert : (r s : Row) (l : List Row) → order r s ≡ Ordering.lt → Above r l → Above r (insert_row s l)
above_insert r s [] h a = (h, tt)
above_insert r s (x ∷ l) h a = go (order s x) (above_insert r s l h a.1)
  where
    go : (o : Ordering) → Above r (insert_row s l) → Above r (place o s x l (insert_row s l))
    go Ordering.lt m = (h, a)
    go Ordering.eq m = a
    go Ordering.gt m = (a.0, m)

pub above_keep : (p : Row → Bool) (r : Row) (l : List Row) → Above r l → Above r (keep p l)
above_keep p r [] a = tt
above_keep p r (x ∷ l) a = go (p x) (above_keep p r l a.1)
  where
    go : (b : Bool) → Above r (keep p l) → Above r (keep_if b x (keep p l))
    go true m = (a.0, m)
    go false m = m

pub asc_insert : (s : Row) (l : List Row) → Ascending l → Ascending (insert_row s l)
asc_insert s [] a = (tt, tt)
asc_insert s (x ∷ l) a = go (order s x) refl (asc_insert s l a.1)
  where
    go : (o : Ordering) → order s x ≡ o → Ascending (insert_row s l) → Ascending (place o s x l (insert_row s l))
    go Ordering.lt e m = ((e, above_trans s x l e a.0), a)
    go Ordering.eq e m = a
    go Ordering.gt e m = (above_insert x s l (order_flip s x ∙ ap flip e) a.0, m)

pub asc-keep : (p : Row → Bool) (l : List Row) → Ascending l → Ascending (keep p l)
asc-keep p [] a = tt
asc-keep p (x ∷ l) a = go (p x) (asc-keep p l a.1)
  where
    go : (b : Bool) → Ascending (keep p l) → Ascending (keep_if b x (keep p l))
    go true m = (above_keep p x l a.0, m)
    go false m = m

pub asc_delete : (r : Row) (l : List Row) → Ascending l → Ascending (delete_row r l)
unfolding delete_row
asc_delete r l a = asc-keep (λ s. not (same_row s r)) l a

pub asc-set_of : (l : List Row) → Ascending (set_of l)
asc-set_of [] = tt
asc-set_of (x ∷ l) = asc_insert x (set_of l) (asc-set_of l)

-- a row below every row of a list is not in it
pub above_not-member : (r : Row) (l : List Row) → Above r l → member r l ≡ false
above_not-member r [] a = refl
above_not-member r (x ∷ l) a = rw (a.0, above_not-member r l a.1)

-- and every row of the list is above it
pub above_member : (r s : Row) (l : List Row) → Above r l → member s l ≡ true → is_less (order r s) ≡ true
above_member r s [] a m = absurd (true≢false (sym m))
above_member r s (x ∷ l) a m = go (same_row s x) refl m (above_member r s l a.1)
  where
    go : (t : Bool) → same_row s x ≡ t → (t || member s l) ≡ true → (member s l ≡ true → is_less (order r s) ≡ true) → is_less (order r s) ≡ true
    go true e h rest = rw (same_row_eq s x e, a.0)
    go false e h rest = rest h

-- ---- a strictly ascending list is known by its members

tail_members : (x : Row) (a b : List Row) → Above x a → Above x b → (r : Row) → (same_row r x || member r a) ≡ (same_row r x || member r b) → member r a ≡ member r b
tail_members x a b ha hb r e = go (same_row r x) refl e
  where
    go : (t : Bool) → same_row r x ≡ t → (t || member r a) ≡ (t || member r b) → member r a ≡ member r b
    go true s h = rw (same_row_eq r x s, above_not-member x a ha, above_not-member x b hb)
    go false s h = h

pub ext : (a b : List Row) → Ascending a → Ascending b → ((r : Row) → member r a ≡ member r b) → a ≡ b
ext [] [] ha hb e = refl
ext [] (y ∷ b) ha hb e = absurd (true≢false (sym (e y ∙ rw (same_row_refl y))))
ext (x ∷ a) [] ha hb e = absurd (true≢false (rw (same_row_refl x) at (e x)))
ext (x ∷ a) (y ∷ b) ha hb e = go (order x y) refl (ext a b ha.1 hb.1)
  where
    go : (o : Ordering) → order x y ≡ o → (((r : Row) → member r a ≡ member r b) → a ≡ b) → x ∷ a ≡ y ∷ b
    go Ordering.lt h ih = absurd (true≢false (rw (same_row_refl x, above_not-member x (y ∷ b) (h, above_trans x y b h hb.0)) at (e x)))
    go Ordering.gt h ih =
        let h' : order y x ≡ Ordering.lt = order_flip x y ∙ ap flip h in
        absurd (true≢false (rw (same_row_refl y, above_not-member y (x ∷ a) (h', above_trans y x a h' ha.0)) at (sym (e y))))
    go Ordering.eq h ih =
        let q : x ≡ y = order_eq x y h in
        λ i. q i ∷ ih (λ r. tail_members x a b ha.0 (subst (λ (z : Row). Above z b) (sym q) hb.0) r (e r ∙ rw (← q))) i

-- ---- the test of document 01, each row below the next, says just that

above_trans_first : (r s : Row) (l : List Row) → is_less (order r s) ≡ true → Above s l → Above r (s ∷ l)
above_trans_first r s l e a = go (order r s) refl e
  where
    go : (o : Ordering) → order r s ≡ o → is_less o ≡ true → Above r (s ∷ l)
    go Ordering.lt f t = (f, above_trans r s l f a)
    go Ordering.eq f t = absurd (true≢false (sym t))
    go Ordering.gt f t = absurd (true≢false (sym t))

pub and_first : (a b : Bool) → (a && b) ≡ true → a ≡ true
and_first true b e = refl
and_first false b e = e

pub and_second : (a b : Bool) → (a && b) ≡ true → b ≡ true
and_second true b e = e
and_second false b e = absurd (true≢false (sym e))

pub and_both : (a b : Bool) → a ≡ true → b ≡ true → (a && b) ≡ true
and_both a b p q = rw p q

below_above : (r : Row) (l : List Row) → below_first r l ≡ true → Ascending l → Above r l
below_above r [] e a = tt
below_above r (s ∷ l) e a = above_trans_first r s l e a.0

pub ascending-holds : (l : List Row) → ascending l ≡ true → Ascending l
ascending-holds [] e = tt
ascending-holds (r ∷ l) e =
    let a : Ascending l = ascending-holds l (and_second (below_first r l) (ascending l) e) in
    (below_above r l (and_first (below_first r l) (ascending l) e) a, a)

above_below : (r : Row) (l : List Row) → Above r l → below_first r l ≡ true
above_below r [] a = refl
above_below r (s ∷ l) a = rw a.0

pub ascending_true : (l : List Row) → Ascending l → ascending l ≡ true
ascending_true [] a = refl
ascending_true (r ∷ l) a = and_both (below_first r l) (ascending l) (above_below r l a.0) (ascending_true l a.1)

-- ---- the test of equality says just that

pub same_rows_refl : (l : List Row) → same_rows l l ≡ true
same_rows_refl [] = refl
same_rows_refl (r ∷ l) = and_both (same_row r r) (same_rows l l) (same_row_refl r) (same_rows_refl l)

pub same_rows_eq : (l m : List Row) → same_rows l m ≡ true → l ≡ m
same_rows_eq [] [] e = refl
same_rows_eq [] (s ∷ m) e = absurd (true≢false (sym e))
same_rows_eq (r ∷ l) [] e = absurd (true≢false (sym e))
same_rows_eq (r ∷ l) (s ∷ m) e =
    λ i. same_row_eq r s (and_first (same_row r s) (same_rows l m) e) i ∷ same_rows_eq l m (and_second (same_row r s) (same_rows l m) e) i

-- ---- an ascending list is the set of its rows

insert_below : (r : Row) (l : List Row) → Above r l → insert_row r l ≡ r ∷ l
insert_below r [] a = refl
insert_below r (s ∷ l) a = rw a.0

pub set_of-ascending : (l : List Row) → Ascending l → set_of l ≡ l
set_of-ascending [] a = refl
set_of-ascending (r ∷ l) a = rw (set_of-ascending l a.1) (insert_below r l a.0)

-- ---- how many rows inserting leaves

-- a row that is not there makes one row more
pub insert_new : (r : Row) (l : List Row) → member r l ≡ false → length (insert_row r l) ≡ suc (length l)
insert_new r [] e = refl
insert_new r (s ∷ l) e = go (order r s) e (insert_new r l)
  where
    go : (o : Ordering) → (compare_is_eq o || member r l) ≡ false → (member r l ≡ false → length (insert_row r l) ≡ suc (length l)) → length (place o r s l (insert_row r l)) ≡ suc (suc (length l))
    go Ordering.lt f ih = refl
    go Ordering.eq f ih = absurd (true≢false f)
    go Ordering.gt f ih = ap suc (ih f)

-- a row that is there makes none
pub insert_present : (r : Row) (l : List Row) → Ascending l → member r l ≡ true → insert_row r l ≡ l
insert_present r l a e = ext (insert_row r l) l (asc_insert r l a) a (λ x. member_insert x r l ∙ go x (same_row x r) refl)
  where
    go : (x : Row) (t : Bool) → same_row x r ≡ t → (t || member x l) ≡ member x l
    go x true f = sym (ap (λ (y : Row). member y l) (same_row_eq x r f) ∙ e)
    go x false f = refl

pub insert_more : (r : Row) (l : List Row) → length l ≤ length (insert_row r l)
insert_more r [] = zero-le
insert_more r (s ∷ l) = go (order r s) (insert_more r l)
  where
    go : (o : Ordering) → length l ≤ length (insert_row r l) → suc (length l) ≤ length (place o r s l (insert_row r l))
    go Ordering.lt h = omega arith
    go Ordering.eq h = omega arith
    go Ordering.gt h = omega arith

pub insert_once : (r : Row) (l : List Row) → length (insert_row r l) ≤ suc (length l)
insert_once r [] = le_refl 1
insert_once r (s ∷ l) = go (order r s) (insert_once r l)
  where
    go : (o : Ordering) → length (insert_row r l) ≤ suc (length l) → length (place o r s l (insert_row r l)) ≤ suc (suc (length l))
    go Ordering.lt h = omega arith
    go Ordering.eq h = omega arith
    go Ordering.gt h = omega arith

-- ---- how many rows deleting leaves

-- a row that is not there is not deleted
pub delete_absent : (r : Row) (l : List Row) → member r l ≡ false → delete_row r l ≡ l
unfolding delete_row
delete_absent r [] e = refl
delete_absent r (s ∷ l) e = go (same_row s r) refl (delete_absent r l)
  where
    parts : (a b : Bool) → (a || b) ≡ false → (a ≡ false) × (b ≡ false)
    parts false false f = (refl, refl)
    parts true b f = absurd (true≢false f)
    parts false true f = absurd (true≢false f)

    here : (same_row r s ≡ false) × (member r l ≡ false)
    here = parts (same_row r s) (member r l) e

    go : (t : Bool) → same_row s r ≡ t → (member r l ≡ false → keep (λ x. not (same_row x r)) l ≡ l) → keep_if (not t) s (keep (λ x. not (same_row x r)) l) ≡ s ∷ l
    go true f ih = absurd (true≢false (sym (same_row_refl r) ∙ ap (same_row r) (sym (same_row_eq s r f)) ∙ here.0))
    go false f ih = ap (λ (m : List Row). s ∷ m) (ih here.1)

-- a row above others is not among them
above_absent : (r : Row) (l : List Row) → Above r l → member r l ≡ false
above_absent r [] a = refl
above_absent r (s ∷ l) a = go (same_row r s) refl (above_absent r l a.1)
  where
    go : (t : Bool) → same_row r s ≡ t → member r l ≡ false → (t || member r l) ≡ false
    go true e ih = absurd (lt≢eq (sym a.0 ∙ ap (order r) (sym (same_row_eq r s e)) ∙ order_refl r))
    go false e ih = ih

-- a row that is there is deleted once
pub delete_present : (r : Row) (l : List Row) → Ascending l → member r l ≡ true → suc (length (delete_row r l)) ≡ length l
unfolding delete_row
delete_present r [] a e = absurd (true≢false (sym e))
delete_present r (s ∷ l) a e = go (same_row s r) refl (delete_present r l a.1)
  where
    rest : same_row s r ≡ true → keep (λ x. not (same_row x r)) l ≡ l
    rest f = delete_absent r l (ap (λ (x : Row). member x l) (sym (same_row_eq s r f)) ∙ above_absent s l a.0)

    later : same_row s r ≡ false → member r l ≡ true
    later f = sym (ap (λ (t : Bool). t || member r l) (flipped (same_row r s) refl)) ∙ e
      where
        flipped : (t : Bool) → same_row r s ≡ t → same_row r s ≡ false
        flipped true g = absurd (true≢false (sym (same_row_refl r) ∙ ap (λ (x : Row). same_row x r) (same_row_eq r s g) ∙ f))
        flipped false g = g

    go : (t : Bool) → same_row s r ≡ t → (member r l ≡ true → suc (length (keep (λ x. not (same_row x r)) l)) ≡ length l) → suc (length (keep_if (not t) s (keep (λ x. not (same_row x r)) l)))
        ≡ suc (length l)
    go true f ih = ap (λ (m : List Row). suc (length m)) (rest f)
    go false f ih = ap suc (ih (later f))

-- two truths that follow from each other
pub bool_same : (a b : Bool) → (a ≡ true → b ≡ true) → (b ≡ true → a ≡ true) → a ≡ b
bool_same true true f g = refl
bool_same true false f g = sym (f refl)
bool_same false true f g = g refl
bool_same false false f g = refl
