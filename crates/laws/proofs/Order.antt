-- The order of rows is a strict total order, for rows of any width. Assumes nothing.
use mathlib.Core.Path.{◌≡◌, refl, sym, ap, ◌∙◌, subst}
use mathlib.Core.Bool.{true, true≢false}
use mathlib.Core.List.{[], ◌∷◌}
use Prim.Native.Nat.compare
use Prim.Native.Nat.{ℕ, zero, suc, ◌<◌, compare, Ordering, zero-le, suc-le-suc}
use native.Mathlib.Nat.{not-suc-le-zero, le_of_suc-le-suc}
use native.Mathlib.Omega.{arith}
use lib.Dec.{compare_is_eq}
use Rattle.model.specs.Row.{Row, and_then, order, same_row}

-- ---- numbers

pub compare_refl : (m : ℕ) → compare m m ≡ Ordering.eq
compare_refl zero = compare.zero-zero
compare_refl (suc m) = compare.suc-suc m m ∙ compare_refl m

pub lt_compare : (m n : ℕ) → m < n → compare m n ≡ Ordering.lt
lt_compare m zero h = absurd (not-suc-le-zero h)
lt_compare zero (suc n) h = compare.zero-suc n
lt_compare (suc m) (suc n) h = compare.suc-suc m n ∙ lt_compare m n (le_of_suc-le-suc h)

pub gt_compare : (m n : ℕ) → n < m → compare m n ≡ Ordering.gt
gt_compare zero n h = absurd (not-suc-le-zero h)
gt_compare (suc m) zero h = compare.suc-zero m
gt_compare (suc m) (suc n) h = compare.suc-suc m n ∙ gt_compare m n (le_of_suc-le-suc h)

pub eq_compare : (m n : ℕ) → m ≡ n → compare m n ≡ Ordering.eq
eq_compare m n e = ap (compare m) (sym e) ∙ compare_refl m

-- what an outcome of a comparison says
abbrev pub Says : Ordering → ℕ → ℕ → Type 0
Says Ordering.lt m n = m < n
Says Ordering.eq m n = m ≡ n
Says Ordering.gt m n = n < m

says_suc : (o : Ordering) (m n : ℕ) → Says o m n → Says o (suc m) (suc n)
says_suc Ordering.lt m n h = suc-le-suc h
says_suc Ordering.eq m n h = ap suc h
says_suc Ordering.gt m n h = suc-le-suc h

pub says : (m n : ℕ) → Says (compare m n) m n
says zero zero = subst (λ (o : Ordering). Says o zero zero) (sym compare.zero-zero) refl
says zero (suc n) = subst (λ (o : Ordering). Says o zero (suc n)) (sym (compare.zero-suc n)) (suc-le-suc zero-le)
says (suc m) zero = subst (λ (o : Ordering). Says o (suc m) zero) (sym (compare.suc-zero m)) (suc-le-suc zero-le)
says (suc m) (suc n) = subst (λ (o : Ordering). Says o (suc m) (suc n)) (sym (compare.suc-suc m n)) (says_suc (compare m n) m n (says m n))

pub compare-says : (m n : ℕ) (o : Ordering) → compare m n ≡ o → Says o m n
compare-says m n o e = subst (λ (p : Ordering). Says p m n) e (says m n)

-- ---- the order of rows

abbrev pub flip : Ordering → Ordering
flip Ordering.lt = Ordering.gt
flip Ordering.eq = Ordering.eq
flip Ordering.gt = Ordering.lt

pub lt≢gt : Ordering.lt ≡ Ordering.gt → ⊥
lt≢gt e = let z : ◌≡◌ {A = ℕ} 0 1 = cc in omega arith

pub lt≢eq : Ordering.lt ≡ Ordering.eq → ⊥
lt≢eq e = let z : ◌≡◌ {A = ℕ} 0 1 = cc in omega arith

pub gt≢eq : Ordering.gt ≡ Ordering.eq → ⊥
gt≢eq e = let z : ◌≡◌ {A = ℕ} 0 1 = cc in omega arith

pub order_refl : (r : Row) → order r r ≡ Ordering.eq
order_refl [] = refl
order_refl (x ∷ r) = rw (compare_refl x) (order_refl r)

compare_flip : (m n : ℕ) → compare n m ≡ flip (compare m n)
compare_flip m n = go (compare m n) refl
  where
    go : (o : Ordering) → compare m n ≡ o → compare n m ≡ flip o
    go Ordering.lt e = gt_compare n m (compare-says m n Ordering.lt e)
    go Ordering.eq e = eq_compare n m (sym (compare-says m n Ordering.eq e))
    go Ordering.gt e = lt_compare n m (compare-says m n Ordering.gt e)

flip_and_then : (o p : Ordering) → and_then (flip o) (flip p) ≡ flip (and_then o p)
flip_and_then Ordering.lt p = refl
flip_and_then Ordering.eq p = refl
flip_and_then Ordering.gt p = refl

pub order_flip : (r s : Row) → order s r ≡ flip (order r s)
order_flip [] [] = refl
order_flip [] (y ∷ s) = refl
order_flip (x ∷ r) [] = refl
order_flip (x ∷ r) (y ∷ s) = rw (compare_flip x y, order_flip r s) (flip_and_then (compare x y) (order r s))

pub order_eq : (r s : Row) → order r s ≡ Ordering.eq → r ≡ s
order_eq [] [] e = refl
order_eq [] (y ∷ s) e = absurd (lt≢eq e)
order_eq (x ∷ r) [] e = absurd (gt≢eq e)
order_eq (x ∷ r) (y ∷ s) e = go (compare x y) refl (order_eq r s) e
  where
    go : (o : Ordering) → compare x y ≡ o → (order r s ≡ Ordering.eq → r ≡ s) → and_then o (order r s) ≡ Ordering.eq → x ∷ r ≡ y ∷ s
    go Ordering.lt c ih h = absurd (lt≢eq h)
    go Ordering.eq c ih h = λ i. compare-says x y Ordering.eq c i ∷ ih h i
    go Ordering.gt c ih h = absurd (gt≢eq h)

pub order_trans : (r s t : Row) → order r s ≡ Ordering.lt → order s t ≡ Ordering.lt → order r t ≡ Ordering.lt
order_trans [] [] t p q = q
order_trans [] (y ∷ s) [] p q = absurd (lt≢gt (sym q))
order_trans [] (y ∷ s) (z ∷ t) p q = refl
order_trans (x ∷ r) [] t p q = absurd (lt≢gt (sym p))
order_trans (x ∷ r) (y ∷ s) [] p q = absurd (lt≢gt (sym q))
order_trans (x ∷ r) (y ∷ s) (z ∷ t) p q = go (compare x y) (compare y z) refl refl p q (order_trans r s t)
  where
    go : (o o' : Ordering) → compare x y ≡ o → compare y z ≡ o' → and_then o (order r s) ≡ Ordering.lt → and_then o' (order s t) ≡ Ordering.lt
        → (order r s ≡ Ordering.lt → order s t ≡ Ordering.lt → order r t ≡ Ordering.lt) → and_then (compare x z) (order r t) ≡ Ordering.lt
    go Ordering.lt Ordering.lt c c' h h' ih =
        let a : x < y = compare-says x y Ordering.lt c in
        let b : y < z = compare-says y z Ordering.lt c' in
        rw (lt_compare x z (omega arith))
    go Ordering.lt Ordering.eq c c' h h' ih =
        let a : x < y = compare-says x y Ordering.lt c in
        let b : y ≡ z = compare-says y z Ordering.eq c' in
        rw (lt_compare x z (omega arith))
    go Ordering.lt Ordering.gt c c' h h' ih = absurd (lt≢gt (sym h'))
    go Ordering.eq Ordering.lt c c' h h' ih =
        let a : x ≡ y = compare-says x y Ordering.eq c in
        let b : y < z = compare-says y z Ordering.lt c' in
        rw (lt_compare x z (omega arith))
    go Ordering.eq Ordering.eq c c' h h' ih =
        let a : x ≡ y = compare-says x y Ordering.eq c in
        let b : y ≡ z = compare-says y z Ordering.eq c' in
        rw (eq_compare x z (omega arith)) (ih h h')
    go Ordering.eq Ordering.gt c c' h h' ih = absurd (lt≢gt (sym h'))
    go Ordering.gt o' c c' h h' ih = absurd (lt≢gt (sym h))

pub same_row_refl : (r : Row) → same_row r r ≡ true
same_row_refl r = ap compare_is_eq (order_refl r)

pub same_row_eq : (r s : Row) → same_row r s ≡ true → r ≡ s
same_row_eq r s h = go (order r s) refl h
  where
    go : (o : Ordering) → order r s ≡ o → compare_is_eq o ≡ true → r ≡ s
    go Ordering.lt e t = absurd (true≢false (sym t))
    go Ordering.eq e t = order_eq r s e
    go Ordering.gt e t = absurd (true≢false (sym t))
