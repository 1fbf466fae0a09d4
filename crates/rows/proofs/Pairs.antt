-- Rows compared two words at a time, each pair as one number. For rows of any number of words. Assumes nothing.
use mathlib.Core.Path.{◌≡◌, ap, sym}
use mathlib.Core.List.{List}
use mathlib.Core.Logic.{⊎_elim}
use Prim.Native.Nat.{Ordering, ℕ, ◌+◌, ◌≤◌, ◌<◌, compare}
use native.Mathlib.Nat.{eq-or-lt_of_le}
use native.Mathlib.Omega.{arith}
use lib.ListN.{get_or}
use Rattle.model.specs.Row.{order}
use Rattle.model.specs.Areas.{fields}
use Rattle.std.specs.Ordering.{nat_cmp, MatchOrdering}
use Rattle.std.specs.Cmp.{ranks}
use Rattle.std.specs.declared.cmp.Ordering.{Ordering as Outcome}
use Rattle.std.specs.declared.cmp.Ordering.TheVariants.{Less, Equal, Greater}
use Rattle.rows.specs.Rows.{Paired, order_of}
use Rattle.laws.proofs.Order.{lt_compare, eq_compare, gt_compare}
use Rattle.rows.proofs.Words.{Agree, agree_more, agree_less, agree_greater}

-- the library's comparison of numbers is the model's
order_of-ranked : (o : Outcome) (x y : ℕ) → MatchOrdering o (x < y) (x ≡ y) (y < x) → order_of o ≡ compare x y
order_of-ranked Less x y h = sym (lt_compare x y h)
order_of-ranked Equal x y h = sym (eq_compare x y h)
order_of-ranked Greater x y h = sym (gt_compare x y h)

pub order_of-nat_cmp : (x y : ℕ) → order_of (nat_cmp x y) ≡ compare x y
order_of-nat_cmp x y = order_of-ranked (nat_cmp x y) x y (ranks x y)

-- the second word of a pair
second : (s : List ℕ) (i k : ℕ) → get_or s (i + k + 1) 0 ≡ get_or s (i + (k + 1)) 0
second s i k = let e : i + k + 1 ≡ i + (k + 1) = omega arith in ap (λ (n : ℕ). get_or s n 0) e

-- the words agree up to index k, and a pair stands there in both
module _ (w : ℕ) (s : List ℕ) (i : ℕ) (t : List ℕ) (j k x y : ℕ) (room : k + 1 < w) (p : Paired s (i + k) x) (q : Paired t (j + k) y) (a : Agree w s i t j k) where
  -- the first words are the same
  one_more : get_or t (j + k) 0 ≤ get_or s (i + k) 0 → get_or s (i + k) 0 ≤ get_or t (j + k) 0 → Agree w s i t j (k + 1)
  one_more h g = agree_more w s i t j k (omega arith) a h g

  pub pair_more : y ≤ x → x ≤ y → Agree w s i t j (k + 2)
  pair_more h g =
      let e : k + 1 + 1 ≡ k + 2 = omega arith in
      let b : Agree w s i t j (k + 1 + 1) =
      agree_more w s i t j (k + 1) room (one_more (omega arith) (omega arith)) (omega (arith, second s i k, second t j k)) (omega (arith, second s i k, second t j k)) in
      rw e at b

  pub pair_less : x < y → order (fields w s i) (fields w t j) ≡ Ordering.lt
  pair_less h =
      ⊎_elim
      (λ (e : get_or s (i + k) 0 ≡ get_or t (j + k) 0).
      agree_less w s i t j (k + 1) room (one_more (omega arith) (omega arith)) (omega (arith, second s i k, second t j k)))
      (λ (f : get_or s (i + k) 0 < get_or t (j + k) 0). agree_less w s i t j k (omega arith) a f)
      (eq-or-lt_of_le (omega arith))

  pub pair_greater : y < x → order (fields w s i) (fields w t j) ≡ Ordering.gt
  pair_greater h =
      ⊎_elim
      (λ (e : get_or t (j + k) 0 ≡ get_or s (i + k) 0).
      agree_greater w s i t j (k + 1) room (one_more (omega arith) (omega arith)) (omega (arith, second s i k, second t j k)))
      (λ (f : get_or t (j + k) 0 < get_or s (i + k) 0). agree_greater w s i t j k (omega arith) a f)
      (eq-or-lt_of_le (omega arith))

  pair_ranked : (o : Outcome) → MatchOrdering o (x < y) (x ≡ y) (y < x) → (x ≡ y → ⊥) → order_of o ≡ order (fields w s i) (fields w t j)
  pair_ranked Less h n = sym (pair_less h)
  pair_ranked Equal h n = absurd (n h)
  pair_ranked Greater h n = sym (pair_greater h)

  pub pair_differs : (x ≡ y → ⊥) → order_of (nat_cmp x y) ≡ order (fields w s i) (fields w t j)
  pair_differs n = pair_ranked (nat_cmp x y) (ranks x y) n
