-- One pass over two ascending lists: what each step gives, and what it leaves to be read. Assumes nothing.
use mathlib.Core.Path.{◌≡◌, refl, sym, ap, ◌∙◌, subst}
use mathlib.Core.Bool.{Bool, true, false, not, beq}
use mathlib.Core.List.{List, [], ◌∷◌, ◌++◌, append_assoc}
use Prim.Native.Nat.{Ordering}
use Rattle.model.specs.Row.{Row, order, keep_if}
use Rattle.laws.proofs.Order.{flip, order_flip, order_eq}
use Rattle.laws.proofs.Sets.{Above, Ascending, above_trans, above_not-member}
use Rattle.merges.specs.Merges.{order_first, kept_by}

-- on ascending lists an operation gives some rows and then what it gives of the rest of them, which ascend too
abbrev pub Gives : (List Row → List Row → List Row) → List Row → List Row → List Row → List Row → List Row → Type 0
Gives op l r front l' r' = Ascending l → Ascending r → Ascending l' × Ascending r' × (op l r ≡ front ++ op l' r')

pub gives_then : (op : List Row → List Row → List Row) (l r a l' r' b l'' r'' : List Row) → Gives op l r a l' r' → Gives op l' r' b l'' r'' → Gives op l r (a ++ b) l'' r''
gives_then op l r a l' r' b l'' r'' f g hl hr =
    let x = f hl hr in
    let y = g x.0 x.1 in
    (y.0, y.1, x.2 ∙ ap (λ (t : List Row). a ++ t) y.2 ∙ sym (append_assoc a b (op l'' r'')))

-- what an operation gives where the left list's first row is below, equal to or above the right one's
pub record Passes (op : List Row → List Row → List Row) (below same above : Row → List Row) : Type 0 where
  pub less : (x : Row) (l r : List Row) → order_first x r ≡ Ordering.lt → Gives op (x ∷ l) r (below x) l r
  pub equal : (x y : Row) (l r : List Row) → order x y ≡ Ordering.eq → Gives op (x ∷ l) (y ∷ r) (same x) l r
  pub greater : (x y : Row) (l r : List Row) → order x y ≡ Ordering.gt → Gives op (x ∷ l) (y ∷ r) (above y) (x ∷ l) r

pub first_above : (x : Row) (r : List Row) → order_first x r ≡ Ordering.lt → Ascending r → Above x r
first_above x [] e a = tt
first_above x (y ∷ r) e a = (e, above_trans x y r e a.0)

pub under : (x y : Row) → order x y ≡ Ordering.gt → order y x ≡ Ordering.lt
under x y e = order_flip x y ∙ ap flip e

-- ---- difference and intersection

alone_front : (wanted : Bool) (x : Row) (l : List Row) → keep_if (beq false wanted) x l ≡ keep_if (not wanted) x [] ++ l
alone_front true x l = refl
alone_front false x l = refl

both_front : (wanted : Bool) (x : Row) (l : List Row) → keep_if (beq true wanted) x l ≡ keep_if wanted x [] ++ l
both_front true x l = refl
both_front false x l = refl

-- a row below every row of l says nothing of them
pub kept_passed : (wanted : Bool) (y : Row) (l r : List Row) → Above y l → kept_by wanted l (y ∷ r) ≡ kept_by wanted l r
kept_passed wanted y [] r a = refl
kept_passed wanted y (x ∷ l) r a =
    let e : order x y ≡ Ordering.gt = order_flip y x ∙ ap flip a.0 in
    rw (e, kept_passed wanted y l r a.1)

pub kept-passes : (wanted : Bool) → Passes (kept_by wanted) (λ x. keep_if (not wanted) x []) (λ x. keep_if wanted x []) (λ y. [])
kept-passes wanted =
    record {
      less = λ x l r e hl hr. (hl.1, hr, rw (above_not-member x r (first_above x r e hr)) (alone_front wanted x (kept_by wanted l r)));
      equal = λ x y l r e hl hr.
          let above : Above y l = subst (λ (z : Row). Above z l) (order_eq x y e) hl.0 in
          (hl.1, hr.1, rw (e, kept_passed wanted y l r above) (both_front wanted x (kept_by wanted l r)));
      greater = λ x y l r e hl hr. (hl, hr.1, kept_passed wanted y (x ∷ l) r (under x y e, above_trans y x l (under x y e) hl.0));
    }
