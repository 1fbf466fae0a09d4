-- Delta-union of two successive net changes is the net change of the two together. For rows of any width. Assumes nothing.
use mathlib.Core.Path.{◌≡◌, refl, ◌∙◌}
use mathlib.Core.Bool.{Bool, true, false, not, ◌&&◌, ◌||◌}
use Rattle.model.specs.Row.{Row, Relation, member}
use Rattle.model.specs.Algebra.{union_rows, difference_rows}
use Rattle.model.specs.Delta.{net_change, delta_union}
use Rattle.laws.proofs.Sets.{Ascending, ext}
use Rattle.laws.proofs.Algebra.{member_union, member-difference, asc-union, asc-difference, union_comm}

-- one half of the fold: what is in new and not in old, from what lies between
half : (old mid new : Relation) → Ascending new →
    union_rows
    (difference_rows (difference_rows mid old) (difference_rows mid new))
    (difference_rows (difference_rows new mid) (difference_rows old mid))
    ≡ difference_rows new old
half old mid new a =
    ext
    (union_rows (difference_rows (difference_rows mid old) (difference_rows mid new)) (difference_rows (difference_rows new mid) (difference_rows old mid)))
    (difference_rows new old)
    (asc-union (difference_rows (difference_rows mid old) (difference_rows mid new)) (difference_rows (difference_rows new mid) (difference_rows old mid)))
    (asc-difference new old a)
    (λ r. simp (member_union, member-difference) (go (member r old) (member r mid) (member r new)))
  where
    go : (x y z : Bool) → (not (not z && y) && (not x && y) || not (not y && x) && (not y && z)) ≡ (not x && z)
    go true true true = refl
    go true true false = refl
    go true false true = refl
    go true false false = refl
    go false true true = refl
    go false true false = refl
    go false false true = refl
    go false false false = refl

pub delta_union_lem : (old mid new : Relation) → Ascending old → Ascending new →
    delta_union (net_change old mid) (net_change mid new) ≡ net_change old new
unfolding delta_union net_change
delta_union_lem old mid new a b =
    let lost : union_rows (difference_rows (difference_rows old mid) (difference_rows new mid)) (difference_rows (difference_rows mid new) (difference_rows mid old)) ≡ difference_rows old new =
    union_comm (difference_rows (difference_rows old mid) (difference_rows new mid)) (difference_rows (difference_rows mid new) (difference_rows mid old)) ∙ half new mid old a in
    λ i. record { gained = half old mid new b i; lost = lost i }

-- gained and lost rows of a net change share no row
pub change_disjoint : (r : Row) (old new : Relation) → (member r (net_change old new).gained && member r (net_change old new).lost) ≡ false
unfolding net_change
change_disjoint r old new = simp member-difference (go (member r old) (member r new))
  where
    go : (x y : Bool) → (not x && y && (not y && x)) ≡ false
    go true true = refl
    go true false = refl
    go false true = refl
    go false false = refl
