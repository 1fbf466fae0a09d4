-- Difference and intersection: the end of a pass over two places, and the model's rows. Assumes nothing.
use mathlib.Core.Path.{◌≡◌, refl, ap, ap₂, ◌∙◌}
use mathlib.Core.Bool.{Bool, true, false, not, beq}
use mathlib.Core.List.{List, [], ◌++◌, append-nil}
use Prim.Native.Nat.{ℕ, ◌+◌, ◌-◌, ◌≤◌}
use native.Mathlib.Omega.{arith}
use Rattle.model.specs.Algebra.{difference_rows, intersect_rows}
use Rattle.model.specs.Row.{Row, Relation, member, keep, keep_if, Wide}
use Rattle.model.specs.Areas.{stride}
use Rattle.laws.proofs.Sets.{Ascending}
use Rattle.laws.proofs.Widths.{wide-keep}
use Rattle.rows.specs.Rows.{rows_from, first_rows}
use Rattle.rows.proofs.Words.{rows_none}
use Rattle.rows.proofs.Padding.{intersect_padded}
use Rattle.places.specs.Places.{relation_in, Place, Fills, Stands}
use Rattle.places.proofs.Places.{place-rows, place-wide}
use Rattle.places.proofs.Puts.{model_fills}
use Rattle.merges.specs.Merges.{kept_by, Appends}
use Rattle.merges.proofs.Merged.{Merged, difference_is}

-- at most one row
pub one_more : (wanted : Bool) (x : Row) {out after : List ℕ} {count total : ℕ} → Appends (keep_if wanted x []) out count after total → total ≤ count + 1
one_more true x a = omega (arith, a.sum)
one_more false x a = omega (arith, a.sum)

-- ---- the end of a pass

module _ (left : List ℕ) (n : ℕ) (right : List ℕ) (m i j : ℕ) (out : List ℕ) (count : ℕ) (hl : Ascending (first_rows left n)) (hr : Ascending (first_rows right m)) where
  pub kept_all : (wanted : Bool) → n ≤ i → Merged (kept_by wanted) left n right m i j out count → Stands (kept_by wanted (first_rows left n) (first_rows right m)) out count
  kept_all wanted h t =
      let same : kept_by wanted (first_rows left n) (first_rows right m) ≡ first_rows out count =
      (t.gives hl hr).2 ∙ ap (λ (l : List Row). first_rows out count ++ kept_by wanted l (rows_from stride right j (m - j))) (rows_none stride left n i h) ∙ append-nil (first_rows out count) in
      rw same t.stands

-- ---- the model's rows

beq_true : (b : Bool) → beq b true ≡ b
beq_true true = refl
beq_true false = refl

module _ (w : ℕ) (left : List ℕ) (n : ℕ) (right : List ℕ) (m : ℕ) (pl : Place w left n) (pr : Place w right m) where
  abbrev lefts : Relation
  lefts = relation_in w left n

  abbrev rights : Relation
  rights = relation_in w right m

  wl : Wide w lefts
  wl = place-wide w left n pl

  wr : Wide w rights
  wr = place-wide w right m pr

  -- kind 7
  pub difference_fills : (out : List ℕ) (k : ℕ) → Stands (kept_by false (first_rows left n) (first_rows right m)) out k → Fills (difference_rows lefts rights) out k
  unfolding difference_rows
  difference_fills out k s =
      model_fills (kept_by false (first_rows left n) (first_rows right m)) (difference_rows lefts rights) w pl.narrow (wide-keep w (λ x. not (member x rights)) lefts wl)
      (difference_is w left n right m pl pr) out k s

  -- kind 8
  pub intersect_fills : (out : List ℕ) (k : ℕ) → Stands (kept_by true (first_rows left n) (first_rows right m)) out k → Fills (intersect_rows lefts rights) out k
  unfolding intersect_rows
  intersect_fills out k s =
      model_fills (kept_by true (first_rows left n) (first_rows right m)) (intersect_rows lefts rights) w pl.narrow (wide-keep w (λ x. member x rights) lefts wl)
      ((λ i. keep (λ x. beq_true (member x (first_rows right m)) i) (first_rows left n))
      ∙ ap₂ {A = List Row} {B = List Row} {C = List Row} (λ a b. intersect_rows a b) (place-rows w left n pl) (place-rows w right m pr)
      ∙ intersect_padded stride w lefts rights wl wr)
      out k s
