-- One node's rows folded, in their places. Assumes nothing.
use mathlib.Core.Bool.{true}
use mathlib.Core.List.{List}
use mathlib.Core.Path.{◌≡◌}
use Prim.Native.Nat.{ℕ, ◌≤◌}
use Rattle.model.specs.Row.{Relation, ascending, max_rows}
use Rattle.model.specs.Algebra.{difference_rows, union_rows}
use Rattle.model.specs.Areas.{gained_count, layout, lost_count}
use Rattle.model.specs.Pending.{fold_rows, pending_count}
use Rattle.laws.proofs.Algebra.{asc-difference}
use Rattle.laws.proofs.Sets.{ascending-holds}
use Rattle.rows.specs.Rows.{first_rows}
use Rattle.areas.specs.Lent.{place_at}
use Rattle.places.specs.Places.{Fills, Makes, Place, relation_in}
use Rattle.std.specs.Prelude.{Option}
use Rattle.places.proofs.Places.{place-ascending, place-few, place-wide, rows_ascend}
use Rattle.places.proofs.Same.{fills_place}
use Rattle.states.proofs.Changes.{less_wide}
use Rattle.folding.specs.Folding.{Foldable, folded_words}

module _ (w i : ℕ) (gained lost head pending : List ℕ) (o : Foldable w i gained lost head pending) where
  -- the rows of each place
  abbrev stood : Relation
  stood = relation_in w (place_at pending i) (pending_count layout pending i)

  abbrev gone : Relation
  gone = relation_in w (place_at lost i) (lost_count head i)

  pub had_few : pending_count layout pending i ≤ max_rows
  had_few = place-few w (place_at pending i) (pending_count layout pending i) o.pending_at

  pub gone-few : lost_count head i ≤ max_rows
  gone-few = place-few w (place_at lost i) (lost_count head i) o.lost_at

  pub came-few : gained_count head i ≤ max_rows
  came-few = place-few w (place_at gained i) (gained_count head i) o.gained_at

  pub gone_ascends : ascending (first_rows (place_at lost i) (lost_count head i)) ≡ true
  gone_ascends = rows_ascend w (place_at lost i) (lost_count head i) o.lost_at

  pub came_ascends : ascending (first_rows (place_at gained i) (gained_count head i)) ≡ true
  came_ascends = rows_ascend w (place_at gained i) (gained_count head i) o.gained_at

  module _ (kept : List ℕ) (n : ℕ) (f : Fills (difference_rows stood gone) kept n) where
    -- the rows that were not lost
    pub kept-place : Place w kept n × (relation_in w kept n ≡ difference_rows stood gone)
    kept-place =
        fills_place w (difference_rows stood gone) kept n o.pending_at.narrow
        (less_wide w stood gone (place-wide w (place_at pending i) (pending_count layout pending i) o.pending_at))
        (asc-difference stood gone (ascending-holds stood (place-ascending w (place_at pending i) (pending_count layout pending i) o.pending_at)))
        f

    -- with the gained ones
    pub folds : (out : List ℕ) (r : Option ℕ) →
        ((v : ℕ) → Place v kept n → Place v (place_at gained i) (gained_count head i) →
        Makes (union_rows (relation_in v kept n) (relation_in v (place_at gained i) (gained_count head i))) out r) →
        Makes (folded_words w i gained lost head pending) out r
    unfolding fold_rows
    folds out r u = rw kept-place.1 at (u w kept-place.0 o.gained_at)
