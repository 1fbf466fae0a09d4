-- Join: the rows that pairs of rows make. Assumes nothing.
use mathlib.Core.Path.{◌≡◌, refl, sym, ap, ap₂, ◌∙◌}
use mathlib.Core.Bool.{Bool, true, false, cond}
use mathlib.Core.List.{List, [], ◌∷◌, ◌++◌, map, flat_map}
use Prim.Native.Nat.{ℕ, ◌+◌, ◌-◌, ◌≤◌, ◌<◌}
use native.Mathlib.Omega.{arith}
use lib.Dec.{ltb}
use lib.ListN.{length, take, get_or, get_or-append, length-map}
use lib.Seq.{get_or-append-add}
use borrow.Author.Tests.{ltb-true, ltb-false}
use Rattle.model.specs.Row.{Row, Relation, keep, keep_if, max_width, Wide}
use Rattle.model.specs.Algebra.{columns_of, Pair, agree, join_one, join_rows}
use Rattle.model.specs.Areas.{padded, stride}
use Rattle.rows.specs.Rows.{first_rows}
use Rattle.laws.proofs.Widths.{wide-keep, wide_each}
use Rattle.rows.proofs.Padding.{field_padded, keep-padded}
use Rattle.keys.proofs.Keys.{agree-padded}
use Rattle.nodes.specs.Nodes.{pairs_of}
use Rattle.places.specs.Places.{relation_in, Place, Stored, Makes, insert_all}
use Rattle.std.specs.Prelude.{Option}
use Rattle.places.proofs.Places.{place-rows, place-wide}
use Rattle.places.proofs.Puts.{put_up_to, made_is, made_wide, model_makes}
use Rattle.columns.specs.Columns.{joined_field, joined_row}
use Rattle.columns.proofs.Rows.{columns-same, few-columns, joined_length}
use Rattle.masks.specs.Masks.{JoinFits}
use Rattle.masks.specs.declared.Joining.{Joining}
use Rattle.joins.specs.Joins.{JoinsIn, joined_with, joined_rows}

-- the row that a left and a right row make, if they agree
abbrev pub joined_if : Joining → Row → Row → List Row
joined_if how l r = keep_if (agree (pairs_of how.p how.pairs) l r) (joined_row how.split (take how.n how.columns) l r) []

module _ (how : Joining) (fits : JoinFits how) where
  pub few_given : length (take how.n how.columns) ≤ max_width
  few_given = few-columns how.n how.columns fits.few fits.columns-long

  pub wide_joined : (l r : Row) → length r ≡ stride → Wide stride (joined_if how l r)
  wide_joined l r e = go (agree (pairs_of how.p how.pairs) l r)
    where
      go : (t : Bool) → Wide stride (keep_if t (joined_row how.split (take how.n how.columns) l r) [])
      go true = (joined_length how.split (take how.n how.columns) l r few_given, tt)
      go false = tt

  -- a left row with all right rows
  pub each_joined : (l : Row) (right : List Row) → flat_map (joined_if how l) right ≡ joined_with how right l
  unfolding flat_map
  each_joined l [] = refl
  each_joined l (r ∷ right) = go (agree (pairs_of how.p how.pairs) l r) (each_joined l right)
    where
      go : (t : Bool) → flat_map (joined_if how l) right ≡ joined_with how right l →
          keep_if t (joined_row how.split (take how.n how.columns) l r) [] ++ flat_map (joined_if how l) right ≡ map (joined_row how.split (take how.n how.columns) l)
          (keep_if t r (keep (agree (pairs_of how.p how.pairs) l) right))
      go true ih = ap (λ (m : List Row). joined_row how.split (take how.n how.columns) l r ∷ m) ih
      go false ih = ih

  pub wide_with : (right : List Row) (l : Row) → length l ≡ stride → Wide stride right → Wide stride (joined_with how right l)
  wide_with right l e h = rw (← each_joined l right) (wide_each stride (joined_if how l) right stride h (wide_joined l))

  pub joined_from : (l : Row) (b : List Row) (right : List ℕ) (m : ℕ) → put_up_to (joined_if how l) b right m ≡ insert_all (joined_with how (first_rows right m) l) b
  joined_from l b right m = ap (λ (x : List Row). insert_all x b) (each_joined l (first_rows right m))

-- a column of the right row after the left one
joined_cell : (v w : ℕ) (l r : Row) (c : ℕ) → length l ≡ v → length r ≡ w → c < v + w → joined_field v (padded stride l) (padded stride r) c ≡ get_or (l ++ r) c 0
joined_cell v w l r c f g h = go (ltb c v) refl
  where
    go : (t : Bool) → ltb c v ≡ t → cond t (get_or (padded stride l) c 0) (get_or (padded stride r) (c - v) 0) ≡ get_or (l ++ r) c 0
    go true e = let b : c < v = ltb-true c v e in field_padded stride l c (rw f b) ∙ sym (get_or-append l r 0 c (rw f b))
    go false e =
        let b : v ≤ c = ltb-false c v e in
        let k : length l + (c - v) ≡ c = omega (arith, f) in
        field_padded stride r (c - v) (omega (arith, g)) ∙ sym (ap (λ (i : ℕ). get_or (l ++ r) i 0) (sym k) ∙ get_or-append-add l r (c - v) 0)

module _ (how : Joining) (w : ℕ) (left : List ℕ) (n : ℕ) (right : List ℕ) (m : ℕ) (pl : Place how.split left n) (pr : Place w right m) (inside : JoinsIn how w) where
  joined_rows_lem : (l : Row) → length l ≡ how.split → (rel : Relation) → Wide w rel →
      map (joined_row how.split (take how.n how.columns) (padded stride l)) (map (padded stride) rel) ≡ map (padded stride) (map (λ r. columns_of (take how.n how.columns) (l ++
      r)) rel)
  joined_rows_lem l f [] h = refl
  joined_rows_lem l f (r ∷ rel) h =
      ap₂ {A = Row} {B = List Row} {C = List Row} (λ x y. x ∷ y)
      (ap (padded stride) (columns-same (how.split + w) (take how.n how.columns) (joined_field how.split (padded stride l) (padded stride r)) (λ c. get_or (l ++ r) c 0) inside.columns
      (λ c k. joined_cell how.split w l r c f h.0 k)))
      (joined_rows_lem l f rel h.1)

  one_padded : (l : Row) → length l ≡ how.split → joined_with how (first_rows right m) (padded stride l)
      ≡ map (padded stride) (join_one (pairs_of how.p how.pairs) (take how.n how.columns) (relation_in w right m) l)
  unfolding join_one
  one_padded l f =
      let pairs : List Pair = pairs_of how.p how.pairs in
      ap (map (joined_row how.split (take how.n how.columns) (padded stride l)))
      (ap (keep (agree pairs (padded stride l))) (place-rows w right m pr) ∙ keep-padded stride w (agree pairs (padded stride l)) (agree pairs l) (relation_in w right m) (place-wide w right m pr)
      (λ r e. agree-padded pairs how.split w l r inside.pairs f e))
      ∙ joined_rows_lem l f (keep (agree pairs l) (relation_in w right m)) (wide-keep w (agree pairs l) (relation_in w right m) (place-wide w right m pr))

  map-wide : (l : Row) (rel : List Row) → Wide (length (take how.n how.columns)) (map (λ r. columns_of (take how.n how.columns) (l ++ r)) rel)
  map-wide l [] = tt
  map-wide l (r ∷ rel) = (length-map (take how.n how.columns) (λ c. get_or (l ++ r) c 0), map-wide l rel)

  one_wide : (l : Row) → length l ≡ how.split →
      Wide (length (take how.n how.columns)) (join_one (pairs_of how.p how.pairs) (take how.n how.columns) (relation_in w right m) l)
  unfolding join_one
  one_wide l f = map-wide l (keep (agree (pairs_of how.p how.pairs) l) (relation_in w right m))

  join_is : joined_rows how (first_rows left n) (first_rows right m)
      ≡ map (padded stride) (join_rows (pairs_of how.p how.pairs) (take how.n how.columns) (relation_in how.split left n) (relation_in w right m))
  unfolding join_rows
  join_is =
      made_is (joined_with how (first_rows right m)) (join_one (pairs_of how.p how.pairs) (take how.n how.columns) (relation_in w right m)) how.split
      (length (take how.n how.columns)) left n pl one_padded one_wide

  join-wide : Wide (length (take how.n how.columns))
      (join_rows (pairs_of how.p how.pairs) (take how.n how.columns) (relation_in how.split left n) (relation_in w right m))
  unfolding join_rows
  join-wide =
      made_wide (joined_with how (first_rows right m)) (join_one (pairs_of how.p how.pairs) (take how.n how.columns) (relation_in w right m)) how.split
      (length (take how.n how.columns)) left n pl one_padded one_wide

  pub join_makes : JoinFits how → (out : List ℕ) (made : Option ℕ) → Stored (joined_rows how (first_rows left n) (first_rows right m)) out made →
      Makes (join_rows (pairs_of how.p how.pairs) (take how.n how.columns) (relation_in how.split left n) (relation_in w right m)) out made
  join_makes fits =
      model_makes (joined_rows how (first_rows left n) (first_rows right m))
      (join_rows (pairs_of how.p how.pairs) (take how.n how.columns) (relation_in how.split left n) (relation_in w right m))
      (length (take how.n how.columns)) (few_given how fits) join-wide join_is
