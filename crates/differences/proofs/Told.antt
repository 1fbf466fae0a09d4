-- The numbers that a comparison of two places tells, in the model's terms: the rows that came and went, and that nothing changed. For every width. Assumes nothing.
use mathlib.Core.Path.{◌≡◌, refl, sym, ap, ap₂, ◌∙◌}
use mathlib.Core.Bool.{Bool, true, false, not, ◌&&◌, true≢false}
use mathlib.Core.List.{List, [], ◌∷◌, map}
use Prim.Native.Nat.{ℕ, ◌*◌, ◌≤◌}
use native.Mathlib.Omega.{arith}
use lib.ListN.{length, take, drop, length-drop, length-map}
use lib.Seq.{length-take-le}
use Rattle.model.specs.Row.{Row, Relation, is_empty, max_rows, same_rows}
use Rattle.model.specs.Algebra.{difference_rows}
use Rattle.model.specs.Areas.{padded, stride}
use Rattle.model.specs.Delta.{Change, net_change}
use Rattle.laws.proofs.Sets.{Ascending, ascending-holds, same_rows_eq}
use Rattle.rows.specs.Rows.{row_at, first_rows}
use Rattle.rows.proofs.Place.{length-map-padded}
use Rattle.places.specs.Places.{Place, relation_in}
use Rattle.places.proofs.Places.{place-ascending, place-few}
use Rattle.merges.proofs.Merged.{difference_is}
use Rattle.states.proofs.Changes.{changed_is, no_change_lem as self-change}
use Rattle.differences.specs.declared.Sizes.{Sizes}
use Rattle.differences.specs.Differences.{chosen, Compares, Told, Within}

-- ---- one side

-- the numbers are those of rows in the words
pub told-within : (s : List ℕ) (n : ℕ) (others : List Row) (numbers : List ℕ) → Told s n others numbers → n * stride ≤ length s → Within s numbers
told-within s n others numbers t h = λ k f. omega (arith, t.below k f)

module _ (w : ℕ) (s : List ℕ) (n : ℕ) (t : List ℕ) (m : ℕ) (numbers : List ℕ) (ps : Place w s n) (pt : Place w t m) (told : Told s n (first_rows t m) numbers) where
  pub told-rows : chosen s numbers ≡ map (padded stride) (difference_rows (relation_in w s n) (relation_in w t m))
  told-rows = told.rows ∙ difference_is w s n t m ps pt

  pub told-count : length numbers ≡ length (difference_rows (relation_in w s n) (relation_in w t m))
  told-count = sym (length-map numbers (row_at stride s)) ∙ ap length told-rows ∙ length-map-padded stride (difference_rows (relation_in w s n) (relation_in w t m))

-- ---- no change

none_empty : (l : Relation) → length l ≡ 0 → is_empty l ≡ true
none_empty [] e = refl
none_empty (r ∷ l) e = absurd (omega arith)

not-false : (b : Bool) → not b ≡ false → b ≡ true
not-false true e = refl
not-false false e = absurd (true≢false e)

-- relations with no row in one of them alone are one
differences_none : (a b : Relation) → Ascending a → Ascending b → length (difference_rows b a) ≡ 0 → length (difference_rows a b) ≡ 0 → b ≡ a
unfolding net_change
differences_none a b ha hb e f =
    same_rows_eq b a (not-false (same_rows b a) (sym (changed_is a b ha hb)
    ∙ ap₂ {A = Bool} {B = Bool} {C = Bool} (λ x y. not (x && y)) (none_empty (difference_rows b a) e) (none_empty (difference_rows a b) f)))

difference_self : (a : Relation) → length (difference_rows a a) ≡ 0
unfolding net_change
difference_self a = ap (λ (c : Change). length c.gained) (self-change a)

-- ---- both sides

module _ (w : ℕ) (old : List ℕ) (m : ℕ) (new : List ℕ) (n : ℕ) (picks : List ℕ) (s : Sizes) (po : Place w old m) (pn : Place w new n) (c : Compares old m new n picks s) where
  abbrev olds : Relation
  olds = relation_in w old m

  abbrev news : Relation
  news = relation_in w new n

  pub came-rows : chosen new (take s.gained picks) ≡ map (padded stride) (difference_rows news olds)
  came-rows = told-rows w new n old m (take s.gained picks) pn po c.came

  pub gone-rows : chosen old (take s.lost (drop max_rows picks)) ≡ map (padded stride) (difference_rows olds news)
  gone-rows = told-rows w old m new n (take s.lost (drop max_rows picks)) po pn c.gone

  pub came-count : s.gained ≡ length (difference_rows news olds)
  came-count =
      sym (length-take-le s.gained picks (omega (arith, c.long, c.gained-few, place-few w new n pn))) ∙ told-count w new n old m (take s.gained picks) pn po c.came

  pub gone-count : s.lost ≡ length (difference_rows olds news)
  gone-count =
      let room : s.lost ≤ length (drop max_rows picks) = rw (length-drop max_rows picks) (omega (arith, c.long, c.lost-few, place-few w old m po)) in
      sym (length-take-le s.lost (drop max_rows picks) room) ∙ told-count w old m new n (take s.lost (drop max_rows picks)) po pn c.gone

  -- no row came and none went: the rows are the same
  pub no_change_lem : s.gained ≡ 0 → s.lost ≡ 0 → news ≡ olds
  no_change_lem e f =
      differences_none olds news (ascending-holds olds (place-ascending w old m po)) (ascending-holds news (place-ascending w new n pn)) (sym came-count ∙ e) (sym gone-count ∙ f)
