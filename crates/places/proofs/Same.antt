-- Two places compared: equal counts and equal words are equal rows; a relation that stands in a place. Assumes nothing.
use mathlib.Core.Bool.{Bool, false, true, ◌&&◌}
use mathlib.Core.List.{List, map}
use mathlib.Core.Path.{ap, ap₂, refl, sym, ◌∙◌, ◌≡◌}
use Prim.Native.Nat.{ℕ, ◌*◌, ◌≤◌}
use native.Mathlib.Omega.{arith}
use native.Mathlib.Nat.{le_refl}
use lib.Dec.{leb}
use lib.ListN.{length, take, drop}
use lib.Seq.{take_all}
use borrow.Author.Tests.{le-leb}
use Rattle.model.specs.Row.{Row, Relation, same_row, same_rows, ascending, max_rows, max_width, Wide}
use Rattle.model.specs.Areas.{layout, place_of, good_place, held_in, unused_zero, place_size, stride}
use Rattle.laws.proofs.Order.{same_row_eq, same_row_refl}
use Rattle.laws.proofs.Sets.{Ascending, and_both, ascending_true, same_rows_eq, same_rows_refl, bool_same}
use Rattle.words.specs.Runs.{same_first}
use Rattle.rows.specs.Rows.{first_rows}
use Rattle.rows.proofs.Placed.{placed-rows, place-length}
use Rattle.rows.proofs.Place.{place-reads, place_clean}
use Rattle.rows.proofs.Words.{rows-part}
use Rattle.rows.proofs.Padding.{unpadded}
use Rattle.places.specs.Places.{Place, relation_in, Fills}
use Rattle.places.proofs.Places.{place-count, place-wide, place-few, place_is}

-- the first words of a place are those of its rows
front_rows : (w : ℕ) (a : Relation) (x : List ℕ) (n : ℕ) → w ≤ max_width → Wide w a → length a ≤ max_rows → n ≡ length a → x ≡ place_of layout a →
    map (take w) (first_rows (take (n * stride) x) n) ≡ a
front_rows w a x n h wa few size e =
    ap (map (take w)) (rows-part stride (n * stride) x 0 n (le_refl (n * stride)) ∙ ap₂ {A = List ℕ} {B = ℕ} {C = List Row} first_rows e size ∙ placed-rows w a h wa few)
    ∙ unpadded stride w a wa

-- two places with n rows of one width: the rows' words are the same exactly if the rows are
places_decide : (w : ℕ) (a b : Relation) (x y : List ℕ) (n : ℕ) → w ≤ max_width → Wide w a → Wide w b → length a ≤ max_rows → n ≡ length a → n ≡ length b → x ≡ place_of layout a
    → y ≡ place_of layout b → same_first (n * stride) x y ≡ same_rows a b
places_decide w a b x y n narrow wa wb few size same ex ey =
    bool_same (same_first (n * stride) x y) (same_rows a b)
    (λ g.
    let rows : a ≡ b =
    sym (front_rows w a x n narrow wa few size ex)
    ∙ ap (λ (s : List ℕ). map (take w) (first_rows s n)) (same_row_eq (take (n * stride) x) (take (n * stride) y) g)
    ∙ front_rows w b y n narrow wb (rw (sym same ∙ size) few) same ey in
    ap (same_rows a) (sym rows) ∙ same_rows_refl a)
    (λ g.
    let words : x ≡ y = ex ∙ ap (place_of layout) (same_rows_eq a b g) ∙ sym ey in
    ap (λ (s : List ℕ). same_row (take (n * stride) x) (take (n * stride) s)) (sym words) ∙ same_row_refl (take (n * stride) x))

-- relations of other sizes are not the same
pub sizes_differ : (a b : Relation) → (length a ≡ length b → ⊥) → same_rows a b ≡ false
sizes_differ a b n = go (same_rows a b) refl
  where
    go : (t : Bool) → same_rows a b ≡ t → t ≡ false
    go false g = refl
    go true g = absurd (n (ap length (same_rows_eq a b g)))

module _ (w : ℕ) (x : List ℕ) (n : ℕ) (y : List ℕ) (m : ℕ) (p : Place w x n) (q : Place w y m) where
  abbrev a : Relation
  a = relation_in w x n

  abbrev b : Relation
  b = relation_in w y m

  -- another count: other rows
  pub counts_differ : (n ≡ m → ⊥) → false ≡ same_rows (relation_in w x n) (relation_in w y m)
  counts_differ h = sym (sizes_differ a b (λ e. h (sym (place-count w x n p) ∙ e ∙ place-count w y m q)))

  -- the same count: the same rows exactly if the words are the same
  pub words_decide : n ≡ m → same_first (n * stride) x y ≡ same_rows (relation_in w x n) (relation_in w y m)
  words_decide e =
      places_decide w a b x y n p.narrow (place-wide w x n p) (place-wide w y m q) (rw (place-count w x n p) (place-few w x n p)) (sym (place-count w x n p))
      (e ∙ sym (place-count w y m q)) (place_is w x n p) (place_is w y m q)

-- a relation that stands in a place is of good form there, and is read back
pub fills_place : (w : ℕ) (rel : Relation) (out : List ℕ) (n : ℕ) → w ≤ max_width → Wide w rel → Ascending rel → Fills rel out n → Place w out n × (relation_in w out n ≡ rel)
unfolding good_place
fills_place w rel out n narrow wide asc f =
    let few : length rel ≤ max_rows = rw (← f.count) f.few in
    let long : length out ≡ place_size = ap length f.is ∙ place-length w rel narrow wide few in
    let whole : take place_size (drop (place_size * 0) out) ≡ place_of layout rel = take_all place_size out (rw long (le_refl place_size)) ∙ f.is in
    let back : held_in layout w n out 0 ≡ rel = ap (λ (k : ℕ). held_in layout w k out 0) f.count ∙ place-reads layout w out 0 rel narrow wide few (rw long (omega arith)) whole in
    let clean : unused_zero layout w n out 0 ≡ true = ap (λ (k : ℕ). unused_zero layout w k out 0) f.count
    ∙ place_clean layout w out 0 rel narrow wide few (rw long (omega arith)) whole in (
      record {
        long = long;
        narrow = narrow;
        good = and_both (leb n max_rows && ascending (held_in layout w n out 0)) (unused_zero layout w n out 0)
            (and_both (leb n max_rows) (ascending (held_in layout w n out 0)) (le-leb n max_rows f.few) (ap ascending back ∙ ascending_true rel asc)) clean;
      },
      back,
    )
