-- What an area of good form holds fits into one again. Assumes nothing.
use mathlib.Core.Bool.{◌&&◌, Bool, cond, false, true}
use mathlib.Core.List.{List, [], map, zip_with, ◌∷◌}
use mathlib.Core.Path.{ap, ap₂, refl, sym, ◌∙◌, ◌≡◌}
use Prim.Native.Nat.{◌<◌, suc, ℕ, ◌≤◌, ◌*◌, ◌+◌, zero-le}
use native.Mathlib.Nat.{zero-add}
use native.Mathlib.Omega.{arith}
use lib.ListN.{get_or, length, replicate}
use lib.Dec.{leb, ltb, eqb}
use borrow.Author.Tests.{leb-true, lt-ltb, le-ltb}
use Rattle.model.specs.Network.{Node, is_table, widths, node_at}
use Rattle.rows.proofs.Place.{held_wide, length_held, place-words}
use Rattle.laws.proofs.All.{all_below}
use Rattle.model.specs.Areas.{empty_place, good_area, good_place, held_in, layout, relations_in, tables_of, unused_zero, Areas, good_form, row_count, gained_count, lost_count, good_stamps, good_worked}
use Rattle.model.specs.Areas.{area_size, place_size}
use Rattle.states.specs.Fitting.{Fitting}
use Rattle.states.proofs.Written.{place_none}
use Rattle.model.specs.Row.{Relation, ascending, max_nodes, max_rows, max_width, Wide}
use Rattle.laws.proofs.Sets.{and_first, and_second, Ascending, ascending-holds}
use Rattle.model.specs.Delta.{Change}
use Rattle.states.proofs.Tables.{Tables}
use Rattle.laws.proofs.Fits.{length-widths}
use Rattle.laws.proofs.Fresh.{tables_at}
use Rattle.places.specs.Places.{Place, relation_in}
use Rattle.areas.specs.Lent.{place_at}
use Rattle.areas.proofs.Pasted.{place-long}
use Rattle.areas.proofs.Good.{part_is}
use Rattle.rows.proofs.Placed.{part-good, part_held}
use Rattle.laws.proofs.Relations.{relation_at, relations_length}

pub map-gained : (a b : List Relation) → length a ≡ length b → map (λ (c : Change). c.gained) (zip_with (λ g l. record { gained = g; lost = l }) a b) ≡ a
unfolding zip_with
map-gained [] b e = refl
map-gained (x ∷ a) [] e = absurd (omega arith)
map-gained (x ∷ a) (y ∷ b) e = ap (λ (l : List Relation). x ∷ l) (map-gained a b (omega arith))

pub map-lost : (a b : List Relation) → length a ≡ length b → map (λ (c : Change). c.lost) (zip_with (λ g l. record { gained = g; lost = l }) a b) ≡ b
unfolding zip_with
map-lost [] [] e = refl
map-lost [] (y ∷ b) e = absurd (omega arith)
map-lost (x ∷ a) [] e = absurd (omega arith)
map-lost (x ∷ a) (y ∷ b) e = ap (λ (l : List Relation). y ∷ l) (map-lost a b (omega arith))

-- an area of good form holds relations that fit
module _ (ws : List ℕ) (few : length ws ≤ max_nodes) (narrow : (i : ℕ) → get_or ws i 0 ≤ max_width) (count : ℕ → ℕ) (area : List ℕ) (g : good_area layout ws count area ≡ true) where
  pub place-good : (i : ℕ) → i < length ws → good_place layout (get_or ws i 0) (count i) area i ≡ true
  unfolding good_area
  place-good i h =
      let here : cond (ltb i (length ws)) (good_place layout (get_or ws i 0) (count i) area i) (empty_place layout (count i) area i)
      ≡ true = ap (λ (j : ℕ). cond (ltb j (length ws)) (good_place layout (get_or ws j 0) (count j) area j) (empty_place layout (count j) area j)) (sym (zero-add i))
      ∙ all_below (λ j. cond (ltb j (length ws)) (good_place layout (get_or ws j 0) (count j) area j) (empty_place layout (count j) area j)) 0 max_nodes g i (omega arith) in
      rw (lt-ltb i (length ws) h) at here

  first_two : (i : ℕ) → i < length ws → (leb (count i) max_rows && ascending (held_in layout (get_or ws i 0) (count i) area i)) ≡ true
  unfolding good_place
  first_two i h = and_first (leb (count i) max_rows && ascending (held_in layout (get_or ws i 0) (count i) area i)) (unused_zero layout (get_or ws i 0) (count i) area i) (place-good i h)

  pub few_at : (i : ℕ) → i < length ws → count i ≤ max_rows
  few_at i h = leb-true (count i) max_rows (and_first (leb (count i) max_rows) (ascending (held_in layout (get_or ws i 0) (count i) area i)) (first_two i h))

  -- a node's place, lent as a part of the area
  pub area_place : area_size ≤ length area → (i : ℕ) → i < length ws → Place (get_or ws i 0) (place_at area i) (count i)
      × (relation_in (get_or ws i 0) (place_at area i) (count i) ≡ get_or (relations_in layout ws count area) i [])
  area_place long i h =
      let inside : place_size * i + place_size ≤ length area = omega arith in (
        record {
          long = place-long area i (omega arith) long;
          narrow = narrow i;
          good = rw (part_is area i) (part-good (get_or ws i 0) (count i) area i (narrow i) (few_at i h) inside (place-good i h));
        },
        ap (λ (s : List ℕ). relation_in (get_or ws i 0) s (count i)) (part_is area i) ∙ part_held (get_or ws i 0) (count i) area i (narrow i) (few_at i h) inside (place-good i h)
            ∙ sym (relation_at ws count area i h),
      )

  -- past the last node there is nothing
  pub area_empty : area_size ≤ length area → (i : ℕ) → length ws ≤ i → i < max_nodes → place_at area i ≡ replicate place_size 0
  unfolding good_area empty_place held_in
  area_empty long i h k =
      let here : cond (ltb i (length ws)) (good_place layout (get_or ws i 0) (count i) area i) (empty_place layout (count i) area i)
      ≡ true = ap (λ (j : ℕ). cond (ltb j (length ws)) (good_place layout (get_or ws j 0) (count j) area j) (empty_place layout (count j) area j)) (sym (zero-add i))
      ∙ all_below (λ j. cond (ltb j (length ws)) (good_place layout (get_or ws j 0) (count j) area j) (empty_place layout (count j) area j)) 0 max_nodes g i k in
      let empty : empty_place layout (count i) area i ≡ true = rw (le-ltb i (length ws) h) at here in
      part_is area i ∙ place-words layout 0 area i 0 zero-le zero-le (omega arith) (and_second (eqb (count i) 0) (unused_zero layout 0 0 area i) empty) ∙ sym place_none

  pub area_fits : Fitting ws (relations_in layout ws count area)
  area_fits =
      record {
        size = relations_length ws count area;
        few = few;
        narrow = narrow;
        wide = λ i h. rw (relation_at ws count area i h) (held_wide layout (get_or ws i 0) (count i) area i);
        small = λ i h. rw (relation_at ws count area i h, length_held layout (get_or ws i 0) (count i) area i)
            (leb-true (count i) max_rows (and_first (leb (count i) max_rows) (ascending (held_in layout (get_or ws i 0) (count i) area i)) (first_two i h)));
        asc = λ i h. rw (relation_at ws count area i h) (and_second (leb (count i) max_rows) (ascending (held_in layout (get_or ws i 0) (count i) area i)) (first_two i h));
      }

pub only_twice : (nodes : List Node) (rels : List Relation) → tables_of nodes (tables_of nodes rels) ≡ tables_of nodes rels
unfolding tables_of zip_with
only_twice [] rels = refl
only_twice (n ∷ nodes) [] = refl
only_twice (n ∷ nodes) (r ∷ rels) = ap₂ {A = Relation} {B = List Relation} {C = List Relation} (λ a b. a ∷ b) (go (is_table n)) (only_twice nodes rels)
  where
    go : (t : Bool) → cond t (cond t r []) [] ≡ cond t r []
    go true = refl
    go false = refl

pub only_length : (nodes : List Node) (rels : List Relation) → length rels ≡ length nodes → length (tables_of nodes rels) ≡ length nodes
unfolding tables_of zip_with
only_length [] rels e = refl
only_length (n ∷ nodes) [] e = absurd (omega arith)
only_length (n ∷ nodes) (r ∷ rels) e = ap suc (only_length nodes rels (omega arith))

-- the tables among relations that fit
pub tables-fit : (nodes : List Node) (rels : List Relation) → Fitting (widths nodes) rels → Tables nodes (tables_of nodes rels)
tables-fit nodes rels f =
    record {
      size = only_length nodes rels size;
      only = only_twice nodes rels;
      wide = λ i h. go_wide i h (is_table (node_at nodes i)) refl;
      asc = λ i h. go_asc i h (is_table (node_at nodes i)) refl;
    }
  where
    size : length rels ≡ length nodes
    size = f.size ∙ length-widths nodes

    inside : (i : ℕ) → i < length nodes → i < length (widths nodes)
    inside i h = rw (length-widths nodes) h

    at : (i : ℕ) → i < length nodes → (t : Bool) → is_table (node_at nodes i) ≡ t → get_or (tables_of nodes rels) i [] ≡ cond t (get_or rels i []) []
    at i h t e = tables_at nodes rels i size h ∙ ap (λ (b : Bool). cond b (get_or rels i []) []) e

    go_wide : (i : ℕ) → i < length nodes → (t : Bool) → is_table (node_at nodes i) ≡ t → Wide (get_or (widths nodes) i 0) (get_or (tables_of nodes rels) i [])
    go_wide i h true e = rw (at i h true e) (f.wide i (inside i h))
    go_wide i h false e = rw (at i h false e) tt

    go_asc : (i : ℕ) → i < length nodes → (t : Bool) → is_table (node_at nodes i) ≡ t → Ascending (get_or (tables_of nodes rels) i [])
    go_asc i h true e = rw (at i h true e) (ascending-holds (get_or rels i []) (f.asc i (inside i h)))
    go_asc i h false e = rw (at i h false e) tt

-- good form, part by part
pub form_parts : (nodes : List Node) (a : Areas) → good_form layout nodes a ≡ true →
    (good_area layout (widths nodes) (row_count a.head) a.rows ≡ true) × (good_area layout (widths nodes) (gained_count a.head) a.gained ≡ true)
    × (good_area layout (widths nodes) (lost_count a.head) a.lost ≡ true) × (good_stamps (length nodes) a.head ≡ true) × (good_worked (length nodes) a.head ≡ true)
unfolding good_form
form_parts nodes a form =
    let r : Bool = good_area layout (widths nodes) (row_count a.head) a.rows in
    let g : Bool = good_area layout (widths nodes) (gained_count a.head) a.gained in
    let l : Bool = good_area layout (widths nodes) (lost_count a.head) a.lost in
    let s : Bool = good_stamps (length nodes) a.head in
    let w : Bool = good_worked (length nodes) a.head in
    let four : (r && g && l && s) ≡ true = and_first (r && g && l && s) w form in
    let three : (r && g && l) ≡ true = and_first (r && g && l) s four in
    let two : (r && g) ≡ true = and_first (r && g) l three in
    (and_first r g two, and_second r g two, and_second (r && g) l three, and_second (r && g && l) s four, and_second (r && g && l && s) w form)
