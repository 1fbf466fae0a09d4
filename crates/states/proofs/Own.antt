-- The named words of an area of good form are those that its relations write. Assumes nothing.
use mathlib.Core.Bool.{cond, true}
use mathlib.Core.List.{List, [], ◌∷◌, ◌++◌, flat_map}
use mathlib.Core.Path.{ap, ap₂, refl, sym, ◌∙◌, ◌≡◌}
use Prim.Native.Nat.{ℕ, suc, zero-le, suc-le-suc, ◌+◌, ◌-◌, ◌*◌, ◌≤◌, ◌<◌}
use native.Mathlib.Nat.{zero-add, add-zero}
use native.Mathlib.Omega.{arith}
use lib.Dec.{eqb, ltb}
use lib.ListN.{get_or, length, take, drop, replicate, length-replicate, get_or-replicate, take-append-drop}
use lib.Seq.{take-add, drop-drop, length-take-le}
use borrow.Author.Tests.{eqb-true, le-ltb}
use Rattle.model.specs.Row.{Relation, max_nodes, max_width}
use Rattle.model.specs.Areas.{area_of, area_size, empty_place, good_area, good_place, layout, over, place_of, place_size, relations_in, unused_zero}
use Rattle.laws.proofs.Sets.{and_first}
use Rattle.laws.proofs.All.{all_below}
use Rattle.laws.proofs.Relations.{relation_at, relations_length}
use Rattle.rows.proofs.Place.{length_held}
use Rattle.places.proofs.Places.{place_is}
use Rattle.areas.specs.Lent.{place_at}
use Rattle.states.proofs.Written.{area_length, flat_none, place_none}
use Rattle.states.proofs.Fitted.{area_place, area_empty, area_fits}

-- the places of some relations, one after the other, are the words of an area from a node on
places-are : (area : List ℕ) (rels : List Relation) (from : ℕ) → ((j : ℕ) → j < length rels → place_at area (from + j) ≡ place_of layout (get_or rels j [])) →
    flat_map (place_of layout) rels ≡ take (place_size * length rels) (drop (from * place_size) area)
unfolding flat_map
places-are area [] from h = refl
places-are area (r ∷ rels) from h =
    let here : from + 0 ≡ from = add-zero from in
    let first : place_of layout r ≡ take place_size (drop (from * place_size) area) = sym (h 0 (suc-le-suc zero-le)) ∙ ap (place_at area) here
    ∙ ap (λ (k : ℕ). take k (drop (from * place_size) area)) (let e : from * place_size + place_size - from * place_size ≡ place_size = omega arith in e) in
    let rest : flat_map (place_of layout) rels ≡ take (place_size * length rels) (drop (suc from * place_size) area) = places-are area rels (suc from)
    (λ j b. ap (place_at area) (let e : suc from + j ≡ from + suc j = omega arith in e) ∙ h (suc j) (suc-le-suc b)) in
    let on : drop (suc from * place_size) area
    ≡ drop place_size (drop (from * place_size) area) = ap (λ (k : ℕ). drop k area) (let e : suc from * place_size ≡ from * place_size + place_size = omega arith in e)
    ∙ sym (drop-drop place_size (from * place_size) area) in
    ap₂ {A = List ℕ} {B = List ℕ} {C = List ℕ} (λ x y. x ++ y) first (rest ∙ ap (take (place_size * length rels)) on)
    ∙ sym (take-add place_size (place_size * length rels) (drop (from * place_size) area))
    ∙ ap (λ (k : ℕ). take k (drop (from * place_size) area)) (let e : place_size + place_size * length rels ≡ place_size * suc (length rels) = omega arith in e)

module _ (ws : List ℕ) (few : length ws ≤ max_nodes) (narrow : (i : ℕ) → get_or ws i 0 ≤ max_width) (count : ℕ → ℕ) (area : List ℕ) (g : good_area layout ws count area ≡ true) where
  -- past the last node every count is 0
  pub count_none : (i : ℕ) → length ws ≤ i → i < max_nodes → count i ≡ 0
  unfolding good_area empty_place
  count_none i h k =
      let at : cond (ltb (0 + i) (length ws)) (good_place layout (get_or ws (0 + i) 0) (count (0 + i)) area (0 + i)) (empty_place layout (count (0 + i)) area (0 + i)) ≡ true =
      all_below (λ j. cond (ltb j (length ws)) (good_place layout (get_or ws j 0) (count j) area j) (empty_place layout (count j) area j)) 0 max_nodes g i k in
      let empty : empty_place layout (count i) area i ≡ true = rw (zero-add i, le-ltb i (length ws) h) at at in
      eqb-true (count i) 0 (and_first (eqb (count i) 0) (unused_zero layout 0 0 area i) empty)

  -- a node's count is the number of its rows
  pub count_is : (i : ℕ) → i < length ws → count i ≡ length (get_or (relations_in layout ws count area) i [])
  count_is i h = sym (ap length (relation_at ws count area i h) ∙ length_held layout (get_or ws i 0) (count i) area i)

  -- the words of its relations are its named words
  pub words_are : area_size ≤ length area → area_of layout (relations_in layout ws count area) ≡ take area_size area
  unfolding area_of
  words_are long =
      let rels : List Relation = relations_in layout ws count area in
      let size : length (relations_in layout ws count area) ≡ length ws = relations_length ws count area in
      let first : flat_map (place_of layout) (relations_in layout ws count area) ≡ take (place_size * length (relations_in layout ws count area)) area =
      places-are area rels 0
      (λ j b. let k : j < length ws = rw size at b in ap (place_at area) (zero-add j)
      ∙ place_is (get_or ws j 0) (place_at area j) (count j) (area_place ws few narrow count area g long j k).0
      ∙ ap (place_of layout) (area_place ws few narrow count area g long j k).1) in
      let rest : replicate (place_size * (max_nodes - length ws)) 0 ≡ take (place_size * (max_nodes - length ws)) (drop (length ws * place_size) area) =
      sym (flat_none (max_nodes - length ws))
      ∙ places-are area (replicate (max_nodes - length ws) []) (length ws)
      (λ j b. let k : j < max_nodes - length ws = rw (length-replicate {A = Relation} (max_nodes - length ws) []) at b in area_empty ws few narrow count area g long (length ws + j)
      (omega arith) (omega arith) ∙ place_none ∙ ap (place_of layout) (sym (get_or-replicate {A = Relation} (max_nodes - length ws) j [] [] k)))
      ∙ ap (λ (n : ℕ). take (place_size * n) (drop (length ws * place_size) area)) (length-replicate {A = Relation} (max_nodes - length ws) []) in
      let part : length (take (place_size * length (relations_in layout ws count area)) area) ≡ place_size * length ws = length-take-le (place_size * length rels) area (omega (arith, size))
      ∙ ap (λ (n : ℕ). place_size * n) size in
      let left : area_size - length (flat_map (place_of layout) (relations_in layout ws count area)) ≡ place_size * (max_nodes - length ws) = ap (λ (l : List ℕ). area_size - length l) first
      ∙ omega (arith, part) in
      ap₂ {A = List ℕ} {B = ℕ} {C = List ℕ} (λ x n. x ++ replicate n 0) (first ∙ ap (λ (n : ℕ). take (place_size * n) area) size) left
      ∙ ap (λ (l : List ℕ). take (place_size * length ws) area ++ l)
      (rest ∙ ap (λ (n : ℕ). take (place_size * (max_nodes - length ws)) (drop n area)) (let e : length ws * place_size ≡ place_size * length ws = omega arith in e))
      ∙ sym (take-add (place_size * length ws) (place_size * (max_nodes - length ws)) area)
      ∙ ap (λ (n : ℕ). take n area) (let e : place_size * length ws + place_size * (max_nodes - length ws) ≡ area_size = omega arith in e)

  -- written over it they change nothing
  pub area_own : area_size ≤ length area → over (area_of layout (relations_in layout ws count area)) area ≡ area
  area_own long =
      ap₂ {A = List ℕ} {B = ℕ} {C = List ℕ} (λ x n. x ++ drop n area) (words_are long) (area_length ws (relations_in layout ws count area) (area_fits ws few narrow count area g))
      ∙ take-append-drop area_size area
