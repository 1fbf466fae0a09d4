-- Relations written into an area are read back, and the area is of good form. Assumes nothing.
use mathlib.Core.Bool.{◌&&◌, Bool, cond, false, true}
use mathlib.Core.List.{◌++◌, List, [], append_assoc, flat_map, map, ◌∷◌}
use mathlib.Core.Path.{ap, ap₂, refl, sym, ◌∙◌, ◌≡◌}
use Prim.Native.Nat.{◌*◌, ◌+◌, ◌-◌, ◌<◌, suc, suc-le-suc, zero, zero-le, ℕ, ◌≤◌}
use native.Mathlib.Omega.{arith}
use native.Mathlib.Nat.{le_of_suc-le-suc, not-suc-le-zero, zero-add}
use lib.ListN.{drop, get_or, length, length-append, length-replicate, replicate, replicate-append-replicate, take}
use lib.Seq.{drop_at, drop-drop, ext_get_or, take_at}
use lib.Dec.{leb, ltb}
use borrow.Author.Tests.{le-leb, ltb-false, ltb-true}
use Rattle.rows.proofs.Place.{place_clean, place-reads}
use Rattle.laws.proofs.All.{below_all}
use Rattle.model.specs.Row.{Relation, ascending, numbers_below, max_nodes, max_rows}
use Rattle.states.specs.Fitting.{Fitting}
use Rattle.laws.proofs.Sets.{and_both}
use Rattle.model.specs.Areas.{area_of, empty_place, good_area, good_place, held_in, layout, over, place_of, relations_in, unused_zero}
use Rattle.rows.proofs.Placed.{place-length}
use Rattle.laws.proofs.Parts.{length-counted, counted_at}
use Rattle.model.specs.Areas.{area_size, place_size}

-- ---- places one after the other

-- every place has its words
unfoldable pub Sized : List Relation → Type 0
Sized rels = (i : ℕ) → i < length rels → length (place_of layout (get_or rels i [])) ≡ place_size

pub sized_tail : (r : Relation) (rels : List Relation) → Sized (r ∷ rels) → Sized rels
unfolding Sized
sized_tail r rels h i k = h (suc i) (suc-le-suc k)

pub flat_length : (rels : List Relation) → Sized rels → length (flat_map (place_of layout) rels) ≡ place_size * length rels
unfolding flat_map Sized
flat_length [] h = refl
flat_length (r ∷ rels) h =
    length-append (place_of layout r) (flat_map (place_of layout) rels) ∙ omega (arith, h 0 (suc-le-suc zero-le), flat_length rels (sized_tail r rels h))

flat_place : (rels : List Relation) (t : List ℕ) (i : ℕ) → Sized rels → i < length rels → take place_size (drop (place_size * i) (flat_map (place_of layout) rels ++ t)) ≡ place_of layout (get_or
    rels i [])
unfolding flat_map Sized
flat_place [] t i h k = absurd (not-suc-le-zero k)
flat_place (r ∷ rels) t zero h k =
    ap (take place_size) (append_assoc (place_of layout r) (flat_map (place_of layout) rels) t) ∙ take_at (place_of layout r) (flat_map (place_of layout) rels ++ t) place_size (h 0 (suc-le-suc zero-le))
flat_place (r ∷ rels) t (suc i) h k =
    let e : place_size * suc i ≡ place_size + place_size * i = omega arith in
    let one : drop place_size (place_of layout r ++ (flat_map (place_of layout) rels ++ t))
    ≡ flat_map (place_of layout) rels ++ t = drop_at (place_of layout r) (flat_map (place_of layout) rels ++ t) place_size
    (h 0 (suc-le-suc zero-le)) in
    ap₂ {A = ℕ} {B = List ℕ} {C = List ℕ} (λ n l. take place_size (drop n l)) e (append_assoc (place_of layout r) (flat_map (place_of layout) rels) t)
    ∙ ap (take place_size) (sym (drop-drop (place_size * i) place_size (place_of layout r ++ (flat_map (place_of layout) rels ++ t))) ∙ ap (drop (place_size * i)) one)
    ∙ flat_place rels t i (sized_tail r rels h) (le_of_suc-le-suc k)

-- zeros inside zeros
zeros_inside : (a b n : ℕ) (t : List ℕ) → a + b ≤ n → take b (drop a (replicate n 0 ++ t)) ≡ replicate b 0
zeros_inside a b n t h =
    let whole : replicate {A = ℕ} n 0 ≡ replicate a 0 ++ (replicate b 0 ++ replicate (n - (a + b)) 0) =
    (let e : a + (b + (n - (a + b))) ≡ n = omega arith in ap (λ (k : ℕ). replicate {A = ℕ} k 0) (sym e)) ∙ sym (replicate-append-replicate {A = ℕ} a (b + (n - (a + b))) 0)
    ∙ ap (λ (l : List ℕ). replicate a 0 ++ l) (sym (replicate-append-replicate {A = ℕ} b (n - (a + b)) 0)) in
    ap (λ (l : List ℕ). take b (drop a (l ++ t))) whole
    ∙ ap (λ (l : List ℕ). take b (drop a l)) (append_assoc (replicate a 0) (replicate b 0 ++ replicate (n - (a + b)) 0) t)
    ∙ ap (take b) (drop_at (replicate a 0) ((replicate b 0 ++ replicate (n - (a + b)) 0) ++ t) a (length-replicate {A = ℕ} a 0))
    ∙ ap (take b) (append_assoc (replicate b 0) (replicate (n - (a + b)) 0) t)
    ∙ take_at (replicate b 0) (replicate (n - (a + b)) 0 ++ t) b (length-replicate {A = ℕ} b 0)

-- an empty place
pub place_none : replicate place_size 0 ≡ place_of layout []
unfolding place_of flat_map
place_none = refl

-- the places of nodes without rows
pub flat_none : (n : ℕ) → flat_map (place_of layout) (replicate n []) ≡ replicate (place_size * n) 0
unfolding flat_map
flat_none zero = refl
flat_none (suc n) =
    let e : place_size + place_size * n ≡ place_size * suc n = omega arith in
    ap₂ {A = List ℕ} {B = List ℕ} {C = List ℕ} (λ a b. a ++ b) (sym place_none) (flat_none n) ∙ replicate-append-replicate {A = ℕ} place_size (place_size * n) 0 ∙ ap
    (λ (k : ℕ). replicate {A = ℕ} k 0) e

module _ (ws : List ℕ) (rels : List Relation) (f : Fitting ws rels) where
  pub sized : Sized rels
  unfolding Sized
  sized i h = let k : i < length ws = rw (← f.size) h in place-length (get_or ws i 0) (get_or rels i []) (f.narrow i) (f.wide i k) (f.small i k)

  pub area_length : length (area_of layout rels) ≡ area_size
  unfolding area_of
  area_length =
      let n : length (flat_map (place_of layout) rels) ≡ place_size * length rels = flat_length rels sized in
      length-append (flat_map (place_of layout) rels) (replicate (area_size - length (flat_map (place_of layout) rels)) 0) ∙ rw (length-replicate, n) (omega (arith, f.size, f.few))

  module _ (before : List ℕ) where
    -- the area with the relations in its named words
    abbrev pub written : List ℕ
    written = over (area_of layout rels) before

    pub written_long : area_size ≤ length written
    written_long = omega (arith, length-append (area_of layout rels) (drop (length (area_of layout rels)) before), area_length)

    inside : (i : ℕ) → i < max_nodes → place_size * i + place_size ≤ length written
    inside i h = omega (arith, written_long)

    place_at_lem : (i : ℕ) → i < length ws → take place_size (drop (place_size * i) written) ≡ place_of layout (get_or rels i [])
    unfolding area_of
    place_at_lem i h =
        ap (λ (l : List ℕ). take place_size (drop (place_size * i) l))
        (append_assoc (flat_map (place_of layout) rels) (replicate (area_size - length (flat_map (place_of layout) rels)) 0) (drop (length (area_of layout rels)) before))
        ∙ flat_place rels (replicate (area_size - length (flat_map (place_of layout) rels)) 0 ++ drop (length (area_of layout rels)) before) i sized (rw f.size h)

    place_empty : (i : ℕ) → length ws ≤ i → i < max_nodes → take place_size (drop (place_size * i) written) ≡ replicate place_size 0
    unfolding area_of
    place_empty i h k =
        let n : length (flat_map (place_of layout) rels) ≡ place_size * length ws = flat_length rels sized ∙ ap (λ (m : ℕ). place_size * m) f.size in
        let e : place_size * i ≡ place_size * length ws + (place_size * i - place_size * length ws) = omega arith in
        let rest : List ℕ = drop (length (area_of layout rels)) before in
        let zeros : List ℕ = replicate (area_size - length (flat_map (place_of layout) rels)) 0 in
        ap₂ {A = ℕ} {B = List ℕ} {C = List ℕ} (λ m l. take place_size (drop m l)) e
        (append_assoc (flat_map (place_of layout) rels) (replicate (area_size - length (flat_map (place_of layout) rels)) 0) (drop (length (area_of layout rels)) before))
        ∙ ap (take place_size) (sym (drop-drop (place_size * i - place_size * length ws) (place_size * length ws)
        (flat_map (place_of layout) rels ++ (replicate (area_size - length (flat_map (place_of layout) rels)) 0 ++ drop (length (area_of layout rels)) before)))
        ∙ ap (drop (place_size * i - place_size * length ws))
        (drop_at (flat_map (place_of layout) rels) (replicate (area_size - length (flat_map (place_of layout) rels)) 0 ++ drop (length (area_of layout rels)) before) (place_size * length ws) n))
        ∙ zeros_inside (place_size * i - place_size * length ws) place_size (area_size - length (flat_map (place_of layout) rels)) (drop (length (area_of layout rels)) before) (omega (arith, n))

    pub held : (i : ℕ) → i < length ws → held_in layout (get_or ws i 0) (length (get_or rels i [])) written i ≡ get_or rels i []
    held i h = place-reads layout (get_or ws i 0) written i (get_or rels i []) (f.narrow i) (f.wide i h) (f.small i h) (inside i (omega (arith, f.few))) (place_at_lem i h)

    good_at : (i : ℕ) → i < length ws → good_place layout (get_or ws i 0) (length (get_or rels i [])) written i ≡ true
    unfolding good_place
    good_at i h =
        and_both (leb (length (get_or rels i [])) max_rows && ascending (held_in layout (get_or ws i 0) (length (get_or rels i [])) written i))
        (unused_zero layout (get_or ws i 0) (length (get_or rels i [])) written i)
        (and_both (leb (length (get_or rels i [])) max_rows) (ascending (held_in layout (get_or ws i 0) (length (get_or rels i [])) written i)) (le-leb (length (get_or rels i [])) max_rows (f.small i h))
        (ap ascending (held i h) ∙ f.asc i h))
        (place_clean layout (get_or ws i 0) written i (get_or rels i []) (f.narrow i) (f.wide i h) (f.small i h) (inside i (omega (arith, f.few))) (place_at_lem i h))

    empty_at : (i : ℕ) → length ws ≤ i → i < max_nodes → unused_zero layout 0 0 written i ≡ true
    empty_at i h k = place_clean layout 0 written i [] zero-le tt zero-le (inside i k) (place_empty i h k ∙ place_none)

    -- good form, with the counts beside it
    pub written_good : (count : ℕ → ℕ) → ((i : ℕ) → i < length ws → count i ≡ length (get_or rels i [])) → ((i : ℕ) → length ws ≤ i → i < max_nodes → count i ≡ 0) → good_area layout ws count written
        ≡ true
    unfolding good_area empty_place
    written_good count c z = below_all (λ i. cond (ltb i (length ws)) (good_place layout (get_or ws i 0) (count i) written i) (empty_place layout (count i) written i)) 0 max_nodes
        (λ i h. rw (zero-add i) (go i h (ltb i (length ws)) refl))
      where
        go : (i : ℕ) → i < max_nodes → (t : Bool) → ltb i (length ws) ≡ t → cond t (good_place layout (get_or ws i 0) (count i) written i) (empty_place layout (count i) written i) ≡ true
        go i h true e = rw (c i (ltb-true i (length ws) e)) (good_at i (ltb-true i (length ws) e))
        go i h false e = rw (z i (ltb-false i (length ws) e) h) (empty_at i (ltb-false i (length ws) e) h)

    -- the relations are read back
    pub written_back : (count : ℕ → ℕ) → ((i : ℕ) → i < length ws → count i ≡ length (get_or rels i [])) → relations_in layout ws count written ≡ rels
    unfolding relations_in
    written_back count c =
        ext_get_or [] (map (λ i. held_in layout (get_or ws i 0) (count i) written i) (numbers_below (length ws))) rels
        (length-counted (λ i. held_in layout (get_or ws i 0) (count i) written i) 0 (length ws) ∙ sym f.size)
        (λ i h.
        let k : i < length ws = rw (length-counted (λ j. held_in layout (get_or ws j 0) (count j) written j) 0 (length ws)) at h in
        counted_at [] (λ j. held_in layout (get_or ws j 0) (count j) written j) 0 (length ws) i k ∙ ap (λ (j : ℕ). held_in layout (get_or ws j 0) (count j) written j) (zero-add i)
        ∙ ap (λ (n : ℕ). held_in layout (get_or ws i 0) n written i) (c i k) ∙ held i k)
