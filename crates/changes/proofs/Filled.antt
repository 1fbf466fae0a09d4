-- Places of an area written over, one after the other. Assumes nothing.
use Prim.Native.Nat.{ℕ, ◌+◌, zero, suc, ◌*◌, ◌≤◌, ◌-◌, suc-le-suc, zero-le, ◌<◌}
use mathlib.Core.List.{List, ◌∷◌, ◌++◌, append_assoc, flat_map, []}
use lib.ListN.{drop, take, length, take-append-drop, replicate, replicate-append-replicate, length-replicate, length-append, length-drop, get_or}
use mathlib.Core.Path.{◌≡◌, ap, sym, ◌∙◌, ap₂, refl}
use native.Mathlib.Nat.{not-suc-le-zero, le_of_suc-le-suc, zero-mul}
use native.Mathlib.Omega.{arith}
use lib.Seq.{take-add, take_all, drop-drop, drop-append-add, take-suc, take_at, take-length}
use Rattle.areas.specs.Lent.{place_at}
use Rattle.model.specs.Row.{Relation, max_nodes}
use Rattle.model.specs.Areas.{place_of, layout, over, area_of, area_size, place_size}
use Rattle.placing.specs.Placing.{placed}
use Rattle.changes.specs.Written.{filled}
use Rattle.states.proofs.Written.{Sized, sized_tail, flat_length}
use Rattle.laws.proofs.Parts.{flat_append, flat_one}

-- the words of the first i places
pub flat_take : (rels : List Relation) (i : ℕ) → Sized rels → i ≤ length rels → length (flat_map (place_of layout) (take i rels)) ≡ i * place_size
unfolding flat_map Sized
flat_take rels zero s h = refl
flat_take [] (suc i) s h = absurd (not-suc-le-zero h)
flat_take (r ∷ rels) (suc i) s h =
    length-append (place_of layout r) (flat_map (place_of layout) (take i rels)) ∙ omega (arith, s 0 (suc-le-suc zero-le), flat_take rels i (sized_tail r rels s) (le_of_suc-le-suc h))

module _ (rels : List Relation) (area : List ℕ) (s : Sized rels) where
  pub filled_none : area ≡ filled rels 0 area
  unfolding flat_map
  filled_none = ap (λ (k : ℕ). drop k area) (sym (zero-mul place_size))

  module _ (i : ℕ) (h : i ≤ length rels) where
    front : length (flat_map (place_of layout) (take i rels)) ≡ i * place_size
    front = flat_take rels i s h

    past : (k : ℕ) → i * place_size ≤ k → drop k (filled rels i area) ≡ drop k area
    past k g =
        let e : k ≡ length (flat_map (place_of layout) (take i rels)) + (k - i * place_size) = omega (arith, front) in
        ap (λ (n : ℕ). drop n (filled rels i area)) e
        ∙ drop-append-add (flat_map (place_of layout) (take i rels)) (drop (i * place_size) area) (k - i * place_size)
        ∙ drop-drop (k - i * place_size) (i * place_size) area
        ∙ ap (λ (n : ℕ). drop n area) (let f : i * place_size + (k - i * place_size) ≡ k = omega arith in f)

    -- a place that is still to be written
    pub filled-later : (j : ℕ) → i ≤ j → place_at (filled rels i area) j ≡ place_at area j
    filled-later j g = ap (take (j * place_size + place_size - j * place_size)) (past (j * place_size) (omega arith))

    pub filled-length : i * place_size ≤ length area → length (filled rels i area) ≡ length area
    filled-length g = length-append (flat_map (place_of layout) (take i rels)) (drop (i * place_size) area) ∙ rw (length-drop (i * place_size) area, front) (omega arith)

  -- one place more
  pub filled_more : (i : ℕ) → i < length rels → placed (filled rels i area) i (get_or rels i []) ≡ filled rels (i + 1) area
  unfolding flat_map Sized
  filled_more i h =
      let e : i + 1 ≡ suc i = omega arith in
      let done : List ℕ = flat_map (place_of layout) (take i rels) in
      let next : flat_map (place_of layout) (take (i + 1) rels) ≡ flat_map (place_of layout) (take i rels) ++ place_of layout (get_or rels i []) =
      ap (λ (k : ℕ). flat_map (place_of layout) (take k rels)) e ∙ ap (flat_map (place_of layout)) (take-suc rels i [] h) ∙ flat_append (place_of layout) (take i rels) (get_or rels i [] ∷ [])
      ∙ ap (λ (l : List ℕ). flat_map (place_of layout) (take i rels) ++ l) (flat_one (place_of layout) (get_or rels i [])) in
      ap₂ {A = List ℕ} {B = List ℕ} {C = List ℕ} (λ a b. a ++ take place_size (place_of layout (get_or rels i [])) ++ b)
      (take_at (flat_map (place_of layout) (take i rels)) (drop (i * place_size) area) (i * place_size) (front i (omega arith))) (past i (omega arith) (i * place_size + place_size) (omega arith))
      ∙ ap₂ {A = List ℕ} {B = ℕ} {C = List ℕ} (λ a k. flat_map (place_of layout) (take i rels) ++ a ++ drop k area)
      (take_all place_size (place_of layout (get_or rels i [])) (omega (arith, place-size i h))) (let f : i * place_size + place_size ≡ (i + 1) * place_size = omega arith in f)
      ∙ ap (λ (l : List ℕ). l ++ drop ((i + 1) * place_size) area) (sym next)
    where
      place-size : (j : ℕ) → j < length rels → length (place_of layout (get_or rels j [])) ≡ place_size
      place-size j g = s j g

-- places that are all 0
zeros_to : (area : List ℕ) (k n : ℕ) → n + k ≡ max_nodes → ((j : ℕ) → n ≤ j → j < max_nodes → place_at area j ≡ replicate place_size 0) → take (k * place_size) (drop (n * place_size) area)
    ≡ replicate (k * place_size) 0
zeros_to area zero n e z = ap (λ (m : ℕ). take m (drop (n * place_size) area)) (zero-mul place_size) ∙ ap (λ (m : ℕ). replicate {A = ℕ} m 0) (sym (zero-mul place_size))
zeros_to area (suc k) n e z =
    let f : suc k * place_size ≡ place_size + k * place_size = omega arith in
    let cut : n * place_size + place_size - n * place_size ≡ place_size = omega arith in
    let g : n * place_size + place_size ≡ suc n * place_size = omega arith in
    ap (λ (m : ℕ). take m (drop (n * place_size) area)) f
    ∙ take-add place_size (k * place_size) (drop (n * place_size) area)
    ∙ ap₂ {A = List ℕ} {B = List ℕ} {C = List ℕ} (λ a b. a ++ b)
    (ap (λ (m : ℕ). take m (drop (n * place_size) area)) (sym cut) ∙ z n (omega arith) (omega arith))
    (ap (take (k * place_size)) (drop-drop place_size (n * place_size) area ∙ ap (λ (m : ℕ). drop m area) g) ∙ zeros_to area k (suc n) (omega arith) (λ j h. z j (omega arith)))
    ∙ replicate-append-replicate {A = ℕ} place_size (k * place_size) 0
    ∙ ap (λ (m : ℕ). replicate {A = ℕ} m 0) (sym f)

-- every node's place written: the named words are those of the relations
pub filled_all : (rels : List Relation) (area : List ℕ) → Sized rels → length rels ≤ max_nodes → area_size ≤ length area
    → ((j : ℕ) → length rels ≤ j → j < max_nodes → place_at area j ≡ replicate place_size 0) →
    filled rels (length rels) area ≡ over (area_of layout rels) area
unfolding area_of
filled_all rels area s few long z =
    let n : ℕ = length rels in
    let size : length (flat_map (place_of layout) rels) ≡ place_size * length rels = flat_length rels s in
    let left : ℕ = area_size - length (flat_map (place_of layout) rels) in
    let part : area_size - length (flat_map (place_of layout) rels) ≡ (max_nodes - length rels) * place_size = omega (arith, size) in
    let words : length (flat_map (place_of layout) rels ++ replicate (area_size - length (flat_map (place_of layout) rels)) 0)
    ≡ area_size = length-append (flat_map (place_of layout) rels) (replicate (area_size - length (flat_map (place_of layout) rels)) 0) ∙ rw (length-replicate, size) (omega arith) in
    let rest : drop (length rels * place_size) area ≡ replicate (area_size - length (flat_map (place_of layout) rels)) 0 ++ drop area_size area =
    sym (take-append-drop ((max_nodes - length rels) * place_size) (drop (length rels * place_size) area))
    ∙ ap₂ {A = List ℕ} {B = List ℕ} {C = List ℕ} (λ a b. a ++ b) (zeros_to area (max_nodes - length rels) (length rels) (omega arith) z ∙ ap (λ (m : ℕ). replicate {A = ℕ} m 0) (sym part))
    (drop-drop ((max_nodes - length rels) * place_size) (length rels * place_size) area ∙ ap (λ (m : ℕ). drop m area)
    (let f : length rels * place_size + (max_nodes - length rels) * place_size ≡ area_size = omega arith in f)) in
    ap₂ {A = List Relation} {B = List ℕ} {C = List ℕ} (λ r l. flat_map (place_of layout) r ++ l) (take-length rels) rest
    ∙ sym (append_assoc (flat_map (place_of layout) rels) (replicate (area_size - length (flat_map (place_of layout) rels)) 0) (drop area_size area))
    ∙ ap (λ (m : ℕ). (flat_map (place_of layout) rels ++ replicate (area_size - length (flat_map (place_of layout) rels)) 0) ++ drop m area) (sym words)
