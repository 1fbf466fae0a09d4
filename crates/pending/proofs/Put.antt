-- One node's rows and their count written into a pending area. Assumes nothing.
use mathlib.Core.List.{List, [], ◌∷◌, ◌++◌, append_assoc, flat_map, map}
use mathlib.Core.Path.{◌≡◌, ap, ap₂, refl, sym, ◌∙◌}
use Prim.Native.Nat.{ℕ, zero, suc, ◌+◌, ◌-◌, ◌*◌, ◌<◌, suc-le-suc, zero-le}
use native.Mathlib.Nat.{not-suc-le-zero, le_of_suc-le-suc, zero-mul, zero-add}
use native.Mathlib.Omega.{arith}
use lib.ListN.{length, take, drop, set, replicate, length-set, length-map, length-append, length-replicate}
use lib.Seq.{paste, take-append-add, drop-append-add, take_all, drop_at, set-append_left}
use Rattle.model.specs.Row.{Relation, max_nodes}
use Rattle.model.specs.Areas.{area_of, area_size, layout, over, padded, place_of, place_size}
use Rattle.model.specs.Pending.{pending_of}
use Rattle.states.specs.Fitting.{Fitting}
use Rattle.states.proofs.Written.{Sized, sized, sized_tail, flat_length, area_length}
use Rattle.states.proofs.Head.{padded-length}
use Rattle.placing.specs.Placing.{placed}
use Rattle.pending.specs.Placed.{pending_with}

-- ---- lists

-- words written behind the first of two lists
paste-append : (p l s : List ℕ) (k n : ℕ) → paste (p ++ l) (length p + k) s n ≡ p ++ paste l k s n
paste-append p l s k n =
    let e : length p + k + n ≡ length p + (k + n) = omega arith in
    ap₂ {A = List ℕ} {B = List ℕ} {C = List ℕ} (λ a b. a ++ take n s ++ b)
    (take-append-add p l k)
    (ap (λ (m : ℕ). drop m (p ++ l)) e ∙ drop-append-add p l (k + n))
    ∙ ap (λ (a : List ℕ). a ++ drop (k + n) l) (append_assoc p (take k l) (take n s))
    ∙ append_assoc p (take k l ++ take n s) (drop (k + n) l)

-- a word set behind the first of two lists
set-append-add : (p l : List ℕ) (k x : ℕ) → set (p ++ l) (length p + k) x ≡ p ++ set l k x
set-append-add [] l k x = ap (λ (m : ℕ). set l m x) (zero-add k)
set-append-add (y ∷ p) l k x =
    let e : suc (length p) + k ≡ suc (length p + k) = omega arith in
    ap (λ (m : ℕ). set (y ∷ (p ++ l)) m x) e ∙ ap (λ (z : List ℕ). y ∷ z) (set-append-add p l k x)

map-set : (rels : List Relation) (i : ℕ) (rel : Relation) → map length (set rels i rel) ≡ set (map length rels) i (length rel)
map-set [] i rel = refl
map-set (r ∷ rels) zero rel = refl
map-set (r ∷ rels) (suc i) rel = ap (λ (z : List ℕ). length r ∷ z) (map-set rels i rel)

-- ---- places

-- one of the places written over
flat_set : (rels : List Relation) (rel : Relation) (i : ℕ) (t : List ℕ) → Sized rels → i < length rels → length (place_of layout rel) ≡ place_size →
    paste (flat_map (place_of layout) rels ++ t) (i * place_size) (place_of layout rel) place_size ≡ flat_map (place_of layout) (set rels i rel) ++ t
unfolding flat_map Sized
flat_set [] rel i t s h size = absurd (not-suc-le-zero h)
flat_set (r ∷ rels) rel zero t s h size =
    let rest : drop (zero * place_size + place_size) ((place_of layout r ++ flat_map (place_of layout) rels) ++ t) ≡ flat_map (place_of layout) rels ++ t =
    ap₂ {A = ℕ} {B = List ℕ} {C = List ℕ} (λ m l. drop m l) (let e : zero * place_size + place_size ≡ place_size = omega arith in e) (append_assoc (place_of layout r) (flat_map (place_of layout) rels) t)
    ∙ drop_at (place_of layout r) (flat_map (place_of layout) rels ++ t) place_size (s 0 (suc-le-suc zero-le)) in
    ap₂ {A = ℕ} {B = List ℕ} {C = List ℕ} (λ m l. take m ((place_of layout r ++ flat_map (place_of layout) rels) ++ t) ++ take place_size (place_of layout rel) ++ l) (zero-mul place_size) rest
    ∙ ap (λ (l : List ℕ). l ++ (flat_map (place_of layout) rels ++ t)) (take_all place_size (place_of layout rel) (omega (arith, size)))
    ∙ sym (append_assoc (place_of layout rel) (flat_map (place_of layout) rels) t)
flat_set (r ∷ rels) rel (suc i) t s h size =
    let here : length (place_of layout r) ≡ place_size = s 0 (suc-le-suc zero-le) in
    let e : suc i * place_size ≡ length (place_of layout r) + i * place_size = omega (arith, here) in
    ap₂ {A = ℕ} {B = List ℕ} {C = List ℕ} (λ m l. paste l m (place_of layout rel) place_size) e (append_assoc (place_of layout r) (flat_map (place_of layout) rels) t)
    ∙ paste-append (place_of layout r) (flat_map (place_of layout) rels ++ t) (place_of layout rel) (i * place_size) place_size
    ∙ ap (λ (l : List ℕ). place_of layout r ++ l) (flat_set rels rel i t (sized_tail r rels s) (le_of_suc-le-suc h) size)
    ∙ sym (append_assoc (place_of layout r) (flat_map (place_of layout) (set rels i rel)) t)

-- the places keep their sizes
sized_set : (rels : List Relation) (i : ℕ) (rel : Relation) → Sized rels → length (place_of layout rel) ≡ place_size → Sized (set rels i rel)
unfolding Sized
sized_set [] i rel s size j h = absurd (not-suc-le-zero h)
sized_set (r ∷ rels) zero rel s size zero h = size
sized_set (r ∷ rels) zero rel s size (suc j) h = s (suc j) h
sized_set (r ∷ rels) (suc i) rel s size zero h = s 0 (suc-le-suc zero-le)
sized_set (r ∷ rels) (suc i) rel s size (suc j) h = sized_set rels i rel (λ k g. s (suc k) (suc-le-suc g)) size j (le_of_suc-le-suc h)

module _ (ws : List ℕ) (rels : List Relation) (f : Fitting ws rels) (i : ℕ) (rel : Relation) (h : i < length rels) (size : length (place_of layout rel) ≡ place_size) where
  abbrev after : List Relation
  after = set rels i rel

  flat_same : length (flat_map (place_of layout) after) ≡ length (flat_map (place_of layout) rels)
  flat_same =
      flat_length after (sized_set rels i rel (sized ws rels f) size) ∙ ap (λ (n : ℕ). place_size * n) (length-set rels i rel) ∙ sym (flat_length rels (sized ws rels f))

  -- node i's place written over in an area
  area_put : (t : List ℕ) → placed (area_of layout rels ++ t) i rel ≡ area_of layout after ++ t
  unfolding area_of
  area_put t =
      let zeros : ℕ → List ℕ = λ n. replicate (area_size - n) 0 in
      ap (λ (l : List ℕ). paste l (i * place_size) (place_of layout rel) place_size)
      (append_assoc (flat_map (place_of layout) rels) (replicate (area_size - length (flat_map (place_of layout) rels)) 0) t)
      ∙ flat_set rels rel i (replicate (area_size - length (flat_map (place_of layout) rels)) 0 ++ t) (sized ws rels f) h size
      ∙ sym (append_assoc (flat_map (place_of layout) after) (replicate (area_size - length (flat_map (place_of layout) rels)) 0) t)
      ∙ ap (λ (n : ℕ). (flat_map (place_of layout) after ++ replicate (area_size - n) 0) ++ t) (sym flat_same)

  counts-put : set (padded max_nodes (map length rels)) i (length rel) ≡ padded max_nodes (map length after)
  counts-put =
      let n : length (map length rels) ≡ length rels = length-map rels length in
      let m : length (map length after) ≡ length (map length rels) = length-map after length ∙ length-set rels i rel ∙ sym n in
      set-append_left (map length rels) (replicate (max_nodes - length (map length rels)) 0) i (length rel) (rw n h)
      ∙ ap₂ {A = List ℕ} {B = ℕ} {C = List ℕ} (λ l k. l ++ replicate (max_nodes - k) 0) (sym (map-set rels i rel)) (sym m)

  words_size : length (padded max_nodes (map length rels)) ≡ max_nodes
  words_size = padded-length max_nodes (map length rels) (rw (length-map rels length) (omega (arith, f.size, f.few)))

  area_size_lem : length (area_of layout after) ≡ area_size
  unfolding area_of
  area_size_lem =
      length-append (flat_map (place_of layout) after) (replicate (area_size - length (flat_map (place_of layout) after)) 0)
      ∙ rw (length-replicate, flat_same, flat_length rels (sized ws rels f)) (omega (arith, f.size, f.few))

  -- a pending area's words with other rows at node i
  pub pending-put : (before : List ℕ) → pending_with (over (pending_of layout rels) before) i rel ≡ over (pending_of layout after) before
  unfolding pending_of
  pending-put before =
      let counts : List ℕ = padded max_nodes (map length rels) in
      let rest : List ℕ = drop (length (area_of layout rels ++ padded max_nodes (map length rels))) before in
      ap (λ (l : List ℕ). set (placed l i rel) (area_size + i) (length rel)) (append_assoc (area_of layout rels) counts rest)
      ∙ ap (λ (l : List ℕ). set l (area_size + i) (length rel)) (area_put (counts ++ rest))
      ∙ ap (λ (n : ℕ). set (area_of layout after ++ (counts ++ rest)) (n + i) (length rel)) (sym area_size_lem)
      ∙ set-append-add (area_of layout after) (counts ++ rest) i (length rel)
      ∙ ap (λ (l : List ℕ). area_of layout after ++ l)
      (set-append_left counts rest i (length rel) (rw words_size (omega (arith, f.size, f.few))) ∙ ap (λ (l : List ℕ). l ++ rest) counts-put)
      ∙ sym (append_assoc (area_of layout after) (padded max_nodes (map length after)) rest)
      ∙ ap (λ (n : ℕ). (area_of layout after ++ padded max_nodes (map length after)) ++ drop n before) same_size
    where
      same_size : length (area_of layout rels ++ padded max_nodes (map length rels)) ≡ length (area_of layout after ++ padded max_nodes (map length after))
      same_size =
          length-append (area_of layout rels) (padded max_nodes (map length rels))
          ∙ ap₂ {A = ℕ} {B = ℕ} {C = ℕ} (λ a b. a + b) (area_length ws rels f ∙ sym area_size_lem)
          (sym (length-set (padded max_nodes (map length rels)) i (length rel)) ∙ ap length counts-put)
          ∙ sym (length-append (area_of layout after) (padded max_nodes (map length after)))
