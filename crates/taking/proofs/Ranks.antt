-- Ranks in the words are the model's. Assumes nothing.
use mathlib.Core.Bool.{Bool, true, false, cond}
use mathlib.Core.List.{List, [], ◌∷◌, ◌++◌, map}
use mathlib.Core.Path.{◌≡◌, ap, ap₂, refl, sym, ◌∙◌}
use Prim.Native.Nat.{ℕ, zero, suc, ◌+◌, ◌-◌, ◌≤◌, ◌<◌, max, zero-le}
use native.Mathlib.Nat.{zero-add}
use native.Mathlib.Omega.{arith}
use lib.Dec.{eqb}
use lib.ListN.{get_or, length}
use borrow.Author.Tests.{ltb-false, ltb-true, ne_eqb}
use Rattle.std.proofs.Common.{nat_eq, nat_lt}
use Rattle.std.specs.Ordering.{nat_cmp, ord_max}
use Rattle.std.specs.Prelude.{Option, Some, None, MatchOption}
use Rattle.std.specs.Option.{unwrap_or}
use Rattle.model.specs.Row.{Relation, count_from, is_empty, keep, keep_if, numbers_below}
use Rattle.model.specs.Network.{Network, highest_of, priority_of, widths}
use Rattle.model.specs.Areas.{layout, relations_in}
use Rattle.model.specs.Pending.{highest_rank, next_node, pending_count, pending_in, rank_of}
use Rattle.laws.proofs.Fits.{length-widths}
use Rattle.laws.proofs.Relations.{relation_at}
use Rattle.laws.proofs.Parts.{count-split, keep_append, keep_same, map-append, numbers_more}
use Rattle.laws.proofs.Alerts.{high_more}
use Rattle.rows.proofs.Place.{length_held}
use Rattle.taking.specs.Taking.{rank_in, highest_in}

-- ---- numbers below a number

-- two functions that agree on them
map_same : {A : Type 0} (f g : ℕ → A) (from n : ℕ) → ((i : ℕ) → i < from + n → f i ≡ g i) → map f (count_from from n) ≡ map g (count_from from n)
map_same f g from zero h = refl
map_same {A} f g from (suc n) h =
    ap₂ {A = A} {B = List A} {C = List A} (λ x l. x ∷ l) (h from (omega arith)) (map_same f g (suc from) n (λ i k. h i (omega arith)))

-- ---- the loops

-- the library's maximum of two numbers
pub max_is : (a b : ℕ) → ord_max nat_cmp a b ≡ max a b
max_is a b = go (nat_lt b a) refl (nat_eq b a) refl
  where
    go : (t : Bool) → nat_lt b a ≡ t → (u : Bool) → nat_eq b a ≡ u → ord_max nat_cmp a b ≡ max a b
    go true e u f = rw e (omega (arith, ltb-true b a e))
    go false e true f = rw (e, f) (omega (arith, ltb-false b a e))
    go false e false f = rw (e, f) (omega (arith, ltb-false b a e))

-- the highest rank of one node more
module _ (priorities p : List ℕ) (i : ℕ) where
  abbrev rank : ℕ → ℕ
  rank = rank_in priorities p

  pub highest-next : highest_in priorities p (i + 1) ≡ max (highest_in priorities p i) (rank_in priorities p i)
  highest-next = ap (λ (l : List ℕ). highest_of (map rank l)) (numbers_more i) ∙ ap highest_of (map-append rank (numbers_below i) (i ∷ [])) ∙ high_more (map rank (numbers_below i)) (rank i)

-- the first of some numbers that pass a test: none of those before it does
module _ (p : ℕ → Bool) where
  -- none of the first i numbers passes
  abbrev pub NoneTo : ℕ → Type 0
  NoneTo i = keep p (numbers_below i) ≡ []

  keep-next : (i : ℕ) → NoneTo i → keep p (numbers_below (i + 1)) ≡ keep_if (p i) i []
  keep-next i e = ap (keep p) (numbers_more i) ∙ keep_append p (numbers_below i) (i ∷ []) ∙ ap (λ (l : List ℕ). l ++ keep_if (p i) i []) e

  pub none_more : (i : ℕ) → NoneTo i → p i ≡ false → NoneTo (i + 1)
  none_more i e f = keep-next i e ∙ ap (λ (t : Bool). keep_if t i []) f

  -- the first one
  pub first_passes : (i n : ℕ) → i < n → NoneTo i → p i ≡ true → i ≡ get_or (keep p (numbers_below n)) 0 0
  first_passes i n h e f =
      let split : n ≡ i + suc (n - suc i) = omega arith in
      sym (ap (λ (m : ℕ). get_or (keep p (numbers_below m)) 0 0) split
      ∙ ap (λ (l : List ℕ). get_or (keep p l) 0 0) (count-split 0 i (suc (n - suc i)) ∙ ap (λ (m : ℕ). numbers_below i ++ count_from m (suc (n - suc i))) (zero-add i))
      ∙ ap (λ (l : List ℕ). get_or l 0 0) (keep_append p (numbers_below i) (count_from i (suc (n - suc i))))
      ∙ ap₂ {A = List ℕ} {B = Bool} {C = ℕ} (λ l t. get_or (l ++ keep_if t i (keep p (count_from (suc i) (n - suc i)))) 0 0) e f)

  pub none_passes : (i n : ℕ) → i ≡ n → NoneTo i → 0 ≡ get_or (keep p (numbers_below n)) 0 0
  none_passes i n e f = sym (ap (λ (m : ℕ). get_or (keep p (numbers_below m)) 0 0) (sym e) ∙ ap (λ (l : List ℕ). get_or l 0 0) f)

  -- the answer of a search through the numbers below n
  none_below : (i : ℕ) → ((k : ℕ) → 0 ≤ k → k < i → p k ≡ false) → NoneTo i
  none_below zero h = refl
  none_below (suc i) h = let next : i + 1 ≡ suc i = omega arith in
      rw next at (none_more i (none_below i (λ k z m. h k z (omega arith))) (h i zero-le (omega arith)))

  pub found_is : (n : ℕ) (r : Option ℕ) →
      MatchOption r ((k : ℕ) → 0 ≤ k → k < n → p k ≡ false) (λ i. (0 ≤ i) × (i < n) × (p i ≡ true) × ((k : ℕ) → 0 ≤ k → k < i → p k ≡ false)) →
      unwrap_or r 0 ≡ get_or (keep p (numbers_below n)) 0 0
  found_is n None h = none_passes n n refl (none_below n h)
  found_is n (Some i) h = first_passes i n h.1 (none_below i h.3) h.2

-- ---- the model's ranks

empty_count : (l : Relation) → is_empty l ≡ eqb (length l) 0
empty_count [] = refl
empty_count (r ∷ l) = sym (ne_eqb (length (r ∷ l)) 0 (λ z. omega arith))

module _ (net : Network) (priorities p : List ℕ) (are : (i : ℕ) → get_or priorities i 0 ≡ priority_of net i) where
  rank_is : (i : ℕ) → i < length net.nodes → rank_in priorities p i ≡ rank_of net (pending_in layout net p) i
  unfolding pending_in
  rank_is i h =
      let ws : List ℕ = widths net.nodes in
      let inside : i < length (widths net.nodes) = rw (length-widths net.nodes) h in
      let count : length (get_or (relations_in layout (widths net.nodes) (pending_count layout p) p) i []) ≡ pending_count layout p i =
      ap length (relation_at ws (pending_count layout p) p i inside) ∙ length_held layout (get_or ws i 0) (pending_count layout p i) p i in
      let empty : is_empty (get_or (relations_in layout (widths net.nodes) (pending_count layout p) p) i []) ≡ eqb (pending_count layout p i) 0 =
      empty_count (get_or (relations_in layout (widths net.nodes) (pending_count layout p) p) i []) ∙ ap (λ (k : ℕ). eqb k 0) count in
      ap₂ {A = Bool} {B = ℕ} {C = ℕ} (λ t k. cond t 0 (suc k)) (sym empty) (are i)

  pub highest_is : highest_in priorities p (length net.nodes) ≡ highest_rank net (pending_in layout net p)
  unfolding highest_rank
  highest_is = ap highest_of (map_same (rank_in priorities p) (rank_of net (pending_in layout net p)) 0 (length net.nodes) (λ i h. rank_is i (omega arith)))

  pub next_is : get_or (keep (λ i. eqb (rank_in priorities p i) (highest_rank net (pending_in layout net p))) (numbers_below (length net.nodes))) 0 0
      ≡ next_node net (pending_in layout net p)
  unfolding next_node
  next_is =
      ap (λ (l : List ℕ). get_or l 0 0)
      (keep_same (λ i. eqb (rank_in priorities p i) (highest_rank net (pending_in layout net p))) (λ i. eqb (rank_of net (pending_in layout net p) i) (highest_rank net (pending_in layout net p)))
      0 (length net.nodes) (λ i l h. ap (λ (k : ℕ). eqb k (highest_rank net (pending_in layout net p))) (rank_is i (omega arith))))
