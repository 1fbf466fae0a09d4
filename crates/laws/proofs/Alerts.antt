-- Alerts: changes folded into pending rows, and the node that a taking goes to. For rows of any width and any network. Assumes nothing.
use mathlib.Core.Bool.{Bool, ◌&&◌, ◌||◌, and_comm, and-true, cond, false, not, or-false, true, true≢false}
use mathlib.Core.List.{List, [], ◌∷◌, ◌++◌, map}
use mathlib.Core.Path.{ap, refl, sym, ◌∙◌, ◌≡◌}
use Prim.Native.Nat.{ℕ, zero, suc, ◌+◌, ◌<◌, ◌≤◌, zero-le, suc-le-suc, max}
use native.Mathlib.Nat.{add-zero, zero-add, le-max_left, le-max_right, le_of_suc-le-suc, le_refl, le_trans, max-eq_left, max-eq_right, not-suc-le-zero}
use native.Mathlib.Omega.{arith}
use lib.Dec.{eqb, leb, ltb}
use lib.ListN.{get_or-eq_default, drop, get_or, length}
use borrow.Author.Tests.{eq-eqb, eqb-false, eqb-true, leb-false, leb-true, ltb-false, ltb-true}
use Rattle.model.specs.Row.{Relation, Row, Wide, count_from, delete_row, is_empty, keep, keep_if, member, numbers_below, same_row}
use Rattle.model.specs.Algebra.{difference_rows, union_rows}
use Rattle.model.specs.Network.{Network, highest_of, priority_of}
use Rattle.model.specs.Evaluation.{rows_at}
use Rattle.model.specs.Delta.{Change, change_at, net_change, no_change}
use Rattle.model.specs.Pending.{alerts, fold_all, fold_node, fold_rows, highest_rank, lowest_row, next_node, rank_of}
use Rattle.laws.proofs.Order.{same_row_eq, same_row_refl}
use Rattle.laws.proofs.Sets.{Ascending, above_not-member, and_both, asc_delete, delete_present, ext, member_delete}
use Rattle.laws.proofs.Widths.{wide-append, wide-keep, wide-set_of}
use Rattle.laws.proofs.Algebra.{asc-union, member-difference, member_union}
use Rattle.laws.proofs.Parts.{counted_at, length-counted}

-- ---- folding one node's changes

-- a row is pending if it was and is not lost, or if it is gained
pub member_fold : (r : Row) (p : Relation) (c : Change) → member r (fold_rows p c) ≡ (member r p && not (member r c.lost) || member r c.gained)
unfolding fold_rows
member_fold r p c =
    member_union r (difference_rows p c.lost) c.gained
    ∙ ap (λ (t : Bool). t || member r c.gained) (member-difference r p c.lost ∙ and_comm (not (member r c.lost)) (member r p))

-- folded rows ascend
pub asc_fold : (p : Relation) (c : Change) → Ascending (fold_rows p c)
unfolding fold_rows
asc_fold p c = asc-union (difference_rows p c.lost) c.gained

-- they keep their width
pub wide_fold : (w : ℕ) (p : Relation) (c : Change) → Wide w p → Wide w c.gained → Wide w (fold_rows p c)
unfolding fold_rows union_rows difference_rows
wide_fold w p c h g =
    wide-set_of w (keep (λ r. not (member r c.lost)) p ++ c.gained)
    (wide-append w (keep (λ r. not (member r c.lost)) p) c.gained (wide-keep w (λ r. not (member r c.lost)) p h) g)

-- no change leaves them as they are
pub fold_none : (p : Relation) → Ascending p → fold_rows p no_change ≡ p
fold_none p a = ext (fold_rows p no_change) p (asc_fold p no_change) a (λ r. member_fold r p no_change ∙ or-false (member r p && true) ∙ and-true (member r p))

-- pending rows that are rows of the node stay rows of the node
pub fold_inside : (p old new : Relation) → ((r : Row) → member r p ≡ true → member r old ≡ true) → (r : Row) → member r (fold_rows p (net_change old new)) ≡ true → member r new ≡ true
unfolding net_change
fold_inside p old new inside r h =
    let are : member r (fold_rows p (net_change old new)) ≡ (member r p && not (not (member r new) && member r old) || not (member r old) && member r new) =
    member_fold r p (net_change old new) ∙ rw (member-difference r old new, member-difference r new old) in
    go (member r p) (member r old) (member r new) (inside r) (sym are ∙ h)
  where
    go : (x y z : Bool) → (x ≡ true → y ≡ true) → (x && not (not z && y) || not y && z) ≡ true → z ≡ true
    go x y true f e = refl
    go true true false f e = absurd (true≢false (sym e))
    go true false false f e = absurd (true≢false (sym (f refl)))
    go false true false f e = absurd (true≢false (sym e))
    go false false false f e = absurd (true≢false (sym e))

-- a strictly ascending list inside another has no more rows
pub subset_few : (a l : List Row) → Ascending a → Ascending l → ((r : Row) → member r a ≡ true → member r l ≡ true) → length a ≤ length l
subset_few [] l x y h = zero-le
subset_few (s ∷ a) l x y h =
    let fewer : suc (length (delete_row s l)) ≡ length l = delete_present s l y (h s (ap (λ (t : Bool). t || member s a) (same_row_refl s))) in
    let rest : length a ≤ length (delete_row s l) = subset_few a (delete_row s l) x.1 (asc_delete s l y)
    (λ r e. member_delete r s l ∙ and_both (not (same_row r s)) (member r l) (ap not (other r e (same_row r s) refl)) (h r (later r e (same_row r s)))) in
    omega arith
  where
    other : (r : Row) → member r a ≡ true → (t : Bool) → same_row r s ≡ t → t ≡ false
    other r e true f = absurd (true≢false (sym e ∙ ap (λ (z : Row). member z a) (same_row_eq r s f) ∙ above_not-member s a x.0))
    other r e false f = refl

    later : (r : Row) → member r a ≡ true → (t : Bool) → (t || member r a) ≡ true
    later r e true = refl
    later r e false = e

-- ---- folding every node's changes

-- node i's folded rows
pub fold_node_lem : (net : Network) (changes : List Change) (pending : List Relation) (i : ℕ) → i < length net.nodes → rows_at (fold_all net changes pending) i ≡ fold_node net changes pending i
unfolding fold_all
fold_node_lem net changes pending i h = counted_at [] (fold_node net changes pending) 0 (length net.nodes) i h ∙ ap (fold_node net changes pending) (zero-add i)

-- past the last node too, where there are as many changes and relations as nodes
pub fold_at_lem : (net : Network) (changes : List Change) (pending : List Relation) → length changes ≡ length net.nodes → length pending ≡ length net.nodes → (i : ℕ) →
    rows_at (fold_all net changes pending) i ≡ fold_node net changes pending i
unfolding fold_all
fold_at_lem net changes pending cs ps i = go (ltb i (length net.nodes)) refl
  where
    empty : (t : Bool) → cond t (fold_rows [] no_change) [] ≡ []
    empty true = fold_none [] tt
    empty false = refl

    go : (t : Bool) → ltb i (length net.nodes) ≡ t → rows_at (map (fold_node net changes pending) (numbers_below (length net.nodes))) i ≡ fold_node net changes pending i
    go true e = fold_node_lem net changes pending i (ltb-true i (length net.nodes) e)
    go false e =
        let out : length net.nodes ≤ i = ltb-false i (length net.nodes) e in
        let none : rows_at pending i ≡ [] = get_or-eq_default pending [] {n = i} (rw ps out) in
        let still : change_at changes i ≡ no_change = get_or-eq_default changes no_change {n = i} (rw cs out) in
        get_or-eq_default (map (fold_node net changes pending) (numbers_below (length net.nodes))) [] {n = i}
        (rw (length-counted (fold_node net changes pending) 0 (length net.nodes)) out)
        ∙ sym (rw (none, still) (empty (alerts net i)))

-- one relation for each node
pub fold_length : (net : Network) (changes : List Change) (pending : List Relation) → length (fold_all net changes pending) ≡ length net.nodes
unfolding fold_all
fold_length net changes pending = length-counted (fold_node net changes pending) 0 (length net.nodes)

-- ---- the lowest row

-- a nonempty relation is its lowest row and the rest
pub lowest_first : (l : Relation) → is_empty l ≡ false → l ≡ lowest_row l ∷ drop 1 l
lowest_first [] e = absurd (true≢false e)
lowest_first (r ∷ l) e = refl

-- the rest is without it
pub member_rest : (r : Row) (l : Relation) → Ascending l → member r (drop 1 l) ≡ (member r l && not (same_row r (lowest_row l)))
member_rest r [] a = refl
member_rest r (s ∷ l) a = go (same_row r s) refl
  where
    go : (t : Bool) → same_row r s ≡ t → member r l ≡ ((t || member r l) && not t)
    go true e = ap (λ (z : Row). member z l) (same_row_eq r s e) ∙ above_not-member s l a.0
    go false e = sym (and-true (member r l))

-- the rest ascends
pub asc_rest : (l : Relation) → Ascending l → Ascending (drop 1 l)
asc_rest [] a = tt
asc_rest (r ∷ l) a = a.1

-- and keeps its width
pub wide_rest : (w : ℕ) (l : Relation) → Wide w l → Wide w (drop 1 l)
wide_rest w [] h = tt
wide_rest w (r ∷ l) h = h.1

-- ---- the highest of some numbers

-- none is above it
high_most : (f : ℕ → ℕ) (from n i : ℕ) → i < n → f (from + i) ≤ highest_of (map f (count_from from n))
high_most f from zero i h = absurd (not-suc-le-zero h)
high_most f from (suc n) zero h = rw (add-zero from) (le-max_left (f from) (highest_of (map f (count_from (suc from) n))))
high_most f from (suc n) (suc i) h =
    let e : from + suc i ≡ suc from + i = omega arith in
    rw e (le_trans (high_most f (suc from) n i (le_of_suc-le-suc h)) (le-max_right (f from) (highest_of (map f (count_from (suc from) n)))))

-- above 0 it is one of them
high_found : (f : ℕ → ℕ) (from n : ℕ) → 0 < highest_of (map f (count_from from n)) → (i : ℕ) × (i < n) × (f (from + i) ≡ highest_of (map f (count_from from n)))
high_found f from zero h = absurd (not-suc-le-zero h)
high_found f from (suc n) h = go (highest_of (map f (count_from (suc from) n))) (leb (highest_of (map f (count_from (suc from) n))) (f from)) refl (high_found f (suc from) n)
  where
    go : (rest : ℕ) (t : Bool) → leb rest (f from) ≡ t → (0 < rest → (i : ℕ) × (i < n) × (f (suc from + i) ≡ rest)) → (i : ℕ) × (i < suc n) × (f (from + i) ≡ max (f from) rest)
    go rest true e ih =
        let top : max (f from) rest ≡ f from = max-eq_left (leb-true rest (f from) e) in
        (0, suc-le-suc zero-le, ap f (add-zero from) ∙ sym top)
    go rest false e ih =
        let below : f from < rest = leb-false rest (f from) e in
        let top : max (f from) rest ≡ rest = max-eq_right (omega arith) in
        let later : (i : ℕ) × (i < n) × (f (suc from + i) ≡ rest) = ih (omega arith) in
        let q : from + suc later.0 ≡ suc from + later.0 = omega arith in
        (suc later.0, suc-le-suc later.1, ap f q ∙ later.2 ∙ sym top)

-- the greater of three numbers, either two first
max_three : (a b c : ℕ) → max a (max b c) ≡ max (max a b) c
max_three a b c = go (leb a b) refl (leb b c) refl
  where
    go : (t : Bool) → leb a b ≡ t → (u : Bool) → leb b c ≡ u → max a (max b c) ≡ max (max a b) c
    go true e u f = max-eq_right (le_trans (leb-true a b e) (le-max_left b c)) ∙ ap (λ (k : ℕ). max k c) (sym (max-eq_right (leb-true a b e)))
    go false e true f =
        ap (max a) (max-eq_right (leb-true b c f)) ∙ ap (λ (k : ℕ). max k c) (sym (max-eq_left (let h : b < a = leb-false a b e in omega arith)))
    go false e false f =
        let h : b < a = leb-false a b e in
        let g : c < b = leb-false b c f in
        ap (max a) (max-eq_left (omega arith)) ∙ max-eq_left (omega arith) ∙ sym (ap (λ (k : ℕ). max k c) (max-eq_left (omega arith)) ∙ max-eq_left (omega arith))

-- one number more behind them
pub high_more : (l : List ℕ) (x : ℕ) → highest_of (l ++ (x ∷ [])) ≡ max (highest_of l) x
high_more [] x = max-eq_left zero-le ∙ sym (max-eq_right zero-le)
high_more (y ∷ l) x = ap (max y) (high_more l x) ∙ max_three y (highest_of l) x

-- ---- the first number that passes a test

-- x is the first of some numbers that does
record First (p : ℕ → Bool) (from n x : ℕ) : Type 0 where
  low : from ≤ x
  inside : x < from + n
  passes : p x ≡ true
  first : (j : ℕ) → from ≤ j → j < x → p j ≡ false

-- the first of the numbers kept, if one passes
first-kept : (p : ℕ → Bool) (from n i : ℕ) → i < n → p (from + i) ≡ true → First p from n (get_or (keep p (count_from from n)) 0 0)
first-kept p from zero i h e = absurd (not-suc-le-zero h)
first-kept p from (suc n) i h e = go (p from) refl i h e (first-kept p (suc from) n)
  where
    go : (t : Bool) → p from ≡ t → (j : ℕ) → j < suc n → p (from + j) ≡ true →
        ((l : ℕ) → l < n → p (suc from + l) ≡ true → First p (suc from) n (get_or (keep p (count_from (suc from) n)) 0 0)) →
        First p from (suc n) (get_or (keep_if t from (keep p (count_from (suc from) n))) 0 0)
    go true f j k g ih = record { low = le_refl from; inside = omega arith; passes = f; first = λ l a b. absurd (omega arith) }
    go false f zero k g ih = absurd (true≢false (sym g ∙ ap p (add-zero from) ∙ f))
    go false f (suc j) k g ih =
        let q : from + suc j ≡ suc from + j = omega arith in
        let later : First p (suc from) n (get_or (keep p (count_from (suc from) n)) 0 0) = ih j (le_of_suc-le-suc k) (ap p (sym q) ∙ g) in
        record {
          low = omega (arith, later.low);
          inside = omega (arith, later.inside);
          passes = later.passes;
          first = λ l a b. before l a b (leb l from) refl later;
        }
      where
        before : (l : ℕ) → from ≤ l → l < get_or (keep p (count_from (suc from) n)) 0 0 → (t : Bool) → leb l from ≡ t →
            First p (suc from) n (get_or (keep p (count_from (suc from) n)) 0 0) → p l ≡ false
        before l a b true e later = let low : l ≤ from = leb-true l from e in let same : l ≡ from = omega arith in ap p same ∙ f
        before l a b false e later = later.first l (leb-false l from e) b

-- ---- the node that a taking goes to

module _ (net : Network) (pending : List Relation) where
  -- no node has a rank above the highest
  pub rank_most : (i : ℕ) → i < length net.nodes → rank_of net pending i ≤ highest_rank net pending
  unfolding highest_rank
  rank_most i h = rw (zero-add i) at (high_most (rank_of net pending) 0 (length net.nodes) i h)

  -- a node without pending rows has rank 0
  rank_none : (i : ℕ) → rows_at pending i ≡ [] → rank_of net pending i ≡ 0
  rank_none i e = ap (λ (l : Relation). cond (is_empty l) 0 (suc (priority_of net i))) e

  -- one with some has 1 more than its priority
  pub rank_some : (i : ℕ) → is_empty (rows_at pending i) ≡ false → rank_of net pending i ≡ suc (priority_of net i)
  rank_some i e = ap (λ (t : Bool). cond t 0 (suc (priority_of net i))) e

  -- a node with a rank has pending rows
  ranked_some : (i : ℕ) → 0 < rank_of net pending i → is_empty (rows_at pending i) ≡ false
  ranked_some i h = go (is_empty (rows_at pending i)) h
    where
      go : (t : Bool) → 0 < cond t 0 (suc (priority_of net i)) → t ≡ false
      go true k = absurd (not-suc-le-zero k)
      go false k = refl

  -- a highest rank above 0 is the rank of a node
  rank_found : 0 < highest_rank net pending → (i : ℕ) × (i < length net.nodes) × (rank_of net pending i ≡ highest_rank net pending)
  unfolding highest_rank
  rank_found h =
      let found : (i : ℕ) × (i < length net.nodes) × (rank_of net pending (0 + i) ≡ highest_of (map (rank_of net pending) (numbers_below (length net.nodes)))) =
      high_found (rank_of net pending) 0 (length net.nodes) h in
      (found.0, found.1, ap (rank_of net pending) (sym (zero-add found.0)) ∙ found.2)

  -- the highest rank is 0 exactly if nothing is pending
  pub none_pending : highest_rank net pending ≡ 0 → (i : ℕ) → i < length net.nodes → rows_at pending i ≡ []
  none_pending z i h = go (rows_at pending i) (rank_most i h)
    where
      go : (l : Relation) → cond (is_empty l) 0 (suc (priority_of net i)) ≤ highest_rank net pending → l ≡ []
      go [] k = refl
      go (r ∷ l) k = absurd (omega arith)

  -- and the other way round
  pub nothing-highest : ((i : ℕ) → i < length net.nodes → rows_at pending i ≡ []) → highest_rank net pending ≡ 0
  nothing-highest h = go (eqb (highest_rank net pending) 0) refl
    where
      go : (t : Bool) → eqb (highest_rank net pending) 0 ≡ t → highest_rank net pending ≡ 0
      go true e = eqb-true (highest_rank net pending) 0 e
      go false e =
          let not-zero : highest_rank net pending ≡ 0 → ⊥ = eqb-false (highest_rank net pending) 0 e in
          let found : (i : ℕ) × (i < length net.nodes) × (rank_of net pending i ≡ highest_rank net pending) = rank_found (omega arith) in
          sym found.2 ∙ rank_none found.0 (h found.0 found.1)

  module _ (some : 0 < highest_rank net pending) where
    -- the next node is the first of the highest rank
    next-first_of : First (λ i. eqb (rank_of net pending i) (highest_rank net pending)) 0 (length net.nodes) (next_node net pending)
    unfolding next_node
    next-first_of =
        let found : (i : ℕ) × (i < length net.nodes) × (rank_of net pending i ≡ highest_rank net pending) = rank_found some in
        first-kept (λ i. eqb (rank_of net pending i) (highest_rank net pending)) 0 (length net.nodes) found.0 found.1
        (rw (zero-add found.0) (eq-eqb (rank_of net pending found.0) (highest_rank net pending) found.2))

    -- the next node is a node
    pub next-inside : next_node net pending < length net.nodes
    next-inside = omega (arith, next-first_of.inside)

    -- of the highest rank
    pub next_rank : rank_of net pending (next_node net pending) ≡ highest_rank net pending
    next_rank = eqb-true (rank_of net pending (next_node net pending)) (highest_rank net pending) next-first_of.passes

    -- every node below it has a lower rank
    pub next-first : (i : ℕ) → i < next_node net pending → rank_of net pending i < highest_rank net pending
    next-first i h =
        let other : rank_of net pending i ≡ highest_rank net pending → ⊥ = eqb-false (rank_of net pending i) (highest_rank net pending) (next-first_of.first i zero-le h) in
        let most : rank_of net pending i ≤ highest_rank net pending = rank_most i (omega (arith, next-inside)) in
        omega arith

    -- it has pending rows
    pub next-some : is_empty (rows_at pending (next_node net pending)) ≡ false
    next-some = ranked_some (next_node net pending) (rw next_rank some)
