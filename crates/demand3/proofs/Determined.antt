-- The named words of areas of good form are those that the state which they hold writes. Assumes nothing.
use mathlib.Core.Bool.{Bool, cond, false, true}
use mathlib.Core.List.{List, [], ◌++◌, map}
use mathlib.Core.Path.{ap, refl, sym, ◌∙◌, ◌≡◌}
use Prim.Native.Nat.{ℕ, ◌+◌, ◌-◌, ◌≤◌, ◌<◌}
use native.Mathlib.Nat.{zero-add, not-suc-le-zero}
use native.Mathlib.Omega.{arith}
use lib.Dec.{leb, ltb, eqb}
use lib.ListN.{get_or, length, drop, replicate, length-append, length-drop}
use lib.Seq.{drop_at, ext_get_or, get_or-drop}
use borrow.Author.Tests.{eqb-true, leb-true, ltb-false, ltb-true}
use Rattle.model.specs.Row.{Relation, all_of, numbers_below, max_nodes}
use Rattle.model.specs.Network.{Node, widths}
use Rattle.model.specs.Evaluation.{evaluate}
use Rattle.model.specs.Delta.{Change}
use Rattle.model.specs.Station.{State}
use Rattle.model.specs.Areas.{Areas, area_of, batch_number, changes_in, coherent, gained_count, good_area, good_stamps, good_worked, head_of, holding, layout}
use Rattle.model.specs.Areas.{long_enough, lost_count, over, relations_in, row_count, rows_in, stamp_at, state_in, worked_at, worked_count}
use Rattle.laws.proofs.Sets.{and_second}
use Rattle.laws.proofs.Parts.{length-counted, counted_at}
use Rattle.laws.proofs.Fits.{Small}
use Rattle.model.specs.Areas.{area_size, head_words}
use Rattle.laws.proofs.All.{all_below}
use Rattle.areas.proofs.Good.{long_parts}
use Rattle.laws.proofs.Relations.{relations_length}
use Rattle.states.proofs.Fitted.{map-gained, map-lost}
use Rattle.demand3.proofs.Holds.{Proper, gained-count, gained_none, head-words, lost-count, lost_none, number_is, rows-count, rows_none, stamp_word, worked_is_lem}
use Rattle.demand3.proofs.Holds.{worked_word}
use Rattle.states.proofs.Head.{padded_at, padded_zero}
use Rattle.states.proofs.Own.{area_own, count_is, count_none}
use Rattle.demand3.proofs.Coherence.{few, fresh, parts, state_proper}

-- ---- the head

-- two lists agree below an index
abbrev Agree : List ℕ → List ℕ → ℕ → Type 0
Agree x y n = (k : ℕ) → k < n → get_or x k 0 ≡ get_or y k 0

agree_more : (x y : List ℕ) (from n : ℕ) → Agree x y from → ((i : ℕ) → i < n → get_or x (from + i) 0 ≡ get_or y (from + i) 0) → Agree x y (from + n)
agree_more x y from n h g k b = go (ltb k from) refl
  where
    go : (t : Bool) → ltb k from ≡ t → get_or x k 0 ≡ get_or y k 0
    go true e = h k (ltb-true k from e)
    go false e =
        let above : from ≤ k = ltb-false k from e in
        let same : from + (k - from) ≡ k = omega arith in
        rw same at (g (k - from) (omega arith))

-- two heads with the same named words, and the same words past them
head_ext : (x y : List ℕ) → head_words ≤ length x → length x ≡ length y → batch_number x ≡ batch_number y → ((i : ℕ) → i < max_nodes → row_count x i ≡ row_count y i) →
    ((i : ℕ) → i < max_nodes → stamp_at x i ≡ stamp_at y i) → ((i : ℕ) → i < max_nodes → gained_count x i ≡ gained_count y i) → ((i : ℕ) → i < max_nodes → lost_count x i ≡ lost_count y i) →
    worked_count x ≡ worked_count y → ((k : ℕ) → k < max_nodes → worked_at x k ≡ worked_at y k) → drop head_words x ≡ drop head_words y → x ≡ y
head_ext x y long size number rows stamps gained lost worked entries rest = ext_get_or 0 x y size (λ k b. go k (ltb k head_words) refl)
  where
    one : (at : ℕ) → get_or x at 0 ≡ get_or y at 0 → (i : ℕ) → i < 1 → get_or x (at + i) 0 ≡ get_or y (at + i) 0
    one at e i b = let z : at + i ≡ at = omega arith in rw z e

    named : Agree x y head_words
    named =
        agree_more x y 130 max_nodes
        (agree_more x y 129 1
        (agree_more x y 97 max_nodes
        (agree_more x y 65 max_nodes (agree_more x y 33 max_nodes (agree_more x y 1 max_nodes (agree_more x y 0 1 (λ k b. absurd (not-suc-le-zero b)) (one 0 number)) rows) stamps) gained) lost)
        (one 129 worked))
        entries

    go : (k : ℕ) (t : Bool) → ltb k head_words ≡ t → get_or x k 0 ≡ get_or y k 0
    go k true e = named k (ltb-true k head_words e)
    go k false e =
        let above : head_words ≤ k = ltb-false k head_words e in
        let same : head_words + (k - head_words) ≡ k = omega arith in
        rw same at (sym (get_or-drop head_words x (k - head_words) 0) ∙ ap (λ (l : List ℕ). get_or l (k - head_words) 0) rest ∙ get_or-drop head_words y (k - head_words) 0)

-- ---- the areas

module _ (nodes : List Node) (small : Small nodes) (a : Areas) (c : coherent layout nodes a ≡ true) (long : long_enough layout a ≡ true) where
  abbrev s : State
  s = state_in layout nodes a

  abbrev h : Areas
  h = holding layout nodes (state_in layout nodes a) a

  p : Proper nodes (state_in layout nodes a)
  p = state_proper nodes small a c

  sizes : (area_size ≤ length a.rows) × (area_size ≤ length a.gained) × (area_size ≤ length a.lost) × (head_words ≤ length a.head)
  sizes = long_parts a.rows a.gained a.lost a.head long

  ws_few : length (widths nodes) ≤ max_nodes
  ws_few = few nodes small a c

  -- the node's rows are those that evaluation gives
  rows_fresh : evaluate nodes (state_in layout nodes a).tables ≡ rows_in layout nodes a
  unfolding state_in
  rows_fresh = sym (fresh nodes small a c)

  gained_is : map (λ (x : Change). x.gained) (state_in layout nodes a).changes ≡ relations_in layout (widths nodes) (gained_count a.head) a.gained
  unfolding state_in changes_in
  gained_is =
      map-gained (relations_in layout (widths nodes) (gained_count a.head) a.gained) (relations_in layout (widths nodes) (lost_count a.head) a.lost)
      (relations_length (widths nodes) (gained_count a.head) a.gained ∙ sym (relations_length (widths nodes) (lost_count a.head) a.lost))

  lost_is : map (λ (x : Change). x.lost) (state_in layout nodes a).changes ≡ relations_in layout (widths nodes) (lost_count a.head) a.lost
  unfolding state_in changes_in
  lost_is =
      map-lost (relations_in layout (widths nodes) (gained_count a.head) a.gained) (relations_in layout (widths nodes) (lost_count a.head) a.lost)
      (relations_length (widths nodes) (gained_count a.head) a.gained ∙ sym (relations_length (widths nodes) (lost_count a.head) a.lost))

  rows_same : rows_in layout nodes a ≡ relations_in layout (widths nodes) (row_count a.head) a.rows
  unfolding rows_in
  rows_same = refl

  -- a count of the head: of a node as many as its rows, past the last 0
  counts : (count written : ℕ → ℕ) (area : List ℕ) → good_area layout (widths nodes) count area ≡ true → (rels : List Relation) →
      rels ≡ relations_in layout (widths nodes) count area → ((i : ℕ) → i < length (widths nodes) → written i ≡ length (get_or rels i [])) →
      ((i : ℕ) → length (widths nodes) ≤ i → i < max_nodes → written i ≡ 0) → (i : ℕ) → i < max_nodes → written i ≡ count i
  counts count written area g rels e some none i b = go (ltb i (length (widths nodes))) refl
    where
      go : (t : Bool) → ltb i (length (widths nodes)) ≡ t → written i ≡ count i
      go true f = let k : i < length (widths nodes) = ltb-true i (length (widths nodes)) f in some i k ∙ ap (λ (l : List Relation). length (get_or l i [])) e
          ∙ sym (count_is (widths nodes) ws_few small.narrow count area g i k)
      go false f = let k : length (widths nodes) ≤ i = ltb-false i (length (widths nodes)) f in none i k b
          ∙ sym (count_none (widths nodes) ws_few small.narrow count area g i k b)

  stamps-same : (i : ℕ) → i < max_nodes → stamp_at (holding layout nodes (state_in layout nodes a) a).head i ≡ stamp_at a.head i
  unfolding state_in good_stamps
  stamps-same i b = stamp_word nodes s p a i b ∙ go (ltb i (length nodes)) refl
    where
      size : length (map (stamp_at a.head) (numbers_below (length nodes))) ≡ length nodes
      size = length-counted (stamp_at a.head) 0 (length nodes)

      low : leb (stamp_at a.head (0 + i)) (cond (ltb (0 + i) (length nodes)) (batch_number a.head) 0) ≡ true
      low = all_below (λ j. leb (stamp_at a.head j) (cond (ltb j (length nodes)) (batch_number a.head) 0)) 0 max_nodes (parts nodes small a c).3 i b

      go : (t : Bool) → ltb i (length nodes) ≡ t → get_or ((state_in layout nodes a).stamps ++ replicate (max_nodes - length (state_in layout nodes a).stamps) 0) i 0 ≡ stamp_at a.head i
      go true e =
          let k : i < length nodes = ltb-true i (length nodes) e in
          padded_at (map (stamp_at a.head) (numbers_below (length nodes))) i (rw size k) ∙ counted_at 0 (stamp_at a.head) 0 (length nodes) i k
          ∙ ap (stamp_at a.head) (zero-add i)
      go false e =
          let k : length nodes ≤ i = ltb-false i (length nodes) e in
          let zero : leb (stamp_at a.head i) 0 ≡ true = rw (zero-add i, e) at low in
          padded_zero max_nodes (map (stamp_at a.head) (numbers_below (length nodes))) i (rw size k) b ∙ omega (arith, leb-true (stamp_at a.head i) 0 zero)

  worked_same : (k : ℕ) → k < max_nodes → worked_at (holding layout nodes (state_in layout nodes a) a).head k ≡ worked_at a.head k
  unfolding state_in good_worked
  worked_same k b = worked_word nodes s p a k b ∙ go (ltb k (worked_count a.head)) refl
    where
      size : length (map (worked_at a.head) (numbers_below (worked_count a.head))) ≡ worked_count a.head
      size = length-counted (worked_at a.head) 0 (worked_count a.head)

      all : all_of (λ j. cond (ltb j (worked_count a.head)) (ltb (worked_at a.head j) (length nodes)) (eqb (worked_at a.head j) 0)) (numbers_below max_nodes) ≡ true
      all = and_second (leb (worked_count a.head) (length nodes))
          (all_of (λ j. cond (ltb j (worked_count a.head)) (ltb (worked_at a.head j) (length nodes)) (eqb (worked_at a.head j) 0)) (numbers_below max_nodes))
          (parts nodes small a c).4

      at : cond (ltb (0 + k) (worked_count a.head)) (ltb (worked_at a.head (0 + k)) (length nodes)) (eqb (worked_at a.head (0 + k)) 0) ≡ true
      at = all_below (λ j. cond (ltb j (worked_count a.head)) (ltb (worked_at a.head j) (length nodes)) (eqb (worked_at a.head j) 0)) 0 max_nodes all k b

      go : (t : Bool) → ltb k (worked_count a.head) ≡ t → get_or ((state_in layout nodes a).worked ++ replicate (max_nodes - length (state_in layout nodes a).worked) 0) k 0
          ≡ worked_at a.head k
      go true e =
          let i : k < worked_count a.head = ltb-true k (worked_count a.head) e in
          padded_at (map (worked_at a.head) (numbers_below (worked_count a.head))) k (rw size i) ∙ counted_at 0 (worked_at a.head) 0 (worked_count a.head) k i
          ∙ ap (worked_at a.head) (zero-add k)
      go false e =
          let i : worked_count a.head ≤ k = ltb-false k (worked_count a.head) e in
          let zero : eqb (worked_at a.head k) 0 ≡ true = rw (zero-add k, e) at at in
          padded_zero max_nodes (map (worked_at a.head) (numbers_below (worked_count a.head))) k (rw size i) b ∙ sym (eqb-true (worked_at a.head k) 0 zero)

  words : length (head_of (evaluate nodes (state_in layout nodes a).tables) (state_in layout nodes a)) ≡ head_words
  words = head-words nodes s p

  abbrev written : List ℕ
  written = head_of (evaluate nodes (state_in layout nodes a).tables) (state_in layout nodes a)

  head-form : (holding layout nodes (state_in layout nodes a) a).head ≡ over (head_of (evaluate nodes (state_in layout nodes a).tables) (state_in layout nodes a)) a.head
  unfolding holding
  head-form = refl

  -- the words past the named ones
  head_rest : drop head_words (holding layout nodes (state_in layout nodes a) a).head ≡ drop head_words a.head
  head_rest = ap (drop head_words) head-form ∙ drop_at written (drop (length written) a.head) head_words words ∙ ap (λ (n : ℕ). drop n a.head) words

  head-length : length (holding layout nodes (state_in layout nodes a) a).head ≡ length a.head
  head-length = ap length head-form ∙ length-append written (drop (length written) a.head) ∙ rw (length-drop (length written) a.head, words) (omega (arith, sizes.3))

  number_same : (state_in layout nodes a).number ≡ batch_number a.head
  unfolding state_in
  number_same = refl

  worked-size : length (state_in layout nodes a).worked ≡ worked_count a.head
  unfolding state_in
  worked-size = length-counted (worked_at a.head) 0 (worked_count a.head)

  head-same : (holding layout nodes (state_in layout nodes a) a).head ≡ a.head
  head-same =
      head_ext (holding layout nodes s a).head a.head (omega (arith, head-length, sizes.3)) head-length (number_is nodes s p a ∙ number_same)
      (counts (row_count a.head) (row_count (holding layout nodes s a).head) a.rows (parts nodes small a c).0 (evaluate nodes (state_in layout nodes a).tables)
      (rows_fresh ∙ rows_same) (rows-count nodes s p a) (rows_none nodes s p a))
      stamps-same
      (counts (gained_count a.head) (gained_count (holding layout nodes s a).head) a.gained (parts nodes small a c).1
      (map (λ (x : Change). x.gained) (state_in layout nodes a).changes) gained_is (gained-count nodes s p a) (gained_none nodes s p a))
      (counts (lost_count a.head) (lost_count (holding layout nodes s a).head) a.lost (parts nodes small a c).2
      (map (λ (x : Change). x.lost) (state_in layout nodes a).changes) lost_is (lost-count nodes s p a) (lost_none nodes s p a))
      (worked_is_lem nodes s p a ∙ worked-size)
      worked_same
      head_rest

  -- coherent areas have the state that they hold in their named words
  pub own_words : a ≡ holding layout nodes (state_in layout nodes a) a
  unfolding holding
  own_words =
      let rows : over (area_of layout (evaluate nodes (state_in layout nodes a).tables)) a.rows ≡ a.rows =
      ap (λ (r : List Relation). over (area_of layout r) a.rows) (rows_fresh ∙ rows_same) ∙ area_own (widths nodes) ws_few small.narrow (row_count a.head) a.rows
      (parts nodes small a c).0 sizes.0 in
      let gained : over (area_of layout (map (λ (x : Change). x.gained) (state_in layout nodes a).changes)) a.gained ≡ a.gained =
      ap (λ (r : List Relation). over (area_of layout r) a.gained) gained_is ∙ area_own (widths nodes) ws_few small.narrow (gained_count a.head) a.gained
      (parts nodes small a c).1 sizes.1 in
      let lost : over (area_of layout (map (λ (x : Change). x.lost) (state_in layout nodes a).changes)) a.lost ≡ a.lost =
      ap (λ (r : List Relation). over (area_of layout r) a.lost) lost_is ∙ area_own (widths nodes) ws_few small.narrow (lost_count a.head) a.lost
      (parts nodes small a c).2 sizes.2 in
      λ i. record { rows = sym rows i; gained = sym gained i; lost = sym lost i; head = sym head-same i }
