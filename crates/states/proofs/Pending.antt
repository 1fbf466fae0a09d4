-- The pending area's words: rows written into it are read back, and an area of good form is what its rows write. Assumes nothing.
use mathlib.Core.Bool.{Bool, ◌&&◌, ◌||◌, false, true, true≢false}
use mathlib.Core.List.{List, [], ◌++◌, append_assoc, map}
use mathlib.Core.Path.{ap, ap₂, sym, ◌∙◌, ◌≡◌, refl}
use Prim.Native.Nat.{ℕ, ◌+◌, ◌<◌, ◌≤◌}
use native.Mathlib.Nat.{zero-add}
use native.Mathlib.Omega.{arith}
use lib.Dec.{eqb, leb, ltb}
use lib.ListN.{get_or-append, get_or-eq_default, drop, get_or, length, length-append, length-drop, length-map, replicate, replicate-append-replicate, take, take-append-drop}
use lib.Seq.{drop-append_seam, drop_at, ext_get_or, get_or-drop, get_or-take, length-take-le, take-add}
use borrow.Author.Tests.{eq-eqb, eqb-true, le-leb, leb-true, ltb-false, ltb-true}
use Rattle.model.specs.Row.{Narrow, Relation, all_of, max_nodes, numbers_below}
use Rattle.model.specs.Network.{Network, widths}
use Rattle.model.specs.Evaluation.{rows_at}
use Rattle.model.specs.Areas.{area_of, area_size, good_area, held_in, layout, over, padded, relations_in}
use Rattle.model.specs.Pending.{alerts, good_pending, pending_count, pending_in, pending_of, pending_size}
use Rattle.laws.proofs.Sets.{and_both, and_first, and_second}
use Rattle.laws.proofs.All.{all_below, below_all}
use Rattle.laws.proofs.Parts.{same_at}
use Rattle.laws.proofs.Relations.{relation_at, relations_length}
use Rattle.states.specs.Fitting.{Fitting}
use Rattle.states.proofs.Written.{area_length, written_back, written_good}
use Rattle.states.proofs.Fitted.{area_fits}
use Rattle.states.proofs.Head.{at_right, padded_at, padded-length, padded_zero}
use Rattle.states.proofs.Changes.{lengths_at}
use Rattle.states.proofs.Own.{count_is, count_none, words_are}
use Rattle.states.proofs.Zeros.{area_none, lengths_none, none_fits, padded_none}

-- ---- rows written

module _ (ws : List ℕ) (rels : List Relation) (f : Fitting ws rels) where
  -- the counts of the nodes' rows
  abbrev counts : List ℕ
  counts = padded max_nodes (map length rels)

  -- one count for each node
  counts-long : length (map length rels) ≡ length ws
  counts-long = length-map rels length ∙ f.size

  -- and zeros up to 32
  counts-length : length (padded max_nodes (map length rels)) ≡ max_nodes
  counts-length = padded-length max_nodes (map length rels) (rw counts-long f.few)

  -- the words of a pending area
  pub pending-length : length (pending_of layout rels) ≡ pending_size
  unfolding pending_of
  pending-length = length-append (area_of layout rels) counts ∙ rw (area_length ws rels f, counts-length)

  module _ (before : List ℕ) where
    -- the pending area with the rows in its named words
    abbrev written : List ℕ
    written = over (pending_of layout rels) before

    -- it has at least its named words
    pub pending-long : pending_size ≤ length (over (pending_of layout rels) before)
    pending-long = omega (arith, length-append (pending_of layout rels) (drop (length (pending_of layout rels)) before), pending-length)

    -- the words past the named ones are as they were
    pub pending_rest : drop pending_size (over (pending_of layout rels) before) ≡ drop pending_size before
    pending_rest = drop_at (pending_of layout rels) (drop (length (pending_of layout rels)) before) pending_size pending-length ∙ ap (λ (n : ℕ). drop n before) pending-length

    -- the rows first, then the counts
    parts_are : over (pending_of layout rels) before ≡ area_of layout rels ++ (padded max_nodes (map length rels) ++ drop (length (pending_of layout rels)) before)
    unfolding pending_of
    parts_are = append_assoc (area_of layout rels) counts (drop (length (pending_of layout rels)) before)

    -- its first words are those of an area
    rows-first : over (area_of layout rels) (over (pending_of layout rels) before) ≡ over (pending_of layout rels) before
    rows-first =
        ap (λ (l : List ℕ). area_of layout rels ++ l)
        (ap (drop (length (area_of layout rels))) parts_are ∙ drop-append_seam (area_of layout rels) (counts ++ drop (length (pending_of layout rels)) before)) ∙ sym parts_are

    -- then come the counts
    count_word : (i : ℕ) → i < max_nodes → pending_count layout (over (pending_of layout rels) before) i ≡ get_or (padded max_nodes (map length rels)) i 0
    count_word i h =
        ap (λ (l : List ℕ). get_or l (area_size + i) 0) parts_are
        ∙ at_right (area_of layout rels) (counts ++ drop (length (pending_of layout rels)) before) area_size i (area_length ws rels f)
        ∙ get_or-append counts (drop (length (pending_of layout rels)) before) 0 i (rw counts-length h)

    -- a node's count is the number of its rows
    pending-count : (i : ℕ) → i < length ws → pending_count layout (over (pending_of layout rels) before) i ≡ length (get_or rels i [])
    pending-count i h = count_word i (omega (arith, f.few)) ∙ padded_at (map length rels) i (rw counts-long h) ∙ lengths_at rels i

    -- past the last node it is 0
    pending_none : (i : ℕ) → length ws ≤ i → i < max_nodes → pending_count layout (over (pending_of layout rels) before) i ≡ 0
    pending_none i h k = count_word i k ∙ padded_zero max_nodes (map length rels) i (rw counts-long h) k

module _ (net : Network) (rels : List Relation) (f : Fitting (widths net.nodes) rels) (before : List ℕ) where
  -- the rows are read back
  pub pending_back : pending_in layout net (over (pending_of layout rels) before) ≡ rels
  unfolding pending_in
  pending_back =
      let ws : List ℕ = widths net.nodes in
      let area : List ℕ = over (pending_of layout rels) before in
      ap (relations_in layout ws (pending_count layout area)) (sym (rows-first ws rels f before)) ∙ written_back ws rels f area (pending_count layout area) (pending-count ws rels f before)

  -- the area is of good form, if no other node has rows
  pub pending-good : ((i : ℕ) → alerts net i ≡ false → rows_at rels i ≡ []) → good_pending layout net (over (pending_of layout rels) before) ≡ true
  unfolding good_pending
  pending-good else =
      let area : List ℕ = over (pending_of layout rels) before in
      and_both (leb pending_size (length area) && good_area layout ws (pending_count layout area) area) (all_of (λ i. alerts net i || eqb (pending_count layout area i) 0) (numbers_below max_nodes))
      (and_both (leb pending_size (length area)) (good_area layout ws (pending_count layout area) area) (le-leb pending_size (length area) (pending-long ws rels f before))
      (ap (good_area layout ws (pending_count layout area)) (sym (rows-first ws rels f before))
      ∙ written_good ws rels f area (pending_count layout area) (pending-count ws rels f before) (pending_none ws rels f before)))
      (below_all (λ i. alerts net i || eqb (pending_count layout area i) 0) 0 max_nodes (λ i h. rw (zero-add i) (go i h (alerts net i) refl)))
    where
      ws : List ℕ
      ws = widths net.nodes

      count_zero : (i : ℕ) → i < max_nodes → alerts net i ≡ false → (t : Bool) → ltb i (length (widths net.nodes)) ≡ t → pending_count layout (over (pending_of layout rels) before) i ≡ 0
      count_zero i h e true b = pending-count (widths net.nodes) rels f before i (ltb-true i (length (widths net.nodes)) b) ∙ ap length (else i e)
      count_zero i h e false b = pending_none (widths net.nodes) rels f before i (ltb-false i (length (widths net.nodes)) b) h

      go : (i : ℕ) → i < max_nodes → (t : Bool) → alerts net i ≡ t → (t || eqb (pending_count layout (over (pending_of layout rels) before) i) 0) ≡ true
      go i h true e = refl
      go i h false e = eq-eqb (pending_count layout (over (pending_of layout rels) before) i) 0 (count_zero i h e (ltb i (length (widths net.nodes))) refl)

-- ---- an area of good form

-- what 17 says of the area alone, part by part
pub pending_parts : (net : Network) (p : List ℕ) → good_pending layout net p ≡ true →
    (pending_size ≤ length p) × (good_area layout (widths net.nodes) (pending_count layout p) p ≡ true) × ((i : ℕ) → i < max_nodes → alerts net i ≡ false → pending_count layout p i ≡ 0)
unfolding good_pending
pending_parts net p g =
    let long : Bool = leb pending_size (length p) in
    let good : Bool = good_area layout (widths net.nodes) (pending_count layout p) p in
    let others : Bool = all_of (λ i. alerts net i || eqb (pending_count layout p i) 0) (numbers_below max_nodes) in
    let first : (long && good) ≡ true = and_first (long && good) others g in (
      leb-true pending_size (length p) (and_first long good first),
      and_second long good first,
      λ i h e. none i e (alerts net i) refl (ap (λ (j : ℕ). alerts net j || eqb (pending_count layout p j) 0) (sym (zero-add i))
          ∙ all_below (λ j. alerts net j || eqb (pending_count layout p j) 0) 0 max_nodes (and_second (long && good) others g) i h),
    )
  where
    none : (i : ℕ) → alerts net i ≡ false → (t : Bool) → alerts net i ≡ t → (t || eqb (pending_count layout p i) 0) ≡ true → pending_count layout p i ≡ 0
    none i e true b h = absurd (true≢false (sym b ∙ e))
    none i e false b h = eqb-true (pending_count layout p i) 0 h

module _ (net : Network) (few : length (widths net.nodes) ≤ max_nodes) (narrow : Narrow (widths net.nodes)) (p : List ℕ) where
  module _ (g : good_pending layout net p ≡ true) where
    -- its rows fit into an area
    pub pending-fits : Fitting (widths net.nodes) (pending_in layout net p)
    unfolding pending_in
    pending-fits = area_fits (widths net.nodes) few narrow (pending_count layout p) p (pending_parts net p g).1

    -- a node's count is the number of its rows, and 0 past the last node
    counts_own : (i : ℕ) → i < max_nodes → get_or (padded max_nodes (map length (pending_in layout net p))) i 0 ≡ pending_count layout p i
    unfolding pending_in
    counts_own i h = go (ltb i (length (widths net.nodes))) refl
      where
        rels : List Relation
        rels = relations_in layout (widths net.nodes) (pending_count layout p) p

        size : length (map length (relations_in layout (widths net.nodes) (pending_count layout p) p)) ≡ length (widths net.nodes)
        size = length-map (relations_in layout (widths net.nodes) (pending_count layout p) p) length ∙ relations_length (widths net.nodes) (pending_count layout p) p

        go : (t : Bool) → ltb i (length (widths net.nodes)) ≡ t → get_or (padded max_nodes (map length (relations_in layout (widths net.nodes) (pending_count layout p) p))) i 0
            ≡ pending_count layout p i
        go true e =
            let k : i < length (widths net.nodes) = ltb-true i (length (widths net.nodes)) e in
            padded_at (map length rels) i (rw size k) ∙ lengths_at rels i
            ∙ sym (count_is (widths net.nodes) few narrow (pending_count layout p) p (pending_parts net p g).1 i k)
        go false e =
            let k : length (widths net.nodes) ≤ i = ltb-false i (length (widths net.nodes)) e in
            padded_zero max_nodes (map length rels) i (rw size k) h ∙ sym (count_none (widths net.nodes) few narrow (pending_count layout p) p (pending_parts net p g).1 i k h)

    -- its last named words are the counts
    counts-are : padded max_nodes (map length (pending_in layout net p)) ≡ take max_nodes (drop area_size p)
    counts-are =
        let long : pending_size ≤ length p = (pending_parts net p g).0 in
        let size : length (padded max_nodes (map length (pending_in layout net p))) ≡ max_nodes = counts-length (widths net.nodes) (pending_in layout net p) pending-fits in
        let rest : length (take max_nodes (drop area_size p)) ≡ max_nodes = length-take-le max_nodes (drop area_size p) (rw (length-drop area_size p) (omega arith)) in
        ext_get_or 0 (padded max_nodes (map length (pending_in layout net p))) (take max_nodes (drop area_size p)) (size ∙ sym rest)
        (λ i h. let k : i < max_nodes = rw size at h in counts_own i k ∙ sym (get_or-take max_nodes (drop area_size p) i 0 k ∙ get_or-drop area_size p i 0))

    -- its first words are those of its rows
    rows_are : area_of layout (pending_in layout net p) ≡ take area_size p
    unfolding pending_in
    rows_are = words_are (widths net.nodes) few narrow (pending_count layout p) p (pending_parts net p g).1 (omega (arith, (pending_parts net p g).0))

    -- the words of its rows are its named words
    pub pending-words : pending_of layout (pending_in layout net p) ≡ take pending_size p
    unfolding pending_of
    pending-words = ap₂ {A = List ℕ} {B = List ℕ} {C = List ℕ} (λ x y. x ++ y) rows_are counts-are ∙ sym (take-add area_size max_nodes p)

    -- written over it they change nothing
    pub pending_own : over (pending_of layout (pending_in layout net p)) p ≡ p
    pending_own =
        ap₂ {A = List ℕ} {B = ℕ} {C = List ℕ} (λ x n. x ++ drop n p) pending-words (pending-length (widths net.nodes) (pending_in layout net p) pending-fits) ∙ take-append-drop pending_size p

    -- a node that does not alert has no rows
    pub pending_else : (i : ℕ) → alerts net i ≡ false → rows_at (pending_in layout net p) i ≡ []
    unfolding pending_in held_in
    pending_else i e = go (ltb i (length (widths net.nodes))) refl
      where
        go : (t : Bool) → ltb i (length (widths net.nodes)) ≡ t → rows_at (relations_in layout (widths net.nodes) (pending_count layout p) p) i ≡ []
        go true b =
            let k : i < length (widths net.nodes) = ltb-true i (length (widths net.nodes)) b in
            relation_at (widths net.nodes) (pending_count layout p) p i k
            ∙ ap (λ (n : ℕ). held_in layout (get_or (widths net.nodes) i 0) n p i) ((pending_parts net p g).2 i (omega (arith, few)) e)
        go false b =
            get_or-eq_default (relations_in layout (widths net.nodes) (pending_count layout p) p) [] {n = i}
            (rw (relations_length (widths net.nodes) (pending_count layout p) p) (ltb-false i (length (widths net.nodes)) b))

  -- ---- an area of zeros

  module _ (zeros : take pending_size p ≡ replicate pending_size 0) where
    -- the words of nodes without rows are all 0
    zero_words : pending_of layout (replicate (length (widths net.nodes)) []) ≡ replicate pending_size 0
    unfolding pending_of
    zero_words =
        ap₂ {A = List ℕ} {B = List ℕ} {C = List ℕ} (λ x y. x ++ y) (area_none (length (widths net.nodes)) few)
        (ap (padded max_nodes) (lengths_none (length (widths net.nodes))) ∙ padded_none (length (widths net.nodes)) few)
        ∙ replicate-append-replicate {A = ℕ} area_size max_nodes 0

    -- written over the area they change nothing
    zero_own : over (pending_of layout (replicate (length (widths net.nodes)) [])) p ≡ p
    zero_own =
        ap₂ {A = List ℕ} {B = ℕ} {C = List ℕ} (λ x n. x ++ drop n p) (zero_words ∙ sym zeros)
        (pending-length (widths net.nodes) (replicate (length (widths net.nodes)) []) (none_fits (widths net.nodes) few narrow))
        ∙ take-append-drop pending_size p

    -- it is of good form
    pub zeros_good : good_pending layout net p ≡ true
    zeros_good =
        ap (good_pending layout net) (sym zero_own)
        ∙ pending-good net (replicate (length (widths net.nodes)) []) (none_fits (widths net.nodes) few narrow) p
        (λ i e. same_at {A = Relation} [] (length (widths net.nodes)) i)

    -- no node has rows
    pub zeros_none : (i : ℕ) → rows_at (pending_in layout net p) i ≡ []
    zeros_none i =
        ap (λ (l : List ℕ). rows_at (pending_in layout net l) i) (sym zero_own)
        ∙ ap (λ (l : List Relation). rows_at l i) (pending_back net (replicate (length (widths net.nodes)) []) (none_fits (widths net.nodes) few narrow) p)
        ∙ same_at {A = Relation} [] (length (widths net.nodes)) i
