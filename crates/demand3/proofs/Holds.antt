-- Areas with a state in their named words: they are of good form, coherent, and hold that state. Assumes nothing.
-- a state as opening and batches leave it
use mathlib.Core.Bool.{Bool, cond, false, true}
use mathlib.Core.List.{List, [], map, zip_with, ◌∷◌, ◌++◌}
use mathlib.Core.Path.{ap, ap₂, refl, sym, ◌∙◌, ◌≡◌}
use Prim.Native.Nat.{◌+◌, ◌<◌, suc, suc-le-suc, zero-le, ℕ, ◌≤◌}
use native.Mathlib.Nat.{add-zero, zero-add}
use native.Mathlib.Omega.{arith}
use lib.ListN.{drop, get_or, length, length-append, length-map}
use lib.Dec.{eqb, leb, ltb}
use lib.Seq.{ext_get_or, drop_at}
use borrow.Author.Tests.{le-leb, lt-ltb, ltb-false, ltb-true}
use Rattle.model.specs.Network.{Node, AllFit, widths, is_table, node_at}
use Rattle.laws.proofs.All.{below_all}
use Rattle.model.specs.Areas.{Areas, batch_number, changes_in, gained_count, good_area, good_form, good_stamps, good_worked, head_of, holding, layout, long_enough, lost_count, padded}
use Rattle.model.specs.Areas.{row_count, rows_in, stamp_at, tables_of, worked_at, worked_count, HoldsState, coherent, same_relations, state_in, over, area_of}
use Rattle.model.specs.Delta.{Change}
use Rattle.states.specs.Fitting.{Fitting}
use Rattle.states.proofs.Written.{written_back, written_good, written_long, area_length}
use Rattle.model.specs.Row.{Relation, all_of, count_from, numbers_below, max_nodes}
use Rattle.model.specs.Station.{State}
use Rattle.laws.proofs.Sets.{and_both}
use Rattle.model.specs.Evaluation.{evaluate, rows_at}
use Rattle.areas.proofs.Good.{form_last, long_last}
use Rattle.states.proofs.Head.{head-length, padded_at, padded-length, padded_zero, word_b, word_first, word_p, word_q, word_r, word_s, word_t, head-size}
use Rattle.laws.proofs.Fits.{length-widths}
use Rattle.laws.proofs.Fresh.{fresh_table, same_refl, tables_at}
use Rattle.laws.proofs.Build.{length-evaluate}
use Rattle.model.specs.Areas.{area_size, head_words}
use Rattle.states.proofs.Fitted.{only_length}
use Rattle.states.proofs.Changes.{map_twice, lengths_at}

pub record Proper (nodes : List Node) (s : State) : Type 0 where
  pub tables-size : length s.tables ≡ length nodes
  pub tables_only : tables_of nodes s.tables ≡ s.tables
  pub rows : Fitting (widths nodes) (evaluate nodes s.tables)
  pub gained : Fitting (widths nodes) (map (λ c. c.gained) s.changes)
  pub lost : Fitting (widths nodes) (map (λ c. c.lost) s.changes)
  pub stamps-size : length s.stamps ≡ length nodes
  pub stamps-low : (i : ℕ) → get_or s.stamps i 0 ≤ s.number
  pub worked-few : length s.worked ≤ length nodes
  pub worked-low : (k : ℕ) → k < length s.worked → get_or s.worked k 0 < length nodes

-- ---- lists

pub zip_changes : (cs : List Change) → zip_with (λ g l. record { gained = g; lost = l }) (map (λ c. c.gained) cs) (map (λ c. c.lost) cs) ≡ cs
unfolding zip_with
zip_changes [] = refl
zip_changes (c ∷ cs) = ap (λ (l : List Change). c ∷ l) (zip_changes cs)

-- a list is what stands at its indices
map_get_d : (f : ℕ → ℕ) (from : ℕ) (l : List ℕ) → ((k : ℕ) → k < length l → f (from + k) ≡ get_or l k 0) → map f (count_from from (length l)) ≡ l
map_get_d f from [] h = refl
map_get_d f from (x ∷ l) h =
    ap₂ {A = ℕ} {B = List ℕ} {C = List ℕ} (λ y m. y ∷ m) (ap f (sym (add-zero from)) ∙ h 0 (suc-le-suc zero-le))
    (map_get_d f (suc from) l (λ k g. let e : suc from + k ≡ from + suc k = omega arith in ap f e ∙ h (suc k) (suc-le-suc g)))

-- evaluation leaves the tables as they are
pub tables_back : (nodes : List Node) (tables : List Relation) → length tables ≡ length nodes → tables_of nodes tables ≡ tables → AllFit nodes →
    tables_of nodes (evaluate nodes tables) ≡ tables
tables_back nodes tables tables-size tables_only fit =
    let long : length (evaluate nodes tables) ≡ length nodes = length-evaluate nodes tables in
    let size : length (tables_of nodes (evaluate nodes tables)) ≡ length nodes = only_length nodes (evaluate nodes tables) long in
    ext_get_or [] (tables_of nodes (evaluate nodes tables)) (tables_of nodes tables) (size ∙ sym (only_length nodes tables tables-size))
    (λ i b.
    let k : i < length nodes = rw size at b in
    tables_at nodes (evaluate nodes tables) i long k ∙ go i k (is_table (node_at nodes i)) refl ∙ sym (tables_at nodes tables i tables-size k))
    ∙ tables_only
  where
    go : (i : ℕ) → i < length nodes → (t : Bool) → is_table (node_at nodes i) ≡ t → cond (is_table (node_at nodes i)) (rows_at (evaluate nodes tables) i) []
        ≡ cond (is_table (node_at nodes i)) (rows_at tables i) []
    go i k true e = ap (λ (r : Relation). cond (is_table (node_at nodes i)) r []) (fresh_table nodes fit tables i k e)
    go i k false e = rw e

module _ (nodes : List Node) (s : State) (p : Proper nodes s) (before : Areas) where
  abbrev rels : List Relation
  rels = evaluate nodes s.tables

  abbrev gs : List Relation
  gs = map (λ c. c.gained) s.changes

  abbrev ls : List Relation
  ls = map (λ c. c.lost) s.changes

  abbrev h : Areas
  h = holding layout nodes s before

  few : length nodes ≤ max_nodes
  few = omega (arith, p.rows.few, length-widths nodes)

  ws_size : length (widths nodes) ≡ length nodes
  ws_size = length-widths nodes

  -- ---- the head

  abbrev c1 : List ℕ
  c1 = padded max_nodes (map length (evaluate nodes s.tables))

  abbrev c2 : List ℕ
  c2 = padded max_nodes s.stamps

  abbrev c3 : List ℕ
  c3 = padded max_nodes (map (λ c. length c.gained) s.changes)

  abbrev c4 : List ℕ
  c4 = padded max_nodes (map (λ c. length c.lost) s.changes)

  abbrev c5 : List ℕ
  c5 = padded max_nodes s.worked

  counted : (g : Change → Relation) → length (map g s.changes) ≡ length (widths nodes) → length (map (λ c. length (g c)) s.changes) ≡ length nodes
  counted g e = ap length (map_twice g s.changes) ∙ length-map (map g s.changes) length ∙ e ∙ ws_size

  n1 : length (map length (evaluate nodes s.tables)) ≡ length nodes
  n1 = length-map (evaluate nodes s.tables) length ∙ p.rows.size ∙ ws_size

  n3 : length (map (λ c. length c.gained) s.changes) ≡ length nodes
  n3 = counted (λ c. c.gained) p.gained.size

  n4 : length (map (λ c. length c.lost) s.changes) ≡ length nodes
  n4 = counted (λ c. c.lost) p.lost.size

  k1 : length c1 ≡ max_nodes
  k1 = padded-length max_nodes (map length (evaluate nodes s.tables)) (omega (arith, n1, few))

  k2 : length c2 ≡ max_nodes
  k2 = padded-length max_nodes s.stamps (omega (arith, p.stamps-size, few))

  k3 : length c3 ≡ max_nodes
  k3 = padded-length max_nodes (map (λ c. length c.gained) s.changes) (omega (arith, n3, few))

  k4 : length c4 ≡ max_nodes
  k4 = padded-length max_nodes (map (λ c. length c.lost) s.changes) (omega (arith, n4, few))

  k5 : length c5 ≡ max_nodes
  k5 = padded-length max_nodes s.worked (omega (arith, p.worked-few, few))

  abbrev rest : List ℕ
  rest = drop (length (head_of (evaluate nodes s.tables) s)) before.head

  pub number_is : batch_number (holding layout nodes s before).head ≡ s.number
  unfolding holding head_of
  number_is = word_first (s.number ∷ []) c1 c2 c3 c4 (length s.worked ∷ []) c5 rest refl k1 k2 k3 k4 refl k5

  count_word : (i : ℕ) → i < max_nodes → row_count (holding layout nodes s before).head i ≡ get_or c1 i 0
  unfolding holding head_of
  count_word i b = word_p (s.number ∷ []) c1 c2 c3 c4 (length s.worked ∷ []) c5 rest refl k1 k2 k3 k4 refl k5 i b

  pub stamp_word : (i : ℕ) → i < max_nodes → stamp_at (holding layout nodes s before).head i ≡ get_or c2 i 0
  unfolding holding head_of
  stamp_word i b = word_q (s.number ∷ []) c1 c2 c3 c4 (length s.worked ∷ []) c5 rest refl k1 k2 k3 k4 refl k5 i b

  gained_word : (i : ℕ) → i < max_nodes → gained_count (holding layout nodes s before).head i ≡ get_or c3 i 0
  unfolding holding head_of
  gained_word i b = word_r (s.number ∷ []) c1 c2 c3 c4 (length s.worked ∷ []) c5 rest refl k1 k2 k3 k4 refl k5 i b

  lost_word : (i : ℕ) → i < max_nodes → lost_count (holding layout nodes s before).head i ≡ get_or c4 i 0
  unfolding holding head_of
  lost_word i b = word_s (s.number ∷ []) c1 c2 c3 c4 (length s.worked ∷ []) c5 rest refl k1 k2 k3 k4 refl k5 i b

  pub worked_is_lem : worked_count (holding layout nodes s before).head ≡ length s.worked
  unfolding holding head_of
  worked_is_lem = word_b (s.number ∷ []) c1 c2 c3 c4 (length s.worked ∷ []) c5 rest refl k1 k2 k3 k4 refl k5

  pub worked_word : (k : ℕ) → k < max_nodes → worked_at (holding layout nodes s before).head k ≡ get_or c5 k 0
  unfolding holding head_of
  worked_word k b = word_t (s.number ∷ []) c1 c2 c3 c4 (length s.worked ∷ []) c5 rest refl k1 k2 k3 k4 refl k5 k b

  -- ---- counts

  pub rows-count : (i : ℕ) → i < length (widths nodes) → row_count (holding layout nodes s before).head i ≡ length (get_or (evaluate nodes s.tables) i [])
  rows-count i b = count_word i (omega (arith, ws_size, few)) ∙ padded_at (map length (evaluate nodes s.tables)) i (omega (arith, n1, ws_size))
      ∙ lengths_at (evaluate nodes s.tables) i

  pub rows_none : (i : ℕ) → length (widths nodes) ≤ i → i < max_nodes → row_count (holding layout nodes s before).head i ≡ 0
  rows_none i b k = count_word i k ∙ padded_zero max_nodes (map length (evaluate nodes s.tables)) i (omega (arith, n1, ws_size)) k

  change_count : (g : Change → Relation) (i : ℕ) → length (map (λ c. length (g c)) s.changes) ≡ length nodes → i < length (widths nodes) →
      get_or (padded max_nodes (map (λ c. length (g c)) s.changes)) i 0 ≡ length (get_or (map g s.changes) i [])
  change_count g i n b = padded_at (map (λ c. length (g c)) s.changes) i (omega (arith, n, ws_size)) ∙ ap (λ (l : List ℕ). get_or l i 0) (map_twice g s.changes)
      ∙ lengths_at (map g s.changes) i

  pub gained-count : (i : ℕ) → i < length (widths nodes) → gained_count (holding layout nodes s before).head i ≡ length (get_or (map (λ c. c.gained) s.changes) i [])
  gained-count i b = gained_word i (omega (arith, ws_size, few)) ∙ change_count (λ c. c.gained) i n3 b

  pub gained_none : (i : ℕ) → length (widths nodes) ≤ i → i < max_nodes → gained_count (holding layout nodes s before).head i ≡ 0
  gained_none i b k = gained_word i k ∙ padded_zero max_nodes (map (λ c. length c.gained) s.changes) i (omega (arith, n3, ws_size)) k

  pub lost-count : (i : ℕ) → i < length (widths nodes) → lost_count (holding layout nodes s before).head i ≡ length (get_or (map (λ c. c.lost) s.changes) i [])
  lost-count i b = lost_word i (omega (arith, ws_size, few)) ∙ change_count (λ c. c.lost) i n4 b

  pub lost_none : (i : ℕ) → length (widths nodes) ≤ i → i < max_nodes → lost_count (holding layout nodes s before).head i ≡ 0
  lost_none i b k = lost_word i k ∙ padded_zero max_nodes (map (λ c. length c.lost) s.changes) i (omega (arith, n4, ws_size)) k

  -- ---- good form

  good-stamps : good_stamps (length nodes) (holding layout nodes s before).head ≡ true
  unfolding good_stamps
  good-stamps = below_all (λ i. leb (stamp_at (holding layout nodes s before).head i) (cond (ltb i (length nodes)) (batch_number (holding layout nodes s before).head) 0)) 0 max_nodes
      (λ i b. rw (zero-add i) (go i b (ltb i (length nodes)) refl))
    where
      go : (i : ℕ) → i < max_nodes → (t : Bool) → ltb i (length nodes) ≡ t →
          leb (stamp_at (holding layout nodes s before).head i) (cond t (batch_number (holding layout nodes s before).head) 0) ≡ true
      go i b true e =
          let k : i < length nodes = ltb-true i (length nodes) e in
          rw (stamp_word i b ∙ padded_at s.stamps i (rw p.stamps-size k), number_is) (le-leb (get_or s.stamps i 0) s.number (p.stamps-low i))
      go i b false e = rw (stamp_word i b ∙ padded_zero max_nodes s.stamps i (rw p.stamps-size (ltb-false i (length nodes) e)) b)

  good-worked : good_worked (length nodes) (holding layout nodes s before).head ≡ true
  unfolding good_worked
  good-worked =
      and_both (leb (worked_count (holding layout nodes s before).head) (length nodes))
      (all_of (λ k. cond (ltb k (worked_count (holding layout nodes s before).head)) (ltb (worked_at (holding layout nodes s before).head k) (length nodes))
      (eqb (worked_at (holding layout nodes s before).head k) 0)) (numbers_below max_nodes))
      (rw worked_is_lem (le-leb (length s.worked) (length nodes) p.worked-few))
      (below_all (λ k. cond (ltb k (worked_count (holding layout nodes s before).head)) (ltb (worked_at (holding layout nodes s before).head k) (length nodes))
      (eqb (worked_at (holding layout nodes s before).head k) 0)) 0 max_nodes (λ k b. rw (zero-add k, worked_is_lem) (go k b (ltb k (length s.worked)) refl)))
    where
      go : (k : ℕ) → k < max_nodes → (t : Bool) → ltb k (length s.worked) ≡ t →
          cond t (ltb (worked_at (holding layout nodes s before).head k) (length nodes)) (eqb (worked_at (holding layout nodes s before).head k) 0) ≡ true
      go k b true e =
          let i : k < length s.worked = ltb-true k (length s.worked) e in
          rw (worked_word k b ∙ padded_at s.worked k i) (lt-ltb (get_or s.worked k 0) (length nodes) (p.worked-low k i))
      go k b false e = rw (worked_word k b ∙ padded_zero max_nodes s.worked k (ltb-false k (length s.worked) e) b)

  pub holding-good : good_form layout nodes (holding layout nodes s before) ≡ true
  unfolding good_form holding
  holding-good =
      let r : good_area layout (widths nodes) (row_count (holding layout nodes s before).head) (holding layout nodes s before).rows
      ≡ true = written_good (widths nodes) (evaluate nodes s.tables) p.rows before.rows (row_count (holding layout nodes s before).head) rows-count rows_none in
      let g : good_area layout (widths nodes) (gained_count (holding layout nodes s before).head) (holding layout nodes s before).gained
      ≡ true = written_good (widths nodes) (map (λ c. c.gained) s.changes) p.gained before.gained (gained_count (holding layout nodes s before).head) gained-count
      gained_none in
      let l : good_area layout (widths nodes) (lost_count (holding layout nodes s before).head) (holding layout nodes s before).lost
      ≡ true = written_good (widths nodes) (map (λ c. c.lost) s.changes) p.lost before.lost (lost_count (holding layout nodes s before).head) lost-count lost_none in
      form_last (good_area layout (widths nodes) (row_count (holding layout nodes s before).head) (holding layout nodes s before).rows)
      (good_area layout (widths nodes) (gained_count (holding layout nodes s before).head) (holding layout nodes s before).gained)
      (good_area layout (widths nodes) (lost_count (holding layout nodes s before).head) (holding layout nodes s before).lost)
      (good_stamps (length nodes) (holding layout nodes s before).head) (good_worked (length nodes) (holding layout nodes s before).head) r g l good-stamps
      ∙ good-worked

  pub holding-long : long_enough layout (holding layout nodes s before) ≡ true
  unfolding long_enough holding head_of
  holding-long =
      long_last (leb area_size (length (holding layout nodes s before).rows)) (leb area_size (length (holding layout nodes s before).gained))
      (leb area_size (length (holding layout nodes s before).lost)) (leb head_words (length (holding layout nodes s before).head))
      (le-leb area_size (length (holding layout nodes s before).rows) (written_long (widths nodes) (evaluate nodes s.tables) p.rows before.rows))
      (le-leb area_size (length (holding layout nodes s before).gained) (written_long (widths nodes) (map (λ c. c.gained) s.changes) p.gained before.gained))
      (le-leb area_size (length (holding layout nodes s before).lost) (written_long (widths nodes) (map (λ c. c.lost) s.changes) p.lost before.lost))
      ∙ le-leb head_words (length (holding layout nodes s before).head)
      (omega (
        arith,
        head-length (s.number ∷ []) c1 c2 c3 c4 (length s.worked ∷ []) c5 rest refl k1 k2 k3 k4 refl k5,
        length-append (head_of (evaluate nodes s.tables) s) rest,
      ))

  -- ---- the state that they hold

  pub holding-rows : rows_in layout nodes (holding layout nodes s before) ≡ evaluate nodes s.tables
  unfolding rows_in holding
  holding-rows = written_back (widths nodes) (evaluate nodes s.tables) p.rows before.rows (row_count (holding layout nodes s before).head) rows-count

  pub holding-changes : changes_in layout nodes (holding layout nodes s before) ≡ s.changes
  unfolding changes_in holding
  holding-changes =
      ap₂ {A = List Relation} {B = List Relation} {C = List Change} (λ x y. zip_with (λ g l. record { gained = g; lost = l }) x y)
      (written_back (widths nodes) (map (λ c. c.gained) s.changes) p.gained before.gained (gained_count (holding layout nodes s before).head) gained-count)
      (written_back (widths nodes) (map (λ c. c.lost) s.changes) p.lost before.lost (lost_count (holding layout nodes s before).head) lost-count)
      ∙ zip_changes s.changes

  holding-stamps : map (stamp_at (holding layout nodes s before).head) (numbers_below (length nodes)) ≡ s.stamps
  holding-stamps =
      ap (λ (n : ℕ). map (stamp_at (holding layout nodes s before).head) (numbers_below n)) (sym p.stamps-size)
      ∙ map_get_d (stamp_at (holding layout nodes s before).head) 0 s.stamps
      (λ k b. ap (stamp_at (holding layout nodes s before).head) (zero-add k) ∙ stamp_word k (omega (arith, p.stamps-size, few)) ∙ padded_at s.stamps k b)

  holding-worked : map (worked_at (holding layout nodes s before).head) (numbers_below (worked_count (holding layout nodes s before).head)) ≡ s.worked
  holding-worked =
      ap (λ (n : ℕ). map (worked_at (holding layout nodes s before).head) (numbers_below n)) worked_is_lem
      ∙ map_get_d (worked_at (holding layout nodes s before).head) 0 s.worked
      (λ k b. ap (worked_at (holding layout nodes s before).head) (zero-add k) ∙ worked_word k (omega (arith, p.worked-few, few)) ∙ padded_at s.worked k b)

  -- ---- the tables

  -- evaluation leaves the tables as they are
  fresh_tables : AllFit nodes → tables_of nodes (evaluate nodes s.tables) ≡ s.tables
  fresh_tables fit = tables_back nodes s.tables p.tables-size p.tables_only fit

  pub holding-state : AllFit nodes → state_in layout nodes (holding layout nodes s before) ≡ s
  unfolding state_in
  holding-state fit =
      let tables : tables_of nodes (rows_in layout nodes (holding layout nodes s before)) ≡ s.tables = ap (tables_of nodes) holding-rows ∙ fresh_tables fit in
      λ i. record { tables = tables i; number = number_is i; stamps = holding-stamps i; changes = holding-changes i; worked = holding-worked i }

  pub holding-coherent : AllFit nodes → coherent layout nodes (holding layout nodes s before) ≡ true
  unfolding coherent
  holding-coherent fit =
      let fresh : evaluate nodes (tables_of nodes (rows_in layout nodes (holding layout nodes s before)))
      ≡ evaluate nodes s.tables = ap (evaluate nodes) (ap (tables_of nodes) holding-rows ∙ fresh_tables fit) in
      and_both (good_form layout nodes (holding layout nodes s before))
      (same_relations (rows_in layout nodes (holding layout nodes s before)) (evaluate nodes (tables_of nodes (rows_in layout nodes (holding layout nodes s before))))) holding-good
      (ap₂ {A = List Relation} {B = List Relation} {C = Bool} (λ x y. same_relations x y) holding-rows fresh ∙ same_refl (evaluate nodes s.tables))

  -- "the areas hold the plain station's state"
  pub holds-state : AllFit nodes → HoldsState layout nodes (holding layout nodes s before) s
  holds-state fit =
      let same : state_in layout nodes (holding layout nodes s before) ≡ s = holding-state fit in
      record {
        form = holding-good;
        rows = holding-rows;
        number = ap (λ (x : State). x.number) same;
        stamps = ap (λ (x : State). x.stamps) same;
        changes = ap (λ (x : State). x.changes) same;
        worked = ap (λ (x : State). x.worked) same;
      }

-- ---- one state written over another

over-over : (first second before : List ℕ) (n : ℕ) → length first ≡ n → length second ≡ n → over second (over first before) ≡ over second before
over-over first second before n e f =
    ap (λ (l : List ℕ). second ++ l) (drop_at first (drop (length first) before) (length second) (e ∙ sym f) ∙ ap (λ (k : ℕ). drop k before) (e ∙ sym f))

module _ (nodes : List Node) (s : State) (p : Proper nodes s) where
  pub head-words : length (head_of (evaluate nodes s.tables) s) ≡ head_words
  head-words =
      let few : length nodes ≤ max_nodes = omega (arith, p.rows.few, length-widths nodes) in
      let changes : length s.changes ≡ length nodes = sym (length-map s.changes (λ c. c.gained)) ∙ p.gained.size ∙ length-widths nodes in
      head-size (evaluate nodes s.tables) s (omega (arith, p.rows.size, p.rows.few)) (omega (arith, p.stamps-size, few)) (omega (arith, changes, few))
      (omega (arith, p.worked-few, few))

-- a state written over another leaves nothing of it
pub holding_again : (nodes : List Node) (s t : State) → Proper nodes s → Proper nodes t → (before : Areas) → holding layout nodes t (holding layout nodes s before)
    ≡ holding layout nodes t before
unfolding holding
holding_again nodes s t p q before =
    λ i.
    record {
      rows = over-over (area_of layout (evaluate nodes s.tables)) (area_of layout (evaluate nodes t.tables)) before.rows area_size
          (area_length (widths nodes) (evaluate nodes s.tables) p.rows) (area_length (widths nodes) (evaluate nodes t.tables) q.rows) i;
      gained = over-over (area_of layout (map (λ c. c.gained) s.changes)) (area_of layout (map (λ c. c.gained) t.changes)) before.gained area_size
          (area_length (widths nodes) (map (λ c. c.gained) s.changes) p.gained) (area_length (widths nodes) (map (λ c. c.gained) t.changes) q.gained) i;
      lost = over-over (area_of layout (map (λ c. c.lost) s.changes)) (area_of layout (map (λ c. c.lost) t.changes)) before.lost area_size
          (area_length (widths nodes) (map (λ c. c.lost) s.changes) p.lost) (area_length (widths nodes) (map (λ c. c.lost) t.changes) q.lost) i;
      head = over-over (head_of (evaluate nodes s.tables) s) (head_of (evaluate nodes t.tables) t) before.head head_words (head-words nodes s p) (head-words nodes t q) i;
    }
