-- Tables of rows of their width, ascending: fresh evaluation and events keep them so. Assumes nothing.
-- each table's rows have its width and ascend, and nothing stands at derived nodes
use mathlib.Core.Bool.{Bool, cond, false, not, true}
use mathlib.Core.List.{List, [], zip_with, ◌∷◌}
use mathlib.Core.Path.{ap, ap₂, refl, ◌∙◌, ◌≡◌}
use Prim.Native.Nat.{◌<◌, suc, zero, ℕ, ◌≤◌, suc-le-suc, zero-le, ◌+◌}
use native.Mathlib.Omega.{arith}
use native.Mathlib.Nat.{le_of_suc-le-suc, le_refl, not-suc-le-zero, add-zero}
use lib.ListN.{drop, get_or, length, length-set, set}
use lib.Seq.{get_or-set_other, get_or-set_same}
use lib.Dec.{ltb}
use borrow.Author.Tests.{ltb-false, ltb-true, le-ltb, lt-ltb}
use Rattle.model.specs.Network.{Node, AllFit, widths, node_at, is_table, left_of, right_of}
use Rattle.laws.proofs.Sets.{Ascending, asc_delete, asc_insert}
use Rattle.model.specs.Batch.{Event, act, act_all, put, remove}
use Rattle.model.specs.Row.{Relation, delete_row, insert_row, max_rows, same_row, Wide}
use Rattle.laws.proofs.Widths.{wide_insert, wide-keep}
use Rattle.laws.proofs.Fresh.{columns-fit, fresh_derived, fresh_table, given_by, inputs_before, width_at}
use Rattle.model.specs.Evaluation.{evaluate, overfull, rows_at}
use Rattle.laws.proofs.ByKind.{on_wide, on_asc}
use Rattle.model.specs.Areas.{tables_of}

pub record Tables (nodes : List Node) (tables : List Relation) : Type 0 where
  pub size : length tables ≡ length nodes
  pub only : tables_of nodes tables ≡ tables
  pub wide : (i : ℕ) → i < length nodes → Wide (get_or (widths nodes) i 0) (get_or tables i [])
  pub asc : (i : ℕ) → i < length nodes → Ascending (get_or tables i [])

-- ---- fresh evaluation

module _ (nodes : List Node) (fit : AllFit nodes) (tables : List Relation) (t : Tables nodes tables) where
  fine_to : (k : ℕ) → k ≤ length nodes → (i : ℕ) → i < k → Wide (get_or (widths nodes) i 0) (rows_at (evaluate nodes tables) i) × Ascending (rows_at (evaluate nodes tables) i)
  fine_to zero g i h = absurd (not-suc-le-zero h)
  fine_to (suc k) g i h = go (is_table (node_at nodes i)) refl (fine_to k (omega arith))
    where
      go : (b : Bool) → is_table (node_at nodes i) ≡ b → ((j : ℕ) → j < k → Wide (get_or (widths nodes) j 0) (rows_at (evaluate nodes tables) j) × Ascending (rows_at (evaluate nodes tables) j)) →
          Wide (get_or (widths nodes) i 0) (rows_at (evaluate nodes tables) i) × Ascending (rows_at (evaluate nodes tables) i)
      go true e ih =
          let same : rows_at (evaluate nodes tables) i ≡ rows_at tables i = fresh_table nodes fit tables i (omega arith) e in
          rw same (t.wide i (omega arith), t.asc i (omega arith))
      go false e ih =
          let n : Node = node_at nodes i in
          let b : (left_of (node_at nodes i) < i) × (right_of (node_at nodes i) < i) = inputs_before nodes fit i (omega arith) e in
          let left : Wide (get_or (widths nodes) (left_of (node_at nodes i)) 0) (rows_at (evaluate nodes tables) (left_of (node_at nodes i)))
          × Ascending (rows_at (evaluate nodes tables) (left_of (node_at nodes i))) = ih (left_of (node_at nodes i)) (omega (arith, b.0)) in
          let right : Wide (get_or (widths nodes) (right_of (node_at nodes i)) 0) (rows_at (evaluate nodes tables) (right_of (node_at nodes i)))
          × Ascending (rows_at (evaluate nodes tables) (right_of (node_at nodes i))) = ih (right_of (node_at nodes i)) (omega (arith, b.1)) in
          let same : rows_at (evaluate nodes tables) i ≡ given_by nodes (evaluate nodes tables) i = fresh_derived nodes fit tables i (omega arith) e in
          rw (same, width_at nodes fit i (omega arith) e) (
            on_wide (get_or (widths nodes) (left_of (node_at nodes i)) 0) (get_or (widths nodes) (right_of (node_at nodes i)) 0) (node_at nodes i)
                (rows_at (evaluate nodes tables) (left_of (node_at nodes i))) (rows_at (evaluate nodes tables) (right_of (node_at nodes i))) e (columns-fit nodes fit i (omega arith) e) left.0
                right.0,
            on_asc (node_at nodes i) (rows_at (evaluate nodes tables) (left_of (node_at nodes i))) (rows_at (evaluate nodes tables) (right_of (node_at nodes i))) left.1,
          )

  pub fresh_wide : (i : ℕ) → i < length nodes → Wide (get_or (widths nodes) i 0) (rows_at (evaluate nodes tables) i)
  fresh_wide i h = (fine_to (length nodes) (le_refl (length nodes)) i h).0

  pub fresh_asc : (i : ℕ) → i < length nodes → Ascending (rows_at (evaluate nodes tables) i)
  fresh_asc i h = (fine_to (length nodes) (le_refl (length nodes)) i h).1

-- no relation above 64 rows
pub none_over : (from : ℕ) (rels : List Relation) → overfull from rels ≡ [] → (i : ℕ) → i < length rels → length (get_or rels i []) ≤ max_rows
none_over from [] e i h = absurd (not-suc-le-zero h)
none_over from (r ∷ rels) e i h = go (ltb max_rows (length r)) refl e (none_over (suc from) rels) i h
  where
    go : (t : Bool) → ltb max_rows (length r) ≡ t → cond t (from ∷ overfull (suc from) rels) (overfull (suc from) rels) ≡ [] →
        (overfull (suc from) rels ≡ [] → (i : ℕ) → i < length rels → length (get_or rels i []) ≤ max_rows) → (j : ℕ) → j < suc (length rels) → length (get_or (r ∷ rels) j []) ≤ max_rows
    go true b f ih j k = absurd (omega (arith, ap length f))
    go false b f ih zero k = ltb-false max_rows (length r) b
    go false b f ih (suc j) k = ih f j (le_of_suc-le-suc k)

-- relations within the limit
pub all_under : (from : ℕ) (rels : List Relation) → ((i : ℕ) → i < length rels → length (get_or rels i []) ≤ max_rows) → overfull from rels ≡ []
all_under from [] h = refl
all_under from (r ∷ rels) h = rw (le-ltb max_rows (length r) (h 0 (suc-le-suc zero-le))) (all_under (suc from) rels (λ i k. h (suc i) (suc-le-suc k)))

-- the first relation above the limit
pub first-over : (from : ℕ) (rels : List Relation) (i : ℕ) → i < length rels → max_rows < length (get_or rels i []) → ((j : ℕ) → j < i → length (get_or rels j []) ≤ max_rows) →
    (rest : List ℕ) × (overfull from rels ≡ (from + i) ∷ rest)
first-over from [] i h o u = absurd (not-suc-le-zero h)
first-over from (r ∷ rels) zero h o u = (overfull (suc from) rels, rw (lt-ltb max_rows (length r) o, add-zero from) refl)
first-over from (r ∷ rels) (suc i) h o u =
    let e : from + suc i ≡ suc from + i = omega arith in
    let later : (rest : List ℕ) × (overfull (suc from) rels ≡ (suc from + i) ∷ rest) = first-over (suc from) rels i (le_of_suc-le-suc h) o (λ j k. u (suc j) (suc-le-suc k)) in
    (later.0, rw (le-ltb max_rows (length r) (u 0 (suc-le-suc zero-le)), e) later.1)

-- ---- events

-- an event on a table, with a row of its width
abbrev pub GoodEvent : List Node → Event → Type 0
GoodEvent nodes (put t r) = (t < length nodes) × (is_table (node_at nodes t) ≡ true) × (length r ≡ get_or (widths nodes) t 0)
GoodEvent nodes (remove t r) = (t < length nodes) × (is_table (node_at nodes t) ≡ true) × (length r ≡ get_or (widths nodes) t 0)

set_only : (nodes : List Node) (tables : List Relation) (t : ℕ) (r : Relation) → is_table (node_at nodes t) ≡ true → tables_of nodes tables ≡ tables → tables_of nodes (set tables t r)
    ≡ set tables t r
unfolding tables_of zip_with
set_only [] tables t r e f = ap (λ (l : List Relation). set l t r) f
set_only (n ∷ nodes) [] t r e f = refl
set_only (n ∷ nodes) (x ∷ tables) zero r e f = ap₂ {A = Relation} {B = List Relation} {C = List Relation} (λ a b. a ∷ b) (rw e) (ap (drop 1) f)
set_only (n ∷ nodes) (x ∷ tables) (suc t) r e f = ap₂ {A = Relation} {B = List Relation} {C = List Relation} (λ a b. a ∷ b) (ap (λ (l : List Relation). get_or l 0 []) f)
    (set_only nodes tables t r e (ap (drop 1) f))

-- one table changed to rows of its width that ascend
change_table : (nodes : List Node) (tables : List Relation) (t : ℕ) (r : Relation) → t < length nodes → is_table (node_at nodes t) ≡ true → Wide (get_or (widths nodes) t 0) r → Ascending r →
    Tables nodes tables → Tables nodes (set tables t r)
change_table nodes tables t r h e w a ts =
    record {
      size = length-set tables t r ∙ ts.size;
      only = set_only nodes tables t r e ts.only;
      wide = λ i k. go_wide i k (ltb i t) (ltb t i) refl refl;
      asc = λ i k. go_asc i k (ltb i t) (ltb t i) refl refl;
    }
  where
    same_at : (i : ℕ) → ltb i t ≡ false → ltb t i ≡ false → i ≡ t
    same_at i x y = let p : t ≤ i = ltb-false i t x in let q : i ≤ t = ltb-false t i y in omega arith

    here : get_or (set tables t r) t [] ≡ r
    here = get_or-set_same tables t r [] (rw ts.size h)

    go_wide : (i : ℕ) → i < length nodes → (x y : Bool) → ltb i t ≡ x → ltb t i ≡ y → Wide (get_or (widths nodes) i 0) (get_or (set tables t r) i [])
    go_wide i k true y p q = let n : i < t = ltb-true i t p in rw (get_or-set_other tables t i r [] (omega arith)) (ts.wide i k)
    go_wide i k false true p q = let n : t < i = ltb-true t i q in rw (get_or-set_other tables t i r [] (omega arith)) (ts.wide i k)
    go_wide i k false false p q = rw (same_at i p q, here) w

    go_asc : (i : ℕ) → i < length nodes → (x y : Bool) → ltb i t ≡ x → ltb t i ≡ y → Ascending (get_or (set tables t r) i [])
    go_asc i k true y p q = let n : i < t = ltb-true i t p in rw (get_or-set_other tables t i r [] (omega arith)) (ts.asc i k)
    go_asc i k false true p q = let n : t < i = ltb-true t i q in rw (get_or-set_other tables t i r [] (omega arith)) (ts.asc i k)
    go_asc i k false false p q = rw (same_at i p q, here) a

pub act-tables : (nodes : List Node) (e : Event) (tables : List Relation) → GoodEvent nodes e → Tables nodes tables → Tables nodes (act e tables)
unfolding act delete_row
act-tables nodes (put t r) tables g ts =
    change_table nodes tables t (insert_row r (get_or tables t [])) g.0 g.1 (wide_insert (get_or (widths nodes) t 0) r (get_or tables t []) g.2 (ts.wide t g.0))
    (asc_insert r (get_or tables t []) (ts.asc t g.0)) ts
act-tables nodes (remove t r) tables g ts =
    change_table nodes tables t (delete_row r (get_or tables t [])) g.0 g.1 (wide-keep (get_or (widths nodes) t 0) (λ s. not (same_row s r)) (get_or tables t []) (ts.wide t g.0))
    (asc_delete r (get_or tables t []) (ts.asc t g.0)) ts

-- every event of a list is on a table
abbrev pub GoodEvents : List Node → List Event → Type 0
GoodEvents nodes [] = Unit {0}
GoodEvents nodes (e ∷ events) = GoodEvent nodes e × GoodEvents nodes events

pub act_all-tables : (nodes : List Node) (events : List Event) (tables : List Relation) → GoodEvents nodes events → Tables nodes tables → Tables nodes (act_all events tables)
unfolding act_all
act_all-tables nodes [] tables g ts = ts
act_all-tables nodes (e ∷ events) tables g ts = act_all-tables nodes events (act e tables) g.1 (act-tables nodes e tables g.0 ts)
