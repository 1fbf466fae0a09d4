-- Fresh evaluation node by node: relations are the fresh evaluation of their tables exactly if each derived node's rows are what its kind gives from its inputs' rows.
-- Assumes nothing.
use mathlib.Core.Bool.{Bool, cond, false, true, true≢false}
use mathlib.Core.List.{List, [], zip_with, ◌∷◌}
use mathlib.Core.Path.{ap, ap₂, refl, sym, ◌∙◌, ◌≡◌}
use Prim.Native.Nat.{◌<◌, suc, zero, ℕ, ◌≤◌}
use native.Mathlib.Omega.{arith}
use native.Mathlib.Nat.{le_of_suc-le-suc, le_refl, not-suc-le-zero, zero-add}
use lib.Seq.{ext_get_or, get_or-take, length-take-le}
use lib.ListN.{get_or, length, take}
use Rattle.laws.proofs.All.{all_below, below_all}
use Rattle.model.specs.Network.{Node, node_at, is_table, AllFit, widths, build, width_of, width_on}
use Rattle.model.specs.Row.{Relation, all_of, numbers_below, same_rows}
use Rattle.laws.proofs.Sets.{and_both, and_first, and_second, same_rows_eq, same_rows_refl, bool_same}
use Rattle.model.specs.Evaluation.{evaluate, rows_at}
use Rattle.laws.proofs.Build.{evaluate_at, length-evaluate, build_at}
use Rattle.model.specs.Network.{evaluate_on, fits_on, left_of, right_of}
use Rattle.laws.proofs.Inputs.{inputs_fit, on_inputs, table_own}
use Rattle.laws.proofs.Fits.{length-widths}
use Rattle.model.specs.Areas.{same_relations, tables_of}

-- ---- lists of relations

pub same_refl : (l : List Relation) → same_relations l l ≡ true
same_refl [] = refl
same_refl (r ∷ l) = and_both (same_rows r r) (same_relations l l) (same_rows_refl r) (same_refl l)

pub same_eq : (l m : List Relation) → same_relations l m ≡ true → l ≡ m
same_eq [] [] e = refl
same_eq [] (s ∷ m) e = absurd (true≢false (sym e))
same_eq (r ∷ l) [] e = absurd (true≢false (sym e))
same_eq (r ∷ l) (s ∷ m) e =
    λ i. same_rows_eq r s (and_first (same_rows r s) (same_relations l m) e) i ∷ same_eq l m (and_second (same_rows r s) (same_relations l m) e) i

pub tables_at : (nodes : List Node) (rels : List Relation) (j : ℕ) → length rels ≡ length nodes → j < length nodes → rows_at (tables_of nodes rels) j
    ≡ cond (is_table (node_at nodes j)) (rows_at rels j) []
unfolding tables_of zip_with
tables_at [] rels j e h = absurd (not-suc-le-zero h)
tables_at (n ∷ nodes) [] j e h = absurd (omega arith)
tables_at (n ∷ nodes) (r ∷ rels) zero e h = refl
tables_at (n ∷ nodes) (r ∷ rels) (suc j) e h = tables_at nodes rels j (omega arith) (le_of_suc-le-suc h)

-- ---- one node

-- what node j's kind gives from its inputs' rows
abbrev pub given_by : List Node → List Relation → ℕ → Relation
given_by nodes rels j = evaluate_on (node_at nodes j) (rows_at rels (left_of (node_at nodes j))) (rows_at rels (right_of (node_at nodes j)))

module _ (nodes : List Node) (fit : AllFit nodes) where
  -- a derived node's inputs come before it
  pub inputs_before : (j : ℕ) → j < length nodes → is_table (node_at nodes j) ≡ false → (left_of (node_at nodes j) < j) × (right_of (node_at nodes j) < j)
  inputs_before j h e =
      let size : length (take j (widths nodes)) ≡ j = length-take-le j (widths nodes) (rw (length-widths nodes) (omega arith)) in
      let f : (left_of (node_at nodes j) < length (take j (widths nodes))) × (right_of (node_at nodes j) < length (take j (widths nodes)))
      × (fits_on (get_or (take j (widths nodes)) (left_of (node_at nodes j)) 0) (get_or (take j (widths nodes)) (right_of (node_at nodes j)) 0) (node_at nodes j) ≡ true) =
      inputs_fit (take j (widths nodes)) (node_at nodes j) e (fit j h) in
      (omega (arith, f.0, size), omega (arith, f.1, size))

  pub columns-fit : (j : ℕ) → j < length nodes → is_table (node_at nodes j) ≡ false →
      fits_on (get_or (widths nodes) (left_of (node_at nodes j)) 0) (get_or (widths nodes) (right_of (node_at nodes j)) 0) (node_at nodes j) ≡ true
  columns-fit j h e =
      let b : (left_of (node_at nodes j) < j) × (right_of (node_at nodes j) < j) = inputs_before j h e in
      rw (← get_or-take j (widths nodes) (left_of (node_at nodes j)) 0 b.0, ← get_or-take j (widths nodes) (right_of (node_at nodes j)) 0 b.1)
      (inputs_fit (take j (widths nodes)) (node_at nodes j) e (fit j h)).2

  -- a derived node's width, from that of its first input
  pub width_at : (j : ℕ) → j < length nodes → is_table (node_at nodes j) ≡ false → get_or (widths nodes) j 0 ≡ width_on (get_or (widths nodes) (left_of (node_at nodes j)) 0) (node_at nodes j)
  unfolding widths
  width_at j h e =
      build_at width_of j nodes 0 h
      ∙ ap (λ (x : ℕ). width_on x (node_at nodes j)) (get_or-take j (build width_of nodes) (left_of (node_at nodes j)) 0 (inputs_before j h e).0)

  module _ (tables : List Relation) where
    abbrev fresh : List Relation
    fresh = evaluate nodes tables

    pub fresh_table : (j : ℕ) → j < length nodes → is_table (node_at nodes j) ≡ true → rows_at (evaluate nodes tables) j ≡ rows_at tables j
    fresh_table j h e = evaluate_at j nodes tables h ∙ table_own (node_at nodes j) (rows_at tables j) (take j (evaluate nodes tables)) e

    pub fresh_derived : (j : ℕ) → j < length nodes → is_table (node_at nodes j) ≡ false → rows_at (evaluate nodes tables) j ≡ given_by nodes (evaluate nodes tables) j
    fresh_derived j h e =
        let b : (left_of (node_at nodes j) < j) × (right_of (node_at nodes j) < j) = inputs_before j h e in
        evaluate_at j nodes tables h
        ∙ on_inputs (node_at nodes j) (rows_at tables j) (take j (evaluate nodes tables)) e
        ∙ ap₂ {A = Relation} {B = Relation} {C = Relation} (λ x y. evaluate_on (node_at nodes j) x y) (get_or-take j (evaluate nodes tables) (left_of (node_at nodes j)) [] b.0)
        (get_or-take j (evaluate nodes tables) (right_of (node_at nodes j)) [] b.1)

  module _ (rels : List Relation) (size : length rels ≡ length nodes) where
    -- node j is a table, or its rows are what its kind gives
    abbrev pub agree_at : ℕ → Bool
    agree_at j = cond (is_table (node_at nodes j)) true (same_rows (rows_at rels j) (given_by nodes rels j))

    fresh_own : (j : ℕ) → j < length nodes → is_table (node_at nodes j) ≡ true → rows_at (evaluate nodes (tables_of nodes rels)) j ≡ rows_at rels j
    fresh_own j h e = fresh_table (tables_of nodes rels) j h e ∙ tables_at nodes rels j size h ∙ rw e

    -- the first nodes that agree hold their fresh evaluation
    agreed_to : (k : ℕ) → k ≤ length nodes → ((j : ℕ) → j < length nodes → agree_at j ≡ true) → (j : ℕ) → j < k → rows_at rels j ≡ rows_at (evaluate nodes (tables_of nodes rels)) j
    agreed_to zero g a j h = absurd (not-suc-le-zero h)
    agreed_to (suc k) g a j h = go (is_table (node_at nodes j)) refl (agreed_to k (omega arith) a)
      where
        go : (t : Bool) → is_table (node_at nodes j) ≡ t → ((i : ℕ) → i < k → rows_at rels i ≡ rows_at (evaluate nodes (tables_of nodes rels)) i) →
            rows_at rels j ≡ rows_at (evaluate nodes (tables_of nodes rels)) j
        go true e ih = sym (fresh_own j (omega arith) e)
        go false e ih =
            let b : (left_of (node_at nodes j) < j) × (right_of (node_at nodes j) < j) = inputs_before j (omega arith) e in
            let same : same_rows (rows_at rels j) (given_by nodes rels j) ≡ true = sym (ap (λ (t : Bool). cond t true (same_rows (rows_at rels j) (given_by nodes rels j))) e)
            ∙ a j (omega arith) in
            same_rows_eq (rows_at rels j) (given_by nodes rels j) same
            ∙ ap₂ {A = Relation} {B = Relation} {C = Relation} (λ x y. evaluate_on (node_at nodes j) x y) (ih (left_of (node_at nodes j)) (omega (arith, b.0)))
            (ih (right_of (node_at nodes j)) (omega (arith, b.1)))
            ∙ sym (fresh_derived (tables_of nodes rels) j (omega arith) e)

    all_agree : ((j : ℕ) → j < length nodes → agree_at j ≡ true) → same_relations rels (evaluate nodes (tables_of nodes rels)) ≡ true
    all_agree a =
        let same : rels ≡ evaluate nodes (tables_of nodes rels) =
        ext_get_or [] rels (evaluate nodes (tables_of nodes rels)) (size ∙ sym (length-evaluate nodes (tables_of nodes rels)))
        (λ j h. agreed_to (length nodes) (le_refl (length nodes)) a j (rw (← size) h)) in
        ap (same_relations rels) (sym same) ∙ same_refl rels

    fresh_agree : same_relations rels (evaluate nodes (tables_of nodes rels)) ≡ true → (j : ℕ) → j < length nodes → agree_at j ≡ true
    fresh_agree s j h = go (is_table (node_at nodes j)) refl
      where
        same : rels ≡ evaluate nodes (tables_of nodes rels)
        same = same_eq rels (evaluate nodes (tables_of nodes rels)) s

        go : (t : Bool) → is_table (node_at nodes j) ≡ t → cond t true (same_rows (rows_at rels j) (given_by nodes rels j)) ≡ true
        go true e = refl
        go false e =
            let here : rows_at rels j ≡ given_by nodes rels j =
            ap (λ (l : List Relation). rows_at l j) same ∙ fresh_derived (tables_of nodes rels) j h e ∙ ap (λ (l : List Relation). given_by nodes l j) (sym same) in
            ap (same_rows (rows_at rels j)) (sym here) ∙ same_rows_refl (rows_at rels j)

    -- coherence, checked node by node
    pub fresh_checked : all_of agree_at (numbers_below (length nodes)) ≡ same_relations rels (evaluate nodes (tables_of nodes rels))
    fresh_checked =
        bool_same (all_of agree_at (numbers_below (length nodes))) (same_relations rels (evaluate nodes (tables_of nodes rels)))
        (λ e. all_agree (λ j h. ap agree_at (sym (zero-add j)) ∙ all_below agree_at 0 (length nodes) e j h))
        (λ e. below_all agree_at 0 (length nodes) (λ j h. rw (zero-add j) (fresh_agree e j h)))
