-- The rows that propagation gives: node by node, their form, and that from coherent rows they are the fresh evaluation. Assumes nothing.
use mathlib.Core.Bool.{false, Bool, true, cond, not, ◌||◌}
use mathlib.Core.Path.{◌≡◌, refl, ◌∙◌, ap, sym, ap₂}
use mathlib.Core.List.{List, []}
use lib.ListN.{length, take, get_or}
use Prim.Native.Nat.{ℕ, ◌<◌, ◌≤◌, zero, suc}
use lib.Seq.{length-take-le, get_or-take, ext_get_or}
use native.Mathlib.Omega.{arith}
use native.Mathlib.Nat.{not-suc-le-zero, le_refl}
use borrow.Author.Tests.{not-false}
use Rattle.model.specs.Row.{Relation, Wide, same_rows}
use Rattle.laws.proofs.Sets.{Ascending, ascending-holds, same_rows_eq}
use Rattle.model.specs.Network.{Node, AllFit, node_at, is_table, widths, left_of, right_of, evaluate_on}
use Rattle.propagation.specs.Propagated.{propagated, next_of, changed_in}
use Rattle.laws.proofs.Build.{length-build, build_at, length-evaluate}
use Rattle.model.specs.Evaluation.{rows_at, evaluate}
use Rattle.laws.proofs.Fresh.{given_by, inputs_before, width_at, columns-fit, fresh_derived, fresh_table}
use Rattle.states.specs.Fitting.{Fitting}
use Rattle.states.proofs.Tables.{Tables}
use Rattle.laws.proofs.ByKind.{on_asc, on_wide}
use Rattle.laws.proofs.Fits.{length-widths}

-- rows that do not differ are the same
same_flag : (a b : Relation) → not (same_rows a b) ≡ false → a ≡ b
same_flag a b e = same_rows_eq a b (not-false (same_rows a b) e)

module _ (nodes : List Node) (fit : AllFit nodes) (old copy : List Relation) where
  pub new-length : length (propagated nodes old copy) ≡ length nodes
  unfolding propagated
  new-length = length-build (next_of old copy) nodes

  before-length : (j : ℕ) → j < length nodes → length (take j (propagated nodes old copy)) ≡ j
  before-length j h = length-take-le j (propagated nodes old copy) (omega (arith, new-length))

  new_at : (j : ℕ) → j < length nodes → rows_at (propagated nodes old copy) j ≡ next_of old copy (node_at nodes j) (take j (propagated nodes old copy))
  unfolding propagated
  new_at j h = build_at (next_of old copy) j nodes [] h

  pub new-table : (j : ℕ) → j < length nodes → is_table (node_at nodes j) ≡ true → rows_at (propagated nodes old copy) j ≡ rows_at copy j
  new-table j h e = new_at j h ∙ rw e (ap (rows_at copy) (before-length j h))

  pub new-derived : (j : ℕ) → j < length nodes → is_table (node_at nodes j) ≡ false → rows_at (propagated nodes old copy) j ≡
      cond (changed_in old (propagated nodes old copy) (left_of (node_at nodes j)) || changed_in old (propagated nodes old copy) (right_of (node_at nodes j)))
      (given_by nodes (propagated nodes old copy) j) (rows_at old j)
  new-derived j h e =
      let b : (left_of (node_at nodes j) < j) × (right_of (node_at nodes j) < j) = inputs_before nodes fit j h e in
      let l : rows_at (take j (propagated nodes old copy)) (left_of (node_at nodes j)) ≡ rows_at (propagated nodes old copy) (left_of (node_at nodes j)) = get_or-take j (propagated nodes old copy)
      (left_of (node_at nodes j)) [] b.0 in
      let r : rows_at (take j (propagated nodes old copy)) (right_of (node_at nodes j)) ≡ rows_at (propagated nodes old copy) (right_of (node_at nodes j)) = get_or-take j (propagated nodes old copy)
      (right_of (node_at nodes j)) [] b.1 in
      new_at j h ∙ rw (e, before-length j h, l, r) refl

  -- ---- their form

  module _ (fo : Fitting (widths nodes) old) (ts : Tables nodes copy) where
    fine_to : (k : ℕ) → k ≤ length nodes → (i : ℕ) → i < k → Wide (get_or (widths nodes) i 0) (rows_at (propagated nodes old copy) i) × Ascending (rows_at (propagated nodes old copy) i)
    fine_to zero g i h = absurd (not-suc-le-zero h)
    fine_to (suc k) g i h = go (is_table (node_at nodes i)) refl (fine_to k (omega arith))
      where
        inside : i < length (widths nodes)
        inside = rw (length-widths nodes) (omega arith)

        kept : Wide (get_or (widths nodes) i 0) (rows_at old i) × Ascending (rows_at old i)
        kept = (fo.wide i inside, ascending-holds (rows_at old i) (fo.asc i inside))

        pick : (t : Bool) (a b : Relation) → Wide (get_or (widths nodes) i 0) a × Ascending a → Wide (get_or (widths nodes) i 0) b × Ascending b → Wide (get_or (widths nodes) i 0) (cond t a b)
            × Ascending (cond t a b)
        pick true a b x y = x
        pick false a b x y = y

        go : (b : Bool) → is_table (node_at nodes i) ≡ b →
            ((j : ℕ) → j < k → Wide (get_or (widths nodes) j 0) (rows_at (propagated nodes old copy) j) × Ascending (rows_at (propagated nodes old copy) j)) →
            Wide (get_or (widths nodes) i 0) (rows_at (propagated nodes old copy) i) × Ascending (rows_at (propagated nodes old copy) i)
        go true e ih = rw (new-table i (omega arith) e) (ts.wide i (omega arith), ts.asc i (omega arith))
        go false e ih =
            let b : (left_of (node_at nodes i) < i) × (right_of (node_at nodes i) < i) = inputs_before nodes fit i (omega arith) e in
            let left : Wide (get_or (widths nodes) (left_of (node_at nodes i)) 0) (rows_at (propagated nodes old copy) (left_of (node_at nodes i)))
            × Ascending (rows_at (propagated nodes old copy) (left_of (node_at nodes i))) = ih (left_of (node_at nodes i)) (omega (arith, b.0)) in
            let right : Wide (get_or (widths nodes) (right_of (node_at nodes i)) 0) (rows_at (propagated nodes old copy) (right_of (node_at nodes i)))
            × Ascending (rows_at (propagated nodes old copy) (right_of (node_at nodes i))) = ih (right_of (node_at nodes i)) (omega (arith, b.1)) in
            let wide : Wide (get_or (widths nodes) i 0) (given_by nodes (propagated nodes old copy) i) = rw (width_at nodes fit i (omega arith) e)
            (on_wide (get_or (widths nodes) (left_of (node_at nodes i)) 0) (get_or (widths nodes) (right_of (node_at nodes i)) 0) (node_at nodes i)
            (rows_at (propagated nodes old copy) (left_of (node_at nodes i))) (rows_at (propagated nodes old copy) (right_of (node_at nodes i))) e (columns-fit nodes fit i (omega arith) e)
            left.0 right.0) in
            let asc : Ascending (given_by nodes (propagated nodes old copy) i) = on_asc (node_at nodes i) (rows_at (propagated nodes old copy) (left_of (node_at nodes i)))
            (rows_at (propagated nodes old copy) (right_of (node_at nodes i))) left.1 in
            rw (new-derived i (omega arith) e)
            (pick (changed_in old (propagated nodes old copy) (left_of (node_at nodes i)) || changed_in old (propagated nodes old copy) (right_of (node_at nodes i)))
            (given_by nodes (propagated nodes old copy) i) (rows_at old i) (wide, asc) kept)

    pub new-wide : (i : ℕ) → i < length nodes → Wide (get_or (widths nodes) i 0) (rows_at (propagated nodes old copy) i)
    new-wide i h = (fine_to (length nodes) (le_refl (length nodes)) i h).0

    pub new-asc : (i : ℕ) → i < length nodes → Ascending (rows_at (propagated nodes old copy) i)
    new-asc i h = (fine_to (length nodes) (le_refl (length nodes)) i h).1

  -- ---- the fresh evaluation

  module _ (tables : List Relation) (fresh : old ≡ evaluate nodes tables) where
    old-derived : (i : ℕ) → i < length nodes → is_table (node_at nodes i) ≡ false → rows_at old i ≡ given_by nodes old i
    old-derived i h e = rw fresh (fresh_derived nodes fit tables i h e)

    fresh_to : (k : ℕ) → k ≤ length nodes → (i : ℕ) → i < k → rows_at (propagated nodes old copy) i ≡ rows_at (evaluate nodes copy) i
    fresh_to zero g i h = absurd (not-suc-le-zero h)
    fresh_to (suc k) g i h = go (is_table (node_at nodes i)) refl (fresh_to k (omega arith))
      where
        go : (b : Bool) → is_table (node_at nodes i) ≡ b → ((j : ℕ) → j < k → rows_at (propagated nodes old copy) j ≡ rows_at (evaluate nodes copy) j) → rows_at (propagated nodes old copy) i
            ≡ rows_at (evaluate nodes copy) i
        go true e ih = new-table i (omega arith) e ∙ sym (fresh_table nodes fit copy i (omega arith) e)
        go false e ih =
            let b : (left_of (node_at nodes i) < i) × (right_of (node_at nodes i) < i) = inputs_before nodes fit i (omega arith) e in
            let given : given_by nodes (propagated nodes old copy) i ≡ given_by nodes (evaluate nodes copy) i = ap₂ {A = Relation} {B = Relation} {C = Relation}
            (λ x y. evaluate_on (node_at nodes i) x y) (ih (left_of (node_at nodes i)) (omega (arith, b.0))) (ih (right_of (node_at nodes i)) (omega (arith, b.1))) in
            new-derived i (omega arith) e
            ∙ pick (changed_in old (propagated nodes old copy) (left_of (node_at nodes i))) (changed_in old (propagated nodes old copy) (right_of (node_at nodes i))) refl refl
            ∙ given
            ∙ sym (fresh_derived nodes fit copy i (omega arith) e)
          where
            pick : (s t : Bool) → changed_in old (propagated nodes old copy) (left_of (node_at nodes i)) ≡ s → changed_in old (propagated nodes old copy) (right_of (node_at nodes i)) ≡ t →
                cond (s || t) (given_by nodes (propagated nodes old copy) i) (rows_at old i) ≡ given_by nodes (propagated nodes old copy) i
            pick true t x y = refl
            pick false true x y = refl
            pick false false x y =
                old-derived i (omega arith) e
                ∙ ap₂ {A = Relation} {B = Relation} {C = Relation} (λ a b. evaluate_on (node_at nodes i) a b)
                (sym (same_flag (rows_at (propagated nodes old copy) (left_of (node_at nodes i))) (rows_at old (left_of (node_at nodes i))) x))
                (sym (same_flag (rows_at (propagated nodes old copy) (right_of (node_at nodes i))) (rows_at old (right_of (node_at nodes i))) y))

    -- from coherent rows every node's new rows are its fresh evaluation
    pub new_fresh : propagated nodes old copy ≡ evaluate nodes copy
    new_fresh =
        ext_get_or [] (propagated nodes old copy) (evaluate nodes copy) (new-length ∙ sym (length-evaluate nodes copy))
        (λ i h. fresh_to (length nodes) (le_refl (length nodes)) i (omega (arith, h, new-length)))
