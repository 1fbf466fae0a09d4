-- Any coherent areas hold a proper state. Assumes nothing.
use mathlib.Core.Bool.{Bool, cond, false, true}
use mathlib.Core.List.{List, map}
use mathlib.Core.Path.{ap, refl, sym, ◌∙◌, ◌≡◌}
use Prim.Native.Nat.{◌<◌, zero-le, ℕ, ◌≤◌}
use native.Mathlib.Nat.{zero-add}
use native.Mathlib.Omega.{arith}
use lib.ListN.{get_or-eq_default, get_or, length}
use lib.Dec.{eqb, leb, ltb}
use borrow.Author.Tests.{leb-true, lt-ltb, ltb-false, ltb-true}
use Rattle.model.specs.Network.{Node, widths}
use Rattle.laws.proofs.All.{all_below}
use Rattle.model.specs.Areas.{Areas, batch_number, changes_in, coherent, gained_count, good_area, good_form, good_stamps, good_worked, layout, lost_count, relations_in, row_count, rows_in}
use Rattle.model.specs.Areas.{same_relations, stamp_at, state_in, tables_of, worked_at, worked_count}
use Rattle.states.specs.Fitting.{Fitting}
use Rattle.demand3.proofs.Holds.{Proper}
use Rattle.model.specs.Row.{all_of, numbers_below, max_nodes}
use Rattle.laws.proofs.Fits.{Small, length-widths}
use Rattle.laws.proofs.Sets.{and_first, and_second}
use Rattle.model.specs.Evaluation.{evaluate}
use Rattle.laws.proofs.Fresh.{same_eq}
use Rattle.states.proofs.Fitted.{area_fits, only_length, only_twice, map-gained, map-lost, form_parts}
use Rattle.laws.proofs.Parts.{length-counted, counted_at}

module _ (nodes : List Node) (small : Small nodes) (a : Areas) (c : coherent layout nodes a ≡ true) where
  pub form : good_form layout nodes a ≡ true
  unfolding coherent
  form = and_first (good_form layout nodes a) (same_relations (rows_in layout nodes a) (evaluate nodes (tables_of nodes (rows_in layout nodes a)))) c

  pub fresh : rows_in layout nodes a ≡ evaluate nodes (tables_of nodes (rows_in layout nodes a))
  unfolding coherent
  fresh = same_eq (rows_in layout nodes a) (evaluate nodes (tables_of nodes (rows_in layout nodes a)))
      (and_second (good_form layout nodes a) (same_relations (rows_in layout nodes a) (evaluate nodes (tables_of nodes (rows_in layout nodes a)))) c)

  pub few : length (widths nodes) ≤ max_nodes
  few = omega (arith, small.few, length-widths nodes)

  pub parts : (good_area layout (widths nodes) (row_count a.head) a.rows ≡ true) × (good_area layout (widths nodes) (gained_count a.head) a.gained ≡ true) ×
      (good_area layout (widths nodes) (lost_count a.head) a.lost ≡ true) × (good_stamps (length nodes) a.head ≡ true) × (good_worked (length nodes) a.head ≡ true)
  parts = form_parts nodes a form

  worked : good_worked (length nodes) a.head ≡ true
  worked = parts.4

  stamps : good_stamps (length nodes) a.head ≡ true
  stamps = parts.3

  rows_fit : Fitting (widths nodes) (rows_in layout nodes a)
  unfolding rows_in
  rows_fit = area_fits (widths nodes) few small.narrow (row_count a.head) a.rows parts.0

  gained-fit : Fitting (widths nodes) (relations_in layout (widths nodes) (gained_count a.head) a.gained)
  gained-fit = area_fits (widths nodes) few small.narrow (gained_count a.head) a.gained parts.1

  lost-fit : Fitting (widths nodes) (relations_in layout (widths nodes) (lost_count a.head) a.lost)
  lost-fit = area_fits (widths nodes) few small.narrow (lost_count a.head) a.lost parts.2

  same_length : length (relations_in layout (widths nodes) (gained_count a.head) a.gained) ≡ length (relations_in layout (widths nodes) (lost_count a.head) a.lost)
  same_length = gained-fit.size ∙ sym lost-fit.size

  worked-few_here : worked_count a.head ≤ length nodes
  unfolding good_worked
  worked-few_here = leb-true (worked_count a.head) (length nodes)
      (and_first (leb (worked_count a.head) (length nodes))
      (all_of (λ k. cond (ltb k (worked_count a.head)) (ltb (worked_at a.head k) (length nodes)) (eqb (worked_at a.head k) 0)) (numbers_below max_nodes)) worked)

  worked_at_lem : (k : ℕ) → k < worked_count a.head → worked_at a.head k < length nodes
  unfolding good_worked
  worked_at_lem k h =
      let all : all_of (λ j. cond (ltb j (worked_count a.head)) (ltb (worked_at a.head j) (length nodes)) (eqb (worked_at a.head j) 0)) (numbers_below max_nodes)
      ≡ true = and_second (leb (worked_count a.head) (length nodes))
      (all_of (λ j. cond (ltb j (worked_count a.head)) (ltb (worked_at a.head j) (length nodes)) (eqb (worked_at a.head j) 0)) (numbers_below max_nodes)) worked in
      let here : cond (ltb k (worked_count a.head)) (ltb (worked_at a.head k) (length nodes)) (eqb (worked_at a.head k) 0)
      ≡ true = ap (λ (j : ℕ). cond (ltb j (worked_count a.head)) (ltb (worked_at a.head j) (length nodes)) (eqb (worked_at a.head j) 0)) (sym (zero-add k))
      ∙ all_below (λ j. cond (ltb j (worked_count a.head)) (ltb (worked_at a.head j) (length nodes)) (eqb (worked_at a.head j) 0)) 0 max_nodes all k
      (omega (arith, worked-few_here, small.few)) in
      ltb-true (worked_at a.head k) (length nodes) (rw (lt-ltb k (worked_count a.head) h) at here)

  stamp_low : (i : ℕ) → i < length nodes → stamp_at a.head i ≤ batch_number a.head
  unfolding good_stamps
  stamp_low i h =
      let here : leb (stamp_at a.head i) (cond (ltb i (length nodes)) (batch_number a.head) 0)
      ≡ true = ap (λ (j : ℕ). leb (stamp_at a.head j) (cond (ltb j (length nodes)) (batch_number a.head) 0)) (sym (zero-add i))
      ∙ all_below (λ j. leb (stamp_at a.head j) (cond (ltb j (length nodes)) (batch_number a.head) 0)) 0 max_nodes stamps i (omega (arith, small.few)) in
      leb-true (stamp_at a.head i) (batch_number a.head) (rw (lt-ltb i (length nodes) h) at here)

  -- the state that coherent areas hold
  pub state_proper : Proper nodes (state_in layout nodes a)
  unfolding state_in changes_in
  state_proper =
      let size : length (rows_in layout nodes a) ≡ length nodes = rows_fit.size ∙ length-widths nodes in
      record {
        tables-size = only_length nodes (rows_in layout nodes a) size;
        tables_only = only_twice nodes (rows_in layout nodes a);
        rows = rw (← fresh) rows_fit;
        gained = rw (map-gained (relations_in layout (widths nodes) (gained_count a.head) a.gained) (relations_in layout (widths nodes) (lost_count a.head) a.lost)
            same_length) gained-fit;
        lost = rw (map-lost (relations_in layout (widths nodes) (gained_count a.head) a.gained) (relations_in layout (widths nodes) (lost_count a.head) a.lost) same_length)
            lost-fit;
        stamps-size = length-counted (stamp_at a.head) 0 (length nodes);
        stamps-low = λ i. go i (ltb i (length nodes)) refl;
        worked-few = rw (length-counted (worked_at a.head) 0 (worked_count a.head)) worked-few_here;
        worked-low = λ k h. let b : k < worked_count a.head = rw (length-counted (worked_at a.head) 0 (worked_count a.head)) at h
            in rw (counted_at 0 (worked_at a.head) 0 (worked_count a.head) k b, zero-add k) (worked_at_lem k b);
      }
    where
      go : (i : ℕ) (t : Bool) → ltb i (length nodes) ≡ t → get_or (map (stamp_at a.head) (numbers_below (length nodes))) i 0 ≤ batch_number a.head
      go i true e = let b : i < length nodes = ltb-true i (length nodes) e in rw (counted_at 0 (stamp_at a.head) 0 (length nodes) i b, zero-add i) (stamp_low i b)
      go i false e = rw (get_or-eq_default (map (stamp_at a.head) (numbers_below (length nodes))) 0 {n = i}
          (rw (length-counted (stamp_at a.head) 0 (length nodes)) (ltb-false i (length nodes) e))) zero-le
