-- What an accepted batch leaves in the areas, by node: changes, rows, stamps and the worked list. Assumes nothing.
use mathlib.Core.Bool.{Bool, cond, false, not, true, true≢false}
use mathlib.Core.List.{◌++◌, List, [], flat_map, ◌∷◌}
use mathlib.Core.Path.{◌≡◌, ap, ap₂, refl, sym, ◌∙◌}
use Prim.Native.Nat.{◌+◌, ◌<◌, suc, zero, ℕ, ◌≤◌, zero-le}
use native.Mathlib.Omega.{arith}
use native.Mathlib.Nat.{le_refl, not-suc-le-zero}
use lib.Dec.{ltb}
use lib.ListN.{get_or, length, take, get_or-eq_default}
use lib.Seq.{get_or-take, length-take-le}
use borrow.Author.Tests.{ltb-true, ltb-false}
use Rattle.model.specs.Network.{Node, AllFit, node_at, is_table, inputs_of, build, level_of, levels}
use Rattle.model.specs.Areas.{Areas, batch_number, changes_in, holding, layout, rows_in, stamp_at, state_in, tables_of}
use Rattle.model.specs.Batch.{Event, act_all, fold_changes}
use Rattle.model.specs.Delta.{Change, change_at, is_changed, net_change, net_changes, no_change}
use Rattle.model.specs.Row.{Relation, all_of, same_rows, is_empty}
use Rattle.model.specs.Station.{State, advance, stamp_of, has_changed_input, worked_list}
use Rattle.model.specs.Evaluation.{built_on, evaluate, rows_at}
use Rattle.laws.proofs.Build.{build_at, length-build, length-evaluate}
use Rattle.laws.proofs.Delta.{change_disjoint}
use Rattle.laws.proofs.Folded.{folds}
use Rattle.laws.proofs.Fits.{length-widths}
use Rattle.laws.proofs.Sets.{Ascending, and_first, and_second, ascending-holds, same_rows_eq}
use Rattle.model.specs.Network.{Inputs, evaluate_on, first_of, last_of, left_of, listed, no_input, one_input, right_of, two_inputs, uses_of}
use Rattle.laws.proofs.Inputs.{inputs_high}
use Rattle.laws.proofs.Fresh.{fresh_derived, fresh_table, inputs_before}
use Rattle.states.proofs.Changes.{changed_is, changes_at, changes-length, no_change_lem, stamps_at}
use Rattle.states.proofs.Head.{padded_at}
use Rattle.states.proofs.Worked.{is_on, worked_is_lem}
use Rattle.demand3.specs.Demand3.{Advances, change_of, fresh_of, is_untouched, rows_of, worked_of}
use Rattle.demand3.proofs.Holds.{Proper, holding-changes, holding-rows, holding-state, number_is, stamp_word}

-- ---- a node built only on tables without net change

-- a property of every number of a list
abbrev pub Each : (ℕ → Type 0) → List ℕ → Type 0
Each p [] = Unit {0}
Each p (x ∷ l) = p x × Each p l

each_append : (p : ℕ → Type 0) (a b : List ℕ) → Each p (a ++ b) → Each p a × Each p b
each_append p [] b e = (tt, e)
each_append p (x ∷ a) b e = ((e.0, (each_append p a b e.1).0), (each_append p a b e.1).1)

module _ (nodes : List Node) (fit : AllFit nodes) (old new : List Relation) where
  -- a node's fresh evaluation is the same on both
  abbrev Same : ℕ → Type 0
  Same t = rows_at (evaluate nodes old) t ≡ rows_at (evaluate nodes new) t

  built_at : (i : ℕ) → i < length nodes → get_or (built_on nodes) i []
      ≡ cond (is_table (node_at nodes i)) (i ∷ []) (flat_map (λ j. get_or (take i (built_on nodes)) j []) (inputs_of (node_at nodes i)))
  unfolding built_on
  built_at i h =
      build_at (λ n done. cond (is_table n) (length done ∷ []) (flat_map (λ j. get_or done j []) (inputs_of n))) i nodes [] h
      ∙ ap (λ (k : ℕ). cond (is_table (node_at nodes i)) (k ∷ [])
      (flat_map (λ j. get_or (take i (build (λ n done. cond (is_table n) (length done ∷ []) (flat_map (λ l. get_or done l []) (inputs_of n))) nodes)) j [])
      (inputs_of (node_at nodes i))))
      (length-take-le i (build (λ n done. cond (is_table n) (length done ∷ []) (flat_map (λ j. get_or done j []) (inputs_of n))) nodes)
      (rw (length-build (λ n done. cond (is_table n) (length done ∷ []) (flat_map (λ j. get_or done j []) (inputs_of n))) nodes) (omega arith)))

  listed_each : (u : Inputs) (p : ℕ → Type 0) (f : ℕ → List ℕ) → is_empty (listed u) ≡ false → Each p (flat_map f (listed u)) → Each p (f (first_of u)) × Each p (f (last_of u))
  unfolding flat_map
  listed_each no_input p f e h = absurd (true≢false e)
  listed_each (one_input i) p f e h = ((each_append p (f i) [] h).0, (each_append p (f i) [] h).0)
  listed_each (two_inputs l r) p f e h = ((each_append p (f l) (f r ++ []) h).0, (each_append p (f r) [] (each_append p (f l) (f r ++ []) h).1).0)

  -- both inputs of a derived node are among its inputs
  inputs_each : (n : Node) (p : ℕ → Type 0) (f : ℕ → List ℕ) → is_table n ≡ false → Each p (flat_map f (inputs_of n)) → Each p (f (left_of n)) × Each p (f (right_of n))
  inputs_each n p f e h = listed_each (uses_of n) p f e h

  same_to : (k : ℕ) → k ≤ length nodes → (i : ℕ) → i < k → Each Same (get_or (built_on nodes) i []) → rows_at (evaluate nodes old) i ≡ rows_at (evaluate nodes new) i
  same_to zero g i h e = absurd (not-suc-le-zero h)
  same_to (suc k) g i h e = go (is_table (node_at nodes i)) refl (same_to k (omega arith))
    where
      inside : i < length nodes
      inside = omega arith

      go : (t : Bool) → is_table (node_at nodes i) ≡ t → ((j : ℕ) → j < k → Each Same (get_or (built_on nodes) j []) → rows_at (evaluate nodes old) j ≡ rows_at (evaluate nodes new) j) →
          rows_at (evaluate nodes old) i ≡ rows_at (evaluate nodes new) i
      go true b ih =
          let own : Each Same (i ∷ []) =
          rw (built_at i inside ∙ ap (λ (t : Bool). cond t (i ∷ []) (flat_map (λ j. get_or (take i (built_on nodes)) j []) (inputs_of (node_at nodes i)))) b) at e in
          own.0
      go false b ih =
          let before : (left_of (node_at nodes i) < i) × (right_of (node_at nodes i) < i) = inputs_before nodes fit i inside b in
          let both : Each Same (flat_map (λ j. get_or (take i (built_on nodes)) j []) (inputs_of (node_at nodes i))) =
          rw (built_at i inside ∙ ap (λ (t : Bool). cond t (i ∷ []) (flat_map (λ j. get_or (take i (built_on nodes)) j []) (inputs_of (node_at nodes i)))) b) at e in
          let parts : Each Same (get_or (take i (built_on nodes)) (left_of (node_at nodes i)) []) × Each Same (get_or (take i (built_on nodes)) (right_of (node_at nodes i)) []) = inputs_each
          (node_at nodes i) Same (λ j. get_or (take i (built_on nodes)) j []) b both in
          let left : Each Same (get_or (built_on nodes) (left_of (node_at nodes i)) []) = rw (get_or-take i (built_on nodes) (left_of (node_at nodes i)) [] before.0) at parts.0 in
          let right : Each Same (get_or (built_on nodes) (right_of (node_at nodes i)) []) = rw (get_or-take i (built_on nodes) (right_of (node_at nodes i)) [] before.1) at parts.1 in
          fresh_derived nodes fit old i inside b
          ∙ ap₂ {A = Relation} {B = Relation} {C = Relation} (λ x y. evaluate_on (node_at nodes i) x y) (ih (left_of (node_at nodes i)) (omega (arith, before.0)) left)
          (ih (right_of (node_at nodes i)) (omega (arith, before.1)) right)
          ∙ sym (fresh_derived nodes fit new i inside b)

  -- it keeps its rows
  rows_same : (i : ℕ) → i < length nodes → Each Same (get_or (built_on nodes) i []) → rows_at (evaluate nodes old) i ≡ rows_at (evaluate nodes new) i
  rows_same i h e = same_to (length nodes) (le_refl (length nodes)) i h e

-- ---- the worked list

module _ (nodes : List Node) (fit : AllFit nodes) where
  low_to : (k : ℕ) → k ≤ length nodes → (i : ℕ) → i < k → get_or (levels nodes) i 0 ≤ i
  unfolding levels
  low_to zero g i h = absurd (not-suc-le-zero h)
  low_to (suc k) g i h = go (is_table (node_at nodes i)) refl (low_to k (omega arith))
    where
      inside : i < length nodes
      inside = omega arith

      go : (t : Bool) → is_table (node_at nodes i) ≡ t → ((j : ℕ) → j < k → get_or (build level_of nodes) j 0 ≤ j) → get_or (build level_of nodes) i 0 ≤ i
      go true e ih = rw (build_at level_of i nodes 0 inside, e) zero-le
      go false e ih =
          let b : (left_of (node_at nodes i) < i) × (right_of (node_at nodes i) < i) = inputs_before nodes fit i inside e in
          let l : get_or (take i (build level_of nodes)) (left_of (node_at nodes i)) 0 < i = rw (get_or-take i (build level_of nodes) (left_of (node_at nodes i)) 0 b.0)
          (omega (arith, b.0, ih (left_of (node_at nodes i)) (omega (arith, b.0)))) in
          let r : get_or (take i (build level_of nodes)) (right_of (node_at nodes i)) 0 < i = rw (get_or-take i (build level_of nodes) (right_of (node_at nodes i)) 0 b.1)
          (omega (arith, b.1, ih (right_of (node_at nodes i)) (omega (arith, b.1)))) in
          rw (build_at level_of i nodes 0 inside, e) (inputs_high (take i (build level_of nodes)) (node_at nodes i) i l r)

  -- the worked list is just the derived nodes with a changed input: a table has no input
  worked_on : (changes : List Change) (i : ℕ) → i < length nodes → is_on i (worked_list nodes changes) ≡ has_changed_input nodes changes i
  worked_on changes i h = worked_is_lem nodes changes i h (omega (arith, low_to (length nodes) (le_refl (length nodes)) i h))

-- ---- the areas

-- what areas say with a state in their named words
record Says (nodes : List Node) (s : State) (a : Areas) : Type 0 where
  rows : rows_in layout nodes a ≡ evaluate nodes s.tables
  tables : tables_of nodes (rows_in layout nodes a) ≡ s.tables
  changes : changes_in layout nodes a ≡ s.changes
  number : batch_number a.head ≡ s.number
  stamp : (i : ℕ) → i < length nodes → stamp_at a.head i ≡ get_or s.stamps i 0
  worked : (state_in layout nodes a).worked ≡ s.worked

says : (nodes : List Node) → AllFit nodes → (s : State) → Proper nodes s → (before : Areas) → Says nodes s (holding layout nodes s before)
unfolding state_in
says nodes fit s p before =
    let same : state_in layout nodes (holding layout nodes s before) ≡ s = holding-state nodes s p before fit in
    record {
      rows = holding-rows nodes s p before;
      tables = ap (λ (x : State). x.tables) same;
      changes = holding-changes nodes s p before;
      number = number_is nodes s p before;
      stamp = λ i h. stamp_word nodes s p before i (omega (arith, p.rows.few, length-widths nodes)) ∙ padded_at s.stamps i (rw p.stamps-size h);
      worked = ap (λ (x : State). x.worked) same;
    }

-- a property of each table that a node is built on
each_of : (cs : List Change) (p : ℕ → Type 0) → ((t : ℕ) → is_changed (change_at cs t) ≡ false → p t) → (l : List ℕ) → all_of (λ t. not (is_changed (change_at cs t))) l ≡ true →
    Each p l
each_of cs p f [] e = tt
each_of cs p f (t ∷ l) e = (
  f t (flip (is_changed (change_at cs t)) (and_first (not (is_changed (change_at cs t))) (all_of (λ x. not (is_changed (change_at cs x))) l) e)),
  each_of cs p f l (and_second (not (is_changed (change_at cs t))) (all_of (λ x. not (is_changed (change_at cs x))) l) e),
)
  where
    flip : (b : Bool) → not b ≡ true → b ≡ false
    flip true g = absurd (true≢false (sym g))
    flip false g = refl

module _ (nodes : List Node) (fit : AllFit nodes) (s : State) (p : Proper nodes s) (copy : List Relation) (q : Proper nodes (advance nodes s copy)) where
  abbrev old : List Relation
  old = evaluate nodes s.tables

  abbrev new : List Relation
  new = evaluate nodes copy

  same_length : length (evaluate nodes s.tables) ≡ length (evaluate nodes copy)
  same_length = length-evaluate nodes s.tables ∙ sym (length-evaluate nodes copy)

  changes-are : (advance nodes s copy).changes ≡ net_changes (evaluate nodes s.tables) (evaluate nodes copy)
  unfolding advance
  changes-are = refl

  changes-long : length (net_changes (evaluate nodes s.tables) (evaluate nodes copy)) ≡ length nodes
  changes-long = changes-length old new same_length ∙ length-evaluate nodes s.tables

  change_at_lem : (i : ℕ) → i < length nodes → change_at (advance nodes s copy).changes i ≡ net_change (rows_at (evaluate nodes s.tables) i) (rows_at (evaluate nodes copy) i)
  change_at_lem i h = ap (λ (l : List Change). change_at l i) changes-are ∙ changes_at old new i same_length (rw (length-evaluate nodes s.tables) h)

  new-asc : (t : ℕ) → t < length nodes → Ascending (rows_at (evaluate nodes copy) t)
  unfolding advance
  new-asc t h = ascending-holds (rows_at (evaluate nodes copy) t) (q.rows.asc t (rw (length-widths nodes) h))

  -- a node without a change has the same rows
  unchanged-same : (t : ℕ) → is_changed (change_at (advance nodes s copy).changes t) ≡ false → rows_at (evaluate nodes s.tables) t ≡ rows_at (evaluate nodes copy) t
  unchanged-same t e = go (ltb t (length nodes)) refl
    where
      go : (b : Bool) → ltb t (length nodes) ≡ b → rows_at (evaluate nodes s.tables) t ≡ rows_at (evaluate nodes copy) t
      go true f =
          let h : t < length nodes = ltb-true t (length nodes) f in
          let is : not (same_rows (rows_at (evaluate nodes copy) t) (rows_at (evaluate nodes s.tables) t)) ≡ false =
          sym (changed_is (rows_at old t) (rows_at new t) (ascending-holds (rows_at old t) (p.rows.asc t (rw (length-widths nodes) h))) (new-asc t h))
          ∙ ap is_changed (sym (change_at_lem t h)) ∙ e in
          sym (same_rows_eq (rows_at new t) (rows_at old t) (yes (same_rows (rows_at new t) (rows_at old t)) is))
        where
          yes : (b : Bool) → not b ≡ false → b ≡ true
          yes true g = refl
          yes false g = absurd (true≢false g)
      go false f =
          let h : length nodes ≤ t = ltb-false t (length nodes) f in
          get_or-eq_default old [] {n = t} (rw (length-evaluate nodes s.tables) h) ∙ sym (get_or-eq_default new [] {n = t} (rw (length-evaluate nodes copy) h))

  kept : (i : ℕ) → i < length nodes → all_of (λ t. not (is_changed (change_at (advance nodes s copy).changes t))) (get_or (built_on nodes) i []) ≡ true →
      rows_at (evaluate nodes s.tables) i ≡ rows_at (evaluate nodes copy) i
  kept i h e = rows_same nodes fit s.tables copy i h (each_of (advance nodes s copy).changes (λ t. rows_at old t ≡ rows_at new t) unchanged-same (get_or (built_on nodes) i []) e)

  stamp_next : (i : ℕ) → i < length nodes → get_or (advance nodes s copy).stamps i 0 ≡ stamp_of (s.number + 1) (change_at (advance nodes s copy).changes i) (get_or s.stamps i 0)
  unfolding advance
  stamp_next i h = stamps_at (s.number + 1) (net_changes old new) s.stamps i (changes-long ∙ sym p.stamps-size) (rw changes-long h)

  tables-are : (advance nodes s copy).tables ≡ copy
  unfolding advance
  tables-are = refl

  number-next : (advance nodes s copy).number ≡ s.number + 1
  unfolding advance
  number-next = refl

  worked-next : (advance nodes s copy).worked ≡ worked_list nodes (advance nodes s copy).changes
  unfolding advance
  worked-next = refl

  module _ (a b : Areas) (x : Says nodes s a) (y : Says nodes (advance nodes s copy) b) where
    fresh_before : (i : ℕ) → fresh_of nodes a i ≡ rows_at (evaluate nodes s.tables) i
    fresh_before i = ap (λ (t : List Relation). rows_at (evaluate nodes t) i) x.tables

    fresh_after : (i : ℕ) → fresh_of nodes b i ≡ rows_at (evaluate nodes copy) i
    fresh_after i = ap (λ (t : List Relation). rows_at (evaluate nodes t) i) (y.tables ∙ tables-are)

    rows-after : (i : ℕ) → rows_of nodes b i ≡ rows_at (evaluate nodes copy) i
    rows-after i = ap (λ (l : List Relation). rows_at l i) y.rows ∙ ap (λ (t : List Relation). rows_at (evaluate nodes t) i) tables-are

    rows_before : (i : ℕ) → rows_of nodes a i ≡ rows_at (evaluate nodes s.tables) i
    rows_before i = ap (λ (l : List Relation). rows_at l i) x.rows

    change_after : (i : ℕ) → i < length nodes → change_of nodes b i ≡ net_change (rows_at (evaluate nodes s.tables) i) (rows_at (evaluate nodes copy) i)
    change_after i h = ap (λ (l : List Change). change_at l i) y.changes ∙ change_at_lem i h

    worked-after : worked_of nodes b ≡ worked_list nodes (changes_in layout nodes b)
    worked-after = y.worked ∙ worked-next ∙ ap (worked_list nodes) (sym y.changes)

    stamp_after : (i : ℕ) → i < length nodes → stamp_at b.head i ≡ stamp_of (batch_number b.head) (change_of nodes b i) (stamp_at a.head i)
    stamp_after i h = y.stamp i h ∙ stamp_next i h ∙ rw (y.changes, y.number ∙ number-next, x.stamp i h)

    untouched : (i : ℕ) → i < length nodes → is_untouched nodes b i ≡ true → rows_at (evaluate nodes s.tables) i ≡ rows_at (evaluate nodes copy) i
    untouched i h e = kept i h (ap (λ (cs : List Change). all_of (λ t. not (is_changed (change_at cs t))) (get_or (built_on nodes) i [])) (sym y.changes) ∙ e)

    -- a table's change is that of the batch's events, folded
    folds_here : (events : List Event) → copy ≡ act_all events s.tables → (t : ℕ) → t < length nodes → is_table (node_at nodes t) ≡ true →
        change_of nodes b t ≡ fold_changes t no_change events (tables_of nodes (rows_in layout nodes a))
    folds_here events e t h own-rows =
        let own : rows_at (evaluate nodes s.tables) t ≡ rows_at s.tables t = fresh_table nodes fit s.tables t h own-rows in
        let asc : Ascending (rows_at s.tables t) = rw own at (ascending-holds (rows_at old t) (p.rows.asc t (rw (length-widths nodes) h))) in
        change_after t h
        ∙ ap₂ {A = Relation} {B = Relation} {C = Change} net_change own (fresh_table nodes fit copy t h own-rows ∙ ap (λ (l : List Relation). rows_at l t) e)
        ∙ sym (folds t events s.tables (rw p.tables-size h) asc)
        ∙ ap (fold_changes t no_change events) (sym x.tables)

    advances : (events : List Event) → copy ≡ act_all events s.tables → Advances nodes events a b
    advances events e =
        record {
          folds = folds_here events e;
          share_no_row = λ i r h. rw (change_after i h) (change_disjoint r (rows_at old i) (rows_at new i));
          change_is = λ i h. change_after i h ∙ ap₂ {A = Relation} {B = Relation} {C = Change} net_change (sym (fresh_before i)) (sym (fresh_after i));
          rows_are = λ i h. rows-after i ∙ sym (fresh_after i);
          worked-are = λ i h. ap (is_on i) worked-after ∙ worked_on nodes fit (changes_in layout nodes b) i h;
          worked_list_is = worked-after;
          number_is = y.number ∙ number-next ∙ ap (λ (n : ℕ). n + 1) (sym x.number);
          rows-kept = λ i h e. rows-after i ∙ sym (untouched i h e) ∙ sym (rows_before i);
          stamp_kept = λ i h e. stamp_after i h ∙ ap (λ (c : Change). stamp_of (batch_number b.head) c (stamp_at a.head i))
              (change_after i h ∙ ap (λ (r : Relation). net_change r (rows_at new i)) (untouched i h e) ∙ no_change_lem (rows_at new i));
          stamp_is = stamp_after;
        }

-- an accepted batch, from areas with one state in their named words to areas with the next
pub advances_held : (nodes : List Node) (fit : AllFit nodes) (s : State) (events : List Event) →
    Proper nodes s → Proper nodes (advance nodes s (act_all events s.tables)) → (x y : Areas) →
    Advances nodes events (holding layout nodes s x) (holding layout nodes (advance nodes s (act_all events s.tables)) y)
advances_held nodes fit s events p q x y =
    let copy : List Relation = act_all events s.tables in
    advances nodes fit s p copy q (holding layout nodes s x) (holding layout nodes (advance nodes s copy) y) (says nodes fit s p x)
    (says nodes fit (advance nodes s copy) q y) events refl
