-- A batch of the plain station keeps its state proper; a refusal keeps it as it is. Assumes nothing.
use mathlib.Core.Bool.{Bool, cond, false, true, true≢false}
use mathlib.Core.List.{List, [], ◌∷◌}
use mathlib.Core.Path.{ap, refl, sym, ◌∙◌, ◌≡◌}
use Prim.Native.Nat.{◌+◌, ◌<◌, ℕ, ◌≤◌}
use native.Mathlib.Omega.{arith}
use lib.Dec.{eqb}
use lib.ListN.{get_or, length}
use Rattle.model.specs.Network.{Node, AllFit, widths, node_at, is_table}
use Rattle.laws.proofs.Sets.{Ascending, ascending-holds, ascending_true}
use Rattle.model.specs.Record.{Bytes, is_accepted, refused}
use Rattle.model.specs.Delta.{net_changes}
use Rattle.states.specs.Fitting.{Fitting}
use Rattle.demand3.proofs.Holds.{Proper}
use Rattle.model.specs.Row.{Relation, max_nodes, max_width, Wide}
use Rattle.model.specs.Station.{State, Step, advance, apply_events, last_number, limit, refused_step, step}
use Rattle.states.proofs.Tables.{Tables, act_all-tables, fresh_asc, fresh_wide, none_over}
use Rattle.model.specs.Batch.{act_all, read_batch}
use Rattle.states.proofs.Batches.{batch-good, batch_high}
use Rattle.model.specs.Evaluation.{evaluate, overfull, rows_at}
use Rattle.laws.proofs.Fresh.{fresh_table, tables_at}
use Rattle.laws.proofs.Build.{length-evaluate}
use Rattle.laws.proofs.Fits.{length-widths}
use Rattle.states.proofs.Worked.{worked-few, worked-low}
use Rattle.states.proofs.Changes.{changes-size, gained-fits, lost-fits, stamps-length, stamps-below}

-- what holds of a step whose events leave these tables: a proper state, the next one if it is accepted, kept by a refusal, and never reason 8
pub record Sound (nodes : List Node) (s : State) (copy : List Relation) (st : Step) : Type 0 where
  pub proper : Proper nodes st.state
  pub kept : is_accepted st.verdict ≡ false → st.state ≡ s
  pub advanced : is_accepted st.verdict ≡ true → st.state ≡ advance nodes s copy
  pub high : st.verdict.number ≡ 8 → ⊥

module _ (nodes : List Node) (fit : AllFit nodes) where
  -- the tables of a proper state
  pub proper_tables : (s : State) → Proper nodes s → Tables nodes s.tables
  proper_tables s p =
      record { size = p.tables-size; only = p.tables_only; wide = λ i h. go_wide i h (is_table (node_at nodes i)) refl; asc = λ i h. go_asc i h (is_table (node_at nodes i)) refl }
    where
      inside : (i : ℕ) → i < length nodes → i < length (widths nodes)
      inside i h = rw (length-widths nodes) h

      none : (i : ℕ) → i < length nodes → is_table (node_at nodes i) ≡ false → get_or s.tables i [] ≡ []
      none i h e = ap (λ (l : List Relation). get_or l i []) (sym p.tables_only) ∙ tables_at nodes s.tables i p.tables-size h
          ∙ ap (λ (t : Bool). cond t (rows_at s.tables i) []) e

      go_wide : (i : ℕ) → i < length nodes → (t : Bool) → is_table (node_at nodes i) ≡ t → Wide (get_or (widths nodes) i 0) (get_or s.tables i [])
      go_wide i h true e = rw (← fresh_table nodes fit s.tables i h e) (p.rows.wide i (inside i h))
      go_wide i h false e = rw (none i h e) tt

      go_asc : (i : ℕ) → i < length nodes → (t : Bool) → is_table (node_at nodes i) ≡ t → Ascending (get_or s.tables i [])
      go_asc i h true e = rw (← fresh_table nodes fit s.tables i h e) (ascending-holds (rows_at (evaluate nodes s.tables) i) (p.rows.asc i (inside i h)))
      go_asc i h false e = rw (none i h e) tt

  -- fresh evaluation within the limit
  pub fresh_fits : (tables : List Relation) → Tables nodes tables → length (widths nodes) ≤ max_nodes → ((i : ℕ) → get_or (widths nodes) i 0 ≤ max_width) → overfull 0 (evaluate nodes tables) ≡ [] →
      Fitting (widths nodes) (evaluate nodes tables)
  fresh_fits tables t few narrow o =
      let size : length (evaluate nodes tables) ≡ length (widths nodes) = length-evaluate nodes tables ∙ sym (length-widths nodes) in
      record {
        size = size;
        few = few;
        narrow = narrow;
        wide = λ i h. fresh_wide nodes fit tables t i (rw (length-widths nodes) at h);
        small = λ i h. none_over 0 (evaluate nodes tables) o i (rw size h);
        asc = λ i h. ascending_true (rows_at (evaluate nodes tables) i) (fresh_asc nodes fit tables t i (rw (length-widths nodes) at h));
      }

  advance_proper : (s : State) (copy : List Relation) → Proper nodes s → Tables nodes copy → overfull 0 (evaluate nodes copy) ≡ [] → Proper nodes (advance nodes s copy)
  unfolding advance
  advance_proper s copy p t o =
      let new : Fitting (widths nodes) (evaluate nodes copy) = fresh_fits copy t p.rows.few p.rows.narrow o in
      let size : length (net_changes (evaluate nodes s.tables) (evaluate nodes copy)) ≡ length s.stamps = changes-size (widths nodes) (evaluate nodes s.tables)
      (evaluate nodes copy) p.rows new ∙ length-widths nodes ∙ sym p.stamps-size in
      record {
        tables-size = t.size;
        tables_only = t.only;
        rows = new;
        gained = gained-fits (widths nodes) (evaluate nodes s.tables) (evaluate nodes copy) p.rows new;
        lost = lost-fits (widths nodes) (evaluate nodes s.tables) (evaluate nodes copy) p.rows new;
        stamps-size = stamps-length (s.number + 1) (net_changes (evaluate nodes s.tables) (evaluate nodes copy)) s.stamps size ∙ p.stamps-size;
        stamps-low = stamps-below (s.number + 1) (net_changes (evaluate nodes s.tables) (evaluate nodes copy)) s.stamps (λ i. omega (arith, p.stamps-low i));
        worked-few = worked-few nodes (net_changes (evaluate nodes s.tables) (evaluate nodes copy));
        worked-low = worked-low nodes (net_changes (evaluate nodes s.tables) (evaluate nodes copy));
      }

  module _ (s : State) (p : Proper nodes s) (b : Bytes) where
    refused-sound : (copy : List Relation) (n at : ℕ) → eqb n 0 ≡ false → (n ≡ 8 → ⊥) → Sound nodes s copy (refused_step (refused n at) s)
    refused-sound copy n at z h = record { proper = p; kept = λ e. refl; advanced = λ e. absurd (true≢false (sym e ∙ z)); high = h }

    limit-sound : (copy : List Relation) → Tables nodes copy → (over : List ℕ) → overfull 0 (evaluate nodes copy) ≡ over → Sound nodes s copy (limit nodes s copy over)
    unfolding limit
    limit-sound copy t [] e = record { proper = advance_proper s copy p t e; kept = λ f. absurd (true≢false f); advanced = λ f. refl; high = λ z. absurd (omega arith) }
    limit-sound copy t (i ∷ over) e = refused-sound copy 14 i refl (λ z. absurd (omega arith))

    pub step-sound : Sound nodes s (act_all (read_batch nodes b).events s.tables) (step nodes s b)
    unfolding step apply_events
    step-sound = go (eqb s.number last_number) (is_accepted (read_batch nodes b).verdict) refl
      where
        copy : List Relation
        copy = act_all (read_batch nodes b).events s.tables

        tables : Tables nodes (act_all (read_batch nodes b).events s.tables)
        tables = act_all-tables nodes (read_batch nodes b).events s.tables (batch-good nodes b) (proper_tables s p)

        go : (t u : Bool) → is_accepted (read_batch nodes b).verdict ≡ u →
            Sound nodes s (act_all (read_batch nodes b).events s.tables) (cond t (refused_step (refused 9 0) s)
            (cond u (limit nodes s (act_all (read_batch nodes b).events s.tables) (overfull 0 (evaluate nodes (act_all (read_batch nodes b).events s.tables))))
            (refused_step (read_batch nodes b).verdict s)))
        go true u e = refused-sound copy 9 0 refl (λ z. absurd (omega arith))
        go false true e = limit-sound (act_all (read_batch nodes b).events s.tables) tables (overfull 0 (evaluate nodes (act_all (read_batch nodes b).events s.tables))) refl
        go false false e = record { proper = p; kept = λ f. refl; advanced = λ f. absurd (true≢false (sym f ∙ e)); high = batch_high nodes b }
