-- Opening: the areas hold the opened plain station's state. Assumes nothing.
use mathlib.Core.List.{List, [], map, zip_with, ◌∷◌}
use mathlib.Core.Bool.{Bool, cond, false, true}
use mathlib.Core.Path.{ap, ap₂, refl, sym, ◌∙◌, ◌≡◌}
use Prim.Native.Nat.{◌<◌, suc, zero, zero-le, ℕ, ◌≤◌}
use native.Mathlib.Omega.{arith}
use native.Mathlib.Nat.{le_refl, not-suc-le-zero}
use lib.Seq.{ext_get_or}
use lib.ListN.{length, length-replicate, replicate}
use Rattle.model.specs.Network.{Node, AllFit, widths, node_at, is_table, evaluate_on, left_of, right_of}
use Rattle.model.specs.Areas.{Areas, area_of, cleared, head_of, holding, layout, over, tables_of, area_size, head_words}
use Rattle.model.specs.Delta.{Change, no_change}
use Rattle.states.specs.Fitting.{Fitting}
use Rattle.states.proofs.Zeros.{area_none, lengths_none, none_fits, padded_none}
use Rattle.demand3.proofs.Holds.{Proper}
use Rattle.model.specs.Row.{Relation, max_nodes}
use Rattle.laws.proofs.Fits.{Small, length-widths}
use Rattle.model.specs.Evaluation.{evaluate, rows_at}
use Rattle.laws.proofs.Fresh.{fresh_derived, fresh_table, inputs_before}
use Rattle.laws.proofs.Build.{length-evaluate}
use Rattle.laws.proofs.ByKind.{on_none}
use Rattle.laws.proofs.Parts.{same_at}
use Rattle.model.specs.Station.{opened}
use Rattle.states.proofs.Worked.{worked-few, worked-low}

-- ---- an evaluation of empty tables is empty

module _ (nodes : List Node) (fit : AllFit nodes) where
  none_to : (k : ℕ) → k ≤ length nodes → (i : ℕ) → i < k → rows_at (evaluate nodes (replicate (length nodes) [])) i ≡ []
  none_to zero g i h = absurd (not-suc-le-zero h)
  none_to (suc k) g i h = go (is_table (node_at nodes i)) refl (none_to k (omega arith))
    where
      go : (t : Bool) → is_table (node_at nodes i) ≡ t → ((j : ℕ) → j < k → rows_at (evaluate nodes (replicate (length nodes) [])) j ≡ []) →
          rows_at (evaluate nodes (replicate (length nodes) [])) i ≡ []
      go true e ih = fresh_table nodes fit (replicate (length nodes) []) i (omega arith) e ∙ same_at {A = Relation} [] (length nodes) i
      go false e ih =
          let b : (left_of (node_at nodes i) < i) × (right_of (node_at nodes i) < i) = inputs_before nodes fit i (omega arith) e in
          fresh_derived nodes fit (replicate (length nodes) []) i (omega arith) e
          ∙ ap₂ {A = Relation} {B = Relation} {C = Relation} (λ x y. evaluate_on (node_at nodes i) x y) (ih (left_of (node_at nodes i)) (omega (arith, b.0)))
          (ih (right_of (node_at nodes i)) (omega (arith, b.1)))
          ∙ on_none (node_at nodes i)

  fresh_none : evaluate nodes (replicate (length nodes) []) ≡ replicate (length nodes) []
  fresh_none =
      let size : length (evaluate nodes (replicate (length nodes) [])) ≡ length nodes = length-evaluate nodes (replicate (length nodes) []) in
      ext_get_or [] (evaluate nodes (replicate (length nodes) [])) (replicate (length nodes) []) (size ∙ sym (length-replicate {A = Relation} (length nodes) []))
      (λ i h. none_to (length nodes) (le_refl (length nodes)) i (rw size at h) ∙ sym (same_at {A = Relation} [] (length nodes) i))

only_none : (nodes : List Node) → tables_of nodes (replicate (length nodes) []) ≡ replicate (length nodes) []
unfolding tables_of zip_with
only_none [] = refl
only_none (n ∷ nodes) = ap₂ {A = Relation} {B = List Relation} {C = List Relation} (λ a b. a ∷ b) (go (is_table n)) (only_none nodes)
  where
    go : (t : Bool) → cond {A = Relation} t [] [] ≡ []
    go true = refl
    go false = refl

map_none : (g : Change → Relation) (n : ℕ) → g no_change ≡ [] → map g (replicate n no_change) ≡ replicate n []
map_none g zero e = refl
map_none g (suc n) e = ap₂ {A = Relation} {B = List Relation} {C = List Relation} (λ a b. a ∷ b) e (map_none g n e)

module _ (nodes : List Node) (fit : AllFit nodes) (small : Small nodes) where
  ws_few : length (widths nodes) ≤ max_nodes
  ws_few = omega (arith, small.few, length-widths nodes)

  none_fitting : Fitting (widths nodes) (replicate (length nodes) [])
  none_fitting = ap_fits (none_fits (widths nodes) ws_few small.narrow)
    where
      ap_fits : Fitting (widths nodes) (replicate (length (widths nodes)) []) → Fitting (widths nodes) (replicate (length nodes) [])
      ap_fits f = rw (← length-widths nodes) f

  -- the opened state is proper
  pub opened_proper : Proper nodes (opened nodes)
  unfolding opened
  opened_proper =
      record {
        tables-size = length-replicate {A = Relation} (length nodes) [];
        tables_only = only_none nodes;
        rows = rw (fresh_none nodes fit) none_fitting;
        gained = rw (map_none (λ c. c.gained) (length nodes) refl) none_fitting;
        lost = rw (map_none (λ c. c.lost) (length nodes) refl) none_fitting;
        stamps-size = length-replicate {A = ℕ} (length nodes) 0;
        stamps-low = λ i. omega (arith, same_at {A = ℕ} 0 (length nodes) i);
        worked-few = zero-le;
        worked-low = λ k h. absurd (not-suc-le-zero h);
      }

  -- ---- its words are all 0

  counts_none : (g : Change → Relation) (n : ℕ) → g no_change ≡ [] → map (λ c. length (g c)) (replicate n no_change) ≡ replicate n 0
  counts_none g zero e = refl
  counts_none g (suc n) e = ap₂ {A = ℕ} {B = List ℕ} {C = List ℕ} (λ a b. a ∷ b) (ap length e) (counts_none g n e)

  head_none : head_of (replicate (length nodes) []) (opened nodes) ≡ replicate head_words 0
  unfolding head_of opened
  head_none =
      rw (lengths_none (length nodes), counts_none (λ c. c.gained) (length nodes) refl, counts_none (λ c. c.lost) (length nodes) refl, padded_none (length nodes) small.few)
      refl

  -- "Opening sets all named words to 0": they hold the opened state
  pub cleared-holds : (a : Areas) → cleared layout a ≡ holding layout nodes (opened nodes) a
  unfolding cleared holding opened
  cleared-holds a =
      let rows : area_of layout (evaluate nodes (replicate (length nodes) [])) ≡ replicate area_size 0 = ap (area_of layout) (fresh_none nodes fit) ∙ area_none (length nodes) small.few in
      let gained : area_of layout (map (λ c. c.gained) (replicate (length nodes) no_change)) ≡ replicate area_size 0 = ap (area_of layout) (map_none (λ c. c.gained) (length nodes) refl)
      ∙ area_none (length nodes) small.few in
      let lost : area_of layout (map (λ c. c.lost) (replicate (length nodes) no_change)) ≡ replicate area_size 0 = ap (area_of layout) (map_none (λ c. c.lost) (length nodes) refl)
      ∙ area_none (length nodes) small.few in
      let head : head_of (evaluate nodes (replicate (length nodes) [])) (opened nodes) ≡ replicate head_words 0 = ap (λ (r : List Relation). head_of r (opened nodes)) (fresh_none nodes fit)
      ∙ head_none in
      λ i. record { rows = over (sym rows i) a.rows; gained = over (sym gained i) a.gained; lost = over (sym lost i) a.lost; head = over (sym head i) a.head }
