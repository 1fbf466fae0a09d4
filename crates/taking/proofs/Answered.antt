-- What taking answers, by its tests. Assumes nothing.
use mathlib.Core.Bool.{Bool, true, false, not, true≢false}
use mathlib.Core.List.{List, [], ◌∷◌}
use mathlib.Core.Path.{◌≡◌, ap, ap₂, refl, subst, sym, ◌∙◌}
use Prim.Native.Nat.{ℕ, ◌≤◌, ◌<◌}
use native.Mathlib.Omega.{arith}
use lib.Dec.{eqb}
use lib.ListN.{drop, get_or, length, length-drop, set}
use borrow.Author.Tests.{ne_eqb, not-false, not-true}
use Rattle.model.specs.Row.{Relation, keep, max_nodes, max_rows, numbers_below, is_empty}
use Rattle.model.specs.Record.{refused}
use Rattle.model.specs.Network.{widths}
use Rattle.model.specs.Evaluation.{rows_at}
use Rattle.model.specs.Areas.{layout, over, padded, stride}
use Rattle.model.specs.Pending.{good_pending, highest_rank, lowest_row, next_node, pending_count, pending_in, pending_of, pending_size, without_lowest}
use Rattle.model.specs.Calls.{TakeAnswer, refused_taking, take_in, taken_from}
use Rattle.laws.proofs.Fits.{length-widths}
use Rattle.laws.proofs.Alerts.{next-inside, next-some, wide_rest}
use Rattle.areas.specs.Lent.{place_at}
use Rattle.places.specs.Places.{Place, relation_in}
use Rattle.places.proofs.Places.{place-count, place-few, place-wide}
use Rattle.network.specs.declared.Network.{Network}
use Rattle.network.specs.Reading.{Built, network_of, nodes_of}
use Rattle.network.proofs.Nodes.{narrow-widths, nodes-count}
use Rattle.network.proofs.Building.{priority_at_lem}
use Rattle.states.proofs.Pending.{pending_parts}
use Rattle.pending.specs.Placed.{pending_with}
use Rattle.pending.proofs.Node.{node-place, node-put}
use Rattle.std.specs.Prelude.{Result, Ok, Err}
use Rattle.verdicts.specs.declared.Refusal.{Refusal}
use Rattle.verdicts.specs.Verdicts.{refusal_of}
use Rattle.taking.specs.declared.Taken.{Taken}
use Rattle.taking.specs.Taking.{Held, Takes, TakesRow, highest_in, rank_in}
use Rattle.taking.proofs.Ranks.{highest_is, next_is}

-- a refusal answers no node and no row
pub refused_takes : (d : Refusal) (p : List ℕ) (x : TakeAnswer) → x ≡ refused_taking (refusal_of d) p → (r : Result Taken Refusal) → r ≡ Err d → Takes x r p
refused_takes d p x e r f = rw (e, f) (record { verdict = refl; node = refl; row = refl; row-long = refl; pending = refl })

module _ (net : Network) (b : Built net) (p : List ℕ) where
  size : length (widths (nodes_of net)) ≡ net.count
  size = length-widths (nodes_of net) ∙ nodes-count net b

  few : length (widths (nodes_of net)) ≤ max_nodes
  few = rw size b.sound.few

  abbrev rels : List Relation
  rels = pending_in layout (network_of net) p

  -- 17
  pub taken_17 : (good : Bool) → good ≡ good_pending layout (network_of net) p → not good ≡ true → take_in layout (network_of net) p ≡ refused_taking (refused 17 0) p
  unfolding take_in
  taken_17 good e t = rw (sym e ∙ not-true good t)

  module _ (good : Bool) (e : good ≡ good_pending layout (network_of net) p) (passed : not good ≡ false) where
    whole : good_pending layout (network_of net) p ≡ true
    whole = sym e ∙ not-false good passed

    pub long : pending_size ≤ length p
    long = (pending_parts (network_of net) p whole).0

    module _ (top : ℕ) (is : top ≡ highest_in net.priorities p net.count) where
      top_is : top ≡ highest_rank (network_of net) (pending_in layout (network_of net) p)
      top_is = is ∙ ap (highest_in net.priorities p) (sym (nodes-count net b)) ∙ highest_is (network_of net) net.priorities p (priority_at_lem net b)

      -- 18
      pub taken_18 : top ≡ 0 → take_in layout (network_of net) p ≡ refused_taking (refused 18 0) p
      unfolding take_in
      taken_18 z = rw (whole, sym top_is ∙ z)

      module _ (n : top ≡ 0 → ⊥) (node : ℕ)
          (lowest : node ≡ get_or (keep (λ i. eqb (rank_in net.priorities p i) top) (numbers_below net.count)) 0 0) where
        some : 0 < highest_rank (network_of net) (pending_in layout (network_of net) p)
        some = rw (← top_is) (omega (arith, n))

        node_is : node ≡ next_node (network_of net) (pending_in layout (network_of net) p)
        node_is =
            lowest
            ∙ ap₂ {A = ℕ} {B = ℕ} {C = ℕ} (λ k m. get_or (keep (λ i. eqb (rank_in net.priorities p i) k) (numbers_below m)) 0 0) top_is (sym (nodes-count net b))
            ∙ next_is (network_of net) net.priorities p (priority_at_lem net b)

        inside : node < net.count
        inside = omega (arith, node_is, nodes-count net b, next-inside (network_of net) (pending_in layout (network_of net) p) some)

        abbrev w : ℕ
        w = get_or (widths (nodes_of net)) node 0

        abbrev row_count_lem : ℕ
        row_count_lem = pending_count layout p node

        at : Place (get_or (widths (nodes_of net)) node 0) (place_at p node) (pending_count layout p node)
            × (relation_in (get_or (widths (nodes_of net)) node 0) (place_at p node) (pending_count layout p node) ≡ rows_at (pending_in layout (network_of net) p) node)
        at = node-place (network_of net) few (narrow-widths net b) p whole node (rw size inside)

        counted : length (rows_at (pending_in layout (network_of net) p) node) ≡ pending_count layout p node
        counted = ap length (sym at.1) ∙ place-count w (place_at p node) row_count_lem at.0

        -- the node's place, which has a row
        pub held : Held (get_or (widths (nodes_of net)) node 0) p node
        held =
            record {
              inside = omega (arith, inside, b.sound.few);
              long = long;
              at = at.0;
              some = rw (← counted) (not_empty (rows_at (pending_in layout (network_of net) p) node)
                  (ap (λ (k : ℕ). is_empty (rows_at (pending_in layout (network_of net) p) k)) node_is ∙ next-some (network_of net) (pending_in layout (network_of net) p) some));
            }
          where
            not_empty : (l : Relation) → is_empty l ≡ false → 0 < length l
            not_empty [] z = absurd (true≢false z)
            not_empty (r ∷ l) z = omega arith

        taken_is : take_in layout (network_of net) p ≡ taken_from layout (pending_in layout (network_of net) p) node p
        unfolding take_in
        taken_is =
            rw (whole, ne_eqb (highest_rank (network_of net) (pending_in layout (network_of net) p)) 0 (λ z. omega (arith, some)))
            (ap (λ (k : ℕ). taken_from layout (pending_in layout (network_of net) p) k p) (sym node_is))

        -- the node's rows but the lowest, written
        left_is : pending_with p node (drop 1 (relation_in w (place_at p node) row_count_lem))
            ≡ over (pending_of layout (without_lowest (pending_in layout (network_of net) p) node)) p
        left_is =
            let rel : Relation = relation_in w (place_at p node) row_count_lem in
            let small : length (drop 1 rel) ≤ max_rows = rw (length-drop 1 rel, place-count w (place_at p node) row_count_lem at.0) (omega (arith, place-few w (place_at p node) row_count_lem at.0)) in
            node-put (network_of net) few (narrow-widths net b) p whole node (rw size inside) (drop 1 rel) (wide_rest w rel (place-wide w (place_at p node) row_count_lem at.0)) small
            ∙ ap (λ (l : Relation). over (pending_of layout (set (pending_in layout (network_of net) p) node (drop 1 l))) p) at.1

        -- the row taken
        pub takes : (after row : List ℕ) → TakesRow (get_or (widths (nodes_of net)) node 0) p node after row →
            Takes (take_in layout (network_of net) p) (Ok (record { node = node; row = row })) after
        unfolding taken_from
        takes after row t = subst (λ (x : TakeAnswer). Takes x (Ok (record { node = node; row = row })) after) (sym taken_is) (record {
          verdict = refl;
          node = refl;
          row = t.row_is ∙ ap (λ (l : Relation). padded stride (lowest_row l)) at.1;
          row-long = t.row-long;
          pending = t.left ∙ left_is;
        })
