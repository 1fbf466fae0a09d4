-- Words that are all 0: the words of nodes without rows. Assumes nothing.
use mathlib.Core.List.{List, [], ◌∷◌, ◌++◌, map}
use mathlib.Core.Path.{ap, ap₂, refl, ◌∙◌, ◌≡◌}
use Prim.Native.Nat.{ℕ, zero, suc, zero-le, ◌+◌, ◌-◌, ◌*◌, ◌≤◌}
use native.Mathlib.Omega.{arith}
use lib.ListN.{get_or, length, length-replicate, replicate, replicate-append-replicate}
use Rattle.model.specs.Row.{Relation, max_nodes, max_width}
use Rattle.model.specs.Areas.{area_of, area_size, layout, padded, place_size}
use Rattle.laws.proofs.Parts.{same_at}
use Rattle.states.specs.Fitting.{Fitting}
use Rattle.states.proofs.Written.{flat_none}

-- nodes without rows fit into an area
pub none_fits : (ws : List ℕ) → length ws ≤ max_nodes → ((i : ℕ) → get_or ws i 0 ≤ max_width) → Fitting ws (replicate (length ws) [])
none_fits ws few narrow =
    record {
      size = length-replicate {A = Relation} (length ws) [];
      few = few;
      narrow = narrow;
      wide = λ i h. rw (same_at {A = Relation} [] (length ws) i) tt;
      small = λ i h. rw (same_at {A = Relation} [] (length ws) i) zero-le;
      asc = λ i h. rw (same_at {A = Relation} [] (length ws) i) refl;
    }

-- their words are all 0
pub area_none : (n : ℕ) → n ≤ max_nodes → area_of layout (replicate n []) ≡ replicate area_size 0
unfolding area_of
area_none n few =
    let size : place_size * n + (area_size - place_size * n) ≡ area_size = omega arith in
    ap₂ {A = List ℕ} {B = ℕ} {C = List ℕ} (λ a k. a ++ replicate (area_size - k) 0) (flat_none n) (ap length (flat_none n) ∙ length-replicate {A = ℕ} (place_size * n) 0)
    ∙ replicate-append-replicate {A = ℕ} (place_size * n) (area_size - place_size * n) 0
    ∙ ap (λ (k : ℕ). replicate {A = ℕ} k 0) size

-- and so are their counts
pub padded_none : (n : ℕ) → n ≤ max_nodes → padded max_nodes (replicate n 0) ≡ replicate max_nodes 0
padded_none n h =
    let size : n + (max_nodes - n) ≡ max_nodes = omega arith in
    ap (λ (k : ℕ). replicate {A = ℕ} n 0 ++ replicate (max_nodes - k) 0) (length-replicate {A = ℕ} n 0) ∙ replicate-append-replicate {A = ℕ} n (max_nodes - n) 0
    ∙ ap (λ (k : ℕ). replicate {A = ℕ} k 0) size

-- nodes without rows have counts of 0
pub lengths_none : (n : ℕ) → map length (replicate {A = Relation} n []) ≡ replicate n 0
lengths_none zero = refl
lengths_none (suc n) = ap (λ (l : List ℕ). 0 ∷ l) (lengths_none n)
