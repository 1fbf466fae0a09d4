-- The relations that an area holds, one for each node. Assumes nothing.
use mathlib.Core.Path.{◌≡◌, ap, ◌∙◌}
use mathlib.Core.List.{List, []}
use Prim.Native.Nat.{ℕ, ◌<◌}
use native.Mathlib.Nat.{zero-add}
use lib.ListN.{length, get_or}
use Rattle.model.specs.Areas.{held_in, layout, relations_in}
use Rattle.laws.proofs.Parts.{length-counted, counted_at}

-- the relation of a node among those of an area
pub relation_at : (ws : List ℕ) (count : ℕ → ℕ) (area : List ℕ) (i : ℕ) → i < length ws → get_or (relations_in layout ws count area) i [] ≡ held_in layout (get_or ws i 0) (count i) area i
unfolding relations_in
relation_at ws count area i h = counted_at [] (λ j. held_in layout (get_or ws j 0) (count j) area j) 0 (length ws) i h ∙ ap (λ (j : ℕ). held_in layout (get_or ws j 0) (count j) area j)
    (zero-add i)

pub relations_length : (ws : List ℕ) (count : ℕ → ℕ) (area : List ℕ) → length (relations_in layout ws count area) ≡ length ws
unfolding relations_in
relations_length ws count area = length-counted (λ j. held_in layout (get_or ws j 0) (count j) area j) 0 (length ws)
