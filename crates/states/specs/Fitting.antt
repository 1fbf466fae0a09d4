-- The form that relations need to stand in an area.
use Rattle.std.specs.Prelude.{◌≡◌, true, List, [], ℕ, ◌≤◌, ◌<◌, get_or, length}
use Rattle.model.specs.Row.{Relation, ascending, max_nodes, max_rows, max_width, Wide}

-- relations that fit into an area: one for each width
pub record Fitting (ws : List ℕ) (rels : List Relation) : Type 0 where
  pub size : length rels ≡ length ws
  pub few : length ws ≤ max_nodes
  pub narrow : (i : ℕ) → get_or ws i 0 ≤ max_width
  pub wide : (i : ℕ) → i < length ws → Wide (get_or ws i 0) (get_or rels i [])
  pub small : (i : ℕ) → i < length ws → length (get_or rels i []) ≤ max_rows
  pub asc : (i : ℕ) → i < length ws → ascending (get_or rels i []) ≡ true
