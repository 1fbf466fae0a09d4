-- Watched changes, in the order of reports and of the station program. Document 01, "Areas the caller lends",
-- "Examples".
use Rattle.std.specs.Prelude.{Bool, ◌||◌, cond, ℕ, eqb, length}
use mathlib.Core.List.{List, [], ◌++◌, map, flat_map}
use Rattle.model.specs.Row.{Row, Relation, numbers_below}
use Rattle.model.specs.Network.{Network, sign_of}
use Rattle.model.specs.Delta.{Change, change_at}

-- whether a row was gained or lost
pub data Direction : Type 0 where
  was_gained : Direction
  was_lost : Direction

-- a row that a node gained or lost
pub record WatchedChange : Type 0 where
  pub direction : Direction
  pub node : ℕ
  pub row : Row

-- the sign of a watch for this direction alone: "1 gained, 2 lost"
abbrev pub sign_for : Direction → ℕ
sign_for was_gained = 1
sign_for was_lost = 2

-- a watch's sign allows a direction: "3 both", or it is the direction's own
abbrev pub allows : ℕ → Direction → Bool
allows sign direction = eqb sign 3 || eqb sign (sign_for direction)

-- some rows of a node in one direction, if its sign allows that
abbrev pub allowed_rows : ℕ → ℕ → Direction → Relation → List WatchedChange
allowed_rows sign node direction rows =
    cond (allows sign direction) (map (λ r. record { direction = direction; node = node; row = r }) rows) []

-- those of one node: gained rows, then lost ones, "as the sign allows, ascending"
unfoldable pub changes_of : ℕ → ℕ → Change → List WatchedChange
changes_of sign node change =
    allowed_rows sign node was_gained change.gained ++ allowed_rows sign node was_lost change.lost

-- those of all nodes: "nodes ascending, gained first"
unfoldable pub watched_changes : Network → List Change → List WatchedChange
unfolding changes_of flat_map
watched_changes net changes =
    flat_map (λ i. changes_of (sign_of net i) i (change_at changes i)) (numbers_below (length net.nodes))
