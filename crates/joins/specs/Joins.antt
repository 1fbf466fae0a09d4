-- Joined rows: what join makes of the rows of places.
use Rattle.std.specs.Prelude.{◌≡◌, true, ℕ, ◌+◌, take}
use mathlib.Core.List.{List, map, flat_map}
use Rattle.model.specs.Row.{Row, keep, set_of}
use Rattle.model.specs.Algebra.{agree}
use Rattle.model.specs.Network.{columns_below, pairs_below}
use Rattle.nodes.specs.Nodes.{pairs_of}
use Rattle.masks.specs.declared.Joining.{Joining}
use Rattle.columns.specs.Columns.{joined_row}

-- a left row with each right row that agrees
abbrev pub joined_with : Joining → List Row → Row → List Row
joined_with how right l =
    map (joined_row how.split (take how.n how.columns) l) (keep (agree (pairs_of how.p how.pairs) l) right)

-- the rows that left and right rows make, as a set
abbrev pub joined_rows : Joining → List Row → List Row → List Row
joined_rows how left right = set_of (flat_map (joined_with how right) left)

-- a join's columns are inside its rows, the right ones of a width
pub record JoinsIn (how : Joining) (w : ℕ) : Type 0 where
  pub pairs : pairs_below how.split w (pairs_of how.p how.pairs) ≡ true
  pub columns : columns_below (how.split + w) (take how.n how.columns) ≡ true
