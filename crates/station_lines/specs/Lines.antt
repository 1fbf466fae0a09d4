-- A node's lines, and the most bytes of them.
use mathlib.Core.List.{List, [], ◌∷◌, flat_map}
use Rattle.std.specs.Prelude.{ℕ, ◌+◌, ◌*◌}
use Rattle.model.specs.Row.{Relation, max_width, max_rows}
use Rattle.model.specs.Record.{Bytes}
use Rattle.model.specs.Areas.{layout, changes_in}
use Rattle.model.specs.Text.{line, node_lines}
use Rattle.areas.specs.Lent.{lent}
use Rattle.network.specs.declared.Network.{Network}
use Rattle.network.specs.Reading.{network_of, nodes_of}

-- a watched change: a sign, then the node and the row's fields, each a space and at most 20 digits, and the line's end
abbrev pub change_room : ℕ
change_room = 1 + (1 + max_width) * 21 + 1

-- a node's lines: 64 gained rows and 64 lost ones, each a sign and five numbers
abbrev pub node_room : ℕ
node_room = 2 * max_rows * change_room

-- the lines of some rows of a node, each with this sign
unfoldable pub change_lines : ℕ → ℕ → Relation → Bytes
unfolding line flat_map
change_lines sign node rows = flat_map (λ r. line (sign ∷ []) (node ∷ r)) rows

-- a node's lines, from the areas
abbrev pub lines_in : Network → List ℕ → List ℕ → List ℕ → ℕ → Bytes
lines_in net gained lost head node = node_lines (network_of net)
    (changes_in layout (nodes_of net) (lent [] gained lost head)) node
