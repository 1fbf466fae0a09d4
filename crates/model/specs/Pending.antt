-- Alerts waiting for the adviser: document 02, point 2, document 000's action set with priorities.
use Rattle.std.specs.Prelude.{Bool, ◌&&◌, ◌||◌, cond, List, [], ◌++◌, map, ℕ, suc, ◌+◌, leb, eqb, get_or, length, set, drop}
use Rattle.model.specs.Row.{Row, Relation, max_nodes, keep, all_of, is_empty, numbers_below}
use Rattle.model.specs.Algebra.{union_rows, difference_rows}
use Rattle.model.specs.Network.{Network, widths, sign_of, priority_of, highest_of}
use Rattle.model.specs.Evaluation.{rows_at}
use Rattle.model.specs.Delta.{Change, change_at}
use Rattle.model.specs.Areas.{Layout, layout, area_words, good_area, relations_in, area_of, padded}
use Rattle.model.specs.Watched.{allows, was_gained}

-- ---- the pending area

-- "rows laid out as in the rows area, then 32 counts"
abbrev pub pending_words : Layout → ℕ
pending_words L = area_words L + max_nodes

-- the named words: 8,224
abbrev pub pending_size : ℕ
pending_size = pending_words layout

-- how many rows of node i are pending
abbrev pub pending_count : Layout → List ℕ → ℕ → ℕ
pending_count L area i = get_or area (area_words L + i) 0

-- "nodes watched with sign 1 or 3"
abbrev pub alerts : Network → ℕ → Bool
alerts net i = allows (sign_of net i) was_gained

-- what 17 says of the area alone: "too short, with a count above 64, not in strictly ascending order with zero rest,
-- holding rows for a node not so watched"
unfoldable pub good_pending : Layout → Network → List ℕ → Bool
unfolding good_area widths
good_pending L net area =
    leb (pending_words L) (length area)
    && good_area L (widths net.nodes) (pending_count L area) area
    && all_of (λ i. alerts net i || eqb (pending_count L area i) 0) (numbers_below max_nodes)

-- each node's pending rows
unfoldable pub pending_in : Layout → Network → List ℕ → List Relation
unfolding relations_in widths
pending_in L net area = relations_in L (widths net.nodes) (pending_count L area) area

-- the words of a pending area, given each node's rows
unfoldable pub pending_of : Layout → List Relation → List ℕ
unfolding area_of
pending_of L rels = area_of L rels ++ padded max_nodes (map length rels)

-- ---- folding

-- "the lost rows go out, then the gained ones come in"
unfoldable pub fold_rows : Relation → Change → Relation
unfolding union_rows difference_rows
fold_rows pending change = union_rows (difference_rows pending change.lost) change.gained

-- node i's pending rows once it is folded: "the gains and losses of nodes watched with sign 1 or 3"
abbrev pub fold_node : Network → List Change → List Relation → ℕ → Relation
fold_node net changes pending i =
    cond (alerts net i) (fold_rows (rows_at pending i) (change_at changes i)) (rows_at pending i)

-- the same for every node
unfoldable pub fold_all : Network → List Change → List Relation → List Relation
unfolding fold_rows
fold_all net changes pending = map (fold_node net changes pending) (numbers_below (length net.nodes))

-- ---- taking

-- 0 for a node with nothing pending, else 1 more than its priority
abbrev pub rank_of : Network → List Relation → ℕ → ℕ
rank_of net pending i = cond (is_empty (rows_at pending i)) 0 (suc (priority_of net i))

-- "the highest priority number with something pending", as a rank: 0 if nothing is pending
unfoldable pub highest_rank : Network → List Relation → ℕ
highest_rank net pending = highest_of (map (rank_of net pending) (numbers_below (length net.nodes)))

-- "there to the lowest node"
unfoldable pub next_node : Network → List Relation → ℕ
unfolding highest_rank
next_node net pending =
    get_or (keep (λ i. eqb (rank_of net pending i) (highest_rank net pending)) (numbers_below (length net.nodes))) 0 0

-- the lowest row of a relation
abbrev pub lowest_row : Relation → Row
lowest_row rel = get_or rel 0 []

-- a node's lowest row is removed
abbrev pub without_lowest : List Relation → ℕ → List Relation
without_lowest pending i = set pending i (drop 1 (rows_at pending i))
