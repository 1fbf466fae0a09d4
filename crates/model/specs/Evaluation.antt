-- Fresh evaluation: document 01, "The plain station", last paragraph but one.
use Rattle.std.specs.Prelude.{cond, ℕ, suc, ltb, get_or, length}
use mathlib.Core.List.{List, [], ◌∷◌, flat_map}
use Rattle.model.specs.Row.{Relation, max_rows}
use Rattle.model.specs.Network.{Node, build, is_table, inputs_of, left_of, right_of, evaluate_on}
unfoldable pub use Rattle.model.specs.Network.{evaluate_set}

-- the rows of a node's input, given the rows of the nodes before it
abbrev pub rows_at : List Relation → ℕ → Relation
rows_at rels i = get_or rels i []

-- "what its kind gives from the fresh evaluations of its inputs, without a limit"; of a table, its own rows
unfoldable pub evaluate_node : Node → Relation → List Relation → Relation
unfolding evaluate_on
evaluate_node n own rels = cond (is_table n) own (evaluate_on n (rows_at rels (left_of n)) (rows_at rels (right_of n)))

-- the next node's rows, after those of the nodes before it; the tables' rows stand at their node numbers
abbrev pub evaluate_next : List Relation → Node → List Relation → Relation
evaluate_next tables n done = evaluate_node n (rows_at tables (length done)) done

-- "The fresh evaluation of a table is its rows; of a derived node, what its kind gives": every node's, by number
unfoldable pub evaluate : List Node → List Relation → List Relation
unfolding build evaluate_node
evaluate nodes tables = build (evaluate_next tables) nodes

-- the numbers, from i on, of the relations with more than 64 rows
abbrev pub overfull : ℕ → List Relation → List ℕ
overfull i [] = []
overfull i (r ∷ rels) = cond (ltb max_rows (length r)) (i ∷ overfull (suc i) rels) (overfull (suc i) rels)

-- "A node is built on the tables it reaches through its inputs, a table on itself"
unfoldable pub built_on : List Node → List (List ℕ)
unfolding build flat_map
built_on nodes = build (λ n done. cond (is_table n) (length done ∷ []) (flat_map (λ i. get_or done i []) (inputs_of n))) nodes
