-- One value for each node, each from the nodes before it: widths, levels, fresh evaluation. Assumes nothing.
use mathlib.Core.Path.{◌≡◌, refl, sym, ap, ◌∙◌}
use mathlib.Core.List.{List, [], ◌∷◌, ◌++◌, append_assoc, append-nil}
use Prim.Native.Nat.{ℕ, suc, ◌+◌, ◌≤◌, ◌<◌}
use native.Mathlib.Omega.{arith}
use lib.ListN.{length, get_or, take, drop, length-append, take-append-drop}
use lib.Seq.{take-suc, take_at, get_or-take, get_or_at, length-take-le}
use Rattle.model.specs.Row.{Relation}
use Rattle.model.specs.Network.{Node, table, node_at, build_on, build}
use Rattle.model.specs.Evaluation.{evaluate, evaluate_next, evaluate_node, rows_at}

module _ {A : Type 0} (f : Node → List A → A) where
  -- the values that a list of nodes adds
  grown : List A → List Node → List A
  grown done [] = []
  grown done (n ∷ nodes) = f n done ∷ grown (done ++ (f n done ∷ [])) nodes

  build_on_grown : (done : List A) (nodes : List Node) → build_on f done nodes ≡ done ++ grown done nodes
  unfolding grown
  build_on_grown done [] = sym (append-nil done)
  build_on_grown done (n ∷ nodes) = build_on_grown (done ++ (f n done ∷ [])) nodes ∙ append_assoc done (f n done ∷ []) (grown (done ++ (f n done ∷ [])) nodes)

  build_on-append : (done : List A) (a b : List Node) → build_on f done (a ++ b) ≡ build_on f (build_on f done a) b
  build_on-append done [] b = refl
  build_on-append done (n ∷ a) b = build_on-append (done ++ (f n done ∷ [])) a b

  length-build_on : (done : List A) (nodes : List Node) → length (build_on f done nodes) ≡ length done + length nodes
  length-build_on done [] = omega arith
  length-build_on done (n ∷ nodes) =
      length-build_on (done ++ (f n done ∷ [])) nodes ∙ rw (length-append done (f n done ∷ [])) (omega arith)

  -- as many values as nodes
  pub length-build : (nodes : List Node) → length (build f nodes) ≡ length nodes
  unfolding build
  length-build nodes = length-build_on [] nodes ∙ omega arith

  -- one node more adds one value, made from those before it
  pub build_more : (nodes : List Node) (n : Node) → build f (nodes ++ (n ∷ [])) ≡ build f nodes ++ (f n (build f nodes) ∷ [])
  unfolding build
  build_more nodes n = build_on-append [] nodes (n ∷ [])

  -- the first values are those of the first nodes
  pub build-take : (i : ℕ) (nodes : List Node) → i ≤ length nodes → take i (build f nodes) ≡ build f (take i nodes)
  unfolding build
  build-take i nodes h =
      ap (λ (l : List Node). take i (build_on f [] l)) (sym (take-append-drop i nodes))
      ∙ ap (take i) (build_on-append [] (take i nodes) (drop i nodes) ∙ build_on_grown (build_on f [] (take i nodes)) (drop i nodes))
      ∙ take_at
      (build_on f [] (take i nodes))
      (grown (build_on f [] (take i nodes)) (drop i nodes))
      i
      (length-build_on [] (take i nodes) ∙ rw (length-take-le i nodes h) (omega arith))

  -- value i is made from node i and the values before it
  pub build_at : (i : ℕ) (nodes : List Node) (d : A) → i < length nodes → get_or (build f nodes) i d ≡ f (node_at nodes i) (take i (build f nodes))
  build_at i nodes d h =
      let whole : take (suc i) (build f nodes) ≡ build f (take i nodes) ++ (f (node_at nodes i) (build f (take i nodes)) ∷ []) =
      build-take (suc i) nodes h ∙ ap (build f) (take-suc nodes i (table 0) h) ∙ build_more (take i nodes) (node_at nodes i) in
      sym (get_or-take (suc i) (build f nodes) i d (omega arith))
      ∙ ap (λ (l : List A). get_or l i d) whole
      ∙ get_or_at
      (build f (take i nodes))
      (f (node_at nodes i) (build f (take i nodes)))
      []
      d
      i
      (length-build (take i nodes) ∙ length-take-le i nodes (omega arith))
      ∙ ap (f (node_at nodes i)) (sym (build-take i nodes (omega arith)))

-- ---- fresh evaluation

-- every node has a fresh evaluation
pub length-evaluate : (nodes : List Node) (tables : List Relation) → length (evaluate nodes tables) ≡ length nodes
unfolding evaluate
length-evaluate nodes tables = length-build (evaluate_next tables) nodes

-- the first nodes' fresh evaluation does not depend on the nodes after them
pub evaluate-take : (i : ℕ) (nodes : List Node) (tables : List Relation) → i ≤ length nodes → take i (evaluate nodes tables) ≡ evaluate (take i nodes) tables
unfolding evaluate
evaluate-take i nodes tables h = build-take (evaluate_next tables) i nodes h

-- node i's fresh evaluation is what its kind gives from those of the nodes before it, and from its own rows if it is a table
pub evaluate_at : (i : ℕ) (nodes : List Node) (tables : List Relation) → i < length nodes →
    rows_at (evaluate nodes tables) i ≡ evaluate_node (node_at nodes i) (rows_at tables i) (take i (evaluate nodes tables))
unfolding evaluate
evaluate_at i nodes tables h =
    build_at (evaluate_next tables) i nodes [] h
    ∙ ap
    (λ (k : ℕ). evaluate_node (node_at nodes i) (rows_at tables k) (take i (build (evaluate_next tables) nodes)))
    (length-take-le i (build (evaluate_next tables) nodes) (rw (length-build (evaluate_next tables) nodes) (omega arith)))
