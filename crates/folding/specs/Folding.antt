-- Folding: what it reads, and what it makes of a node.
use Rattle.std.specs.Prelude.{◌≡◌, Bool, true, not, ◌&&◌, List, [], ℕ, ◌≤◌, ◌<◌, eqb, get_or, length, set, Result}
use Rattle.model.specs.Row.{Relation, Narrow, max_nodes, max_rows}
use Rattle.model.specs.Network.{Node, Network, widths, sign_of}
use Rattle.model.specs.Delta.{Change}
use Rattle.model.specs.Areas.{layout, area_size, head_words, gained_count, lost_count, good_area, changes_in, over}
use Rattle.model.specs.Watched.{allows, was_gained}
use Rattle.model.specs.Pending.{pending_size, pending_count, pending_in, pending_of, good_pending, fold_rows, fold_node}
use Rattle.model.specs.Calls.{FoldAnswer}
use Rattle.verdicts.specs.declared.Refusal.{Refusal}
use Rattle.verdicts.specs.Verdicts.{verdict_of}
use Rattle.areas.specs.Lent.{lent, place_at}
use Rattle.places.specs.Places.{Place, relation_in}

-- what folding answers and leaves, in the model's terms
abbrev pub fold_answer_of : Result (Unit {0}) Refusal → List ℕ → FoldAnswer
fold_answer_of r pending = record { verdict = verdict_of r; pending = pending }

-- ---- one node

-- it alerts, by its sign, and has gained or lost rows
abbrev pub is_touched : ℕ → List ℕ → ℕ → Bool
is_touched sign head i = allows sign was_gained && not (eqb (gained_count head i) 0 && eqb (lost_count head i) 0)

-- node i's gained, lost and pending rows are of good form, and of one width
pub record Foldable (w i : ℕ) (gained lost head pending : List ℕ) : Type 0 where
  pub inside : i < max_nodes
  pub gained-long : area_size ≤ length gained
  pub lost-long : area_size ≤ length lost
  pub head-long : head_words ≤ length head
  pub pending-long : pending_size ≤ length pending
  pub gained_at : Place w (place_at gained i) (gained_count head i)
  pub lost_at : Place w (place_at lost i) (lost_count head i)
  pub pending_at : Place w (place_at pending i) (pending_count layout pending i)

-- node i's rows in these words, folded
abbrev pub folded_words : ℕ → ℕ → List ℕ → List ℕ → List ℕ → List ℕ → Relation
folded_words w i gained lost head pending =
    fold_rows (relation_in w (place_at pending i) (pending_count layout pending i))
    (record {
      gained = relation_in w (place_at gained i) (gained_count head i);
      lost = relation_in w (place_at lost i) (lost_count head i);
    })

-- ---- all nodes

-- the changes in these words
abbrev pub changes_held : List Node → List ℕ → List ℕ → List ℕ → List Change
changes_held nodes gained lost head = changes_in layout nodes (lent [] gained lost head)

-- the signs of a network's watches stand in an array
pub record Signed (net : Network) (signs : List ℕ) : Type 0 where
  pub long : length signs ≡ max_nodes
  pub are : (i : ℕ) → get_or signs i 0 ≡ sign_of net i

-- the nodes' gained and lost rows are of good form
pub record Changed (nodes : List Node) (gained lost head : List ℕ) : Type 0 where
  pub gained-long : area_size ≤ length gained
  pub lost-long : area_size ≤ length lost
  pub head-long : head_words ≤ length head
  pub gained-good : good_area layout (widths nodes) (gained_count head) gained ≡ true
  pub lost-good : good_area layout (widths nodes) (lost_count head) lost ≡ true

-- all that folding reads is of good form, for a network
pub record Ready (net : Network) (gained lost head pending : List ℕ) : Type 0 where
  pub few : length net.nodes ≤ max_nodes
  pub narrow : Narrow (widths net.nodes)
  pub changed : Changed net.nodes gained lost head
  pub pending-good : good_pending layout net pending ≡ true

-- node i's pending rows once it is folded
abbrev pub folded_at : Network → List ℕ → List ℕ → List ℕ → List ℕ → ℕ → Relation
folded_at net gained lost head pending i =
    fold_node net (changes_held net.nodes gained lost head) (pending_in layout net pending) i

-- the pending area with node i folded
abbrev pub with_node : Network → List ℕ → List ℕ → List ℕ → List ℕ → ℕ → List ℕ
with_node net gained lost head pending i =
    over (pending_of layout (set (pending_in layout net pending) i (folded_at net gained lost head pending i))) pending

-- the folded rows of the first k nodes fit
abbrev pub FitTo : ℕ → Network → List ℕ → List ℕ → List ℕ → List ℕ → Type 0
FitTo k net gained lost head pending = (i : ℕ) → i < k → length (folded_at net gained lost head pending i) ≤ max_rows
