-- What an accepted batch leaves: the head's words, and what is known when it is written.
use Rattle.std.specs.Prelude.{◌≡◌, Bool, false, cond, List, [], ◌∷◌, ◌++◌, map, ℕ, length, get_or}
use Rattle.model.specs.Row.{numbers_below, max_nodes}
use Rattle.model.specs.Network.{AllFit}
use Rattle.model.specs.Areas.{stamp_at}
use Rattle.network.specs.declared.Network.{Network}
use Rattle.network.specs.Reading.{nodes_of}
use Rattle.propagation.specs.Propagated.{Marked}
use Rattle.changes.specs.Written.{WorkedOut}

-- the new stamps, from those of the head: the new number where a node changed
abbrev pub stamps_from : List ℕ → List Bool → ℕ → ℕ → List ℕ
stamps_from head changed number n = map (λ j. cond (get_or changed j false) number (stamp_at head j)) (numbers_below n)

-- the head's words one after the other: the sizes are the gained counts and the lost counts
abbrev pub head_from : ℕ → List ℕ → List ℕ → List ℕ → ℕ → List ℕ → List ℕ
head_from number counts stamps sizes k entries = (number ∷ []) ++ counts ++ stamps ++ sizes ++ (k ∷ []) ++ entries

-- every node of a network of n nodes with these levels is worked out, and the derived ones worked are marked
pub record Advancing (n : ℕ) (levels rows gained lost head work counts : List ℕ) (changed due : List Bool)
    (picks sizes : List ℕ) : Type 0 where
  pub net : Network
  pub out : WorkedOut net rows gained lost head work counts changed picks sizes
  pub fit : AllFit (nodes_of net)
  pub marked : Marked net changed due net.count
  pub marks-long : length due ≡ max_nodes
  pub count_is : net.count ≡ n
  pub levels-are : net.levels ≡ levels
