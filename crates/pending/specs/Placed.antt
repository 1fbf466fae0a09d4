-- The pending area node by node: who may hold rows, and other rows written.
use Rattle.std.specs.Prelude.{Bool, ◌||◌, List, ℕ, ◌+◌, eqb, length, set, get_or}
use Rattle.model.specs.Row.{Relation}
use Rattle.model.specs.Areas.{layout, area_size}
use Rattle.model.specs.Watched.{allows, was_gained}
use Rattle.model.specs.Pending.{pending_count}
use Rattle.placing.specs.Placing.{placed}

-- node i alerts, by its sign, or holds nothing
abbrev pub may_hold : List ℕ → List ℕ → ℕ → Bool
may_hold signs pending i = allows (get_or signs i 0) was_gained || eqb (pending_count layout pending i) 0

-- the pending area with other rows, and their count, at node i
abbrev pub pending_with : List ℕ → ℕ → Relation → List ℕ
pending_with pending i rel = set (placed pending i rel) (area_size + i) (length rel)
