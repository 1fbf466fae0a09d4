-- The tables that a batch's events name.
use Rattle.std.specs.Prelude.{◌≡◌, Bool, true, false, List, [], ◌∷◌, ℕ, ◌+◌, ◌≤◌, ◌<◌, eqb, length, set}
use Rattle.model.specs.Row.{some_of, max_nodes}
use Rattle.model.specs.Record.{Bytes, field_at, is_broken}

-- an event at one of some offsets names a node
abbrev pub is_named : Bytes → List ℕ → ℕ → Bool
is_named bs ats t = some_of (λ at. eqb (field_at bs at 0) t) ats

-- marks, with one for each node that the events at some offsets name
abbrev pub named_marks : Bytes → List ℕ → List Bool → List Bool
named_marks bs [] marks = marks
named_marks bs (at ∷ ats) marks = named_marks bs ats (set marks (field_at bs at 0) true)

-- the records at some offsets are whole, and each names a node
abbrev pub NamesNodes : Bytes → List ℕ → Type 0
NamesNodes bs [] = Unit {0}
NamesNodes bs (at ∷ ats) = (is_broken bs at ≡ false) × (at + 6 ≤ length bs) × (field_at bs at 0 < max_nodes)
    × NamesNodes bs ats
