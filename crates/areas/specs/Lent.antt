-- The areas of a call, from the four slices that are lent.
use Rattle.std.specs.Prelude.{List, ℕ, ◌+◌, ◌-◌, ◌*◌, get_or, take, drop}
use Rattle.model.specs.Areas.{Areas, place_size}

-- the four areas
abbrev pub lent : List ℕ → List ℕ → List ℕ → List ℕ → Areas
lent rows gained lost head = record { rows = rows; gained = gained; lost = lost; head = head }

-- the counts from a word on, by node number
abbrev pub counts_from : List ℕ → ℕ → ℕ → ℕ
counts_from words first i = get_or words (first + i) 0

-- the part of an area that is lent as a node's place
abbrev pub place_at : List ℕ → ℕ → List ℕ
place_at area i = take (i * place_size + place_size - i * place_size) (drop (i * place_size) area)
