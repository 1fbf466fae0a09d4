-- Rows made of columns of rows: what projection makes of the rows of places, and join of two rows.
use Rattle.std.specs.Prelude.{cond, List, map, ℕ, ◌-◌, ltb, get_or, replicate}
use Rattle.model.specs.Row.{Row, set_of}
use Rattle.model.specs.Areas.{padded, stride}

-- a column of a left row of that many fields followed by a right row, each in words
abbrev pub joined_field : ℕ → Row → Row → ℕ → ℕ
joined_field split l r c = cond (ltb c split) (get_or l c 0) (get_or r (c - split) 0)

-- the named columns of it, then zeros
abbrev pub joined_row : ℕ → List ℕ → Row → Row → Row
joined_row split columns l r = padded stride (map (joined_field split l r) columns)

-- the named columns of a row followed by zeros: a column of the zeros masks a field
abbrev pub masked_row : List ℕ → Row → Row
masked_row columns r = joined_row stride columns r (replicate stride 0)

-- the same of rows, as a set
abbrev pub masked_rows : List ℕ → List Row → List Row
masked_rows columns rows = set_of (map (masked_row columns) rows)
