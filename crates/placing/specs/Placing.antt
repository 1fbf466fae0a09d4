-- A node's place of an area with other rows.
use Rattle.std.specs.Prelude.{cond, List, ℕ, ◌+◌, ◌-◌, ◌*◌, ltb, replicate}
use Rattle.std.proofs.Math.Seq.{paste}
use Rattle.model.specs.Row.{Relation}
use Rattle.model.specs.Areas.{layout, place_of, place_size, stride}

-- the area with other rows in node i's place
abbrev pub placed : List ℕ → ℕ → Relation → List ℕ
placed area i rel = paste area (i * place_size) (place_of layout rel) place_size

-- where row j of node i's place begins
abbrev pub row_from : ℕ → ℕ → ℕ
row_from i j = i * place_size + j * stride

-- the area with zeros behind n rows of node i's place, up to row m
abbrev pub cleared_rest : List ℕ → ℕ → ℕ → ℕ → List ℕ
cleared_rest area i n m =
    cond (ltb n m) (paste area (row_from i n) (replicate (row_from i m - row_from i n) 0) (row_from i m - row_from i n)) area
