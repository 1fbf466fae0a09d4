-- Rows of good form: what the functions of this crate tell.
use Rattle.std.specs.Prelude.{Bool, ◌&&◌, List, map, ℕ, eqb, get_or, take, drop}
use Rattle.model.specs.Row.{Row, ascending, all_of}
use Rattle.model.specs.Areas.{all_zero}

-- field c is 0 in every row
abbrev pub zero_field : ℕ → List Row → Bool
zero_field c l = all_of (λ r. eqb (get_or r c 0) 0) l

-- every row has zeros past the width
abbrev pub zero_past : ℕ → List Row → Bool
zero_past w l = all_of (λ r. all_zero (drop w r)) l

-- rows of a width: strictly ascending, with zeros past the width
unfoldable pub good_rows : ℕ → List Row → Bool
good_rows w l = ascending (map (take w) l) && zero_past w l
