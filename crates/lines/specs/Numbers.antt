-- Numbers of a line.
use mathlib.Core.List.{List, ◌∷◌, flat_map}
use Rattle.std.specs.Prelude.{ℕ}
use Rattle.model.specs.Record.{Bytes}
use Rattle.model.specs.Text.{space, decimal}

-- numbers, one space before each
abbrev pub numbers_text : List ℕ → Bytes
numbers_text numbers = flat_map (λ n. space ∷ decimal n) numbers
