-- Runs of words, compared.
use Rattle.std.specs.Prelude.{Bool, List, ℕ, take}
use Rattle.model.specs.Row.{same_row}

-- the first so many words are the same
abbrev pub same_first : ℕ → List ℕ → List ℕ → Bool
same_first count a b = same_row (take count a) (take count b)
