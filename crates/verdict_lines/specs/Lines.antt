-- The most bytes of a verdict's line.
use Rattle.std.specs.Prelude.{ℕ}

-- "refused" and two numbers
abbrev pub refused_room : ℕ
refused_room = 50

-- "batch" and a number
abbrev pub batch_room : ℕ
batch_room = 27
