-- Change records written into lent bytes.
use Rattle.std.specs.Prelude.{Bool, cond, ℕ, ◌+◌, ◌*◌}
use mathlib.Core.List.{[], flat_map}
use Rattle.model.specs.Record.{Bytes}
use Rattle.model.specs.Row.{Relation}
use Rattle.model.specs.Watched as model
use Rattle.model.specs.Calls.{change_record}
use Rattle.reports.specs.declared.Direction.{Direction}
use Rattle.reports.specs.declared.Direction.TheVariants.{Gained, Lost}

-- a direction, in the model's terms
abbrev pub direction_of : Direction → model.Direction
direction_of Gained = model.was_gained
direction_of Lost = model.was_lost

-- the records of some rows of a node
abbrev pub records_of : ℕ → ℕ → Relation → Bytes
records_of kind node rows = flat_map (change_record kind node) rows

-- the records of a node's rows in an area, where they are allowed
abbrev pub allowed_of : Bool → ℕ → ℕ → Relation → Bytes
allowed_of allowed kind node rows = cond allowed (records_of kind node rows) []

-- how many bytes a node's report takes: its watch's sign, its width, how many rows it gained and lost
abbrev pub report_size : ℕ → ℕ → ℕ → ℕ → ℕ
report_size sign w gained lost =
    cond (model.allows sign model.was_gained) (gained * (6 + 4 * w)) 0 + cond (model.allows sign model.was_lost)
    (lost * (6 + 4 * w)) 0
