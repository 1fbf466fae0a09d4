-- A run of the station program: steps from the beginning to the end, each meeting its contract.
use Rattle.std.specs.Prelude.{◌≡◌, true, false, ℕ, suc, ◌+◌, ◌-◌, ◌*◌, length, take}
use mathlib.Core.List.{List, [], ◌∷◌, flat_map}
use Rattle.model.specs.Row.{max_nodes}
use Rattle.model.specs.Record.{Bytes}
use Rattle.model.specs.Areas.{Areas, layout, long_enough}
use Rattle.model.specs.Text.{program_output}
use Rattle.stages.specs.declared.Stage.{Stage}
use Rattle.stages.specs.declared.Stage.TheVariants.{Begin, Cut, Tell, End}
use Rattle.stages.specs.declared.Said.{Said}
use Rattle.stages.specs.Stages.{Files, Says, file_of, is_over}

-- a step: the lent bytes before and after it, the areas after it, and its answer
pub record Turn : Type 0 where
  pub before : Bytes
  pub out : Bytes
  pub areas : Areas
  pub said : Said

-- each step meets its contract from where the one before left; after the last the program is over
abbrev pub Runs : Files → Stage → Areas → List Turn → Type 0
Runs f s a [] = is_over s ≡ true
Runs f s a (t ∷ turns) = (is_over s ≡ false) × Says f s a t.areas t.before t.out t.said
    × Runs f t.said.stage t.areas turns

-- what a run hands out: of each step the bytes that it wrote
abbrev pub handed_out : List Turn → Bytes
handed_out turns = flat_map (λ t. take t.said.size t.out) turns

-- the program's output for the two files
abbrev pub output_of : Files → Bytes
output_of f = program_output (file_of f.found_net f.net) (file_of f.found_batches f.batches)

-- every run on long enough areas hands out that output
abbrev pub Prints : Type 0
Prints = (f : Files) (a : Areas) (turns : List Turn) → long_enough layout a ≡ true → Runs f Begin a turns
    → handed_out turns ≡ output_of f

-- at most so many steps are left: all nodes' turns for each byte that is left of the file
abbrev pub left : Files → Stage → ℕ
left f Begin = 2 * max_nodes * suc (suc (length f.batches))
left f (Cut start) = 2 * max_nodes * suc (length f.batches - start)
left f (Tell node next) = 2 * max_nodes * suc (length f.batches - next) + (suc max_nodes - node)
left f End = 0
