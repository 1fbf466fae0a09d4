-- A file of batches applied from opening on: what is left, in the plain station's terms.
use Rattle.std.specs.Prelude.{◌≡◌, true, false, List, [], ◌∷◌}
use Rattle.model.specs.Record.{Bytes, is_accepted}
use Rattle.model.specs.Network.{nodes_in}
use Rattle.model.specs.Station.{Call, apply, opened, state_after}
use Rattle.model.specs.Text.{Piece, batch, broken, unfinished, pieces}
use Rattle.model.specs.Areas.{Areas, layout, holding}
use Rattle.model.specs.Calls.{Result, open_call}
use Rattle.demand3.specs.Runs.{Runs, end_of}
use Rattle.demand3.specs.Demand3.{Demand3}

-- the batches that a mark ends, in order; a broken length or an unfinished batch ends the list
abbrev pub calls_of : List Piece → List Call
calls_of [] = []
calls_of (batch b ∷ rest) = apply b ∷ calls_of rest
calls_of (broken at ∷ rest) = []
calls_of (unfinished ∷ rest) = []

-- each call met its contract, and the last left these areas
pub record Reaches (net : Bytes) (a : Areas) (calls : List Call) (after : Areas) : Type 0 where
  pub results : List Result
  pub runs : Runs net a calls results
  pub end : end_of a results ≡ after

-- every marked batch of a file was applied, from opening on
pub record Replays (net file : Bytes) (a after : Areas) : Type 0 where
  -- by calls that met their contracts
  pub reaches : Reaches net (open_call net a).areas (calls_of (pieces file)) after
  -- demand 3 holds of them: verdicts, words, and every call of the list
  pub demand : Demand3 (nodes_in net) (opened (nodes_in net)) (open_call net a).areas (calls_of (pieces file))
      reaches.results
  -- the plain station's last state is in every named word; the words past them are as they were before opening
  pub words : after ≡ holding layout (nodes_in net)
      (state_after (nodes_in net) (opened (nodes_in net)) (calls_of (pieces file))) a

-- opening, then every marked batch of the file; where opening refuses, nothing is written
pub record Replayed (net file : Bytes) (a : Areas) (r : Result) : Type 0 where
  pub verdict : r.verdict ≡ (open_call net a).verdict
  pub refused : is_accepted (open_call net a).verdict ≡ false → r.areas ≡ a
  pub accepted : is_accepted (open_call net a).verdict ≡ true → Replays net file a r.areas
