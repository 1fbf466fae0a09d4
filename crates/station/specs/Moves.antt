-- What the calls that move bytes may come to, and what a run of the program says of them.
use Rattle.std.specs.Prelude.{◌≡◌, Bool, true, false, ℕ, ◌<◌, length}
use Rattle.std.specs.declared.result.Result.{Result}
use Rattle.std.specs.declared.result.Result.TheVariants.{Ok, Err}
use Rattle.std.specs.declared.io.ErrorKind.{ErrorKind}
use Rattle.std.specs.declared.io.ErrorKind.TheVariants.{Interrupted, WouldBlock}
use Rattle.stages.specs.Stages.{Files}
use Rattle.program.specs.Runs.{output_of}
use Rattle.station.specs.declared.Stopped.{Stopped}

-- the failures that may pass
abbrev pub may_pass : ErrorKind → Bool
may_pass Interrupted = true
may_pass WouldBlock = true
may_pass _ = false

-- all of so many bytes were moved, or fewer
abbrev pub Wrote : ℕ → Result ℕ Stopped → Type 0
Wrote most (Ok n) = n ≡ most
Wrote most (Err s) = s.told < most

-- a run to the end has handed over as many bytes as the program's output has, and one that stopped fewer
abbrev pub Told : Files → Result ℕ Stopped → Type 0
Told f r = Wrote (length (output_of f)) r
