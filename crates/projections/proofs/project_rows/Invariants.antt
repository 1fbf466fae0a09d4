use mathlib.Core.List.{[]}
use mathlib.Core.Path.{◌≡◌}
use lib.ListN.{length, take}
use Rattle.places.specs.Places.{Stands}
use Rattle.places.proofs.Puts.{put_up_to}
use Rattle.projections.proofs.Projects.{projected}
use Rattle.model.specs.Areas.{place_size}
use Rattle.projections.proofs.project_rows.Given as goal

abbrev pub invariant-loop-i : goal.invariant-loop-i
invariant-loop-i l =
    (length l.out ≡ place_size) × Stands (put_up_to (projected (take l.c l.columns)) [] l.input l.i) l.out l.count
