use mathlib.Core.List.{[]}
use mathlib.Core.Path.{◌≡◌}
use lib.ListN.{length}
use Rattle.places.specs.Places.{Stands}
use Rattle.joins.specs.Joins.{joined_with}
use Rattle.places.proofs.Puts.{put_up_to}
use Rattle.rows.specs.Rows.{first_rows}
use Rattle.model.specs.Areas.{place_size}
use Rattle.joins.proofs.join_all.Given as goal

abbrev pub invariant-loop-i : goal.invariant-loop-i
invariant-loop-i l = (length l.out ≡ place_size) × Stands (put_up_to (joined_with l.how (first_rows l.right l.m)) [] l.left l.i) l.out l.count
