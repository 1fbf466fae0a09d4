use mathlib.Core.Path.{sym}
use Prim.Native.Nat.{◌+◌}
use native.Mathlib.Omega.{arith}
use lib.ListN.{get_or}
use Rattle.model.specs.Areas.{row_count}
use Rattle.areas.specs.Lent.{place_at}
use Rattle.places.proofs.Places.{place-few}
use Rattle.coherence.proofs.Placed.{place_at_lem}
use Rattle.coherence.proofs.Agree.{over_differs, places-agree}
use Rattle.coherence.proofs.rows_agree.Goals as goal

pub same_rows-requires : goal.same_rows-requires
same_rows-requires c =
    let a = c.args in
    let here = place_at_lem a.widths.now (a.i + 1) a.rows.now a.head.now c.requires.0 a.i (omega arith) in
    (place-few (get_or a.widths.now a.i 0) (place_at a.rows.now a.i) (row_count a.head.now a.i) here, here.long, omega arith)

pub returns-in-None : goal.returns-in-None
returns-in-None c =
    let a = c.args in
    let f = rw c.in-None.is at c.evaluate_held.ensures in
    sym (over_differs a.slot a.widths.now a.rows.now a.head.now a.i c.requires.0 c.requires.1 f.0)

pub returns-in-Some : goal.returns-in-Some
returns-in-Some c =
    let a = c.args in
    let f = rw c.in-Some.is at c.evaluate_held.ensures in
    places-agree a.slot a.widths.now a.rows.now a.head.now a.i c.requires.0 c.requires.1
    c.evaluate_held.new.out c.in-Some.count
    c.same_rows.result f c.same_rows.ensures
