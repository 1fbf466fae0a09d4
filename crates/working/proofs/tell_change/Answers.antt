use mathlib.Core.Path.{refl}
use native.Mathlib.Omega.{arith}
use Rattle.working.specs.Worked.{told_in, SizedChanges}
use Rattle.areas.specs.Lent.{place_at}
use Rattle.working.proofs.Differ.{tells_compared, keeps-told}
use Rattle.working.proofs.tell_change.Goals as goal

pub returns : goal.returns
returns c =
    let a = c.args in
    let r = c.compare_places-change in
    let sized : SizedChanges (told_in a.told.now) = record { picks = omega arith; sizes = omega arith } in
    let part = r.new.picks in record {
      tells = λ w p q. tells_compared a.told.now.picks a.told.now.sizes part a.i r.result.gained r.result.lost c.requires.0 sized r.ensures.long w
          (place_at a.rows.now a.i) a.m a.new.now a.n r.result r.ensures refl refl q p;
      keeps = keeps-told a.told.now.picks a.told.now.sizes part a.i r.result.gained r.result.lost c.requires.0 sized r.ensures.long;
    }
