use mathlib.Core.Path.{sym, ◌∙◌}
use native.Mathlib.Omega.{arith}
use Rattle.model.specs.Areas.{layout}
use Rattle.model.specs.Pending.{pending_count}
use Rattle.areas.specs.Lent.{place_at}
use Rattle.places.proofs.Places.{place-few}
use Rattle.pending.proofs.Node.{put_other, put_same}
use Rattle.pending.proofs.put_rows.Goals as goal

pub same_rows-requires : goal.same_rows-requires
same_rows-requires c =
    let a = c.args in
    let w = c.requires.2.0 in
    (place-few w a.src.now a.n c.requires.2.1, c.requires.2.1.long, c.requires.2.2.long)

pub returns-then-same_rows : goal.returns-then-same_rows
returns-then-same_rows c =
    let a = c.args in
    λ w there here. put_same w a.src.now a.pending.now a.n a.i there here c.requires.0 c.requires.1 (sym (c.same_rows.ensures w there here) ∙ c.if-same_rows.true)

pub write_place-requires : goal.write_place-requires
write_place-requires c =
    let a = c.args in
    let w = c.requires.2.0 in
    let few = place-few w a.src.now a.n c.requires.2.1 in
    let had_few = place-few w (place_at a.pending.now a.i) (pending_count layout a.pending.now a.i) c.requires.2.2 in
    (c.requires.0, omega (arith, c.requires.1), omega (arith, few, had_few), omega (arith, few, had_few), c.requires.2.1.long)

pub overflow_cast-pending : goal.overflow_cast-pending
overflow_cast-pending c =
    let a = c.args in
    let w = c.requires.2.0 in
    omega (arith, place-few w a.src.now a.n c.requires.2.1)

pub returns : goal.returns
returns c =
    let a = c.args in
    let p = c.write_place in
    λ w there here. put_other w a.src.now a.pending.now a.n a.i there here p.new.area (p.ensures w there here)
