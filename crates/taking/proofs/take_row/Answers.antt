use mathlib.Core.Path.{refl}
use lib.ListN.{replicate}
use native.Mathlib.Omega.{arith}
use Rattle.model.specs.Areas.{stride}
use Rattle.taking.proofs.Row.{few, row_taken, row-long, row-left}
use Rattle.taking.proofs.take_row.Goals as goal

pub close_gap-requires : goal.close_gap-requires
close_gap-requires c =
    let h = c.requires.1 in
    (omega (arith, h.some), omega (arith, few c.requires.0 c.args.pending.now c.args.i h, h.inside, h.long))

pub returns : goal.returns
returns c =
    let a = c.args in
    let copied = c.copy_run in
    let shut = c.close_gap in
    let cleared = c.clear_run in
    λ w h.
    let row = row_taken w a.pending.now a.i h (replicate stride 0) copied.new.dst refl copied.ensures in
    record {
      row_is = row;
      row-long = row-long w a.pending.now a.i h copied.new.dst row;
      left = row-left w a.pending.now a.i h shut.new.words cleared.new.words shut.ensures cleared.ensures;
    }
