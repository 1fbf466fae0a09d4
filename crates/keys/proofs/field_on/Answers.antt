use mathlib.Core.Path.{sym}
use Prim.Native.Nat.{◌+◌, ◌*◌}
use lib.ListN.{get_or}
use Rattle.places.proofs.Places.{row_cell}
use native.Mathlib.Omega.{arith}
use Rattle.model.specs.Areas.{stride}
use Rattle.keys.proofs.field_on.Goals as goal

pub returns : goal.returns
returns c =
    let a = c.args in record {
      is = sym (row_cell a.rows.now a.i (get_or a.pairs.now (2 * a.k + a.side) 0) c.requires.2);
      fits = omega (arith, c.type_inv.rows (a.i * stride + get_or a.pairs.now (2 * a.k + a.side) 0));
    }
