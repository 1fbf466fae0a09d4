use native.Mathlib.Omega.{arith}
use Rattle.zeros.proofs.Zeros.{two_gathered}
use Rattle.zeros.proofs.two_pairs.Goals as goal

pub returns : goal.returns
returns c =
    let a = c.args in
    two_gathered a.words.now a.k a.bits.even a.bits.odd c.pair.result c.pair-2.result (omega arith) c.pair.ensures
    c.pair-2.ensures
