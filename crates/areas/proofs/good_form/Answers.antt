use native.Mathlib.Omega.{arith}
use Rattle.std.proofs.lemmas.Bool.Decides.{nat_tests}
use Rattle.areas.proofs.Good.{form_is}
use Rattle.areas.proofs.good_form.Goals as goal

pub returns-then-good_stamps : goal.returns-then-good_stamps
returns-then-good_stamps c =
    let a = c.args in
    record { tells = λ nodes e. let f = form_is a.n a.widths.now a.rows.now a.gained.now a.lost.now a.head.now nodes c.requires.0 e in grind (arith, nat_tests, f) }

pub returns-else-good_stamps : goal.returns-else-good_stamps
returns-else-good_stamps c =
    let a = c.args in
    record { tells = λ nodes e. let f = form_is a.n a.widths.now a.rows.now a.gained.now a.lost.now a.head.now nodes c.requires.0 e in grind (arith, nat_tests, f) }
