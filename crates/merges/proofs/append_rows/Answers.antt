use native.Mathlib.Omega.{arith}
use Rattle.merges.proofs.Merged.{appended, stands-long}
use Rattle.merges.proofs.append_rows.Goals as goal

pub copy_run-requires : goal.copy_run-requires
copy_run-requires c = let a = c.args in omega (arith, stands-long a.out.now a.count c.requires.0)

pub returns : goal.returns
returns c =
    let a = c.args in
    appended a.src.now a.i a.k a.out.now c.copy_run.new.dst a.count c.requires.0 c.requires.1 c.requires.2 c.copy_run.ensures
