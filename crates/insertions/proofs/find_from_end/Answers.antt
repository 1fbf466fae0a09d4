use mathlib.Core.Path.{◌≡◌, sym, ap, ◌∙◌}
use Prim.Native.Nat.{◌+◌, ◌-◌}
use native.Mathlib.Omega.{arith}
use Rattle.laws.proofs.Sets.{ascending-holds}
use Rattle.rows.specs.Rows.{first_rows, order_of}
use Rattle.rows.proofs.Search.{narrowed_all, narrowed_found, narrowed_greater, narrowed_none}
use Rattle.insertions.proofs.Shorter.{ascending_shorter, located_shorter, none_located}
use Rattle.insertions.proofs.find_from_end.Goals as goal

pub returns-then-n-eq0 : goal.returns-then-n-eq0
returns-then-n-eq0 c = let e : c.args.n ≡ 0 = omega arith in rw e (none_located _ c.args.words.now)

pub find-requires : goal.find-requires
find-requires c = (omega arith, c.requires.1, ascending_shorter _ _ _ (omega arith) c.requires.2)

pub returns-in-Less : goal.returns-in-Less
returns-in-Less c =
    c.find.ensures ∙ located_shorter _ _ _ (omega arith) _ (sym (ap order_of (sym c.in-Less.is) ∙ c.compare_rows.ensures))

pub returns-in-Equal : goal.returns-in-Equal
returns-in-Equal c =
    let asc = ascending-holds _ c.requires.2 in
    sym (narrowed_found _ _ _ _ asc 0 c.args.n _ (omega arith) (omega arith) (omega arith)
    (ap order_of (sym c.in-Equal.is) ∙ c.compare_rows.ensures) (narrowed_all _ _ _ _ asc))

pub returns-in-Greater : goal.returns-in-Greater
returns-in-Greater c =
    let n = c.args.n in
    let asc = ascending-holds (first_rows c.args.words.now n) c.requires.2 in
    let e : n - 1 + 1 ≡ n = omega arith in
    let all = narrowed_greater _ _ _ _ asc 0 n (n - 1) (omega arith) (ap order_of (sym c.in-Greater.is) ∙ c.compare_rows.ensures) (narrowed_all _ _ _ n asc) in
    sym (narrowed_none _ _ _ _ asc n n (omega arith) (omega arith) (rw e at all))
