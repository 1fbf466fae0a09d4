use Rattle.model.specs.Network.{evaluate_set}
use borrow.Author.Rules.{rules}
use native.Mathlib.Omega.{arith}
use Rattle.places.proofs.Places.{place-few, rows_ascend}
use Rattle.evaluation.proofs.set_rows.Goals as goal

pub union_rows-requires : goal.union_rows-requires
union_rows-requires c =
    let a = c.args in
    let p = c.requires.0 in
    let q = c.requires.1 in
    let few = place-few a.l.width a.left.now a.l.count p in
    let fewer = place-few a.l.width a.right.now a.r.count q in
    (omega (arith, p.long, few), fewer, omega (arith, q.long, fewer), rows_ascend a.l.width a.right.now a.r.count q, c.requires.2)

pub difference_rows-requires : goal.difference_rows-requires
difference_rows-requires c =
    let a = c.args in
    let p = c.requires.0 in
    let q = c.requires.1 in
    let few = place-few a.l.width a.left.now a.l.count p in
    let fewer = place-few a.l.width a.right.now a.r.count q in
    (few, omega (arith, p.long, few), omega (arith, q.long, fewer), rows_ascend a.l.width a.right.now a.r.count q, c.requires.2)

pub intersect_rows-requires : goal.intersect_rows-requires
intersect_rows-requires c =
    let a = c.args in
    let p = c.requires.0 in
    let q = c.requires.1 in
    let few = place-few a.l.width a.left.now a.l.count p in
    let fewer = place-few a.l.width a.right.now a.r.count q in
    (few, omega (arith, p.long, few), omega (arith, q.long, fewer), rows_ascend a.l.width a.right.now a.r.count q, c.requires.2)

pub returns-in-Union : goal.returns-in-Union
returns-in-Union c = unfold evaluate_set in rw c.in-Union.is (search rules)

pub returns-in-Difference : goal.returns-in-Difference
returns-in-Difference c = unfold evaluate_set in rw c.in-Difference.is (search rules)

pub returns-in-Intersection : goal.returns-in-Intersection
returns-in-Intersection c = unfold evaluate_set in rw c.in-Intersection.is (search rules)
