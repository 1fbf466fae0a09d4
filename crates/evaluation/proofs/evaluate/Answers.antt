use native.Mathlib.Omega.{arith}
use lib.ListN.{take}
use Rattle.columns.proofs.Rows.{columns_more}
use Rattle.model.specs.Network.{evaluate_on, evaluate_set}
use Rattle.evaluation.proofs.Inside.{fills_none, join-fits, join-inside, no_match_inside, operand_narrow, pairs_more, project-inside, select-inside}
use Rattle.evaluation.proofs.Inside.{set-inside}
use Rattle.model.specs.Algebra.{join_rows, project_rows, unmatched_rows}
use Rattle.model.specs.Areas.{stride}
use Rattle.nodes.specs.Nodes.{operation_of, pairs_of}
use Rattle.places.proofs.Places.{place-few}
use Rattle.evaluation.proofs.evaluate.Goals as goal

pub unreachable-requires : goal.unreachable-requires
unreachable-requires c =
    let a = c.args in
    let s = select-inside a.l.width a.r.width c.in-Select.input c.in-Select.column c.in-Select.code
    c.in-Select.operand (rw c.in-Select.is at c.requires.3) in
    omega (arith, s.1, c.in_default.ensures.1)

pub select_rows-count-requires : goal.select_rows-count-requires
select_rows-count-requires c =
    let a = c.args in
    let s = select-inside a.l.width a.r.width c.in-Select.input c.in-Select.column c.in-Select.code
    c.in-Select.operand (rw c.in-Select.is at c.requires.3) in
    let few = place-few a.l.width a.left.now a.l.count c.requires.1 in (
      few,
      omega (arith, c.requires.1.long),
      omega (arith, s.0, c.requires.1.narrow),
      operand_narrow a.l.width c.in-Select.operand
          c.requires.1.narrow s.2,
      c.requires.4,
    )

pub project_rows-requires : goal.project_rows-requires
project_rows-requires c =
    let a = c.args in
    let s = project-inside a.l.width a.r.width c.in-Project.input
    (take c.in-Project.c a.slot.columns)
    (rw c.in-Project.is at c.requires.3) in
    let few = place-few a.l.width a.left.now a.l.count c.requires.1 in
    let counts = rw c.in-Project.is at c.requires.0.counts in (
      omega (arith, c.requires.1.long),
      counts.1,
      omega (arith, c.requires.0.columns-length),
      columns_more a.l.width stride (take c.in-Project.c a.slot.columns)
          c.requires.1.narrow s,
      c.requires.4,
    )

pub join_rows-requires : goal.join_rows-requires
join_rows-requires c =
    let a = c.args in
    let s = join-inside a.l.width a.r.width c.in-Join.left c.in-Join.right
    (pairs_of c.in-Join.p a.slot.pairs) (take c.in-Join.c a.slot.columns)
    (rw c.in-Join.is at c.requires.3) in
    let counts = rw c.in-Join.is at c.requires.0.counts in
    let fits = join-fits (record {
      split = a.l.width;
      p = c.in-Join.p;
      pairs = a.slot.pairs;
      n = c.in-Join.c;
      columns = a.slot.columns;
    }) a.r.width c.requires.1.narrow
    c.requires.2.narrow counts.0 counts.1
    c.requires.0.pairs-length
    c.requires.0.columns-length (record { pairs = s.0; columns = s.1 }) in (
      omega (
        arith,
        c.requires.1.long,
        (place-few a.l.width a.left.now a.l.count c.requires.1),
      ),
      omega (
        arith,
        c.requires.2.long,
        (place-few a.r.width a.right.now a.r.count c.requires.2),
      ),
      fits,
      c.requires.4,
      place-few a.r.width a.right.now a.r.count c.requires.2,
    )

pub set_rows-requires : goal.set_rows-requires
set_rows-requires c =
    let a = c.args in
    let same = set-inside a.l.width a.r.width c.in-Set.left c.in-Set.right (operation_of c.in-Set.operation) (rw c.in-Set.is at c.requires.3) in
    (c.requires.1, rw (← same) at c.requires.2, c.requires.4)

pub unmatched_rows-requires : goal.unmatched_rows-requires
unmatched_rows-requires c =
    let a = c.args in
    let pairs = pairs_of c.in-NoMatch.p a.slot.pairs in
    let below = no_match_inside a.l.width a.r.width c.in-NoMatch.left c.in-NoMatch.right pairs (rw c.in-NoMatch.is at c.requires.3) in
    let counts = rw c.in-NoMatch.is at c.requires.0.counts in
    let few = place-few a.l.width a.left.now a.l.count c.requires.1 in
    let others = place-few a.r.width a.right.now a.r.count c.requires.2 in (
      few,
      omega (arith, c.requires.1.long, few),
      others,
      omega (arith, c.requires.2.long, others),
      omega (arith, c.requires.0.pairs-length, counts.0),
      counts.0,
      pairs_more a.l.width a.r.width pairs c.requires.1.narrow c.requires.2.narrow below,
      c.requires.4,
    )

pub returns-in-Table : goal.returns-in-Table
unfolding evaluate_on
returns-in-Table c = let a = c.args in rw c.in-Table.is (fills_none a.out.now c.requires.4)

pub returns-in-Ok : goal.returns-in-Ok
unfolding evaluate_on
returns-in-Ok c =
    let a = c.args in
    let s = select-inside a.l.width a.r.width c.in-Select.input c.in-Select.column
    c.in-Select.code c.in-Select.operand
    (rw c.in-Select.is at c.requires.3) in
    rw (c.in-Select.is, ← c.in-Ok.ensures)
    (c.select_rows-count.ensures a.l.width c.requires.1
    (record { first = s.0; second = s.2 }))

pub returns-in-Project : goal.returns-in-Project
unfolding evaluate_on project_rows
returns-in-Project c =
    let a = c.args in
    let s = project-inside a.l.width a.r.width c.in-Project.input
    (take c.in-Project.c a.slot.columns)
    (rw c.in-Project.is
    at c.requires.3) in
    rw c.in-Project.is
    (c.project_rows.ensures a.l.width c.requires.1 s)

pub returns-in-Join : goal.returns-in-Join
unfolding evaluate_on join_rows
returns-in-Join c =
    let a = c.args in
    let s = join-inside a.l.width a.r.width c.in-Join.left
    c.in-Join.right
    (pairs_of c.in-Join.p a.slot.pairs)
    (take c.in-Join.c a.slot.columns)
    (rw c.in-Join.is
    at c.requires.3) in
    rw c.in-Join.is
    (c.join_rows.ensures a.r.width c.requires.1
    c.requires.2 (record { pairs = s.0; columns = s.1 }))

pub returns-in-Set : goal.returns-in-Set
unfolding evaluate_on evaluate_set
returns-in-Set c =
    let a = c.args in
    let same = set-inside a.l.width a.r.width c.in-Set.left c.in-Set.right (operation_of c.in-Set.operation) (rw c.in-Set.is at c.requires.3) in
    rw c.in-Set.is (rw (← same) c.set_rows.ensures)

pub returns-in-NoMatch : goal.returns-in-NoMatch
unfolding evaluate_on unmatched_rows
returns-in-NoMatch c =
    let a = c.args in
    let below = no_match_inside a.l.width a.r.width c.in-NoMatch.left c.in-NoMatch.right (pairs_of c.in-NoMatch.p a.slot.pairs) (rw c.in-NoMatch.is at c.requires.3) in
    rw c.in-NoMatch.is (c.unmatched_rows.ensures a.l.width a.r.width c.requires.1 c.requires.2 below)
