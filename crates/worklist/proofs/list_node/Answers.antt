use native.Mathlib.Omega.{arith}
use Rattle.worklist.proofs.Listing.{unmarked_of, table_of, node_skip, node-room, node_entries, node-put}
use Rattle.worklist.proofs.list_node.Goals as goal

pub returns-then-not-due-i : goal.returns-then-not-due-i
returns-then-not-due-i c = let a = c.args in
    let told = node_skip a.levels.now a.due.now c.requires.3 a.i a.entries.now a.k c.requires.4 c.requires.5
    (unmarked_of a.levels.now a.due.now a.i c.if-not-due-i.true) in
    record { lists = told.0; counts = told.1 }

pub returns-then-level-eq0 : goal.returns-then-level-eq0
returns-then-level-eq0 c = let a = c.args in
    let told = node_skip a.levels.now a.due.now c.requires.3 a.i a.entries.now a.k c.requires.4 c.requires.5 (table_of a.levels.now a.due.now a.i c.if-level-eq0.true) in
    record { lists = told.0; counts = told.1 }

pub put_node-requires : goal.put_node-requires
put_node-requires c = let a = c.args in (
  c.requires.2,
  node-room a.levels.now a.due.now a.i c.requires.2 a.entries.now a.k c.requires.4 c.requires.5,
  λ j h. omega (arith, node_entries a.levels.now a.due.now a.i c.requires.2 a.entries.now a.k c.requires.4 c.requires.5 j h, c.requires.0),
)

pub returns : goal.returns
returns c = let a = c.args in
    let told = node-put a.levels.now a.due.now c.requires.3 a.i c.if-level-eq0.false
    (c.if-not-due-i.false) a.entries.now a.k c.requires.2 c.requires.4 c.requires.5
    c.put_node.new.entries c.put_node.ensures in
    record { lists = told.0; counts = told.1 }
