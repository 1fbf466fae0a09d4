use mathlib.Core.Path.{ap, refl, sym, ◌∙◌}
use native.Mathlib.Omega.{arith}
use lib.Dec.{leb}
use lib.ListN.{get_or, length}
use borrow.Author.Tests.{le-leb}
use Rattle.model.specs.Row.{Relation, max_rows}
use Rattle.model.specs.Network.{widths}
use Rattle.folding.specs.Folding.{folded_at, folded_words}
use Rattle.folding.proofs.Ready.{made_fits, node_counts, node_foldable, folded_is, most_fits, crowded_alerts}
use Rattle.folding.proofs.node_fits.Goals as goal

pub bounds-pending-i : goal.bounds-pending-i
bounds-pending-i c =
    let a = c.args in
    let k = node_counts c.requires.0 a.gained.now a.lost.now a.head.now a.pending.now c.requires.1 a.i c.requires.2 in
    omega (arith, k.0, k.1)

pub overflow_cast-had : goal.overflow_cast-had
overflow_cast-had c =
    let a = c.args in
    let k = node_counts c.requires.0 a.gained.now a.lost.now a.head.now a.pending.now c.requires.1 a.i c.requires.2 in
    omega (arith, k.2)

pub bounds-head-i : goal.bounds-head-i
bounds-head-i c =
    let a = c.args in
    let k = node_counts c.requires.0 a.gained.now a.lost.now a.head.now a.pending.now c.requires.1 a.i c.requires.2 in
    omega (arith, k.0, c.requires.1.changed.head-long)

pub overflow_cast-came : goal.overflow_cast-came
overflow_cast-came c =
    let a = c.args in
    let k = node_counts c.requires.0 a.gained.now a.lost.now a.head.now a.pending.now c.requires.1 a.i c.requires.2 in
    omega (arith, k.3)

pub overflow_add-had-2 : goal.overflow_add-had-2
overflow_add-had-2 c =
    let a = c.args in
    let k = node_counts c.requires.0 a.gained.now a.lost.now a.head.now a.pending.now c.requires.1 a.i c.requires.2 in
    omega (arith, k.2, k.3)

pub returns-then-had-came-le-MAX_ROWS : goal.returns-then-had-came-le-MAX_ROWS
returns-then-had-came-le-MAX_ROWS c =
    let a = c.args in
    λ net o h. sym (le-leb (length (folded_at net a.gained.now a.lost.now a.head.now a.pending.now a.i)) max_rows
    (most_fits net a.gained.now a.lost.now a.head.now a.pending.now o a.i h c.if-had-came-le-MAX_ROWS.true))

pub fold_node-requires : goal.fold_node-requires
fold_node-requires c =
    let a = c.args in
    let net = c.requires.0 in (
      (
        get_or (widths net.nodes) a.i 0,
        node_foldable net a.gained.now a.lost.now a.head.now a.pending.now c.requires.1 a.i c.requires.2,
      ),
      refl,
    )

pub returns : goal.returns
returns c =
    let a = c.args in
    let f = c.fold_node in
    λ net o h.
    let w = get_or (widths net.nodes) a.i 0 in
    let ready = node_foldable net a.gained.now a.lost.now a.head.now a.pending.now o a.i h in
    let crowded = crowded_alerts net a.gained.now a.lost.now a.head.now a.pending.now o a.i h c.if-had-came-le-MAX_ROWS.false in
    c.is_some.ensures ∙ made_fits (folded_words w a.i a.gained.now a.lost.now a.head.now a.pending.now) f.new.out f.result (f.ensures w ready)
    ∙ ap (λ (rel : Relation). leb (length rel) max_rows)
    (sym (folded_is net a.gained.now a.lost.now a.head.now a.pending.now o a.i h crowded))
