use mathlib.Core.Bool.{true}
use mathlib.Core.Path.{◌≡◌, sym, ◌∙◌}
use native.Mathlib.Omega.{arith}
use Rattle.areas.specs.Lent.{counts_from}
use Rattle.areas.proofs.Good.{area_is}
use Rattle.areas.proofs.Gaps.{gap_empty, gap_rows, gap_not, area_end, asked_few, node_asked}
use Rattle.areas.proofs.good_area.Goals as goal
use Rattle.areas.proofs.good_area.Goals.{then-count-ne0+else-not-good_node, else-count-ne0}

pub returns-then-not-good_node : goal.returns-then-not-good_node
returns-then-not-good_node c =
    let l = c.loop-i in
    let a = c.args in
    sym (area_is a.widths.now a.n (counts_from a.words.now a.first) a.area.now (omega arith)
    ∙ gap_not a.widths.now a.n (counts_from a.words.now a.first) a.area.now (omega arith) l.from l.i (omega arith) (omega arith) (c.requires.3 l.i)
    (sym c.good_node.ensures ∙ c.if-not-good_node.true) l.invariant.1)

pub loop-i-preserved : goal.loop-i-preserved
loop-i-preserved c =
    let l = c.loop-i in
    let a = c.args in
    let w = a.widths.now in
    let count = counts_from a.words.now a.first in
    elim c.if-count-ne0.branch [
      | then-count-ne0+else-not-good_node came ↦
          let asked : node_asked w a.n count a.area.now l.from l.i ≡ true = sym came.good_node.ensures ∙ came.if-not-good_node.false in (
            omega (arith, came.from-is, asked_few w a.n count a.area.now l.from l.i asked),
            rw came.from-is
                (gap_rows w a.n count a.area.now (omega arith) l.from l.i (omega arith) (omega arith) (c.requires.3 l.i) asked l.invariant.1),
          )
      | else-count-ne0 came ↦ (
        omega (arith, came.from-is),
        rw came.from-is
            (gap_empty w a.n count a.area.now (omega arith) l.from l.i (omega arith) (omega arith) (omega arith) (c.requires.3 l.i)
            (omega (arith, came.if-count-ne0.false)) l.invariant.1),
      )
    ]

pub returns-then-all_zero : goal.returns-then-all_zero
returns-then-all_zero c =
    let a = c.args in
    let l = c.loop-i in
    sym (area_end a.widths.now a.n a.words.now a.first a.area.now (omega arith) (omega arith) (omega arith) l.from l.i (omega arith) (omega arith) (omega arith) l.invariant.1
    ∙ rw (sym c.all_zero.ensures ∙ c.if-all_zero.true) (sym c.all_zero-then-all_zero.ensures))

pub returns-else-all_zero : goal.returns-else-all_zero
returns-else-all_zero c =
    let a = c.args in
    let l = c.loop-i in
    let e = area_end a.widths.now a.n a.words.now a.first a.area.now (omega arith) (omega arith) (omega arith) l.from l.i (omega arith) (omega arith) (omega arith) l.invariant.1 in
    grind (arith, e)
