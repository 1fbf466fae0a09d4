use Prim.Native.Nat.{◌+◌, ℕ}
use native.Mathlib.Omega.{arith}
use mathlib.Core.Path.{sym, ◌∙◌, ap}
use Rattle.pieces.proofs.Cut.{cut_broken, whole_here, cut_mark, cut_on, cut_unfinished, cut_end}
use Rattle.pieces.proofs.next_piece.Goals as goal

pub returns-then-is_broken : goal.returns-then-is_broken
returns-then-is_broken c = let a = c.args in cut_broken a.file.now a.start c.loop-at.at c.loop-at.invariant
    c.loop-at-test.true (sym c.is_broken.ensures ∙ c.if-is_broken.true)

pub is_mark-requires : goal.is_mark-requires
is_mark-requires c = let a = c.args in (whole_here a.file.now a.start c.loop-at.at
    c.loop-at.invariant c.loop-at-test.true (sym c.is_broken.ensures ∙ c.if-is_broken.false)).header

pub returns-then-is_mark : goal.returns-then-is_mark
returns-then-is_mark c = let a = c.args in cut_mark a.file.now a.start c.loop-at.at
    c.loop-at.invariant c.loop-at-test.true
    (sym c.is_broken.ensures ∙ c.if-is_broken.false) (sym c.is_mark.ensures ∙ c.if-is_mark.true)

pub u16_at-requires : goal.u16_at-requires
u16_at-requires c = let a = c.args in let h = whole_here a.file.now a.start
    c.loop-at.at c.loop-at.invariant c.loop-at-test.true
    (sym c.is_broken.ensures ∙ c.if-is_broken.false) in omega (arith, h.header)

pub loop-at-smaller : goal.loop-at-smaller
loop-at-smaller c = let a = c.args in let h = whole_here a.file.now a.start
    c.loop-at.at c.loop-at.invariant c.loop-at-test.true
    (sym c.is_broken.ensures ∙ c.if-is_broken.false) in omega
    (arith, h.least, c.u16_at.ensures.is, c.loop-at-test.true)

pub loop-at-preserved : goal.loop-at-preserved
loop-at-preserved c = let a = c.args in cut_on a.file.now a.start
    c.loop-at.at c.loop-at.invariant c.loop-at-test.true
    (sym c.is_broken.ensures ∙ c.if-is_broken.false) (sym c.is_mark.ensures ∙ c.if-is_mark.false)
    (c.loop-at.at + c.u16_at.result)
    (ap (λ (n : ℕ). c.loop-at.at + n) c.u16_at.ensures.is)

pub returns-then-start-file : goal.returns-then-start-file
returns-then-start-file c = let a = c.args in cut_unfinished a.file.now a.start c.loop-at.at c.loop-at.invariant
    (omega (arith, c.loop-at-test.false)) c.if-start-file.true

pub returns-else-start-file : goal.returns-else-start-file
returns-else-start-file c = let a = c.args in cut_end a.file.now a.start c.loop-at.at c.loop-at.invariant
    (omega (arith, c.loop-at-test.false)) (omega (arith, c.if-start-file.false))
