use mathlib.Core.Path.{ap}
use Prim.Native.Nat.{◌+◌, ℕ}
use native.Mathlib.Omega.{arith}
use Rattle.tables.proofs.Folds.{fold_header, fold_inside, fold_room, fold_whole, folded_end, folded_more, folded_start}
use Rattle.rows.specs.Rows.{first_rows}
use Rattle.tables.proofs.fold.Goals as goal

pub loop-at-init : goal.loop-at-init
loop-at-init c = let a = c.args in folded_start a.bytes.now a.table a.width a.words.now a.n c.requires.0 c.requires.1
    c.requires.2 c.requires.3

pub fold_one-count-requires : goal.fold_one-count-requires
fold_one-count-requires c = let a = c.args in (
  c.requires.0.narrow,
  fold_header a.bytes.now a.table a.width (first_rows a.words.now a.n) c.loop-at.words
      c.loop-at.count c.loop-at.at c.loop-at.invariant c.loop-at-test.true,
  fold_inside a.bytes.now a.table a.width
      (first_rows a.words.now a.n) c.loop-at.words c.loop-at.count c.loop-at.at c.loop-at.invariant
      c.loop-at-test.true,
  c.loop-at.invariant.table,
  fold_room a.bytes.now a.table a.width (first_rows a.words.now a.n) c.loop-at.words
      c.loop-at.count c.loop-at.at c.loop-at.invariant c.loop-at-test.true,
  c.loop-at.invariant.size,
)

pub u16_at-requires : goal.u16_at-requires
u16_at-requires c = let a = c.args in let w = fold_whole a.bytes.now a.table a.width
    (first_rows a.words.now a.n) c.loop-at.words c.loop-at.count
    c.loop-at.at c.loop-at.invariant c.loop-at-test.true in omega
    (arith, w.header)

pub loop-at-smaller : goal.loop-at-smaller
loop-at-smaller c = let a = c.args in let w = fold_whole a.bytes.now a.table a.width
    (first_rows a.words.now a.n) c.loop-at.words c.loop-at.count
    c.loop-at.at c.loop-at.invariant c.loop-at-test.true
    in omega (arith, w.least, c.u16_at.ensures.is, c.loop-at-test.true)

pub loop-at-preserved : goal.loop-at-preserved
loop-at-preserved c = let a = c.args in folded_more a.bytes.now a.table a.width (first_rows a.words.now a.n)
    c.loop-at.words c.loop-at.count
    c.loop-at.at c.loop-at.invariant c.loop-at-test.true
    c.fold_one-count.new.words c.fold_one-count.result (c.loop-at.at + c.u16_at.result)
    c.requires.0.narrow c.fold_one-count.ensures.folds
    c.fold_one-count.ensures.grows (ap (λ (n : ℕ). c.loop-at.at + n) c.u16_at.ensures.is)

pub returns : goal.returns
returns c = let a = c.args in folded_end a.bytes.now a.table a.width (first_rows a.words.now a.n) c.loop-at.words
    c.loop-at.count c.loop-at.at c.loop-at.invariant (omega (arith, c.loop-at-test.false))
