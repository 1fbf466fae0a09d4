use native.Mathlib.Omega.{arith}
use mathlib.Core.Path.{ap, ◌∙◌}
use lib.ListN.{length}
use Rattle.places.proofs.Places.{place-few}
use Rattle.areas.specs.Lent.{place_at}
use Rattle.new_rows.proofs.Folding.{table_ready, after-over, after_fills}
use Rattle.new_rows.proofs.work_table.Goals as goal

pub overflow_mul-n : goal.overflow_mul-n
overflow_mul-n c = let a = c.args in let few = place-few a.width (place_at a.rows.now a.table) a.n c.requires.3
    in omega (arith, few)

pub copy_run-requires : goal.copy_run-requires
copy_run-requires c = let a = c.args in let few = place-few a.width (place_at a.rows.now a.table) a.n
    c.requires.3 in (omega (arith, few, c.requires.2), omega (arith, few))

pub fold-count-requires : goal.fold-count-requires
fold-count-requires c = let a = c.args in let r = table_ready a.bytes.now a.table a.width a.rows.now a.n
    c.requires.1 c.requires.2
    c.requires.3 c.requires.0
    in (
      c.requires.0,
      rw c.copy_run.ensures r.1,
      place-few a.width (place_at a.rows.now a.table) a.n
          c.requires.3,
      ap length c.copy_run.ensures ∙ r.2,
    )

pub returns-then-count-gt-MAX_ROWS : goal.returns-then-count-gt-MAX_ROWS
returns-then-count-gt-MAX_ROWS c = let a = c.args in (
  after-over a.bytes.now a.table a.width a.rows.now a.n c.requires.1
      c.requires.2 c.requires.3
      c.requires.0 c.fold-count.new.words c.fold-count.result
      (rw (← c.copy_run.ensures) c.fold-count.ensures) c.if-count-gt-MAX_ROWS.true,
  ap length c.requires.4,
)

pub returns : goal.returns
returns c = let a = c.args in after_fills a.bytes.now
    a.table a.width a.rows.now a.n c.requires.1
    c.requires.2
    c.requires.3
    c.requires.0
    c.fold-count.new.words c.fold-count.result
    (rw (← c.copy_run.ensures) c.fold-count.ensures)
    c.copy_run-2.new.dst (omega (arith, c.if-count-gt-MAX_ROWS.false))
    (rw c.requires.4 at c.copy_run-2.ensures)
