use mathlib.Core.Bool.{Bool}
use mathlib.Core.Path.{ap, ap₂, sym, ◌∙◌}
use Prim.Native.Nat.{◌*◌, ◌+◌, ℕ}
use native.Mathlib.Omega.{arith}
use lib.Dec.{eqb, leb, ltb}
use lib.ListN.{get_or}
use borrow.Author.Tests.{eq-eqb, le-leb, lt-ltb}
use Rattle.model.specs.Record.{field_at, length_at}
use Rattle.events.proofs.Events.{fits_last}
use Rattle.records.proofs.Header.{whole}
use Rattle.events.proofs.event_fits.Goals as goal

pub u16_at-size-requires : goal.u16_at-size-requires
u16_at-size-requires c = let a = c.args in let w = whole a.bytes.now a.at c.requires.0 in omega (arith, w.header)

pub field_at-table-requires : goal.field_at-table-requires
field_at-table-requires c = let a = c.args in let w = whole a.bytes.now a.at c.requires.0 in omega
    (arith, w.inside, c.u16_at-size.ensures.is, c.if-size-lt6.false)

pub returns : goal.returns
returns c =
    let a = c.args in
    ap₂ {A = ℕ} {B = ℕ} {C = Bool} (λ x t. eqb x (6 + 4 * get_or a.widths.now t 0)) c.u16_at-size.ensures.is
    c.field_at-table.ensures.is ∙ fits_last (leb 6 (length_at a.bytes.now a.at)) (ltb (field_at a.bytes.now a.at 0) a.count)
    (eqb (get_or a.levels.now (field_at a.bytes.now a.at 0) 0) 0) (eqb (length_at a.bytes.now a.at) (6 + 4 * get_or a.widths.now (field_at a.bytes.now a.at 0) 0))
    (le-leb 6 (length_at a.bytes.now a.at)
    (omega (arith, c.u16_at-size.ensures.is, c.if-size-lt6.false)))
    (lt-ltb (field_at a.bytes.now a.at 0) a.count (omega (arith, c.field_at-table.ensures.is, c.if-count-table.false)))
    (ap (λ (t : ℕ). eqb (get_or a.levels.now t 0) 0) (sym c.field_at-table.ensures.is)
    ∙ eq-eqb (get_or a.levels.now c.field_at-table.result 0) 0 c.if-levels-table-ne0.false)
