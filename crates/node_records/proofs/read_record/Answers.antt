use mathlib.Core.Path.{sym, ◌∙◌}
use lib.ListN.{take}
use Rattle.records.proofs.Header.{whole}
use Rattle.node_records.proofs.ByKind.{record_3, record_4}
use native.Mathlib.Omega.{arith}
use Rattle.node_records.proofs.read_record.Goals as goal

pub returns-then-is_broken : goal.returns-then-is_broken
returns-then-is_broken c = let a = c.args in record_3 (take a.count a.widths.now) (take a.count a.signs.now) a.bytes.now a.at
    (sym c.is_broken.ensures ∙ c.if-is_broken.true)

pub u16_at-number-requires : goal.u16_at-number-requires
u16_at-number-requires c = let a = c.args in omega (arith, (whole a.bytes.now a.at (sym c.is_broken.ensures ∙ c.if-is_broken.false)).header)

pub returns-in_default : goal.returns-in_default
returns-in_default c =
    let a = c.args in
    record_4 (take a.count a.widths.now) (take a.count a.signs.now) a.bytes.now a.at (sym c.is_broken.ensures ∙ c.if-is_broken.false)
    (rw (← c.u16_at-number.ensures.is) (λ h. omega arith))

pub returns-in_default-2 : goal.returns-in_default-2
returns-in_default-2 c =
    let a = c.args in
    record_4 (take a.count a.widths.now) (take a.count a.signs.now) a.bytes.now a.at (sym c.is_broken.ensures ∙ c.if-is_broken.false)
    (rw (← c.u16_at-number.ensures.is) (λ h. omega arith))
