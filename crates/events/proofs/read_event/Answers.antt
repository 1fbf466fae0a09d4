use mathlib.Core.Path.{ap, sym, ◌∙◌}
use native.Mathlib.Omega.{arith}
use borrow.Author.Tests.{lt-leb}
use Rattle.events.proofs.Events.{kind_known, reads_event}
use Rattle.model.specs.Batch.{is_event_kind, max_events}
use Rattle.records.proofs.Header.{whole}
use Rattle.events.proofs.read_event.Goals as goal

pub u16_at-requires : goal.u16_at-requires
u16_at-requires c =
    let a = c.args in
    let w = whole a.bytes.now a.at (sym c.is_broken.ensures ∙ c.if-is_broken.false) in
    omega (arith, w.header)

pub returns : goal.returns
returns c =
    let a = c.args in
    let k = c.in_ok-try_from in
    let u = c.u16_at in
    reads_event a.count a.widths.now a.levels.now a.before a.bytes.now a.at c.u16_at-2.result
    (sym c.is_broken.ensures ∙ c.if-is_broken.false)
    (ap is_event_kind (sym u.ensures.is ∙ sym k.ensures) ∙ kind_known k.field-0)
    (lt-leb max_events a.before (omega (arith, c.if-before-ge-MAX_EVENTS.false)))
    (sym c.event_fits.ensures ∙ c.if-not-event_fits.false)
    c.u16_at-2.ensures.is
