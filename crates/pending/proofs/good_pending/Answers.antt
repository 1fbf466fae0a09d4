use lib.ListN.{length}
use borrow.Author.Tests.{lt-leb}
use Rattle.model.specs.Pending.{pending_size}
use mathlib.Core.Bool.{true≢false}
use mathlib.Core.Path.{sym, ◌∙◌}
use Rattle.pending.proofs.Judged.{judged_short, judged_places, judged_held}
use Rattle.pending.proofs.good_pending.Goals as goal
use Rattle.pending.proofs.good_pending.Goals.{then-pending-ge-PENDING, else-pending-ge-PENDING}

pub returns-then-good_area : goal.returns-then-good_area
returns-then-good_area c =
    let a = c.args in
    let h = c.held_by_alerts in
    record {
      tells = λ net is are. elim c.if-pending-ge-PENDING.branch [
        | then-pending-ge-PENDING w ↦
            let g = w.good_area in
            judged_held net a.pending.now w.if-pending-ge-PENDING.true a.n a.widths.now is g.result g.ensures (sym w.value-is ∙ c.if-good_area.true) a.signs.now are h.result h.ensures
        | else-pending-ge-PENDING w ↦ absurd (true≢false (sym c.if-good_area.true ∙ w.value-is ∙ lt-leb pending_size (length a.pending.now) w.if-pending-ge-PENDING.false))
      ];
    }

pub returns-else-good_area : goal.returns-else-good_area
returns-else-good_area c =
    let a = c.args in
    record {
      tells = λ net is are. c.if-good_area.false ∙ elim c.if-pending-ge-PENDING.branch [
        | then-pending-ge-PENDING w ↦
            let g = w.good_area in
            judged_places net a.pending.now w.if-pending-ge-PENDING.true a.n a.widths.now is g.result g.ensures (sym w.value-is ∙ c.if-good_area.false)
        | else-pending-ge-PENDING w ↦ judged_short net a.pending.now w.if-pending-ge-PENDING.false
      ];
    }
