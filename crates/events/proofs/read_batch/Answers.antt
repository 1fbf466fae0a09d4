use mathlib.Core.Path.{ap, sym, ◌∙◌}
use Prim.Native.Nat.{◌+◌, ℕ}
use native.Mathlib.Omega.{arith}
use Rattle.events.proofs.Events.{brought_few, left_end, left-next, left-refused, left_start, reads-number, reads-size, refused-number}
use Rattle.network.specs.Reading.{nodes_of}
use Rattle.model.specs.Record.{refused}
use Rattle.events.specs.Reading.{number_of}
use Rattle.events.proofs.read_batch.Goals as goal

pub loop-at-init : goal.loop-at-init
loop-at-init c = (omega arith, λ o. left_start (nodes_of o.net) c.args.bytes.now)

pub returns-in_default : goal.returns-in_default
returns-in_default c =
    let a = c.args in
    let l = c.loop-at in
    let e = c.read_event-reading in
    let k = c.unwrap_err in
    record {
      reads = λ o.
          let n = reads-number o a.bytes.now l.before l.at e.result e.ensures in
          rw c.at.ensures
          (ap (λ (m : ℕ). refused m l.at) (sym (ap number_of k.ensures) ∙ n)
          ∙ left-refused (nodes_of o.net) a.bytes.now l.before l.at (l.invariant.1 o) c.loop-at-test.true (λ z. refused-number e.result c.in_default.not-Ok (n ∙ z)));
    }

pub loop-at-preserved : goal.loop-at-preserved
loop-at-preserved c =
    let a = c.args in
    let e = c.read_event-reading in
    let l = c.loop-at in
    let size = reads-size a.count a.widths.now a.levels.now a.bytes.now l.before l.at e.result _ e.ensures c.in-Ok.is in (
      brought_few a.count a.widths.now a.levels.now l.before a.bytes.now l.at e.result _ e.ensures c.in-Ok.is,
      λ o.
          left-next (nodes_of o.net) a.bytes.now l.before l.at _ (l.invariant.1 o) c.loop-at-test.true
          (sym (reads-number o a.bytes.now l.before l.at e.result e.ensures) ∙ ap number_of c.in-Ok.is) (ap (λ (n : ℕ). l.at + n) size),
    )

pub returns : goal.returns
returns c =
    let a = c.args in
    let l = c.loop-at in
    record { reads = λ o. left_end (nodes_of o.net) a.bytes.now l.before l.at (l.invariant.1 o) (omega (arith, c.loop-at-test.false)) }
