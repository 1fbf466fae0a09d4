use Rattle.std.proofs.lemmas.Result.{err_from_is_err_and}
use native.Mathlib.Omega.{arith}
use mathlib.Core.Path.{refl}
use Rattle.named_tables.proofs.Marks.{length-marks}
use Rattle.areas.specs.Lent.{lent}
use Rattle.model.specs.Record.{accepted}
use Rattle.propagation.specs.Propagated.{tables_after}
use Rattle.batch.proofs.Promised.{names, worked-out, over-refused, accepted-kept}
use Rattle.batch.proofs.advance.Goals as goal

pub named_nodes-due-requires : goal.named_nodes-due-requires
named_nodes-due-requires c =
    let a = c.args in
    names a.net a.bytes.now a.rows.now a.gained.now a.lost.now a.head.now c.requires.0 c.requires.1

pub returns-in_err-propagate : goal.returns-in_err-propagate
returns-in_err-propagate c =
    let a = c.args in
    let p = err_from_is_err_and c.from_residual.result c.from_residual.ensures.1 in
    rw (p.1, p.2)
    (over-refused a.net a.bytes.now a.rows.now a.gained.now a.lost.now a.head.now c.requires.0 c.requires.1 c.in_err-propagate.field-0.0
    c.in_err-propagate.ensures.propagates.verdict)

pub write_state-requires : goal.write_state-requires
write_state-requires c =
    let a = c.args in
    let p = c.propagate in
    let all = c.in_ok-propagate.ensures.propagates in (
      record {
        net = a.net;
        out = worked-out a.net a.bytes.now a.rows.now a.gained.now a.lost.now a.head.now c.requires.0 c.requires.1
            p.new.work.rows p.new.work.counts p.new.work.changed p.new.told.picks p.new.told.sizes (all.worked refl);
        fit = c.requires.0.checkable.fit;
        marked = all.marked refl;
        marks-long = omega (
          arith,
          length-marks a.bytes.now _ c.named_nodes-due.ensures.marks,
        );
        count_is = refl;
        levels-are = refl;
      },
      c.requires.1.number,
    )

pub returns : goal.returns
returns c =
    let a = c.args in
    let p = c.propagate in
    let w = c.write_state in
    let all = c.in_ok-propagate.ensures.propagates in
    let out = worked-out a.net a.bytes.now a.rows.now a.gained.now a.lost.now a.head.now c.requires.0 c.requires.1
    p.new.work.rows p.new.work.counts p.new.work.changed p.new.told.picks p.new.told.sizes (all.worked refl) in
    let long = length-marks a.bytes.now _ c.named_nodes-due.ensures.marks in
    let after = lent w.new.rows w.new.gained w.new.lost w.new.head in
    accepted-kept a.net a.bytes.now a.rows.now a.gained.now a.lost.now a.head.now c.requires.0 c.requires.1
    p.new.work.rows p.new.work.counts p.new.work.changed p.new.told.picks p.new.told.sizes (all.worked refl)
    accepted after refl
    (w.ensures.writes
    (record {
      net = a.net;
      out = out;
      fit = c.requires.0.checkable.fit;
      marked = all.marked refl;
      marks-long = omega (arith, long);
      count_is = refl;
      levels-are = refl;
    })
    (tables_after a.net a.rows.now a.head.now a.bytes.now))
