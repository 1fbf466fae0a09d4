use Rattle.admission.proofs.Verdicts.{admits_bad, admits_good, admits_short, admits_unread}
use Rattle.areas.specs.Lent.{lent}
use Rattle.network.specs.Reading.{nodes_of}
use Rattle.admission.proofs.read_areas.Goals as goal

pub returns-then-not-long_enough : goal.returns-then-not-long_enough
returns-then-not-long_enough c =
    let a = c.args in
    record {
      admits = rw c.at.ensures
          (admits_short a.net.now (lent a.rows.now a.gained.now a.lost.now a.head.now)
          c.long_enough.result c.long_enough.ensures.tells c.if-not-long_enough.true);
    }

pub returns-in_default : goal.returns-in_default
returns-in_default c =
    let a = c.args in
    record {
      admits = rw c.in_default.is
          (admits_unread a.net.now (lent a.rows.now a.gained.now a.lost.now a.head.now)
          c.long_enough.result c.long_enough.ensures.tells c.if-not-long_enough.false c.in_default.field-0 c.in_default.ensures.reads);
    }

pub returns-then-not-good_form : goal.returns-then-not-good_form
returns-then-not-good_form c =
    let a = c.args in
    let n = c.in-Ok in
    record {
      admits = rw c.at-then-not-good_form.ensures
          (admits_bad a.net.now (lent a.rows.now a.gained.now a.lost.now a.head.now)
          c.long_enough.result c.long_enough.ensures.tells c.if-not-long_enough.false n.network n.ensures.reads c.good_form.result
          (c.good_form.ensures.tells (nodes_of n.network) n.ensures.reads.built.sound.widths) c.if-not-good_form.true);
    }

pub returns : goal.returns
returns c =
    let a = c.args in
    let n = c.in-Ok in
    record {
      admits = admits_good a.net.now (lent a.rows.now a.gained.now a.lost.now a.head.now)
          c.long_enough.result c.long_enough.ensures.tells c.if-not-long_enough.false n.network n.ensures.reads c.good_form.result
          (c.good_form.ensures.tells (nodes_of n.network) n.ensures.reads.built.sound.widths) c.if-not-good_form.false;
    }
