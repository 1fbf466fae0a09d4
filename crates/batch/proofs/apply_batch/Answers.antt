use Rattle.std.proofs.lemmas.Result.{err_from_is_err_and}
use mathlib.Core.Path.{refl, ap, sym}
use Rattle.model.specs.Record.{is_accepted}
use Rattle.verdicts.specs.Verdicts.{refusal_of}
use Rattle.verdicts.proofs.Numbers.{not-accepted}
use Rattle.batch.proofs.Promised.{last_refused, read_refused}
use Rattle.batch.proofs.apply_batch.Goals as goal

pub returns-then-head : goal.returns-then-head
returns-then-head c =
    let a = c.args in
    rw c.at.ensures (record { applies = last_refused a.net a.bytes.now a.rows.now a.gained.now a.lost.now a.head.now c.requires c.if-head.true })

pub returns-in_err-read_batch : goal.returns-in_err-read_batch
returns-in_err-read_batch c =
    let a = c.args in
    let k = c.in_err-read_batch in
    let p = err_from_is_err_and c.from_residual.result c.from_residual.ensures.1 in
    rw (p.1, p.2) (record {
      applies = read_refused a.net a.bytes.now a.rows.now a.gained.now a.lost.now a.head.now c.requires c.if-head.false (refusal_of k.field-0.0)
          (k.ensures.reads (record { net = a.net; built = c.requires.checkable.built; count_is = refl; widths-are = refl; levels-are = refl })) (not-accepted k.field-0.0);
    })

pub advance-requires : goal.advance-requires
advance-requires c =
    let a = c.args in (
      c.requires,
      record {
        number = c.if-head.false;
        accepts = ap is_accepted
            (sym (c.in_ok-read_batch.ensures.reads (record { net = a.net; built = c.requires.checkable.built; count_is = refl; widths-are = refl; levels-are = refl })));
      },
    )
