use Rattle.replay.proofs.Replaying.{replay_refused, replay_held}
use mathlib.Core.Path.{refl}
use Rattle.std.proofs.lemmas.Result.{err_from_is_err_and}
use Rattle.areas.specs.Lent.{lent}
use Rattle.model.specs.Record.{accepted}
use Rattle.verdicts.specs.Verdicts.{refusal_of}
use Rattle.verdicts.proofs.Numbers.{not-accepted}
use Rattle.replay.proofs.replay.Goals as goal

pub returns-in_err-open : goal.returns-in_err-open
returns-in_err-open c =
    let a = c.args in
    let p = err_from_is_err_and c.from_residual.result c.from_residual.ensures.1 in
    let refusal = c.in_err-open.field-0.0 in
    rw (p.1, p.2) (record {
      replays = replay_refused a.net.now a.file.now (lent a.rows.now a.gained.now a.lost.now a.head.now) (refusal_of refusal)
          (lent c.open.new.rows c.open.new.gained c.open.new.lost c.open.new.head)
          c.in_err-open.ensures.opens (not-accepted refusal);
    })

pub returns : goal.returns
returns c =
    let a = c.args in record {
      replays = replay_held a.net.now a.file.now (lent a.rows.now a.gained.now a.lost.now a.head.now) accepted
          (lent c.open.new.rows c.open.new.gained c.open.new.lost c.open.new.head)
          (lent c.replay_batches.new.rows c.replay_batches.new.gained c.replay_batches.new.lost c.replay_batches.new.head)
          c.in_ok-open.ensures.opens refl c.replay_batches.ensures;
    }
