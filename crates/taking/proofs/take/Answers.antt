use mathlib.Core.Path.{ap, subst, sym, ◌∙◌}
use Rattle.std.specs.Prelude.{Err}
use Rattle.std.proofs.lemmas.Result.{err_from_is_err_and}
use Rattle.model.specs.Areas.{layout}
use Rattle.model.specs.Calls.{TakeAnswer, refused_taking, take_call, take_in}
use Rattle.admission.proofs.Admitted.{after_admitted, after-refused}
use Rattle.taking.specs.Taking.{Takes}
use Rattle.taking.proofs.Answered.{refused_takes}
use Rattle.taking.proofs.take.Goals as goal

pub returns-in_err-network : goal.returns-in_err-network
unfolding take_call
returns-in_err-network c =
    let a = c.args in
    let p = err_from_is_err_and c.from_residual.result c.from_residual.ensures.1 in
    let d = c.in_err-network.field-0.0 in
    let q = a.pending.now in
    record {
      takes = refused_takes d q _
          (after-refused a.net.now a.rows.now a.gained.now a.lost.now a.head.now d c.in_err-network.ensures.admits (λ n. take_in layout n q) (λ v. refused_taking v q))
          c.from_residual.result (p.1 ∙ ap Err p.2);
    }

pub take_in-requires : goal.take_in-requires
take_in-requires c = c.in_ok-network.ensures.admits.admitted.built

pub returns : goal.returns
unfolding take_call
returns c =
    let a = c.args in
    let p = a.pending.now in
    let taken = c.take_in in
    record {
      takes = subst (λ (x : TakeAnswer). Takes x taken.result taken.new.pending)
          (sym (after_admitted a.net.now a.rows.now a.gained.now a.lost.now a.head.now c.in_ok-network.network c.in_ok-network.ensures.admits
          (λ n. take_in layout n p) (λ v. refused_taking v p)))
          taken.ensures;
    }
