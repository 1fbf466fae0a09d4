use mathlib.Core.Path.{ap, sym, ◌∙◌}
use Rattle.std.specs.Prelude.{Result, Err}
use Rattle.verdicts.specs.declared.Refusal.{Refusal}
use Rattle.folding.specs.Folding.{fold_answer_of}
use Rattle.std.proofs.lemmas.Result.{err_from_is_err_and}
use Rattle.model.specs.Areas.{changes_in, layout}
use Rattle.model.specs.Calls.{fold_call, fold_in}
use Rattle.areas.specs.Lent.{lent}
use Rattle.areas.proofs.Good.{long_parts}
use Rattle.network.specs.Reading.{nodes_of}
use Rattle.states.proofs.Fitted.{form_parts}
use Rattle.admission.proofs.Admitted.{after_admitted, after-refused}
use Rattle.folding.proofs.fold.Goals as goal

pub returns-in_err-network : goal.returns-in_err-network
unfolding fold_call
returns-in_err-network c =
    let a = c.args in
    let p = err_from_is_err_and c.from_residual.result c.from_residual.ensures.1 in
    let areas = lent a.rows.now a.gained.now a.lost.now a.head.now in
    record {
      folds = ap (λ (r : Result (Unit {0}) Refusal). fold_answer_of r a.pending.now) (p.1 ∙ ap Err p.2)
          ∙ sym (after-refused a.net.now a.rows.now a.gained.now a.lost.now a.head.now c.in_err-network.field-0.0 c.in_err-network.ensures.admits
          (λ n. fold_in layout n areas a.pending.now) (λ v. record { verdict = v; pending = a.pending.now }));
    }

pub fold_in-requires : goal.fold_in-requires
fold_in-requires c =
    let a = c.args in
    let f = c.in_ok-network.ensures.admits.admitted in
    let long = long_parts a.rows.now a.gained.now a.lost.now a.head.now f.long in
    let parts = form_parts (nodes_of c.in_ok-network.network) (lent a.rows.now a.gained.now a.lost.now a.head.now) f.good in
    (f.built, record { gained-long = long.1; lost-long = long.2; head-long = long.3; gained-good = parts.1; lost-good = parts.2 })

pub returns : goal.returns
unfolding fold_call fold_in changes_in
returns c =
    let a = c.args in
    let areas = lent a.rows.now a.gained.now a.lost.now a.head.now in
    record {
      folds = c.fold_in.ensures
          ∙ sym (after_admitted a.net.now a.rows.now a.gained.now a.lost.now a.head.now c.in_ok-network.network c.in_ok-network.ensures.admits
          (λ n. fold_in layout n areas a.pending.now) (λ v. record { verdict = v; pending = a.pending.now }));
    }
