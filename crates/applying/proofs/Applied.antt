-- A batch after refusals 1 to 8. Assumes nothing.
use mathlib.Core.List.{List}
use mathlib.Core.Path.{refl, subst, sym}
use Prim.Native.Nat.{ℕ}
use Rattle.model.specs.Record.{Bytes, Verdict}
use Rattle.model.specs.Network as model
use Rattle.std.specs.Prelude.{Ok, Err}
use Rattle.model.specs.Station.{step}
use Rattle.model.specs.Areas.{layout, state_in}
use Rattle.model.specs.Calls as calls
use Rattle.model.specs.Calls.{Applied, Keeps, Promise, apply_promise, promise_of, settled}
use Rattle.verdicts.specs.declared.Refusal.{Refusal}
use Rattle.verdicts.specs.Verdicts.{refusal_of}
use Rattle.network.specs.declared.Network.{Network}
use Rattle.areas.specs.Lent.{lent}
use Rattle.batch.specs.Applying.{Applicable, AppliedTo}
use Rattle.admission.specs.Admission.{Admits}
use Rattle.admission.proofs.Admitted.{after_admitted, after-refused, checkable}

module _ (net : Bytes) (rows gained lost head : List ℕ) (bs : Bytes) where
  -- what is promised for a network that was read, and for a refusal
  abbrev answer : model.Network → Promise
  answer n = promise_of n.nodes (lent rows gained lost head) (step n.nodes (state_in layout n.nodes (lent rows gained lost head)) bs)

  abbrev refusal : Verdict → Promise
  refusal v = settled (record { verdict = v; areas = lent rows gained lost head })

  pub apply-refused : (d : Refusal) → Admits net (lent rows gained lost head) (Err d) →
      Applied net bs (lent rows gained lost head) (record { verdict = refusal_of d; areas = lent rows gained lost head })
  unfolding apply_promise
  apply-refused d f =
      subst (λ (p : Promise). Keeps p (lent rows gained lost head) (record { verdict = refusal_of d; areas = lent rows gained lost head }))
      (sym (after-refused net rows gained lost head d f answer refusal)) refl

  module _ (n : Network) (f : Admits net (lent rows gained lost head) (Ok n)) where
    pub applicable : Applicable n (lent rows gained lost head)
    applicable = record { checkable = checkable net rows gained lost head n f; long = f.admitted.long; form = f.admitted.good }

    pub applied : (x : calls.Result) → AppliedTo n bs (lent rows gained lost head) x → Applied net bs (lent rows gained lost head) x
    unfolding apply_promise
    applied x k = subst (λ (p : Promise). Keeps p (lent rows gained lost head) x) (sym (after_admitted net rows gained lost head n f answer refusal)) k
