-- The coherence check after refusals 1 to 8. Assumes nothing.
use mathlib.Core.Bool.{◌&&◌, Bool, false}
use mathlib.Core.List.{List}
use mathlib.Core.Path.{ap, ap₂, sym, ◌∙◌, ◌≡◌}
use Prim.Native.Nat.{ℕ}
use Rattle.std.specs.Prelude.{Ok, Err}
use Rattle.model.specs.Record.{Bytes, accepted}
use Rattle.model.specs.Network as model
use Rattle.model.specs.Network.{nodes_in}
use Rattle.model.specs.Areas.{Areas, coherent, layout, rows_in}
use Rattle.model.specs.Calls.{check_call}
use Rattle.verdicts.specs.declared.Refusal.{Refusal}
use Rattle.verdicts.specs.Verdicts.{refusal_of}
use Rattle.network.specs.declared.Network.{Network}
use Rattle.areas.specs.Lent.{lent}
use Rattle.coherence.specs.Held.{fresh_in}
use Rattle.admission.specs.Admission.{Admits}
use Rattle.admission.proofs.Admitted.{form-accepted, form-refused}

module _ (net : Bytes) (rows gained lost head : List ℕ) where
  abbrev a : Areas
  a = lent rows gained lost head

  pub check_refused : (r : Refusal) → Admits net (lent rows gained lost head) (Err r) → record { verdict = refusal_of r; yes? = false } ≡ check_call net (lent rows gained lost head)
  unfolding check_call
  check_refused r f =
      let no = ap (λ (t : Bool). t && coherent layout (nodes_in net) a) (form-refused net rows gained lost head r f) in
      λ i. record { verdict = f.verdict i; yes? = sym no i }

  pub check_answered : (n : Network) → Admits net (lent rows gained lost head) (Ok n) → (answer : Bool) → answer ≡ fresh_in n rows head →
      record { verdict = accepted; yes? = answer } ≡ check_call net (lent rows gained lost head)
  unfolding check_call coherent rows_in
  check_answered n f answer e =
      let same : coherent layout (nodes_in net) a ≡ answer =
      ap (λ (x : model.Network). coherent layout x.nodes a) (sym f.admitted.network) ∙ ap (λ (t : Bool). t && fresh_in n rows head) f.admitted.good ∙ sym e in
      let both = ap₂ {A = Bool} {B = Bool} {C = Bool} (λ s t. s && t) (form-accepted net rows gained lost head n f) same in
      λ i. record { verdict = f.verdict i; yes? = sym both i }
