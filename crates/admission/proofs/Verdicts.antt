-- Refusals 1 to 8. Assumes nothing.
use mathlib.Core.Path.{ap, refl, sym, ◌∙◌, ◌≡◌}
use mathlib.Core.Bool.{false, true, Bool}
use Rattle.std.specs.Prelude.{Ok, Err}
use Rattle.network.specs.declared.Network.{Network}
use Rattle.verdicts.specs.declared.Refusal.{Refusal}
use Rattle.verdicts.specs.declared.Rule.TheVariants.{ShortArea, BadForm}
use Rattle.verdicts.specs.Verdicts.{refusal_of}
use Rattle.verdicts.proofs.Numbers.{not-accepted}
use Rattle.model.specs.Areas.{Areas, good_form, layout, long_enough}
use Rattle.network.specs.Reading.{ReadsNetwork, nodes_of}
use Rattle.model.specs.Record.{Bytes, accepted}
use Rattle.admission.specs.Admission.{Admits}
use Rattle.laws.proofs.Verdicts.{form_bad, form-good, form-short, form_unread}
use Rattle.model.specs.Network.{read_network, nodes_in}
use Rattle.model.specs.Network as model

module _ (net : Bytes) (a : Areas) where
  -- areas that are too short, by the test t
  pub admits_short : (t : Bool) → t ≡ long_enough layout a → t ≡ false → Admits net a (Err (record { rule = ShortArea; place = 0 }))
  admits_short t e n = record { verdict = sym (form-short net a (sym e ∙ n)); admitted = tt }

  -- a network read for areas that are long enough
  module _ (t : Bool) (e : t ≡ long_enough layout a) (passed : t ≡ true) where
    long : long_enough layout a ≡ true
    long = sym e ∙ passed

    pub admits_unread : (d : Refusal) → ReadsNetwork net (Err d) → Admits net a (Err d)
    admits_unread d is =
        record {
          verdict = sym (form_unread net a (refusal_of d) long (ap (λ (x : model.Reading). x.verdict) is.is) (not-accepted d));
          admitted = tt;
        }

    -- the form judged by the test g
    module _ (n : Network) (is : ReadsNetwork net (Ok n)) (g : Bool) (h : g ≡ good_form layout (nodes_of n) a) where
      same-verdict : accepted ≡ (read_network net).verdict
      same-verdict = ap (λ (x : model.Reading). x.verdict) is.is

      same-form : good_form layout (nodes_in net) a ≡ good_form layout (nodes_of n) a
      same-form = ap (λ (x : model.Reading). good_form layout x.network.nodes a) (sym is.is)

      pub admits_bad : g ≡ false → Admits net a (Err (record { rule = BadForm; place = 0 }))
      admits_bad f = record { verdict = sym (form_bad net a accepted long same-verdict refl (same-form ∙ sym h ∙ f)); admitted = tt }

      pub admits_good : g ≡ true → Admits net a (Ok n)
      admits_good f =
          let good : good_form layout (nodes_of n) a ≡ true = sym h ∙ f in
          record {
            verdict = sym (form-good net a accepted long same-verdict refl (same-form ∙ good));
            admitted = record { built = is.built; network = ap (λ (x : model.Reading). x.network) is.is; long = long; good = good };
          }
