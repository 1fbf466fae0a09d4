-- Verdicts in turn, and refusals 1 to 8 of a call. Assumes nothing.
use mathlib.Core.Path.{ap, refl, sym, ◌∙◌, ◌≡◌}
use mathlib.Core.Bool.{false, true, true≢false, Bool, cond}
use Prim.Native.Nat.{ℕ}
use lib.Dec.{eqb}
use Rattle.model.specs.Areas.{Areas, good_form, layout, long_enough}
use Rattle.model.specs.Record.{Bytes, Verdict, accepted, refused, is_accepted}
use Rattle.model.specs.Calls.{form_verdict, open_verdict, or_else, unless}
use Rattle.model.specs.Network.{read_network, nodes_in}

-- ---- verdicts in turn

-- the first one refuses
or-refused : (v w : Verdict) → is_accepted v ≡ false → or_else v w ≡ v
or-refused v w e = ap (λ (t : Bool). cond t w v) e

-- the first one accepts
or-accepted : (v w : Verdict) → is_accepted v ≡ true → or_else v w ≡ w
or-accepted v w e = ap (λ (t : Bool). cond t w v) e

-- neither refuses
pub or-holds : (v w : Verdict) → is_accepted (or_else v w) ≡ true → (is_accepted v ≡ true) × (is_accepted w ≡ true)
or-holds v w e = go (is_accepted v) refl e
  where
    go : (t : Bool) → is_accepted v ≡ t → is_accepted (cond t w v) ≡ true → (is_accepted v ≡ true) × (is_accepted w ≡ true)
    go true f g = (f, g)
    go false f g = absurd (true≢false (sym g ∙ f))

-- a rule that does not refuse holds
pub unless_holds : (t : Bool) (number : ℕ) → eqb number 0 ≡ false → is_accepted (unless t number) ≡ true → t ≡ true
unless_holds true number n e = refl
unless_holds false number n e = absurd (true≢false (sym e ∙ n))

-- ---- refusals 1 to 8

module _ (net : Bytes) (a : Areas) where
  -- areas that 1 to 8 let pass are of good form
  pub form-holds : is_accepted (form_verdict net a) ≡ true → good_form layout (nodes_in net) a ≡ true
  unfolding form_verdict
  form-holds e =
      let good : Bool = good_form layout (nodes_in net) a in
      unless_holds good 8 refl (or-holds (open_verdict net a) (unless good 8) e).1

  open_short : long_enough layout a ≡ false → open_verdict net a ≡ refused 1 0
  unfolding open_verdict
  open_short e = ap (λ (t : Bool). or_else (unless t 1) (read_network net).verdict) e

  open_read : long_enough layout a ≡ true → open_verdict net a ≡ (read_network net).verdict
  unfolding open_verdict
  open_read e = ap (λ (t : Bool). or_else (unless t 1) (read_network net).verdict) e

  -- 1 to 7 in a form, then 8
  form_is : (v : Verdict) → open_verdict net a ≡ v → form_verdict net a ≡ or_else v (unless (good_form layout (nodes_in net) a) 8)
  unfolding form_verdict
  form_is v e = ap (λ (x : Verdict). or_else x (unless (good_form layout (nodes_in net) a) 8)) e

  pub form-short : long_enough layout a ≡ false → form_verdict net a ≡ refused 1 0
  form-short e = form_is (refused 1 0) (open_short e)

  pub form_unread : (v : Verdict) → long_enough layout a ≡ true → v ≡ (read_network net).verdict → eqb v.number 0 ≡ false → form_verdict net a ≡ v
  form_unread v e f g = form_is v (open_read e ∙ sym f) ∙ or-refused v (unless (good_form layout (nodes_in net) a) 8) g

  -- 8 judges a network that was read
  form_eighth : (v : Verdict) (t : Bool) → long_enough layout a ≡ true → v ≡ (read_network net).verdict → eqb v.number 0 ≡ true → good_form layout (nodes_in net) a ≡ t →
      form_verdict net a ≡ unless t 8
  form_eighth v t e f g h =
      form_is v (open_read e ∙ sym f) ∙ or-accepted v (unless (good_form layout (nodes_in net) a) 8) g ∙ ap (λ (b : Bool). unless b 8) h

  pub form_bad : (v : Verdict) → long_enough layout a ≡ true → v ≡ (read_network net).verdict → eqb v.number 0 ≡ true → good_form layout (nodes_in net) a ≡ false →
      form_verdict net a ≡ refused 8 0
  form_bad v e f g h = form_eighth v false e f g h

  pub form-good : (v : Verdict) → long_enough layout a ≡ true → v ≡ (read_network net).verdict → eqb v.number 0 ≡ true → good_form layout (nodes_in net) a ≡ true →
      form_verdict net a ≡ accepted
  form-good v e f g h = form_eighth v true e f g h
