-- Opening. Assumes nothing.
use mathlib.Core.List.{◌++◌, List}
use mathlib.Core.Path.{ap, ap₂, sym, ◌∙◌, ◌≡◌}
use mathlib.Core.Bool.{Bool, cond, false, not, true}
use Prim.Native.Nat.{◌-◌, ℕ}
use native.Mathlib.Omega.{arith}
use native.Mathlib.Nat.{le_refl, zero-add}
use lib.ListN.{drop, length-replicate, replicate, take}
use lib.Seq.{paste, take_all}
use borrow.Author.Tests.{not-false, not-true}
use Rattle.model.specs.Areas.{Areas, cleared, layout, long_enough, over}
use Rattle.model.specs.Record.{Bytes, Verdict, accepted, is_accepted, refused}
use Rattle.model.specs.Calls as calls
use Rattle.model.specs.Calls.{open_call, open_verdict, or_else, unless}
use Rattle.model.specs.Network.{read_network}
use Rattle.model.specs.Network as model
use Rattle.network.specs.Reading.{ReadsNetwork}
use Rattle.verdicts.specs.Verdicts.{refusal_of, verdict_of}
use Rattle.verdicts.proofs.Numbers.{not-accepted}
use Rattle.verdicts.specs.declared.Refusal.{Refusal}
use Rattle.network.specs.declared.Network.{Network}
use Rattle.std.specs.Prelude.{Result, Ok, Err}

-- the first words set to 0
pub cleared_run : (n : ℕ) (w : List ℕ) → paste w 0 (replicate (n - 0) 0) (n - 0) ≡ over (replicate n 0) w
cleared_run n w =
    let e : n - 0 ≡ n = omega arith in
    let all : take {A = ℕ} n (replicate n 0) ≡ replicate n 0 = take_all n (replicate n 0) (rw (length-replicate {A = ℕ} n 0) (le_refl n)) in
    rw e (ap₂ {A = List ℕ} {B = ℕ} {C = List ℕ} (λ a k. a ++ drop k w) all (zero-add n ∙ sym (length-replicate {A = ℕ} n 0)))

module _ (net : Bytes) (a : Areas) where
  -- what a verdict leaves
  abbrev opened : Verdict → calls.Result
  opened v = record { verdict = v; areas = cond (is_accepted v) (cleared layout a) a }

  -- areas that are too short, by the test t
  pub open_short : (t : Bool) → t ≡ long_enough layout a → not t ≡ true → record { verdict = refused 1 0; areas = a } ≡ open_call net a
  unfolding open_call open_verdict
  open_short t e n = ap (λ (b : Bool). opened (or_else (unless b 1) (read_network net).verdict)) (sym (not-true t n) ∙ e)

  -- a network read for areas that are long enough
  module _ (t : Bool) (e : t ≡ long_enough layout a) (passed : not t ≡ false) where
    call_is : (r : Result Network Refusal) → ReadsNetwork net r → opened (verdict_of r) ≡ open_call net a
    unfolding open_call open_verdict
    call_is (Ok n) is =
        ap (λ (x : model.Reading). opened x.verdict) is.is
        ∙ ap (λ (b : Bool). opened (or_else (unless b 1) (read_network net).verdict)) (sym (not-false t passed) ∙ e)
    call_is (Err r) is =
        ap (λ (x : model.Reading). opened x.verdict) is.is
        ∙ ap (λ (b : Bool). opened (or_else (unless b 1) (read_network net).verdict)) (sym (not-false t passed) ∙ e)

    pub open_refused : (r : Refusal) → ReadsNetwork net (Err r) → record { verdict = refusal_of r; areas = a } ≡ open_call net a
    open_refused r is = ap (λ (b : Bool). record { verdict = refusal_of r; areas = cond b (cleared layout a) a }) (sym (not-accepted r)) ∙ call_is (Err r) is

    pub open_cleared : (n : Network) → ReadsNetwork net (Ok n) → (after : Areas) → after ≡ cleared layout a → record { verdict = accepted; areas = after } ≡ open_call net a
    open_cleared n is after f = ap (λ (x : Areas). record { verdict = accepted; areas = x }) f ∙ call_is (Ok n) is
