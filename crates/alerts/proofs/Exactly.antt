-- A row that was gained and neither lost nor taken since: what one happening more makes of it. Assumes nothing.
use mathlib.Core.Bool.{Bool, ◌&&◌, ◌||◌, false, not, or-true, true, true≢false}
use mathlib.Core.List.{List, [], ◌∷◌}
use mathlib.Core.Path.{ap, refl, sym, ◌∙◌, ◌≡◌}
use Prim.Native.Nat.{ℕ, zero, suc, suc-le-suc, zero-le, ◌<◌}
use native.Mathlib.Nat.{le_of_suc-le-suc, not-suc-le-zero}
use lib.ListN.{get_or}
use Rattle.model.specs.Row.{Row, member}
use Rattle.model.specs.Network.{Network}
use Rattle.model.specs.Pending.{alerts}
use Rattle.alerts.specs.Alerts.{GainedAndKept, Happening, PendingExactly, gains, nothing, removes, waiting_at}

module _ (x : Happening) (h : List Happening) (i : ℕ) (r : Row) where
  -- gained by the last happening
  gained_now : gains x i r ≡ true → GainedAndKept (x ∷ h) i r
  gained_now g = record { at = 0; gained = g; kept = λ later b. absurd (not-suc-le-zero b) }

  -- gained before it, and kept by it
  kept_now : removes x i r ≡ false → GainedAndKept h i r → GainedAndKept (x ∷ h) i r
  kept_now e k = record { at = suc k.at; gained = k.gained; kept = kept }
    where
      kept : (later : ℕ) → later < suc k.at → removes (get_or (x ∷ h) later nothing) i r ≡ false
      kept zero b = e
      kept (suc later) b = k.kept later (le_of_suc-le-suc b)

  -- if the last happening did not gain it, it was gained before and kept by that one
  gained-before : gains x i r ≡ false → GainedAndKept (x ∷ h) i r → (removes x i r ≡ false) × GainedAndKept h i r
  gained-before e k = go k.at k.gained k.kept
    where
      go : (at : ℕ) → gains (get_or (x ∷ h) at nothing) i r ≡ true → ((later : ℕ) → later < at → removes (get_or (x ∷ h) later nothing) i r ≡ false) →
          (removes x i r ≡ false) × GainedAndKept h i r
      go zero g f = absurd (true≢false (sym g ∙ e))
      go (suc at) g f = (f 0 (suc-le-suc zero-le), record { at = at; gained = g; kept = λ later b. f (suc later) (suc-le-suc b) })

-- nothing was gained where nothing happened
pub exactly_none : (net : Network) (p : List ℕ) → ((i : ℕ) → waiting_at net p i ≡ []) → PendingExactly net [] p
exactly_none net p none =
    record {
      only_if = λ i r a m. absurd (true≢false (sym m ∙ ap (member r) (none i)));
      if = λ i r a k. absurd (true≢false (sym k.gained));
      none_else = λ i a. none i;
    }

-- one happening more, after which a row is pending if it was and is not removed, or if it is gained
pub exactly_more : (net : Network) (x : Happening) (h : List Happening) (p q : List ℕ) → PendingExactly net h p →
    ((i : ℕ) (r : Row) → alerts net i ≡ true → member r (waiting_at net q i) ≡ (member r (waiting_at net p i) && not (removes x i r) || gains x i r)) →
    ((i : ℕ) → alerts net i ≡ false → waiting_at net q i ≡ []) → PendingExactly net (x ∷ h) q
exactly_more net x h p q k are else =
    record {
      only_if = λ i r a m. from i r a (gains x i r) (removes x i r) (member r (waiting_at net p i)) refl refl refl (sym (are i r a) ∙ m);
      if = λ i r a g. are i r a ∙ to i r a (gains x i r) refl g;
      none_else = else;
    }
  where
    from : (i : ℕ) (r : Row) → alerts net i ≡ true → (g d m : Bool) → gains x i r ≡ g → removes x i r ≡ d → member r (waiting_at net p i) ≡ m →
        (m && not d || g) ≡ true → GainedAndKept (x ∷ h) i r
    from i r a true d m eg ed em e = gained_now x h i r eg
    from i r a false false true eg ed em e = kept_now x h i r ed (k.only_if i r a em)
    from i r a false true true eg ed em e = absurd (true≢false (sym e))
    from i r a false d false eg ed em e = absurd (true≢false (sym e))

    to : (i : ℕ) (r : Row) → alerts net i ≡ true → (g : Bool) → gains x i r ≡ g → GainedAndKept (x ∷ h) i r → (member r (waiting_at net p i) && not (removes x i r) || g) ≡ true
    to i r a true eg kept = or-true (member r (waiting_at net p i) && not (removes x i r))
    to i r a false eg kept =
        let before : (removes x i r ≡ false) × GainedAndKept h i r = gained-before x h i r eg kept in
        rw (before.0, k.if i r a before.1)
