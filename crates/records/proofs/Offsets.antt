-- Where records start: the offsets from a place on, whatever bounds their number. Assumes nothing.
use mathlib.Core.Path.{◌≡◌, refl, sym, ap, ◌∙◌}
use mathlib.Core.Bool.{Bool, true, false}
use mathlib.Core.List.{List, [], ◌∷◌}
use Prim.Native.Nat.{ℕ, zero, suc, ◌+◌, ◌-◌, ◌≤◌, ◌<◌}
use native.Mathlib.Omega.{arith}
use lib.Dec.{leb}
use lib.ListN.{length}
use borrow.Author.Tests.{le-leb, lt-leb, leb-true, leb-false}
use Rattle.model.specs.Record.{Bytes, length_at, is_broken, offsets_from, offsets}
use Rattle.records.proofs.Header.{Whole, whole}

module _ (bs : Bytes) where
  from_end : (n at : ℕ) → length bs ≤ at → offsets_from n bs at ≡ []
  unfolding offsets_from
  from_end zero at h = refl
  from_end (suc n) at h = rw (le-leb (length bs) at h)

  from-broken : (n at : ℕ) → at < length bs → is_broken bs at ≡ true → offsets_from (suc n) bs at ≡ at ∷ []
  unfolding offsets_from
  from-broken n at h e = rw (lt-leb (length bs) at h, e)

  from-whole : (n at : ℕ) → at < length bs → is_broken bs at ≡ false → offsets_from (suc n) bs at ≡ at ∷ offsets_from n bs (at + length_at bs at)
  unfolding offsets_from
  from-whole n at h e = rw (lt-leb (length bs) at h, e)

  -- the offsets do not depend on the bound, as long as it is large enough
  from_enough : (n m at : ℕ) → length bs - at ≤ n → length bs - at ≤ m → offsets_from n bs at ≡ offsets_from m bs at
  from_enough zero m at h g = from_end zero at (omega arith) ∙ sym (from_end m at (omega arith))
  from_enough (suc n) zero at h g = from_end (suc n) at (omega arith) ∙ sym (from_end zero at (omega arith))
  from_enough (suc n) (suc m) at h g = go (leb (length bs) at) refl (is_broken bs at) refl (from_enough n m (at + length_at bs at))
    where
      go : (e : Bool) → leb (length bs) at ≡ e → (b : Bool) → is_broken bs at ≡ b →
          (length bs - (at + length_at bs at) ≤ n → length bs - (at + length_at bs at) ≤ m → offsets_from n bs (at + length_at bs at) ≡ offsets_from m bs (at + length_at bs at)) →
          offsets_from (suc n) bs at ≡ offsets_from (suc m) bs at
      go true p b q ih = from_end (suc n) at (leb-true (length bs) at p) ∙ sym (from_end (suc m) at (leb-true (length bs) at p))
      go false p true q ih = from-broken n at (leb-false (length bs) at p) q ∙ sym (from-broken m at (leb-false (length bs) at p) q)
      go false p false q ih =
          let w : Whole bs at = whole bs at q in
          from-whole n at (leb-false (length bs) at p) q ∙ ap (λ (l : List ℕ). at ∷ l) (ih (omega (arith, w.least)) (omega (arith, w.least)))
          ∙ sym (from-whole m at (leb-false (length bs) at p) q)

  -- the offsets from a place on
  abbrev pub remaining : ℕ → List ℕ
  remaining at = offsets_from (length bs - at) bs at

  pub remaining_all : offsets bs ≡ remaining 0
  unfolding offsets
  remaining_all = let e : length bs - 0 ≡ length bs = omega arith in rw e

  pub remaining_none : (at : ℕ) → length bs ≤ at → remaining at ≡ []
  remaining_none at h = from_end (length bs - at) at h

  pub remaining_broken : (at : ℕ) → at < length bs → is_broken bs at ≡ true → remaining at ≡ at ∷ []
  remaining_broken at h e =
      let f : length bs - at ≡ suc (length bs - at - 1) = omega arith in
      rw f (from-broken (length bs - at - 1) at h e)

  pub remaining_whole : (at : ℕ) → at < length bs → is_broken bs at ≡ false → remaining at ≡ at ∷ remaining (at + length_at bs at)
  remaining_whole at h e =
      let f : length bs - at ≡ suc (length bs - at - 1) = omega arith in
      let w : Whole bs at = whole bs at e in
      rw f (from-whole (length bs - at - 1) at h e
      ∙ ap (λ (l : List ℕ). at ∷ l) (from_enough (length bs - at - 1) (length bs - (at + length_at bs at)) (at + length_at bs at) (omega (arith, w.least)) (omega arith)))
