-- An answer by a test of each number below another. Assumes nothing.
use mathlib.Core.Path.{◌≡◌, refl, sym, ◌∙◌}
use mathlib.Core.Bool.{Bool, true, false, true≢false}
use Prim.Native.Nat.{ℕ, ◌+◌, ◌<◌, zero-le}
use native.Mathlib.Omega.{arith}
use lib.ListN.{get_or, length}
use Rattle.std.specs.Prelude.{MatchBool}
use Rattle.std.specs.List.{AllWithin, HoldsAt, range_with_len}
use Rattle.std.proofs.lemmas.List.FromFn.{get_or-range_with_len, length-range_with_len}
use Rattle.model.specs.Row.{all_of, numbers_below}
use Rattle.laws.proofs.All.{all_below, below_all}

pub all_below-from_cases : (p : ℕ → Bool) (n : ℕ) (r : Bool) → MatchBool r (AllWithin (λ i. i < n → p i ≡ true) (range_with_len 0 n) 0 (length (range_with_len 0 n)))
    ((k : ℕ) × (k < length (range_with_len 0 n)) × HoldsAt (λ i. i < n → p i ≡ false) (range_with_len 0 n) k) → r ≡ all_of p (numbers_below n)
all_below-from_cases p n true h =
    sym (below_all p 0 n (λ j k.
    let within : j < length (range_with_len 0 n) = rw length-range_with_len k in
    let here : get_or (range_with_len 0 n) j 0 ≡ 0 + j = get_or-range_with_len 0 n j 0 k in
    let at : get_or (range_with_len 0 n) j 0 < n = omega (arith, here, k) in
    rw here at (h j 0 zero-le within at)))
all_below-from_cases p n false h =
    let k : h.0 < n = rw length-range_with_len at h.1 in
    let here : get_or (range_with_len 0 n) h.0 0 ≡ 0 + h.0 = get_or-range_with_len 0 n h.0 0 k in
    let at : get_or (range_with_len 0 n) h.0 0 < n = omega (arith, here, k) in
    go h.0 k (rw here at (h.2 0 at)) (all_of p (numbers_below n)) refl
  where
    go : (j : ℕ) → j < n → p (0 + j) ≡ false → (t : Bool) → all_of p (numbers_below n) ≡ t → false ≡ all_of p (numbers_below n)
    go j k e false f = sym f
    go j k e true f = absurd (true≢false (sym (all_below p 0 n f j k) ∙ e))
