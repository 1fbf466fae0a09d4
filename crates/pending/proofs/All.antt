-- A test of each number of a range, by the library's words and by the model's. Assumes nothing.
use mathlib.Core.Path.{◌≡◌, ap, refl}
use mathlib.Core.Bool.{Bool, ◌&&◌}
use Prim.Native.Nat.{ℕ, zero, suc, ◌+◌}
use native.Mathlib.Omega.{arith}
use Rattle.std.specs.List.{list_all, range_with_len}
use Rattle.model.specs.Row.{all_of, count_from}

pub list_all-below : (p : ℕ → Bool) (from n : ℕ) → list_all p (range_with_len from n) ≡ all_of p (count_from from n)
list_all-below p from zero = refl
list_all-below p from (suc n) =
    let next : from + 1 ≡ suc from = omega arith in
    rw next (ap (λ (t : Bool). p from && t) (list_all-below p (suc from) n))
