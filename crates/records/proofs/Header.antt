-- When a record's length is broken, and what holds where it is not. Assumes nothing.
use mathlib.Core.Path.{◌≡◌, refl}
use mathlib.Core.Bool.{Bool, true, false, ◌||◌, true≢false}
use Prim.Native.Nat.{ℕ, ◌+◌, ◌-◌, ◌≤◌, ◌<◌}
use native.Mathlib.Omega.{arith}
use lib.Dec.{ltb}
use lib.ListN.{length}
use borrow.Author.Tests.{lt-ltb, le-ltb, ltb-false}
use Rattle.model.specs.Record.{Bytes, length_at, is_broken}

module _ (bs : Bytes) (at : ℕ) where
  pub broken_rest : length bs - at < 4 → is_broken bs at ≡ true
  unfolding is_broken
  broken_rest h = rw (lt-ltb (length bs - at) 4 h)

  pub broken-size : 4 ≤ length bs - at → length_at bs at < 4 → is_broken bs at ≡ true
  unfolding is_broken
  broken-size h g = rw (le-ltb (length bs - at) 4 h, lt-ltb (length_at bs at) 4 g)

  pub broken-end : 4 ≤ length bs - at → 4 ≤ length_at bs at → is_broken bs at ≡ ltb (length bs - at) (length_at bs at)
  unfolding is_broken
  broken-end h g = rw (le-ltb (length bs - at) 4 h, le-ltb (length_at bs at) 4 g)

  -- a record that is whole has its header and its length inside the bytes
  pub record Whole : Type 0 where
    pub header : at + 4 ≤ length bs
    pub least : 4 ≤ length_at bs at
    pub inside : at + length_at bs at ≤ length bs

  pub whole : is_broken bs at ≡ false → Whole
  unfolding is_broken
  whole e = go (ltb (length bs - at) 4) (ltb (length_at bs at) 4) (ltb (length bs - at) (length_at bs at)) refl refl refl e
    where
      go : (a b c : Bool) → ltb (length bs - at) 4 ≡ a → ltb (length_at bs at) 4 ≡ b → ltb (length bs - at) (length_at bs at) ≡ c → (a || b || c) ≡ false → Whole
      go true b c p q r f = absurd (true≢false f)
      go false true c p q r f = absurd (true≢false f)
      go false false true p q r f = absurd (true≢false f)
      go false false false p q r f =
          let x : 4 ≤ length bs - at = ltb-false (length bs - at) 4 p in
          let y : 4 ≤ length_at bs at = ltb-false (length_at bs at) 4 q in
          let z : length_at bs at ≤ length bs - at = ltb-false (length bs - at) (length_at bs at) r in
          record { header = omega arith; least = y; inside = omega arith }
