-- Columns and pairs read from a record, one at a time. Assumes nothing.
use mathlib.Core.Path.{◌≡◌, refl, sym, ap, ◌∙◌}
use mathlib.Core.Bool.{true, false}
use mathlib.Core.List.{List, [], ◌∷◌, ◌++◌}
use Prim.Native.Nat.{ℕ, zero, suc, ◌+◌, ◌-◌, ◌*◌, ◌≤◌, ◌<◌}
use native.Mathlib.Omega.{arith}
use native.Mathlib.Numerals.{add-one}
use lib.ListN.{length, take, set}
use lib.Seq.{take-suc-set}
use borrow.Author.Tests.{lt-ltb, le-ltb}
use Rattle.model.specs.Algebra.{Pair}
use Rattle.model.specs.Record.{Bytes, field_at, fields_at}
use Rattle.model.specs.Network.{columns_below, pairs_below, pairs_at}
use Rattle.nodes.specs.Nodes.{pairs_of}

-- ---- columns

pub fields_cons : (bs : Bytes) (at k n i : ℕ) → i < n → fields_at bs at (k + i) (n - i) ≡ field_at bs at (k + i) ∷ fields_at bs at (k + (i + 1)) (n - (i + 1))
fields_cons bs at k n i h =
    let e : n - i ≡ suc (n - (i + 1)) = omega arith in
    let f : k + (i + 1) ≡ suc (k + i) = omega arith in
    rw (e, f)

pub fields_none : (bs : Bytes) (at k n i : ℕ) → n ≤ i → fields_at bs at (k + i) (n - i) ≡ []
fields_none bs at k n i h = let e : n - i ≡ 0 = omega arith in rw e

-- the columns before the i-th are below the width: those from there on decide
abbrev pub BelowTo : ℕ → Bytes → ℕ → ℕ → ℕ → ℕ → Type 0
BelowTo w bs at k n i = columns_below w (fields_at bs at k n) ≡ columns_below w (fields_at bs at (k + i) (n - i))

module _ (w : ℕ) (bs : Bytes) (at k n : ℕ) where
  pub below_none : BelowTo w bs at k n 0
  below_none =
      let e : n - 0 ≡ n = omega arith in
      let f : k + 0 ≡ k = omega arith in
      rw (e, f)

  pub below_more : (i x : ℕ) → i < n → x ≡ field_at bs at (k + i) → x < w → BelowTo w bs at k n i → BelowTo w bs at k n (i + 1)
  below_more i x h e f b = b ∙ rw (fields_cons bs at k n i h, ← e, lt-ltb x w f)

  pub below-not : (i x : ℕ) → i < n → x ≡ field_at bs at (k + i) → w ≤ x → BelowTo w bs at k n i → columns_below w (fields_at bs at k n) ≡ false
  below-not i x h e f b = b ∙ rw (fields_cons bs at k n i h, ← e, le-ltb x w f)

  pub below_all : (i : ℕ) → n ≤ i → BelowTo w bs at k n i → columns_below w (fields_at bs at k n) ≡ true
  below_all i h b = b ∙ rw (fields_none bs at k n i h)

-- ---- pairs

pub pairs_cons : (bs : Bytes) (at k n i : ℕ) → i < n →
    pairs_at bs at (k + 2 * i) (n - i) ≡ record { left = field_at bs at (k + 2 * i); right = field_at bs at (k + 1 + 2 * i) } ∷ pairs_at bs at (k + 2 * (i + 1)) (n - (i + 1))
pairs_cons bs at k n i h =
    let e : n - i ≡ suc (n - (i + 1)) = omega arith in
    let f : k + 2 * (i + 1) ≡ k + 2 * i + 2 = omega arith in
    let g : k + 1 + 2 * i ≡ k + 2 * i + 1 = omega arith in
    rw (e, f, g)

pub pairs_none : (bs : Bytes) (at k n i : ℕ) → n ≤ i → pairs_at bs at (k + 2 * i) (n - i) ≡ []
pairs_none bs at k n i h = let e : n - i ≡ 0 = omega arith in rw e

-- the pairs before the i-th are below the widths: those from there on decide
abbrev pub PairsTo : ℕ → ℕ → Bytes → ℕ → ℕ → ℕ → ℕ → Type 0
PairsTo l r bs at k n i = pairs_below l r (pairs_at bs at k n) ≡ pairs_below l r (pairs_at bs at (k + 2 * i) (n - i))

module _ (l r : ℕ) (bs : Bytes) (at k n : ℕ) where
  pub pairs_start : PairsTo l r bs at k n 0
  pairs_start =
      let e : n - 0 ≡ n = omega arith in
      let f : k + 2 * 0 ≡ k = omega arith in
      rw (e, f)

  pub pairs_more : (i x y : ℕ) → i < n → x ≡ field_at bs at (k + 2 * i) → y ≡ field_at bs at (k + 1 + 2 * i) → x < l → y < r → PairsTo l r bs at k n i → PairsTo l r bs at k n (i + 1)
  pairs_more i x y h e f p q b = b ∙ rw (pairs_cons bs at k n i h, ← e, ← f, lt-ltb x l p, lt-ltb y r q)

  pub pairs-not-left : (i x : ℕ) → i < n → x ≡ field_at bs at (k + 2 * i) → l ≤ x → PairsTo l r bs at k n i → pairs_below l r (pairs_at bs at k n) ≡ false
  pairs-not-left i x h e p b = b ∙ rw (pairs_cons bs at k n i h, ← e, le-ltb x l p)

  pub pairs-not-right : (i x y : ℕ) → i < n → x ≡ field_at bs at (k + 2 * i) → y ≡ field_at bs at (k + 1 + 2 * i) → x < l → r ≤ y → PairsTo l r bs at k n i → pairs_below l r (pairs_at bs at k n)
      ≡ false
  pairs-not-right i x y h e f p q b = b ∙ rw (pairs_cons bs at k n i h, ← e, ← f, lt-ltb x l p, le-ltb y r q)

  pub pairs_all : (i : ℕ) → n ≤ i → PairsTo l r bs at k n i → pairs_below l r (pairs_at bs at k n) ≡ true
  pairs_all i h b = b ∙ rw (pairs_none bs at k n i h)

-- ---- fields stored one after the other

pub fields_snoc : (bs : Bytes) (at k n : ℕ) → fields_at bs at k (n + 1) ≡ fields_at bs at k n ++ (field_at bs at (k + n) ∷ [])
fields_snoc bs at k zero = let e : k + 0 ≡ k = omega arith in rw e
fields_snoc bs at k (suc n) =
    let e : suc n + 1 ≡ suc (n + 1) = omega arith in
    let f : k + suc n ≡ suc k + n = omega arith in
    rw (e, f) (ap (λ (l : List ℕ). field_at bs at k ∷ l) (fields_snoc bs at (suc k) n))

pub fields-turn : (bs : Bytes) (at k : ℕ) (l : List ℕ) (i x : ℕ) → i < length l → x ≡ field_at bs at (k + i) → take i l ≡ fields_at bs at k i → take (i + 1) (set l i x)
    ≡ fields_at bs at k (i + 1)
fields-turn bs at k l i x h e f =
    let one : take (i + 1) (set l i x) ≡ take i l ++ (x ∷ []) = rw add-one (take-suc-set l i x h) in
    let two : take i l ++ (x ∷ []) ≡ fields_at bs at k i ++ (field_at bs at (k + i) ∷ []) = rw (f, e) in
    one ∙ two ∙ sym (fields_snoc bs at k i)

pub length-fields_at_lem : (bs : Bytes) (at k n : ℕ) → length (fields_at bs at k n) ≡ n
length-fields_at_lem bs at k zero = refl
length-fields_at_lem bs at k (suc n) = ap suc (length-fields_at_lem bs at (suc k) n)

pub pairs-fields : (bs : Bytes) (at k n : ℕ) → pairs_of n (fields_at bs at k (2 * n)) ≡ pairs_at bs at k n
pairs-fields bs at k zero = refl
pairs-fields bs at k (suc n) =
    let e : 2 * suc n ≡ suc (suc (2 * n)) = omega arith in
    let f : k + 2 ≡ suc (suc k) = omega arith in
    let g : k + 1 ≡ suc k = omega arith in
    rw (e, f, g) (ap (λ (l : List Pair). record { left = field_at bs at k; right = field_at bs at (suc k) } ∷ l) (pairs-fields bs at (suc (suc k)) n))

-- pairs depend on their own numbers alone
pub pairs-take : (n : ℕ) (l : List ℕ) → 2 * n ≤ length l → pairs_of n l ≡ pairs_of n (take (2 * n) l)
pairs-take zero l h = refl
pairs-take (suc n) [] h = absurd (omega arith)
pairs-take (suc n) (x ∷ []) h = absurd (omega arith)
pairs-take (suc n) (x ∷ y ∷ l) h =
    let e : 2 * suc n ≡ suc (suc (2 * n)) = omega arith in
    rw e (ap (λ (m : List Pair). record { left = x; right = y } ∷ m) (pairs-take n l (omega arith)))
