-- Bits gathered from a run of words: 0 exactly if every word is. Assumes nothing.
use mathlib.Core.Path.{◌≡◌, refl, sym, ap, ◌∙◌}
use mathlib.Core.Bool.{Bool, true, false, ◌&&◌, and_assoc, and-true}
use mathlib.Core.List.{List}
use Prim.Native.Nat.{ℕ, zero, suc, ◌+◌, ◌*◌, ◌-◌, ◌≤◌}
use native.Mathlib.Omega.{arith}
use native.Mathlib.Numerals.{add-one}
use lib.Dec.{eqb}
use lib.Bits.{bit_or, or_zero_l, or_add_and, and_le_r}
use lib.ListN.{length, get_or}
use lib.Seq.{slice, slice-cons, slice_empty}
use borrow.Author.Tests.{eqb-false, eqb-true, ne_eqb, eq-eqb}
use Rattle.model.specs.Areas.{all_zero}
use Rattle.zeros.specs.Zeros.{Tells, Gathers, no_bits, pair_at}
use Rattle.zeros.specs.declared.Bits.{Bits}

-- ---- bits

-- the bits of two words are all 0 where both are
pub or_none : (a b : ℕ) → eqb (bit_or a b) 0 ≡ (eqb a 0 && eqb b 0)
or_none a b = go (eqb a 0) refl (eqb b 0) refl
  where
    go : (s : Bool) → eqb a 0 ≡ s → (t : Bool) → eqb b 0 ≡ t → eqb (bit_or a b) 0 ≡ (s && t)
    go true e t f = ap (λ (x : ℕ). eqb (bit_or x b) 0) (eqb-true a 0 e) ∙ ap (λ (x : ℕ). eqb x 0) (or_zero_l b) ∙ f
    go false e t f = ne_eqb (bit_or a b) 0 (λ z. eqb-false a 0 e (omega (arith, z, or_add_and a b, and_le_r a b)))

-- bits gathered beside others tell of both
pub or-tells : (bits p : ℕ) (t : Bool) → eqb p 0 ≡ t → eqb (bit_or bits p) 0 ≡ (eqb bits 0 && t)
or-tells bits p t e = or_none bits p ∙ ap (λ (u : Bool). eqb bits 0 && u) e

-- two fields as one 64-bit word are 0 exactly if both are
pub pair_zero : (x y : ℕ) → eqb (x + y * 4294967296) 0 ≡ (eqb x 0 && eqb y 0)
pair_zero x y = go (eqb x 0) refl (eqb y 0) refl
  where
    go : (s : Bool) → eqb x 0 ≡ s → (t : Bool) → eqb y 0 ≡ t → eqb (x + y * 4294967296) 0 ≡ (s && t)
    go true e true f = eq-eqb (x + y * 4294967296) 0 (omega (arith, eqb-true x 0 e, eqb-true y 0 f))
    go true e false f = ne_eqb (x + y * 4294967296) 0 (λ z. eqb-false y 0 f (omega (arith, z)))
    go false e t f = ne_eqb (x + y * 4294967296) 0 (λ z. eqb-false x 0 e (omega (arith, z)))

pub and_four : (a b c d : Bool) → (a && b && (c && d)) ≡ (a && c && (b && d))
and_four true true c d = refl
and_four true false true d = refl
and_four true false false d = refl
and_four false b c d = refl

-- ---- runs

module _ (s : List ℕ) where
  -- a run and the run behind it
  pub zero_split : (a b c : ℕ) → a ≤ b → b ≤ c → c ≤ length s → all_zero (slice a c s) ≡ (all_zero (slice a b s) && all_zero (slice b c s))
  zero_split a b c h g l = go (b - a) a (omega arith)
    where
      go : (n a : ℕ) → a + n ≡ b → all_zero (slice a c s) ≡ (all_zero (slice a b s) && all_zero (slice b c s))
      go zero a e = let same : a ≡ b = omega arith in rw (same, slice_empty b s)
      go (suc n) a e =
          rw (slice-cons a c s 0 (omega arith) l, slice-cons a b s 0 (omega arith) (omega arith), go n (suc a) (omega arith))
          (sym (and_assoc (eqb (get_or s a 0) 0) (all_zero (slice (suc a) b s)) (all_zero (slice b c s))))

  pub zero_one : (k : ℕ) → k + 1 ≤ length s → all_zero (slice k (k + 1) s) ≡ eqb (get_or s k 0) 0
  zero_one k h =
      rw (slice-cons k (k + 1) s 0 (omega arith) h, add-one, slice_empty (suc k) s) (and-true (eqb (get_or s k 0) 0))

  zero_two : (k : ℕ) → k + 2 ≤ length s → all_zero (slice k (k + 2) s) ≡ (eqb (get_or s k 0) 0 && eqb (get_or s (k + 1) 0) 0)
  zero_two k h =
      let next : k + 2 ≡ k + 1 + 1 = omega arith in
      let second : all_zero (slice (k + 1) (k + 2) s) ≡ eqb (get_or s (k + 1) 0) 0 = rw next (zero_one (k + 1) (omega arith)) in
      zero_split k (k + 1) (k + 2) (omega arith) (omega arith) h ∙ rw (zero_one k (omega arith), second)

  pub pair_tells : (k r : ℕ) → k + 2 ≤ length s → r ≡ pair_at s k → Tells r (slice k (k + 2) s)
  pair_tells k r h e = ap (λ (x : ℕ). eqb x 0) e ∙ pair_zero (get_or s k 0) (get_or s (k + 1) 0) ∙ sym (zero_two k h)

  -- ---- beside others

  pub two_gathered : (k even odd p q : ℕ) → k + 4 ≤ length s → p ≡ pair_at s k → q ≡ pair_at s (k + 2) →
      (eqb (bit_or even p) 0 && eqb (bit_or odd q) 0) ≡ (eqb even 0 && eqb odd 0 && all_zero (slice k (k + 4) s))
  two_gathered k even odd p q h e f =
      let next : k + 4 ≡ k + 2 + 2 = omega arith in
      rw (
        or_none even p,
        or_none odd q,
        pair_tells k p (omega arith) e,
        pair_tells (k + 2) q (omega arith) f,
        next,
        zero_split k (k + 2) (k + 2 + 2) (omega arith) (omega arith) (omega arith),
      )
      (and_four (eqb even 0) (all_zero (slice k (k + 2) s)) (eqb odd 0) (all_zero (slice (k + 2) (k + 2 + 2) s)))

  -- nothing gathered yet
  pub gather_none : (a : Bits) (k m : ℕ) → m ≡ k → Gathers a (slice k m s) a
  gather_none a k m e = rw (e, slice_empty k s) (sym (and-true (no_bits a)))

  -- a run gathered, then the run behind it
  pub gather_on : (a b c : Bits) (k m n e : ℕ) → k ≤ m → n ≤ length s → m + e ≡ n → Gathers a (slice k m s) b → Gathers b (slice m (m + e) s) c → Gathers a (slice k n s) c
  gather_on a b c k m n e h l same f g =
      g
      ∙ ap (λ (t : Bool). t && all_zero (slice m (m + e) s)) f
      ∙ and_assoc (no_bits a) (all_zero (slice k m s)) (all_zero (slice m (m + e) s))
      ∙ rw (same, zero_split k m n h (omega arith) l)

  -- ---- what is left decides

  module _ (from to : ℕ) where
    -- what was gathered before index k, and the words from there on
    abbrev pub LeftZero : Bool → ℕ → Type 0
    LeftZero b k = all_zero (slice from to s) ≡ (b && all_zero (slice k to s))

    pub left_more : (b d : Bool) (k m : ℕ) → k ≤ m → m ≤ to → to ≤ length s → d ≡ (b && all_zero (slice k m s)) → LeftZero b k → LeftZero d m
    left_more b d k m h g l e z =
        z
        ∙ ap (λ (t : Bool). b && t) (zero_split k m to h g l)
        ∙ sym (and_assoc b (all_zero (slice k m s)) (all_zero (slice m to s)))
        ∙ ap (λ (t : Bool). t && all_zero (slice m to s)) (sym e)

    pub left_done : (b : Bool) (k : ℕ) → k ≡ to → LeftZero b k → b ≡ all_zero (slice from to s)
    left_done b k e z =
        let none : all_zero (slice k to s) ≡ true = rw (e, slice_empty to s) in
        sym (z ∙ ap (λ (t : Bool). b && t) none ∙ and-true b)

    -- the bits of both words and of what was left
    pub left_last : (even odd rest k : ℕ) → Tells rest (slice k to s) → LeftZero (eqb even 0 && eqb odd 0) k → eqb (bit_or (bit_or even odd) rest) 0 ≡ all_zero (slice from to s)
    left_last even odd rest k e z = rw (or_none (bit_or even odd) rest, or_none even odd, e) (sym z)
