-- A test of every number below another: what it says of each, and how it is made one by one. Assumes nothing.
use mathlib.Core.Path.{◌≡◌, refl, sym, ap, ap₂, ◌∙◌}
use mathlib.Core.Bool.{Bool, false, not, true, true≢false, ◌&&◌}
use mathlib.Core.List.{List, [], ◌∷◌}
use Prim.Native.Nat.{ℕ, zero, suc, ◌+◌, ◌<◌, ◌≤◌, zero-le, suc-le-suc}
use native.Mathlib.Nat.{not-suc-le-zero, le_of_suc-le-suc, add-zero, zero-add}
use native.Mathlib.Omega.{arith}
use lib.Dec.{ltb}
use lib.ListN.{get_or, length}
use borrow.Author.Tests.{ltb-false, ltb-true, not-false, not-true}
use Rattle.model.specs.Row.{all_of, count_from, numbers_below}
use Rattle.laws.proofs.Sets.{and_first, and_second, and_both}

pub all_below : (p : ℕ → Bool) (from n : ℕ) → all_of p (count_from from n) ≡ true → (j : ℕ) → j < n → p (from + j) ≡ true
all_below p from zero e j h = absurd (not-suc-le-zero h)
all_below p from (suc n) e zero h = ap p (add-zero from) ∙ and_first (p from) (all_of p (count_from (suc from) n)) e
all_below p from (suc n) e (suc j) h =
    let f : from + suc j ≡ suc from + j = omega arith in
    ap p f ∙ all_below p (suc from) n (and_second (p from) (all_of p (count_from (suc from) n)) e) j (le_of_suc-le-suc h)

pub below_all : (p : ℕ → Bool) (from n : ℕ) → ((j : ℕ) → j < n → p (from + j) ≡ true) → all_of p (count_from from n) ≡ true
below_all p from zero e = refl
below_all p from (suc n) e =
    and_both (p from) (all_of p (count_from (suc from) n)) (ap p (sym (add-zero from)) ∙ e 0 (suc-le-suc zero-le))
    (below_all p (suc from) n (λ j h. let f : suc from + j ≡ from + suc j = omega arith in ap p f ∙ e (suc j) (suc-le-suc h)))

-- ---- made one by one

module _ (p : ℕ → Bool) (n : ℕ) where
  -- the test holds of the numbers below i
  abbrev pub AllTo : ℕ → Type 0
  AllTo i = (j : ℕ) → j < i → p j ≡ true

  pub all_none : AllTo 0
  all_none j h = absurd (not-suc-le-zero h)

  -- an answer r says of one number more that it holds
  pub all_more : (i : ℕ) (r : Bool) → AllTo i → r ≡ p i → not r ≡ false → AllTo (i + 1)
  all_more i r a e t j h = go (ltb j i) refl
    where
      go : (t : Bool) → ltb j i ≡ t → p j ≡ true
      go true f = a j (ltb-true j i f)
      go false f =
          let k : i ≤ j = ltb-false j i f in
          let same : j ≡ i = omega arith in
          rw same (sym e ∙ not-false r t)

  pub all_done : (i : ℕ) → n ≤ i → AllTo i → all_of p (numbers_below n) ≡ true
  all_done i h a = below_all p 0 n (λ j k. rw (zero-add j) (a j (omega arith)))

  -- an answer r says of a number that it does not
  pub all_not : (i : ℕ) (r : Bool) → i < n → r ≡ p i → not r ≡ true → all_of p (numbers_below n) ≡ false
  all_not i r h e t = go (all_of p (numbers_below n)) refl
    where
      go : (t : Bool) → all_of p (numbers_below n) ≡ t → t ≡ false
      go false f = refl
      go true f = let holds : p (0 + i) ≡ true = all_below p 0 n f i h in absurd (true≢false (sym holds ∙ ap p (zero-add i) ∙ sym e ∙ not-true r t))

-- a test of every element of a list
pub all_at : {A : Type 0} (p : A → Bool) (l : List A) (d : A) → ((i : ℕ) → i < length l → p (get_or l i d) ≡ true) → all_of p l ≡ true
all_at p [] d h = refl
all_at p (x ∷ l) d h = and_both (p x) (all_of p l) (h 0 (suc-le-suc zero-le)) (all_at p l d (λ i k. h (suc i) (suc-le-suc k)))

-- two tests that say the same
pub all_ext : (p q : ℕ → Bool) (from n : ℕ) → ((i : ℕ) → p i ≡ q i) → all_of p (count_from from n) ≡ all_of q (count_from from n)
all_ext p q from zero f = refl
all_ext p q from (suc n) f = ap₂ {A = Bool} {B = Bool} {C = Bool} (λ a b. a && b) (f from) (all_ext p q (suc from) n f)
