-- Decimal digits, counted and written. Assumes nothing.
use mathlib.Core.List.{◌++◌, [], ◌∷◌, List, flat_map, append_assoc}
use mathlib.Core.Bool.{Bool, cond, false, true}
use mathlib.Core.Path.{ap, refl, sym, ◌∙◌, ◌≡◌, ap₂}
use Prim.Native.Nat.{◌%◌, ◌*◌, ◌+◌, ◌-◌, ◌/◌, ◌<◌, ◌^◌, suc, zero, ℕ, ◌≤◌}
use native.Mathlib.Omega.{arith}
use native.Mathlib.Numerals.{add-one}
use native.Mathlib.Nat.{le_refl, one-le-pow, pow-succ'}
use lib.Dec.{ltb}
use lib.ListN.{length, length-append, drop, get_or, set, take}
use lib.Seq.{drop-cons, get_or_at, get_or-take, length-take-le, set_comm, sets, take_all, take_at, take-suc, take-take}
use borrow.Author.Tests.{le-ltb, lt-ltb, ltb-true}
use Rattle.std.specs.Option.{IfNone, IfSome, unwrap_or}
use Rattle.std.specs.declared.option.Option.{Option}
use Rattle.std.specs.declared.option.Option.TheVariants.{None, Some}
use Rattle.model.specs.Text.{decimal, digits, line, newline, space}
use Rattle.laws.proofs.Parts.{flat_append, flat_one}
use Rattle.lines.specs.Numbers.{numbers_text}

-- ---- counting

-- the digits of a number above 0, by the power of 10 at or below it
count_digits : (k f n : ℕ) → 10 ^ k ≤ n → n < 10 * 10 ^ k → k < f → length (digits f n) ≡ k + 1
unfolding digits
count_digits k zero n h g m = absurd (omega arith)
count_digits zero (suc f) n h g m = rw (lt-ltb n 10 g) refl
count_digits (suc k) (suc f) n h g m =
    let p : 10 ^ suc k ≡ 10 * 10 ^ k = pow-succ' 10 k in
    let big : 10 ≤ n = omega (arith, one-le-pow k 10 (omega arith)) in
    let ih : length (digits f (n / 10)) ≡ k + 1 = count_digits k f (n / 10) (omega arith) (omega arith) (omega arith) in
    rw (le-ltb n 10 big) (length-append (digits f (n / 10)) ((48 + (n % 10)) ∷ []) ∙ omega arith)

-- how many digits, by what the logarithm answers
pub log_counts : (x : ℕ) (log : Option ℕ) → IfNone log (x ≡ 0) → IfSome log (λ k. 10 ^ k ≤ x) → IfSome log (λ k. x < 10 * 10 ^ k) → IfSome log (λ k. k < 20) →
    unwrap_or log 0 + 1 ≡ length (decimal x)
unfolding decimal digits
log_counts x None none low high few = rw none refl
log_counts x (Some k) none low high few = sym (count_digits k 20 x low high few)

-- ---- writing from the last digit to the first

-- the first k digits of a number are those of rest
pub record Left (x k rest : ℕ) : Type 0 where
  pub fuel : ℕ
  pub is : 0 < k → digits fuel rest ≡ take k (decimal x)

pub left_all : (x k : ℕ) → k ≡ length (decimal x) → Left x k x
unfolding decimal
left_all x k e = record { fuel = 20; is = λ h. sym (take_all k (decimal x) (rw e (le_refl (length (decimal x))))) }

-- the last of the first k digits, and the digits before it
last_digit : (d : List ℕ) (k f rest : ℕ) → 0 < k → k ≤ length d → digits f rest ≡ take k d → (get_or d (k - 1) 0 ≡ 48 + (rest % 10)) × (0 < k - 1 → digits (f - 1) (rest / 10) ≡ take (k - 1) d)
unfolding digits
last_digit d k zero rest h g e = absurd (omega (arith, ap length e ∙ length-take-le k d g))
last_digit d k (suc f) rest h g e = go (ltb rest 10) refl e
  where
    size : length (take k d) ≡ k
    size = length-take-le k d g

    one : suc f - 1 ≡ f
    one = omega arith

    here : get_or (take k d) (k - 1) 0 ≡ get_or d (k - 1) 0
    here = get_or-take k d (k - 1) 0 (omega arith)

    front : take (k - 1) (take k d) ≡ take (k - 1) d
    front = take-take (k - 1) k d (omega arith)

    go : (t : Bool) → ltb rest 10 ≡ t → cond t ((48 + rest) ∷ []) (digits f (rest / 10) ++ ((48 + (rest % 10)) ∷ [])) ≡ take k d → (get_or d (k - 1) 0 ≡ 48 + (rest % 10))
        × (0 < k - 1 → digits (suc f - 1) (rest / 10) ≡ take (k - 1) d)
    go true b w =
        let k1 : k - 1 ≡ 0 = omega (arith, ap length w, size) in
        let m : rest % 10 ≡ rest = omega (arith, ltb-true rest 10 b) in
        (sym here ∙ ap (λ (l : List ℕ). get_or l (k - 1) 0) (sym w) ∙ rw (k1, m), λ p. absurd (omega arith))
    go false b w =
        let long : length (digits f (rest / 10)) ≡ k - 1 = omega (arith, length-append (digits f (rest / 10)) ((48 + (rest % 10)) ∷ []), ap length w, size) in (
          sym here ∙ ap (λ (l : List ℕ). get_or l (k - 1) 0) (sym w) ∙ get_or_at (digits f (rest / 10)) (48 + (rest % 10)) [] 0 (k - 1) long,
          λ p. ap (λ (m : ℕ). digits m (rest / 10)) one ∙ sym (take_at (digits f (rest / 10)) ((48 + (rest % 10)) ∷ []) (k - 1) long) ∙ ap (take (k - 1)) w ∙ front,
        )

sets_before : (l : List ℕ) (i v : ℕ) (j : ℕ) (vs : List ℕ) → i < j → set (sets l j vs) i v ≡ sets (set l i v) j vs
sets_before l i v j [] h = refl
sets_before l i v j (x ∷ vs) h = sets_before (set l j x) i v (suc j) vs (omega arith) ∙ ap (λ (s : List ℕ). sets s (suc j) vs) (set_comm l j i x v (λ e. absurd (omega arith)))

pub digit_more : (x k rest : ℕ) (out₀ out : List ℕ) (at : ℕ) → 0 < k → k ≤ length (decimal x) → Left x k rest → out ≡ sets out₀ (at + k) (drop k (decimal x)) →
    (set out (at + (k - 1)) (48 + (rest % 10)) ≡ sets out₀ (at + (k - 1)) (drop (k - 1) (decimal x))) × Left x (k - 1) (rest / 10)
digit_more x k rest out₀ out at h g l e =
    let d : List ℕ = decimal x in
    let last : (get_or (decimal x) (k - 1) 0 ≡ 48 + (rest % 10)) × (0 < k - 1 → digits (l.fuel - 1) (rest / 10) ≡ take (k - 1) (decimal x)) = last_digit (decimal x) k l.fuel rest h g
    (l.is h) in
    let k1 : suc (k - 1) ≡ k = omega arith in
    let next : suc (at + (k - 1)) ≡ at + k = omega arith in
    let tail : drop (k - 1) (decimal x) ≡ (48 + (rest % 10)) ∷ drop k (decimal x) =
    drop-cons (decimal x) (k - 1) 0 (omega arith) ∙ ap₂ {A = ℕ} {B = ℕ} {C = List ℕ} (λ y m. y ∷ drop m (decimal x)) last.0 k1 in (
      ap (λ (s : List ℕ). set s (at + (k - 1)) (48 + (rest % 10))) e
          ∙ sets_before out₀ (at + (k - 1)) (48 + (rest % 10)) (at + k) (drop k (decimal x)) (omega arith)
          ∙ sym (ap (sets out₀ (at + (k - 1))) tail ∙ ap (λ (m : ℕ). sets (set out₀ (at + (k - 1)) (48 + (rest % 10))) m (drop k (decimal x))) next),
      record { fuel = l.fuel - 1; is = last.1 },
    )

-- ---- numbers

pub numbers_more : (numbers : List ℕ) (k : ℕ) → k < length numbers → numbers_text (take (k + 1) numbers) ≡ numbers_text (take k numbers) ++ (space ∷ decimal (get_or numbers k 0))
numbers_more numbers k h =
    ap numbers_text (rw add-one (take-suc numbers k 0 h)) ∙ flat_append (λ n. space ∷ decimal n) (take k numbers) (get_or numbers k 0 ∷ [])
    ∙ ap (λ (l : List ℕ). numbers_text (take k numbers) ++ l) (flat_one (λ n. space ∷ decimal n) (get_or numbers k 0))

pub numbers_none : (numbers : List ℕ) → numbers_text (take 0 numbers) ≡ []
unfolding flat_map
numbers_none numbers = refl

pub line_is : (word numbers : List ℕ) → (word ++ numbers_text numbers) ++ (newline ∷ []) ≡ line word numbers
unfolding line
line_is word numbers = refl

pub numbers_end : (at to : ℕ) (text : List ℕ) → to ≡ at + length text → to + 1 ≡ at + length (text ++ (space ∷ []))
numbers_end at to text e = omega (arith, length-append text (space ∷ []))

pub numbers_step : (numbers : List ℕ) (k : ℕ) → k < length numbers → (numbers_text (take k numbers) ++ (space ∷ [])) ++ decimal (get_or numbers k 0) ≡ numbers_text (take (k + 1) numbers)
numbers_step numbers k h = append_assoc (numbers_text (take k numbers)) (space ∷ []) (decimal (get_or numbers k 0)) ∙ sym (numbers_more numbers k h)
