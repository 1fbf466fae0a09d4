-- Runs of words: copied, cleared, compared, one word at a time; compared by the library and by the order of rows. Assumes nothing.
use mathlib.Core.Path.{◌≡◌, refl, sym, ap, ap₂, ◌∙◌}
use mathlib.Core.Bool.{Bool, true, false, ◌&&◌, and_assoc, and-true}
use mathlib.Core.List.{List, [], ◌∷◌}
use Prim.Native.Nat.{ℕ, suc, ◌+◌, ◌-◌, ◌≤◌, ◌<◌, compare, Ordering}
use native.Mathlib.Omega.{arith}
use native.Mathlib.Numerals.{add-one}
use Rattle.std.specs.Prelude.{nat_eq}
use lib.Pointwise.{pointwise}
use lib.Dec.{compare_is_eq, eqb}
use lib.ListN.{length, get_or, set, drop, replicate, get_or-replicate, length-replicate, length-drop}
use lib.Seq.{paste, paste-suc, slice, slice-cons, slice_empty, get_or-drop}
use borrow.Author.Tests.{eqb-false, eqb-true}
use Rattle.model.specs.Row.{order, same_row, and_then}
use Rattle.laws.proofs.Order.{eq_compare, compare-says}
use Rattle.words.specs.Runs.{same_first}

-- ---- copying

pub copy_turn : (src d e : List ℕ) (from to k : ℕ) → from + k < length src → to + k < length d → e ≡ paste d to (drop from src) k →
    set e (to + k) (get_or src (from + k) 0) ≡ paste d to (drop from src) (k + 1)
copy_turn src d e from to k h g p =
    let room : k < length (drop from src) = rw length-drop (omega arith) in
    rw (p, add-one, ← (get_or-drop from src k 0)) (paste-suc d to (drop from src) k 0 g room)

-- ---- clearing

pub clear_turn : (d e : List ℕ) (from to k : ℕ) → from ≤ k → k < to → to ≤ length d → e ≡ paste d from (replicate (to - from) 0) (k - from) →
    set e k 0 ≡ paste d from (replicate (to - from) 0) (k + 1 - from)
clear_turn d e from to k h g f p =
    let j : ℕ = k - from in
    let z : List ℕ = replicate (to - from) 0 in
    let at : from + (k - from) ≡ k = omega arith in
    let next : k + 1 - from ≡ suc (k - from) = omega arith in
    let room : k - from < length z = rw length-replicate (omega arith) in
    let turn : set (paste d from z j) (from + j) (get_or z j 0) ≡ paste d from z (suc j) = paste-suc d from z j 0 (omega arith) room in
    let value : get_or z j 0 ≡ 0 = get_or-replicate {A = ℕ} (to - from) j 0 0 (omega arith) in
    ap (λ (l : List ℕ). set l k 0) p
    ∙ ap₂ (λ (i x : ℕ). set (paste d from z j) i x) (sym at) (sym value)
    ∙ turn
    ∙ ap (λ (n : ℕ). paste d from z n) (sym next)

-- ---- the same words

-- whether the words before index k are the same, and the words from there on decide
abbrev pub SameTo : List ℕ → List ℕ → ℕ → Bool → ℕ → Type 0
SameTo a b count same k = same_first count a b ≡ (same && same_row (slice k count a) (slice k count b))

unequal : (x y : ℕ) (o : Ordering) → (x ≡ y → ⊥) → compare_is_eq (and_then (compare x y) o) ≡ false
unequal x y o h = go (compare x y) refl
  where
    go : (p : Ordering) → compare x y ≡ p → compare_is_eq (and_then p o) ≡ false
    go Ordering.lt e = refl
    go Ordering.eq e = absurd (h (compare-says x y Ordering.eq e))
    go Ordering.gt e = refl

-- a word and those behind it
word_same : (x y : ℕ) (o : Ordering) → compare_is_eq (and_then (compare x y) o) ≡ (eqb x y && compare_is_eq o)
word_same x y o = go (eqb x y) refl
  where
    go : (t : Bool) → eqb x y ≡ t → compare_is_eq (and_then (compare x y) o) ≡ (t && compare_is_eq o)
    go true e = rw (eq_compare x y (eqb-true x y e))
    go false e = unequal x y o (eqb-false x y e)

pub same_more : (a b : List ℕ) (count : ℕ) (same : Bool) (k : ℕ) → k < count → count ≤ length a → count ≤ length b → SameTo a b count same k →
    SameTo a b count (same && eqb (get_or a k 0) (get_or b k 0)) (k + 1)
same_more a b count same k h f g z =
    let first : same_row (slice k count a) (slice k count b) ≡ (eqb (get_or a k 0) (get_or b k 0) && same_row (slice (k + 1) count a) (slice (k + 1) count b)) =
    rw (add-one, slice-cons k count a 0 h f, slice-cons k count b 0 h g) (word_same (get_or a k 0) (get_or b k 0) (order (slice (suc k) count a) (slice (suc k) count b))) in
    z ∙ ap (λ (t : Bool). same && t) first ∙ sym (and_assoc same (eqb (get_or a k 0) (get_or b k 0)) (same_row (slice (k + 1) count a) (slice (k + 1) count b)))

pub same_all : (a b : List ℕ) (count : ℕ) (same : Bool) (k : ℕ) → k ≡ count → SameTo a b count same k → same ≡ same_first count a b
same_all a b count same k e z =
    let none : same_row (slice k count a) (slice k count b) ≡ true = rw (e, slice_empty count a, slice_empty count b) in
    sym (z ∙ ap (λ (t : Bool). same && t) none ∙ and-true same)

-- two lists of words are one row exactly if the library finds them equal
pub pointwise_row : (a b : List ℕ) → pointwise nat_eq a b ≡ same_row a b
pointwise_row [] [] = refl
pointwise_row [] (y ∷ b) = refl
pointwise_row (x ∷ a) [] = refl
pointwise_row (x ∷ a) (y ∷ b) = ap (λ (t : Bool). eqb x y && t) (pointwise_row a b) ∙ sym (word_same x y (order a b))
