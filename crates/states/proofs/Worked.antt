-- The worked list names each node at most once. Assumes nothing.
-- how many of some levels a number is at
use mathlib.Core.Bool.{◌&&◌, Bool, cond, false, true, ◌||◌}
use mathlib.Core.List.{◌++◌, List, [], flat_map, ◌∷◌}
use mathlib.Core.Path.{ap, ap₂, refl, ◌≡◌, sym, ◌∙◌}
use Prim.Native.Nat.{◌+◌, ◌<◌, suc, zero, zero-le, ℕ, ◌≤◌}
use native.Mathlib.Omega.{arith}
use native.Mathlib.Nat.{le_of_suc-le-suc, not-suc-le-zero}
use lib.Dec.{eqb}
use lib.ListN.{get_or, length, length-append}
use borrow.Author.Tests.{eqb-true, ne_eqb, eq-eqb, eqb-false}
use Rattle.model.specs.Network.{Node, levels}
use Rattle.model.specs.Delta.{Change}
use Rattle.model.specs.Row.{count_from, keep, keep_if, numbers_below, some_of}
use Rattle.model.specs.Station.{has_changed_input, worked_at_level, worked_list}

hits : ℕ → List ℕ → ℕ
hits l [] = 0
hits l (x ∷ xs) = cond (eqb l x) 1 0 + hits l xs

hits_past : (l from n : ℕ) → l < from → hits l (count_from from n) ≡ 0
unfolding hits
hits_past l from zero h = refl
hits_past l from (suc n) h = ap₂ {A = ℕ} {B = ℕ} {C = ℕ} (λ a b. a + b) (ap (λ (t : Bool). cond t 1 0) (ne_eqb l from (λ e. absurd (omega arith)))) (hits_past l (suc from) n (omega arith))

hits_once : (l from n : ℕ) → hits l (count_from from n) ≤ 1
unfolding hits
hits_once l from zero = zero-le
hits_once l from (suc n) = go (eqb l from) refl (hits_once l (suc from) n)
  where
    go : (t : Bool) → eqb l from ≡ t → hits l (count_from (suc from) n) ≤ 1 → cond t 1 0 + hits l (count_from (suc from) n) ≤ 1
    go true e ih = omega (arith, hits_past l (suc from) n (omega (arith, eqb-true l from e)))
    go false e ih = omega arith

module _ (level : ℕ → ℕ) (q : ℕ → Bool) where
  -- the numbers of one level that pass a test
  abbrev pub at_level : List ℕ → ℕ → List ℕ
  at_level ids l = keep (λ i. eqb (level i) l && q i) ids

  one_more : (x : ℕ) (ids ls : List ℕ) → length (flat_map (at_level (x ∷ ids)) ls) ≤ length (flat_map (at_level ids) ls) + hits (level x) ls
  unfolding flat_map hits
  one_more x ids [] = zero-le
  one_more x ids (l ∷ ls) = go (eqb (level x) l) (q x) (one_more x ids ls)
    where
      go : (t b : Bool) → length (flat_map (at_level (x ∷ ids)) ls) ≤ length (flat_map (at_level ids) ls) + hits (level x) ls →
          length (keep_if (t && b) x (keep (λ i. eqb (level i) l && q i) ids) ++ flat_map (at_level (x ∷ ids)) ls) ≤ length
          (keep (λ i. eqb (level i) l && q i) ids ++ flat_map (at_level ids) ls) + (cond t 1 0 + hits (level x) ls)
      go true true ih = omega (
        arith,
        length-append (x ∷ keep (λ i. eqb (level i) l && q i) ids) (flat_map (at_level (x ∷ ids)) ls),
        length-append (keep (λ i. eqb (level i) l && q i) ids)
            (flat_map (at_level ids) ls),
      )
      go true false ih = omega (
        arith,
        length-append (keep (λ i. eqb (level i) l && q i) ids) (flat_map (at_level (x ∷ ids)) ls),
        length-append (keep (λ i. eqb (level i) l && q i) ids)
            (flat_map (at_level ids) ls),
      )
      go false true ih = omega (
        arith,
        length-append (keep (λ i. eqb (level i) l && q i) ids) (flat_map (at_level (x ∷ ids)) ls),
        length-append (keep (λ i. eqb (level i) l && q i) ids)
            (flat_map (at_level ids) ls),
      )
      go false false ih = omega (
        arith,
        length-append (keep (λ i. eqb (level i) l && q i) ids) (flat_map (at_level (x ∷ ids)) ls),
        length-append (keep (λ i. eqb (level i) l && q i) ids)
            (flat_map (at_level ids) ls),
      )

  none_left : (ls : List ℕ) → length (flat_map (at_level []) ls) ≡ 0
  unfolding flat_map
  none_left [] = refl
  none_left (l ∷ ls) = none_left ls

  pub at_most_once : (n : ℕ) (ids : List ℕ) → length (flat_map (at_level ids) (numbers_below n)) ≤ length ids
  at_most_once n [] = omega (arith, none_left (numbers_below n))
  at_most_once n (x ∷ ids) = omega (arith, one_more x ids (numbers_below n), at_most_once n ids, hits_once (level x) 0 n)

-- every number of a list is below another
abbrev pub Below : ℕ → List ℕ → Type 0
Below n [] = Unit {0}
Below n (x ∷ l) = (x < n) × Below n l

below-counted : (m from n : ℕ) → from + n ≤ m → Below m (count_from from n)
below-counted m from zero h = tt
below-counted m from (suc n) h = (omega arith, below-counted m (suc from) n (omega arith))

below-keep : (m : ℕ) (p : ℕ → Bool) (l : List ℕ) → Below m l → Below m (keep p l)
below-keep m p [] b = tt
below-keep m p (x ∷ l) b = go (p x) (below-keep m p l b.1)
  where
    go : (t : Bool) → Below m (keep p l) → Below m (keep_if t x (keep p l))
    go true ih = (b.0, ih)
    go false ih = ih

pub below-append : (m : ℕ) (a b : List ℕ) → Below m a → Below m b → Below m (a ++ b)
below-append m [] b x y = y
below-append m (z ∷ a) b x y = (x.0, below-append m a b x.1 y)

below_each : (m : ℕ) (f : ℕ → List ℕ) (ls : List ℕ) → ((l : ℕ) → Below m (f l)) → Below m (flat_map f ls)
unfolding flat_map
below_each m f [] h = tt
below_each m f (l ∷ ls) h = below-append m (f l) (flat_map f ls) (h l) (below_each m f ls h)

pub below_at : (m : ℕ) (l : List ℕ) (k : ℕ) → Below m l → k < length l → get_or l k 0 < m
below_at m [] k b h = absurd (not-suc-le-zero h)
below_at m (x ∷ l) zero b h = b.0
below_at m (x ∷ l) (suc k) b h = below_at m l k b.1 (le_of_suc-le-suc h)

pub length_numbers : (from n : ℕ) → length (count_from from n) ≡ n
length_numbers from zero = refl
length_numbers from (suc n) = ap suc (length_numbers (suc from) n)

-- "the worked list": no more entries than nodes, each a node's number
pub worked-few : (nodes : List Node) (changes : List Change) → length (worked_list nodes changes) ≤ length nodes
unfolding worked_list worked_at_level
worked-few nodes changes =
    omega (arith, at_most_once (λ i. get_or (levels nodes) i 0) (λ i. has_changed_input nodes changes i) (length nodes) (numbers_below (length nodes)), length_numbers 0 (length nodes))

pub worked-low : (nodes : List Node) (changes : List Change) (k : ℕ) → k < length (worked_list nodes changes) → get_or (worked_list nodes changes) k 0 < length nodes
unfolding worked_list worked_at_level
worked-low nodes changes k h =
    below_at (length nodes) (worked_list nodes changes) k
    (below_each (length nodes) (worked_at_level nodes changes) (numbers_below (length nodes))
    (λ l. below-keep (length nodes) (λ i. eqb (get_or (levels nodes) i 0) l && has_changed_input nodes changes i) (numbers_below (length nodes))
    (below-counted (length nodes) 0 (length nodes) (omega arith)))) h

-- ---- who is on it

-- a number is on a list
abbrev pub is_on : ℕ → List ℕ → Bool
is_on i l = some_of (λ x. eqb x i) l

on_append : (i : ℕ) (a b : List ℕ) → is_on i (a ++ b) ≡ (is_on i a || is_on i b)
on_append i [] b = refl
on_append i (x ∷ a) b = ap (λ (t : Bool). eqb x i || t) (on_append i a b) ∙ sym (or_assoc (eqb x i) (is_on i a) (is_on i b))
  where
    or_assoc : (p q r : Bool) → ((p || q) || r) ≡ (p || (q || r))
    or_assoc true q r = refl
    or_assoc false q r = refl

on_keep : (i : ℕ) (p : ℕ → Bool) (l : List ℕ) → is_on i (keep p l) ≡ (p i && is_on i l)
on_keep i p [] = sym (and-false (p i))
  where
    and-false : (t : Bool) → (t && false) ≡ false
    and-false true = refl
    and-false false = refl
on_keep i p (x ∷ l) = go (eqb x i) (p x) refl refl (on_keep i p l)
  where
    go : (t u : Bool) → eqb x i ≡ t → p x ≡ u → is_on i (keep p l) ≡ (p i && is_on i l) → is_on i (keep_if u x (keep p l)) ≡ (p i && (t || is_on i l))
    go true true e f ih = let same : p i ≡ true = ap p (sym (eqb-true x i e)) ∙ f in rw (e, same)
    go true false e f ih = let same : p i ≡ false = ap p (sym (eqb-true x i e)) ∙ f in ih ∙ rw same
    go false true e f ih = ap (λ (t : Bool). t || is_on i (keep p l)) e ∙ ih
    go false false e f ih = ih

on_counted : (i from n : ℕ) → from ≤ i → i < from + n → is_on i (count_from from n) ≡ true
on_counted i from zero h g = absurd (omega arith)
on_counted i from (suc n) h g = go (eqb from i) refl (on_counted i (suc from) n)
  where
    go : (t : Bool) → eqb from i ≡ t → (suc from ≤ i → i < suc from + n → is_on i (count_from (suc from) n) ≡ true) → (t || is_on i (count_from (suc from) n)) ≡ true
    go true e ih = refl
    go false e ih = let ne : from ≡ i → ⊥ = eqb-false from i e in ih (omega (arith, ne)) (omega arith)

-- the entries of some levels: those of the number's own level alone
on_levels : (i : ℕ) (level : ℕ → ℕ) (q : ℕ → Bool) (ids ls : List ℕ) → is_on i (flat_map (at_level level q ids) ls) ≡ (is_on (level i) ls && (q i && is_on i ids))
unfolding flat_map
on_levels i level q ids [] = refl
on_levels i level q ids (l ∷ ls) =
    on_append i (at_level level q ids l) (flat_map (at_level level q ids) ls)
    ∙ ap₂ {A = Bool} {B = Bool} {C = Bool} (λ a b. a || b) (on_keep i (λ j. eqb (level j) l && q j) ids) (on_levels i level q ids ls)
    ∙ ap (λ (t : Bool). ((t && q i) && is_on i ids) || (is_on (level i) ls && (q i && is_on i ids))) (eqb_flip (level i) l)
    ∙ join (eqb l (level i)) (q i) (is_on i ids) (is_on (level i) ls)
  where
    eqb_flip : (a b : ℕ) → eqb a b ≡ eqb b a
    eqb_flip a b = go (eqb a b) refl
      where
        go : (t : Bool) → eqb a b ≡ t → t ≡ eqb b a
        go true e = sym (eq-eqb b a (sym (eqb-true a b e)))
        go false e = sym (ne_eqb b a (λ f. eqb-false a b e (sym f)))

    join : (a b c d : Bool) → ((a && b && c) || (d && (b && c))) ≡ ((a || d) && (b && c))
    join true true true d = refl
    join true true false true = refl
    join true true false false = refl
    join true false c true = refl
    join true false c false = refl
    join false b c d = refl

-- "the worked list is the derived nodes with an input that gained or lost rows": node i is on it exactly if it has a changed input
pub worked_is_lem : (nodes : List Node) (changes : List Change) (i : ℕ) → i < length nodes → get_or (levels nodes) i 0 < length nodes → is_on i (worked_list nodes changes)
    ≡ has_changed_input nodes changes i
unfolding worked_list worked_at_level
worked_is_lem nodes changes i h l =
    on_levels i (λ j. get_or (levels nodes) j 0) (λ j. has_changed_input nodes changes j) (numbers_below (length nodes)) (numbers_below (length nodes))
    ∙ rw (on_counted (get_or (levels nodes) i 0) 0 (length nodes) zero-le (omega arith), on_counted i 0 (length nodes) zero-le (omega arith)) (both (has_changed_input nodes changes i))
  where
    both : (t : Bool) → (true && (t && true)) ≡ t
    both true = refl
    both false = refl
