-- Chains of keys by slots: made key by key, and what they hold. For any test and any function counted. Assumes nothing.
use mathlib.Core.Path.{◌≡◌, refl, sym, ap, ◌∙◌}
use mathlib.Core.Bool.{Bool, true, false, cond, ◌&&◌}
use mathlib.Core.List.{List, map}
use mathlib.Core.Logic.{⊎_elim}
use Prim.Native.Nat.{ℕ, zero, suc, ◌+◌, ◌-◌, ◌≤◌, ◌<◌}
use native.Mathlib.Nat.{eq-or-lt_of_le, le_refl, zero-add}
use native.Mathlib.Omega.{arith}
use lib.Dec.{eqb, leb, ltb}
use lib.ListN.{length, get_or, set, length-set, replicate}
use lib.Seq.{ext_get_or, get_or-set_same, get_or-set_other}
use borrow.Author.Tests.{eqb-true, eqb-false, eq-eqb, leb-true, leb-false, le-leb, le-ltb, lt-leb, lt-ltb, ne_eqb}
use Rattle.model.specs.Row.{count_from, max_rows}
use Rattle.laws.proofs.Parts.{length-counted, counted_at}
use Rattle.keys.specs.Chains.{slot_of, counted, first_from, in_slot, key_in, key_after, Chained}

pub slot_below : (key : ℕ) → slot_of key < max_rows
unfolding slot_of
slot_below key = omega arith

-- ---- numbers counted

module _ (n : ℕ) where
  counted-long : (f : ℕ → ℕ) → length (counted n f) ≡ n
  unfolding counted
  counted-long f = length-counted f 0 n

  counted_in : (f : ℕ → ℕ) (k : ℕ) → k < n → get_or (counted n f) k 0 ≡ f k
  unfolding counted
  counted_in f k h = counted_at 0 f 0 n k h ∙ ap f (zero-add k)

  counted_same : (f : ℕ → ℕ) (x : ℕ) → ((k : ℕ) → f k ≡ x) → replicate n x ≡ counted n f
  unfolding counted
  counted_same f x e = go 0 n
    where
      go : (i m : ℕ) → replicate m x ≡ map f (count_from i m)
      go i zero = refl
      go i (suc m) = rw (e i, ← go (suc i) m)

  -- one number set
  counted-set : (f g : ℕ → ℕ) (i x : ℕ) → i < n → x ≡ g i → ((k : ℕ) → (k ≡ i → ⊥) → f k ≡ g k) → set (counted n f) i x ≡ counted n g
  counted-set f g i x h e s =
      ext_get_or 0 (set (counted n f) i x) (counted n g) (length-set (counted n f) i x ∙ counted-long f ∙ sym (counted-long g))
      (λ k b. let c : k < n = omega (arith, length-set (counted n f) i x, counted-long f) in go k c (eqb k i) refl ∙ sym (counted_in g k c))
    where
      go : (k : ℕ) → k < n → (t : Bool) → eqb k i ≡ t → get_or (set (counted n f) i x) k 0 ≡ g k
      go k c true q =
          let j : k ≡ i = eqb-true k i q in
          ap (λ (m : ℕ). get_or (set (counted n f) i x) m 0) j ∙ get_or-set_same (counted n f) i x 0 (rw (counted-long f) h) ∙ e ∙ ap g (sym j)
      go k c false q = get_or-set_other (counted n f) i k x 0 (eqb-false k i q) ∙ counted_in f k c ∙ s k (eqb-false k i q)

-- ---- the first number that passes

pub first_least : (p : ℕ → Bool) (i n : ℕ) → i ≤ first_from p i n
first_least p i zero = le_refl i
first_least p i (suc n) = go (p i) (first_least p (suc i) n)
  where
    go : (t : Bool) → suc i ≤ first_from p (suc i) n → i ≤ cond t i (first_from p (suc i) n)
    go true h = le_refl i
    go false h = omega arith

pub first_most : (p : ℕ → Bool) (i n : ℕ) → first_from p i n ≤ i + n
first_most p i zero = omega arith
first_most p i (suc n) = go (p i) (first_most p (suc i) n)
  where
    go : (t : Bool) → first_from p (suc i) n ≤ suc i + n → cond t i (first_from p (suc i) n) ≤ i + suc n
    go true h = omega arith
    go false h = omega arith

pub first_passes : (p : ℕ → Bool) (i n : ℕ) → first_from p i n < i + n → p (first_from p i n) ≡ true
first_passes p i zero h = absurd (omega arith)
first_passes p i (suc n) h = go (p i) refl h (first_passes p (suc i) n)
  where
    go : (t : Bool) → p i ≡ t → cond t i (first_from p (suc i) n) < i + suc n → (first_from p (suc i) n < suc i + n → p (first_from p (suc i) n) ≡ true) → p (cond t i (first_from p (suc i) n)) ≡ true
    go true e b ih = e
    go false e b ih = ih (omega arith)

-- one number before
key_turn : (keys : List ℕ) (n i s : ℕ) → i < n → key_in keys n i s ≡ cond (in_slot keys s i) i (key_in keys n (i + 1) s)
key_turn keys n i s h =
    let e : n - i ≡ suc (n - (i + 1)) = omega arith in
    let f : suc i ≡ i + 1 = omega arith in
    ap (first_from (in_slot keys s) i) e ∙ ap (λ (k : ℕ). cond (in_slot keys s i) i (first_from (in_slot keys s) k (n - (i + 1)))) f

-- ---- chains

module _ (keys : List ℕ) (n : ℕ) where
  pub chained_none : Chained keys n n (replicate max_rows n) (replicate max_rows 0)
  chained_none = record { first = counted_same max_rows (key_in keys n n) n (λ s. none s); links = counted_same max_rows (key_after keys n n) 0 (λ j. outside j) }
    where
      none : (s : ℕ) → key_in keys n n s ≡ n
      none s = let e : n - n ≡ 0 = omega arith in ap (first_from (in_slot keys s) n) e

      outside : (j : ℕ) → key_after keys n n j ≡ 0
      outside j = go (leb n j) refl
        where
          go : (t : Bool) → leb n j ≡ t → cond (t && ltb j n) (key_in keys n (j + 1) (slot_of (get_or keys j 0))) 0 ≡ 0
          go true e = rw (le-ltb j n (leb-true n j e))
          go false e = refl

  -- from key i on
  module _ (i : ℕ) (heads next : List ℕ) (c : Chained keys n i heads next) where
    pub head_at : (s : ℕ) → s < max_rows → get_or heads s 0 ≡ key_in keys n i s
    head_at s h = ap (λ (l : List ℕ). get_or l s 0) c.first ∙ counted_in max_rows (key_in keys n i) s h

    pub link_at : (j : ℕ) → n ≤ max_rows → i ≤ j → j < n → get_or next j 0 ≡ key_in keys n (j + 1) (slot_of (get_or keys j 0))
    link_at j few g h =
        ap (λ (l : List ℕ). get_or l j 0) c.links ∙ counted_in max_rows (key_after keys n i) j (omega arith) ∙ rw (le-leb i j g, lt-ltb j n h)

  -- one key more, before the others
  pub chained_more : (i : ℕ) (heads next : List ℕ) → n ≤ max_rows → i < n → Chained keys n (i + 1) heads next →
      Chained keys n i (set heads (slot_of (get_or keys i 0)) i) (set next i (get_or heads (slot_of (get_or keys i 0)) 0))
  chained_more i heads next few h c = record {
    first = ap (λ (l : List ℕ). set l own i) c.first ∙ counted-set max_rows (key_in keys n (i + 1)) (key_in keys n i) own i (slot_below (get_or keys i 0)) here (λ s d. other s d);
    links = rw c.links (counted-set max_rows (key_after keys n (i + 1)) (key_after keys n i) i (get_or heads own 0) (omega arith) after
        (λ k d. ap (λ (t : Bool). cond (t && ltb k n) (key_in keys n (k + 1) (slot_of (get_or keys k 0))) 0) (apart k d)));
  }
    where
      own : ℕ
      own = slot_of (get_or keys i 0)

      here : i ≡ key_in keys n i own
      here = sym (key_turn keys n i own h ∙ rw (eq-eqb own own refl))

      other : (s : ℕ) → (s ≡ own → ⊥) → key_in keys n (i + 1) s ≡ key_in keys n i s
      other s d = sym (key_turn keys n i s h ∙ rw (ne_eqb own s (λ q. d (sym q))))

      after : get_or heads own 0 ≡ key_after keys n i i
      after = head_at (i + 1) heads next c own (slot_below (get_or keys i 0)) ∙ rw (le-leb i i (le_refl i), lt-ltb i n h)

      apart : (k : ℕ) → (k ≡ i → ⊥) → leb (i + 1) k ≡ leb i k
      apart k d = go (leb i k) refl
        where
          go : (t : Bool) → leb i k ≡ t → leb (i + 1) k ≡ t
          go true e = le-leb (i + 1) k (below (leb-true i k e))
            where
              below : i ≤ k → i + 1 ≤ k
              below g = ⊎_elim (λ (q : i ≡ k). absurd (d (sym q))) (λ (q : i < k). omega arith) (eq-or-lt_of_le g)
          go false e = lt-leb (i + 1) k (omega (arith, leb-false i k e))
