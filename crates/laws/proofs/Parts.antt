-- Lists put together of parts, and parts written one after the other. Assumes nothing.
use mathlib.Core.Bool.{Bool, true, false}
use mathlib.Core.List.{◌++◌, List, append_assoc, append-nil, flat_map, ◌∷◌, map, []}
use mathlib.Core.Path.{ap, ap₂, refl, sym, ◌∙◌, ◌≡◌}
use Prim.Native.Nat.{◌+◌, suc, ℕ, ◌≤◌, zero, ◌<◌}
use native.Mathlib.Nat.{add-zero, zero-add, le_refl, not-suc-le-zero, le_of_suc-le-suc}
use native.Mathlib.Omega.{arith}
use lib.ListN.{drop, length, set, get_or, replicate}
use lib.Seq.{sets, sets-eq}
use Rattle.model.specs.Row.{count_from, numbers_below, keep, keep_if}

-- ---- one list behind another

pub map-append : {A B : Type 0} (f : A → B) (a b : List A) → map f (a ++ b) ≡ map f a ++ map f b
map-append f [] b = refl
map-append {B = B} f (x ∷ a) b = ap (λ (l : List B). f x ∷ l) (map-append f a b)

pub keep_append : {A : Type 0} (p : A → Bool) (a b : List A) → keep p (a ++ b) ≡ keep p a ++ keep p b
keep_append p [] b = refl
keep_append {A} p (x ∷ a) b = ap (keep_if (p x) x) (keep_append p a b) ∙ go (p x)
  where
    go : (t : Bool) → keep_if t x (keep p a ++ keep p b) ≡ keep_if t x (keep p a) ++ keep p b
    go true = refl
    go false = refl

-- the same element at every place, past the end too
pub same_at : {A : Type 0} (d : A) (n i : ℕ) → get_or (replicate {A = A} n d) i d ≡ d
same_at d zero i = refl
same_at d (suc n) zero = refl
same_at d (suc n) (suc i) = same_at d n i

-- ---- parts written

pub sets_append : (l : List ℕ) (i : ℕ) (a b : List ℕ) → sets (sets l i a) (i + length a) b ≡ sets l i (a ++ b)
sets_append l i [] b = ap (λ (k : ℕ). sets l k b) (add-zero i)
sets_append l i (x ∷ a) b = let e : i + suc (length a) ≡ suc i + length a = omega arith in ap (λ (k : ℕ). sets (sets (set l i x) (suc i) a) k b) e ∙ sets_append (set l i x) (suc i) a b

-- one part more, where the last one ended
pub sets_more : (l out after : List ℕ) (i j : ℕ) (a b : List ℕ) → out ≡ sets l i a → j ≡ i + length a → after ≡ sets out j b → after ≡ sets l i (a ++ b)
sets_more l out after i j a b e f g = g ∙ ap₂ {A = List ℕ} {B = ℕ} {C = List ℕ} (λ s k. sets s k b) e f ∙ sets_append l i a b

-- written from the first byte on
pub sets_first : (l a : List ℕ) → length a ≤ length l → sets l 0 a ≡ a ++ drop (length a) l
sets_first l a h = sets-eq a l 0 (rw (zero-add (length a)) h) ∙ ap (λ (k : ℕ). a ++ drop k l) (zero-add (length a))

-- ---- many parts

module _ {A : Type 0} (f : A → List ℕ) where
  pub flat_append : (a b : List A) → flat_map f (a ++ b) ≡ flat_map f a ++ flat_map f b
  unfolding flat_map
  flat_append [] b = refl
  flat_append (x ∷ a) b = ap (λ (l : List ℕ). f x ++ l) (flat_append a b) ∙ sym (append_assoc (f x) (flat_map f a) (flat_map f b))

  pub flat_one : (x : A) → flat_map f (x ∷ []) ≡ f x
  unfolding flat_map
  flat_one x = append-nil (f x)

-- ---- counted numbers

pub count_more : (from n : ℕ) → count_from from (suc n) ≡ count_from from n ++ ((from + n) ∷ [])
count_more from zero = ap (λ (x : ℕ). x ∷ []) (sym (add-zero from))
count_more from (suc n) =
    let e : suc from + n ≡ from + suc n = omega arith in
    ap (λ (l : List ℕ). from ∷ l) (count_more (suc from) n ∙ ap (λ (x : ℕ). count_from (suc from) n ++ (x ∷ [])) e)

pub numbers_more : (n : ℕ) → numbers_below (n + 1) ≡ numbers_below n ++ (n ∷ [])
numbers_more n = let e : n + 1 ≡ suc n = omega arith in ap numbers_below e ∙ count_more 0 n ∙ ap (λ (x : ℕ). numbers_below n ++ (x ∷ [])) (zero-add n)

-- the first a of them, and those behind
pub count-split : (from a b : ℕ) → count_from from (a + b) ≡ count_from from a ++ count_from (from + a) b
count-split from zero b = ap₂ {A = ℕ} {B = ℕ} {C = List ℕ} count_from (sym (add-zero from)) (zero-add b)
count-split from (suc a) b =
    let e : suc a + b ≡ suc (a + b) = omega arith in
    let f : suc from + a ≡ from + suc a = omega arith in
    ap (count_from from) e ∙ ap (λ (l : List ℕ). from ∷ l) (count-split (suc from) a b ∙ ap (λ (k : ℕ). count_from (suc from) a ++ count_from k b) f)

-- two tests that agree on them keep the same ones
pub keep_same : (p q : ℕ → Bool) (from n : ℕ) → ((i : ℕ) → from ≤ i → i < from + n → p i ≡ q i) → keep p (count_from from n) ≡ keep q (count_from from n)
keep_same p q from zero h = refl
keep_same p q from (suc n) h =
    ap₂ {A = Bool} {B = List ℕ} {C = List ℕ} (λ t l. keep_if t from l) (h from (le_refl from) (omega arith)) (keep_same p q (suc from) n (λ i a b. h i (omega arith) (omega arith)))

-- a function of counted numbers

module _ {A : Type 0} where
  pub length-counted : (f : ℕ → A) (from n : ℕ) → length (map f (count_from from n)) ≡ n
  length-counted f from zero = refl
  length-counted f from (suc n) = ap suc (length-counted f (suc from) n)

  pub counted_at : (d : A) (f : ℕ → A) (from n j : ℕ) → j < n → get_or (map f (count_from from n)) j d ≡ f (from + j)
  counted_at d f from zero j h = absurd (not-suc-le-zero h)
  counted_at d f from (suc n) zero h = ap f (sym (add-zero from))
  counted_at d f from (suc n) (suc j) h = let e : suc from + j ≡ from + suc j = omega arith in counted_at d f (suc from) n j (le_of_suc-le-suc h) ∙ ap f e
