-- Keys, and agreement on pairs by keys. For any number of pairs. Assumes nothing.
use mathlib.Core.Path.{◌≡◌, refl, sym, ap, ap₂, ◌∙◌}
use mathlib.Core.Bool.{Bool, true, false, ◌&&◌}
use mathlib.Core.List.{List, [], ◌∷◌, map}
use mathlib.Core.Logic.{⊎_elim}
use Prim.Native.Nat.{ℕ, ◌+◌, ◌-◌, ◌*◌, ◌<◌}
use native.Mathlib.Nat.{eq-or-lt_of_le, zero-add}
use native.Mathlib.Omega.{arith}
use lib.Dec.{eqb, ltb}
use lib.ListN.{length, get_or, set, get_or-append, replicate}
use borrow.Author.Tests.{eqb-true, eqb-false, eq-eqb, ne_eqb, ltb-true}
use Rattle.model.specs.Row.{Row, numbers_below, max_rows}
use Rattle.model.specs.Algebra.{Pair, agree}
use Rattle.model.specs.Areas.{padded, stride}
use Rattle.model.specs.Network.{pairs_below}
use Rattle.laws.proofs.Sets.{and_first, and_second}
use Rattle.laws.proofs.Parts.{length-counted, counted_at, numbers_more, map-append}
use Rattle.rows.proofs.Padding.{padded_more, field_padded}
use Rattle.rows.specs.Rows.{row_at}
use Rattle.keys.specs.Keys.{side_columns, key_of, FieldsFit, Keyed, KeyedRows}

-- ---- rows agree where their keys are equal

-- two numbers of two parts are equal where both parts are
parts_equal : (a b k m : ℕ) → a < 4294967296 → b < 4294967296 → eqb (a + 4294967296 * k) (b + 4294967296 * m) ≡ (eqb a b && eqb k m)
parts_equal a b k m h g = go (eqb a b) refl (eqb k m) refl
  where
    go : (t : Bool) → eqb a b ≡ t → (u : Bool) → eqb k m ≡ u → eqb (a + 4294967296 * k) (b + 4294967296 * m) ≡ (t && u)
    go true e true f = eq-eqb (a + 4294967296 * k) (b + 4294967296 * m) (omega (arith, eqb-true a b e, eqb-true k m f))
    go true e false f = ne_eqb (a + 4294967296 * k) (b + 4294967296 * m) (λ q. eqb-false k m f (omega (arith, eqb-true a b e, q)))
    go false e u f = ne_eqb (a + 4294967296 * k) (b + 4294967296 * m) (λ q. eqb-false a b e (omega (arith, h, g, q)))

pub keys_agree : (pairs : List Pair) (l r : Row) → FieldsFit (side_columns 0 pairs) l → FieldsFit (side_columns 1 pairs) r →
    eqb (key_of (side_columns 0 pairs) l) (key_of (side_columns 1 pairs) r) ≡ agree pairs l r
keys_agree [] l r f g = refl
keys_agree (p ∷ pairs) l r f g =
    parts_equal (get_or l p.left 0) (get_or r p.right 0) (key_of (side_columns 0 pairs) l) (key_of (side_columns 1 pairs) r) f.0 g.0
    ∙ ap (λ (b : Bool). eqb (get_or l p.left 0) (get_or r p.right 0) && b) (keys_agree pairs l r f.1 g.1)

-- rows agree where their words do
pub agree-padded : (pairs : List Pair) (v w : ℕ) (l r : Row) → pairs_below v w pairs ≡ true → length l ≡ v → length r ≡ w → agree pairs (padded stride l) (padded stride r) ≡ agree pairs l r
agree-padded [] v w l r e f g = refl
agree-padded (p ∷ pairs) v w l r e f g =
    let b : (ltb p.left v && ltb p.right w) ≡ true = and_first (ltb p.left v && ltb p.right w) (pairs_below v w pairs) e in
    let hl : p.left < v = ltb-true p.left v (and_first (ltb p.left v) (ltb p.right w) b) in
    let hr : p.right < w = ltb-true p.right w (and_second (ltb p.left v) (ltb p.right w) b) in
    ap₂ {A = Bool} {B = Bool} {C = Bool} (λ x y. x && y)
    (ap₂ {A = ℕ} {B = ℕ} {C = Bool} eqb (field_padded stride l p.left (rw f hl)) (field_padded stride r p.right (rw g hr)))
    (agree-padded pairs v w l r (and_second (ltb p.left v && ltb p.right w) (pairs_below v w pairs) e) f g)

-- ---- keys one after the other

module _ (columns : List ℕ) (s : List ℕ) where
  pub keys_more : (i : ℕ) (keys : List ℕ) (x : ℕ) → i < max_rows → KeyedRows columns s i keys → Keyed columns (row_at stride s i) x → KeyedRows columns s (i + 1) (set keys i x)
  keys_more i keys x h e f = record {
    are = ap₂ {A = List ℕ} {B = ℕ} {C = List ℕ} (λ k y. set k i y) e.are f.is
        ∙ padded_more max_rows (map key (numbers_below i)) (key i) i (length-counted key 0 i) h
        ∙ ap (padded max_rows) (sym (ap (map key) (numbers_more i) ∙ map-append key (numbers_below i) (i ∷ [])));
    fit = λ j g. ⊎_elim (λ (q : j ≡ i). rw q f.fit) (λ (q : j < i). e.fit j q) (eq-or-lt_of_le (omega arith));
  }
    where
      key : ℕ → ℕ
      key j = key_of columns (row_at stride s j)

  -- the key at an index
  pub key_at : (n i : ℕ) (keys : List ℕ) → KeyedRows columns s n keys → i < n → get_or keys i 0 ≡ key_of columns (row_at stride s i)
  key_at n i keys e h =
      ap (λ (k : List ℕ). get_or k i 0) e.are
      ∙ get_or-append (map key (numbers_below n)) (replicate (max_rows - length (map key (numbers_below n))) 0) 0 i (rw (length-counted key 0 n) h)
      ∙ counted_at 0 key 0 n i h ∙ ap key (zero-add i)
    where
      key : ℕ → ℕ
      key j = key_of columns (row_at stride s j)

-- ---- a right row with a left row's key

module _ (pairs : List Pair) (l : Row) (key : ℕ) (k : Keyed (side_columns 0 pairs) l key) (right : List ℕ) (m : ℕ) (keys : List ℕ) (ks : KeyedRows (side_columns 1 pairs) right m keys) where
  pub key_same : (j : ℕ) → j < m → eqb (get_or keys j 0) key ≡ agree pairs l (row_at stride right j)
  key_same j h =
      let own : key_of (side_columns 1 pairs) (row_at stride right j) ≡ get_or keys j 0 = sym (key_at (side_columns 1 pairs) right m j keys ks h) in
      let other : key_of (side_columns 0 pairs) l ≡ key = sym k.is in
      let agreed = keys_agree pairs l (row_at stride right j) k.fit (ks.fit j h) in
      eqb_turned (get_or keys j 0) key ∙ (rw (own, other) at agreed)
    where
      eqb_turned : (a b : ℕ) → eqb a b ≡ eqb b a
      eqb_turned a b = go (eqb a b) refl
        where
          go : (t : Bool) → eqb a b ≡ t → t ≡ eqb b a
          go true e = sym (eq-eqb b a (sym (eqb-true a b e)))
          go false e = sym (ne_eqb b a (λ q. eqb-false a b e (sym q)))

  pub key_agrees : (j : ℕ) → j < m → get_or keys j 0 ≡ key → agree pairs l (row_at stride right j) ≡ true
  key_agrees j h e = sym (key_same j h) ∙ eq-eqb (get_or keys j 0) key e

  pub key_differs : (j : ℕ) → j < m → (get_or keys j 0 ≡ key → ⊥) → agree pairs l (row_at stride right j) ≡ false
  key_differs j h e = sym (key_same j h) ∙ ne_eqb (get_or keys j 0) key e
