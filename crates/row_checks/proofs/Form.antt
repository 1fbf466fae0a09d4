-- Rows of a width in words of a stride: zeros past the width, field by field, and strictly ascending, row by row. For any width and stride. Assumes nothing.
use mathlib.Core.Path.{◌≡◌, refl, sym, ap, ap₂, ◌∙◌}
use mathlib.Core.Bool.{Bool, true, false, ◌&&◌, and_assoc, and-false, and-true}
use mathlib.Core.List.{List, [], ◌∷◌, ◌++◌, map}
use Prim.Native.Nat.{ℕ, zero, suc, ◌+◌, ◌-◌, ◌*◌, ◌≤◌, ◌<◌}
use native.Mathlib.Omega.{arith}
use native.Mathlib.Nat.{add-zero, le_of_suc-le-suc, not-suc-le-zero}
use native.Mathlib.Numerals.{add-one}
use lib.Bits.{bit_or}
use lib.Dec.{eqb}
use Rattle.std.proofs.lemmas.List.{drop-take}
use lib.ListN.{length, get_or, take, drop, replicate, length-drop, take-append-drop, drop_of_length-le}
use lib.Seq.{slice, drop-cons, length-take-le}
use Rattle.model.specs.Row.{Row, order, is_less, ascending, all_of, Wide}
use Rattle.model.specs.Areas.{fields, all_zero, padded}
use Rattle.laws.proofs.Sets.{and_first, and_second}
use Rattle.zeros.specs.Zeros.{pair_at}
use Rattle.zeros.proofs.Zeros.{and_four, or-tells, pair_zero}
use Rattle.rows.specs.Rows.{row_at, rows_from}
use Rattle.rows.proofs.Words.{rows_cons, rows_none}
use Rattle.rows.proofs.Padding.{ascending-padded}
use Rattle.rows.proofs.Place.{zeros_are}
use Rattle.row_checks.specs.RowChecks.{zero_field, zero_past, good_rows}

pub slice-part : (at n : ℕ) (s : List ℕ) → at + n ≤ length s → slice at (at + n) s ≡ take n (drop at s)
slice-part at n s h = drop-take at n s

-- ---- a test of every row

module _ (n : ℕ) (s : List ℕ) (count : ℕ) (p : Row → Bool) where
  -- the bits of the rows before row j, and the rows from there on, decide
  abbrev pub EachTo : ℕ → ℕ → Type 0
  EachTo bits j = all_of p (rows_from n s 0 count) ≡ (eqb bits 0 && all_of p (rows_from n s j (count - j)))

  pub each_none : EachTo 0 0
  each_none = let e : count - 0 ≡ count = omega arith in rw e

  -- a row's bits tell whether the test holds of it
  pub each_more : (bits b j : ℕ) → j < count → eqb b 0 ≡ p (row_at n s j) → EachTo bits j → EachTo (bit_or bits b) (j + 1)
  each_more bits b j h e z =
      let rest : Bool = all_of p (rows_from n s (j + 1) (count - (j + 1))) in
      z
      ∙ rw (rows_cons n s count j h) (sym (and_assoc (eqb bits 0) (p (row_at n s j)) rest))
      ∙ ap (λ (t : Bool). t && rest) (sym (or-tells bits b (p (row_at n s j)) e))

  pub each_all : (bits j : ℕ) → count ≤ j → EachTo bits j → eqb bits 0 ≡ all_of p (rows_from n s 0 count)
  each_all bits j h z = sym (z ∙ rw (rows_none n s count j h) (and-true (eqb bits 0)))

-- two tests of every row are one
pub all_and : (p q : Row → Bool) (l : List Row) → all_of (λ r. p r && q r) l ≡ (all_of p l && all_of q l)
all_and p q [] = refl
all_and p q (r ∷ l) = rw (all_and p q l) (and_four (p r) (q r) (all_of p l) (all_of q l))

-- ---- one field and two

field_at_lem : (w : ℕ) (s : List ℕ) (at c : ℕ) → c < w → get_or (fields w s at) c 0 ≡ get_or s (at + c) 0
unfolding fields
field_at_lem zero s at c h = absurd (not-suc-le-zero h)
field_at_lem (suc w) s at zero h = rw add-zero
field_at_lem (suc w) s at (suc c) h = let e : at + suc c ≡ suc at + c = omega arith in rw e (field_at_lem w s (suc at) c (le_of_suc-le-suc h))

-- field c of a row is 0
abbrev pub no_field : ℕ → Row → Bool
no_field c r = eqb (get_or r c 0) 0

-- fields c and c + 1 of a row are 0
abbrev pub no_pair : ℕ → Row → Bool
no_pair c r = no_field c r && no_field (c + 1) r

module _ (n : ℕ) (s : List ℕ) (j c : ℕ) where
  pub field_is : c < n → eqb (get_or s (j * n + c) 0) 0 ≡ no_field c (row_at n s j)
  unfolding row_at
  field_is h = ap (λ (x : ℕ). eqb x 0) (sym (field_at_lem n s (j * n) c h))

  pub pair_is : (b : ℕ) → c + 2 ≤ n → b ≡ pair_at s (j * n + c) → eqb b 0 ≡ no_pair c (row_at n s j)
  unfolding row_at
  pair_is b h e =
      let next : j * n + c + 1 ≡ j * n + (c + 1) = omega arith in
      ap (λ (x : ℕ). eqb x 0) e
      ∙ pair_zero (get_or s (j * n + c) 0) (get_or s (j * n + c + 1) 0)
      ∙ rw (next, field_at_lem n s (j * n) c (omega arith), field_at_lem n s (j * n) (c + 1) (omega arith))

-- ---- the fields past the width

module _ (n : ℕ) where
  -- one field, and those behind it
  past_one : (c : ℕ) (l : List Row) → Wide n l → c < n → zero_past c l ≡ (zero_field c l && zero_past (c + 1) l)
  past_one c [] wide h = refl
  past_one c (r ∷ l) wide h =
      let x = eqb (get_or r c 0) 0 in
      rw (drop-cons r c 0 (rw wide.0 h), past_one c l wide.1 h)
      (and_four x (all_zero (drop (suc c) r)) (zero_field c l) (zero_past (c + 1) l)
      ∙ ap (λ (k : ℕ). x && zero_field c l && (all_zero (drop k r) && zero_past (c + 1) l)) (sym (add-one c)))

  -- two, and those behind them
  pub past_two : (c : ℕ) (l : List Row) → Wide n l → c + 2 ≤ n → zero_past c l ≡ (zero_field c l && zero_field (c + 1) l && zero_past (c + 2) l)
  past_two c l wide h =
      let next : c + 2 ≡ c + 1 + 1 = omega arith in
      past_one c l wide (omega arith)
      ∙ ap (λ (t : Bool). zero_field c l && t) (past_one (c + 1) l wide (omega arith) ∙ rw next)
      ∙ sym (and_assoc (zero_field c l) (zero_field (c + 1) l) (zero_past (c + 2) l))

  none_past : (c : ℕ) (l : List Row) → Wide n l → n ≤ c → zero_past c l ≡ true
  none_past c [] wide e = refl
  none_past c (r ∷ l) wide e =
      let none : drop c r ≡ [] = drop_of_length-le r (rw wide.0 e) in
      rw (none, none_past c l wide.1 e)

  -- the last field, with none behind it
  pub past_last : (c : ℕ) (l : List Row) → Wide n l → c + 1 ≡ n → zero_past c l ≡ (zero_field c l && zero_past (c + 2) l)
  past_last c l wide e =
      past_one c l wide (omega arith)
      ∙ ap (λ (t : Bool). zero_field c l && t) (none_past (c + 1) l wide (omega arith) ∙ sym (none_past (c + 2) l wide (omega arith)))

  pub past_all : (w c : ℕ) (l : List Row) → Wide n l → n ≤ c → zero_past w l ≡ zero_past c l → true ≡ zero_past w l
  past_all w c l wide e z = sym (z ∙ none_past c l wide e)

-- fields from c on that are 0, and others
pub past_more : (w c d : ℕ) (t : Bool) (l : List Row) → zero_past c l ≡ (t && zero_past d l) → zero_past w l ≡ zero_past c l → t ≡ true → zero_past w l ≡ zero_past d l
past_more w c d t l e z f = z ∙ e ∙ rw f

pub past_not : (w c d : ℕ) (t : Bool) (l : List Row) → zero_past c l ≡ (t && zero_past d l) → zero_past w l ≡ zero_past c l → t ≡ false → zero_past w l ≡ false
past_not w c d t l e z f = z ∙ e ∙ rw f

-- ---- ascending

-- the rows up to row j ascend: those from there on decide
abbrev pub AscendTo : ℕ → List ℕ → ℕ → ℕ → Type 0
AscendTo n s count j = ascending (rows_from n s 0 count) ≡ ascending (rows_from n s j (count - j))

module _ (n : ℕ) (s : List ℕ) (count : ℕ) where
  pub ascend_none : AscendTo n s count 0
  ascend_none = let e : count - 0 ≡ count = omega arith in rw e

  ascend_turn : (j : ℕ) → j + 1 < count →
      ascending (rows_from n s j (count - j)) ≡ (is_less (order (row_at n s j) (row_at n s (j + 1))) && ascending (rows_from n s (j + 1) (count - (j + 1))))
  ascend_turn j h = rw (rows_cons n s count j (omega arith), rows_cons n s count (j + 1) h)

  pub ascend_more : (j : ℕ) → j + 1 < count → AscendTo n s count j → true ≡ is_less (order (row_at n s j) (row_at n s (j + 1))) → AscendTo n s count (j + 1)
  ascend_more j h g e = g ∙ ascend_turn j h ∙ rw (← e)

  pub ascend_not : (j : ℕ) → j + 1 < count → AscendTo n s count j → false ≡ is_less (order (row_at n s j) (row_at n s (j + 1))) → ascending (rows_from n s 0 count) ≡ false
  ascend_not j h g e = g ∙ ascend_turn j h ∙ rw (← e)

  pub ascend_all : (j : ℕ) → count ≤ j + 1 → AscendTo n s count j → ascending (rows_from n s 0 count) ≡ true
  unfolding rows_from
  ascend_all j h g = g ∙ go (count - j) (omega arith)
    where
      go : (m : ℕ) → m ≤ 1 → ascending (rows_from n s j m) ≡ true
      go zero k = refl
      go (suc zero) k = refl
      go (suc (suc m)) k = absurd (not-suc-le-zero (le_of_suc-le-suc k))

-- ---- rows with zeros past the width

module _ (n w : ℕ) (narrow : w ≤ n) where
  -- they are their first fields, padded
  pub tail_padded : (l : List Row) → Wide n l → zero_past w l ≡ true → map (padded n) (map (take w) l) ≡ l
  tail_padded [] a z = refl
  tail_padded (r ∷ l) a z =
      let zr : all_zero (drop w r) ≡ true = and_first (all_zero (drop w r)) (zero_past w l) z in
      let zl : zero_past w l ≡ true = and_second (all_zero (drop w r)) (zero_past w l) z in
      let size : length (take w r) ≡ w = length-take-le w r (rw a.0 narrow) in
      let rest : length (drop w r) ≡ n - w = length-drop w r ∙ rw a.0 refl in
      let tail : replicate (n - length (take w r)) 0 ≡ drop w r = ap (λ (k : ℕ). replicate (n - k) 0) size ∙ ap (λ (k : ℕ). replicate k 0) (sym rest) ∙ sym (zeros_are (drop w r) zr) in
      ap₂ {A = Row} {B = List Row} {C = List Row} (λ x y. x ∷ y) (ap (λ (t : List ℕ). take w r ++ t) tail ∙ take-append-drop w r) (tail_padded l a.1 zl)

  pub wide-take : (l : List Row) → Wide n l → Wide w (map (take w) l)
  wide-take [] a = tt
  wide-take (r ∷ l) a = (length-take-le w r (rw a.0 narrow), wide-take l a.1)

  -- their good form is that they ascend
  pub good_clean : (l : List Row) → Wide n l → true ≡ zero_past w l → ascending l ≡ good_rows w l
  unfolding good_rows
  good_clean l a z =
      ap ascending (sym (tail_padded l a (sym z)))
      ∙ ascending-padded n w (map (take w) l) (wide-take l a)
      ∙ rw (← z) (sym (and-true (ascending (map (take w) l))))

  pub good_unclean : (l : List Row) → false ≡ zero_past w l → good_rows w l ≡ false
  unfolding good_rows
  good_unclean l z = rw (← z) (and-false (ascending (map (take w) l)))
