-- Rows made of rows: a row filled column by column, and columns below a width. Assumes nothing.
use mathlib.Core.Bool.{Bool, true, false, cond}
use mathlib.Core.List.{List, [], ◌∷◌, ◌++◌, map}
use mathlib.Core.Path.{◌≡◌, refl, sym, ap, ap₂, ◌∙◌}
use Prim.Native.Nat.{ℕ, zero, suc, ◌+◌, ◌-◌, ◌*◌, ◌≤◌, ◌<◌}
use native.Mathlib.Nat.{not-suc-le-zero, le_of_suc-le-suc, le_trans}
use native.Mathlib.Numerals.{add-one}
use native.Mathlib.Omega.{arith}
use lib.Dec.{ltb}
use lib.ListN.{length, length-append, length-drop, length-map, get_or, get_or-append, set, take, drop, replicate}
use lib.Seq.{length-take-le, length-paste, take_all, take-suc, paste, get_or-take, get_or-append-add}
use borrow.Author.Tests.{lt-ltb, ltb-true, ltb-false}
use Rattle.std.proofs.lemmas.List.{map-append}
use Rattle.laws.proofs.Sets.{and_first, and_second, and_both}
use Rattle.model.specs.Areas.{padded, stride}
use Rattle.model.specs.Network.{columns_below}
use Rattle.model.specs.Row.{Row, max_width}
use Rattle.rows.proofs.Padding.{padded_more}
use Rattle.rows.proofs.Place.{length-padded}
use Rattle.rows.proofs.Words.{fields-part}
use Rattle.rows.specs.Rows.{row_at}
use Rattle.columns.specs.Columns.{joined_field, joined_row, masked_row}

-- ---- a row filled column by column

-- the first k columns' fields, then zeros
abbrev pub filled : (ℕ → ℕ) → List ℕ → ℕ → List ℕ
filled f columns k = padded stride (map f (take k columns))

pub row-filled : (f : ℕ → ℕ) (columns : List ℕ) (k : ℕ) (row : List ℕ) (x : ℕ) → k < length columns → k < stride → row ≡ filled f columns k → x ≡ f (get_or columns k 0) →
    set row k x ≡ filled f columns (k + 1)
row-filled f columns k row x h g e v =
    let one : take (k + 1) columns ≡ take k columns ++ (get_or columns k 0 ∷ []) = rw add-one (take-suc columns k 0 h) in
    let size : length (map f (take k columns)) ≡ k = length-map (take k columns) f ∙ length-take-le k columns (omega arith) in
    ap₂ (λ (l : List ℕ) (y : ℕ). set l k y) e v
    ∙ padded_more stride (map f (take k columns)) (f (get_or columns k 0)) k size g
    ∙ ap (padded stride) (sym (map-append f (take k columns) (get_or columns k 0 ∷ [])) ∙ ap (map f) (sym one))

-- a column of a list whose columns are below a width
pub column-below : (w : ℕ) (columns : List ℕ) (n k : ℕ) → columns_below w (take n columns) ≡ true → k < n → k < length columns → get_or columns k 0 < w
column-below w [] n k e h g = absurd (not-suc-le-zero g)
column-below w (c ∷ columns) zero k e h g = absurd (not-suc-le-zero h)
column-below w (c ∷ columns) (suc n) zero e h g = ltb-true c w (and_first (ltb c w) (columns_below w (take n columns)) e)
column-below w (c ∷ columns) (suc n) (suc k) e h g = column-below w columns n k (and_second (ltb c w) (columns_below w (take n columns)) e) (le_of_suc-le-suc h) (le_of_suc-le-suc g)

pub columns_more : (k m : ℕ) (columns : List ℕ) → k ≤ m → columns_below k columns ≡ true → columns_below m columns ≡ true
columns_more k m [] h e = refl
columns_more k m (c ∷ columns) h e =
    and_both (ltb c m) (columns_below m columns) (lt-ltb c m (le_trans (ltb-true c k (and_first (ltb c k) (columns_below k columns) e)) h))
    (columns_more k m columns h (and_second (ltb c k) (columns_below k columns) e))

pub few-columns : (n : ℕ) (columns : List ℕ) → n ≤ max_width → n ≤ length columns → length (take n columns) ≤ max_width
few-columns n columns h g = rw (length-take-le n columns g) h

pub joined_length : (split : ℕ) (columns : List ℕ) (l r : Row) → length columns ≤ max_width → length (joined_row split columns l r) ≡ stride
joined_length split columns l r h = length-padded stride (map (joined_field split l r) columns) (rw (length-map columns (joined_field split l r)) h)

pub columns-same : (k : ℕ) (columns : List ℕ) (f g : ℕ → ℕ) → columns_below k columns ≡ true → ((c : ℕ) → c < k → f c ≡ g c) → map f columns ≡ map g columns
columns-same k [] f g e h = refl
columns-same k (c ∷ columns) f g e h =
    ap₂ {A = ℕ} {B = List ℕ} {C = List ℕ} (λ x l. x ∷ l) (h c (ltb-true c k (and_first (ltb c k) (columns_below k columns) e)))
    (columns-same k columns f g (and_second (ltb c k) (columns_below k columns) e) h)

-- ---- a row of four words

-- a row of four words is its own row
row_itself : (r : Row) → length r ≡ stride → row_at stride r 0 ≡ r
unfolding row_at
row_itself r e = fields-part stride r 0 (omega (arith, e)) ∙ take_all stride r (omega (arith, e))

pub row_made : (row r : Row) → row ≡ r → length r ≡ stride → row_at stride row 0 ≡ r
row_made row r e h = ap (λ (x : Row). row_at stride x 0) e ∙ row_itself r h

-- ---- a masked row

-- the row that columns_row gives for a mask, and as the first of its own
pub masked_is : (columns : List ℕ) (r row : Row) → row ≡ joined_row stride columns r (row_at stride (replicate stride 0) 0) → row ≡ masked_row columns r
masked_is columns r row e = e ∙ ap (joined_row stride columns r) (row_made (replicate stride 0) (replicate stride 0) refl refl)

pub masked_made : (columns : List ℕ) (r row : Row) → length columns ≤ max_width → row ≡ joined_row stride columns r (row_at stride (replicate stride 0) 0) → row_at stride row 0 ≡ masked_row columns r
masked_made columns r row h e = row_made row (masked_row columns r) (masked_is columns r row e) (joined_length stride columns r (replicate stride 0) h)

pub masked_length : (columns : List ℕ) (r row : Row) → length columns ≤ max_width → row ≡ joined_row stride columns r (row_at stride (replicate stride 0) 0) → length row ≡ stride
masked_length columns r row h e = ap length e ∙ joined_length stride columns r (row_at stride (replicate stride 0) 0) h

-- ---- two rows one behind the other

-- a word before, and one of, the words pasted over others
pasted_before : (d s : List ℕ) (at n c : ℕ) → at ≤ length d → c < at → get_or (paste d at s n) c 0 ≡ get_or d c 0
pasted_before d s at n c h g =
    let e : length (take at d) ≡ at = length-take-le at d h in
    get_or-append (take at d ++ take n s) (drop (at + n) d) 0 c (omega (arith, e, length-append (take at d) (take n s))) ∙ get_or-append (take at d) (take n s) 0 c (omega (arith, e))
    ∙ get_or-take at d c 0 g

pasted_in : (d s : List ℕ) (at n k : ℕ) → at + n ≤ length d → n ≤ length s → k < n → get_or (paste d at s n) (at + k) 0 ≡ get_or s k 0
pasted_in d s at n k h f g =
    let e : length (take at d) ≡ at = length-take-le at d (omega arith) in
    let m : length (take n s) ≡ n = length-take-le n s f in
    get_or-append (take at d ++ take n s) (drop (at + n) d) 0 (at + k) (omega (arith, e, m, length-append (take at d) (take n s)))
    ∙ ap (λ (z : ℕ). get_or (take at d ++ take n s) (z + k) 0) (sym e) ∙ get_or-append-add (take at d) (take n s) k 0 ∙ get_or-take n s k 0 g

-- a field of a row, from where its words begin
row_word : (s : List ℕ) (i k : ℕ) → i * stride + stride ≤ length s → k < stride → get_or (drop (i * stride) s) k 0 ≡ get_or (row_at stride s i) k 0
unfolding row_at
row_word s i k long h = sym (ap (λ (r : Row). get_or r k 0) (fields-part stride s (i * stride) long) ∙ get_or-take stride (drop (i * stride) s) k 0 h)

-- a right row's words behind the fields of a left row's
pub both_field : (left right : List ℕ) (i j split c : ℕ) (empty one both : List ℕ) → i * stride + stride ≤ length left → j * stride + stride ≤ length right → split ≤ stride → c < split + stride →
    length empty ≡ stride + stride → one ≡ paste empty 0 (drop (i * stride) left) stride → both ≡ paste one split (drop (j * stride) right) stride →
    get_or both c 0 ≡ joined_field split (row_at stride left i) (row_at stride right j) c
both_field left right i j split c empty one both hl hr few h size e f = go (ltb c split) refl
  where
    l : List ℕ
    l = drop (i * stride) left

    r : List ℕ
    r = drop (j * stride) right

    long : length one ≡ stride + stride
    long = ap length e ∙ length-paste empty 0 l stride (omega (arith, size)) (omega (arith, length-drop (i * stride) left)) ∙ size

    go : (t : Bool) → ltb c split ≡ t → get_or both c 0 ≡ cond t (get_or (row_at stride left i) c 0) (get_or (row_at stride right j) (c - split) 0)
    go true q =
        let b : c < split = ltb-true c split q in
        let z : 0 + c ≡ c = omega arith in
        ap (λ (k : List ℕ). get_or k c 0) f ∙ pasted_before one r split stride c (omega (arith, long)) b ∙ ap (λ (k : List ℕ). get_or k c 0) e
        ∙ ap (λ (k : ℕ). get_or (paste empty 0 l stride) k 0) (sym z) ∙ pasted_in empty l 0 stride c (omega (arith, size)) (omega (arith, length-drop (i * stride) left)) (omega arith)
        ∙ row_word left i c hl (omega arith)
    go false q =
        let b : split ≤ c = ltb-false c split q in
        let z : split + (c - split) ≡ c = omega arith in
        ap (λ (k : List ℕ). get_or k c 0) f ∙ ap (λ (k : ℕ). get_or (paste one split r stride) k 0) (sym z)
        ∙ pasted_in one r split stride (c - split) (omega (arith, long)) (omega (arith, length-drop (j * stride) right)) (omega arith) ∙ row_word right j (c - split) hr (omega arith)
