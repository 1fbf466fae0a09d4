-- Masked rows in no order: a row's slot, and rows added or left out one by one. Assumes nothing.
use mathlib.Core.Path.{subst, ◌≡◌, refl, sym, ap, ◌∙◌}
use mathlib.Core.Bool.{Bool, true, ◌&&◌, ◌||◌, or-true}
use mathlib.Core.List.{List, [], ◌∷◌, ◌++◌, map}
use Prim.Native.Nat.{ℕ, zero, suc, ◌+◌, ◌*◌, ◌%◌, ◌≤◌, ◌<◌}
use native.Mathlib.Nat.{le_of_suc-le-suc}
use native.Mathlib.Omega.{arith}
use lib.Dec.{ltb}
use lib.ListN.{length, length-append, drop, replicate}
use lib.Seq.{length-paste, paste, sets, take_all}
use borrow.Author.Tests.{ltb-true}
use Rattle.model.specs.Row.{Row, insert_row, max_rows, max_width, member, same_row, set_of, Wide}
use Rattle.model.specs.Areas.{place_size, stride}
use Rattle.laws.proofs.Order.{same_row_eq, same_row_refl}
use Rattle.laws.proofs.Sets.{and_first, and_second, asc-set_of, insert_present, member-set_of}
use Rattle.laws.proofs.Parts.{map-append}
use Rattle.rows.specs.Rows.{first_rows, row_at, rows_from, stored}
use Rattle.rows.proofs.Words.{length-rows, paste_sets, rows_snoc, rows-stored, stored_push, stored_same, wide_rows}
use Rattle.places.proofs.Puts.{set_snoc}
use Rattle.columns.specs.Columns.{joined_row, masked_row, masked_rows}
use Rattle.columns.proofs.Rows.{masked_is, masked_length, row_made}
use Rattle.masked_rows.specs.MaskedRows.{row_slot, slot_from, MaskedSet}

-- ---- a row's slot

pub slots_below : (slot : ℕ) (r : Row) → slot < max_rows → slot_from slot r < max_rows
slots_below slot [] h = h
slots_below slot (x ∷ r) h = slots_below ((slot * 9 + x) % max_rows) r (omega arith)

pub slot_below : (r : Row) → row_slot r < max_rows
unfolding row_slot
slot_below r = slots_below 0 r (omega arith)

-- ---- rows in words

-- a row behind others
rows_pushed : (out after : List ℕ) (row : Row) (n : ℕ) → length row ≡ stride → n * stride + stride ≤ length out → after ≡ paste out (n * stride) (drop 0 row) stride →
    first_rows after (n + 1) ≡ first_rows out n ++ (row ∷ [])
rows_pushed out after row n e h f =
    let all : List Row = first_rows out n ++ (row ∷ []) in
    let wide : Wide stride all = wide_both (first_rows out n) (wide_rows stride out 0 n) in
    let size : length all ≡ n + 1 = length-append (first_rows out n) (row ∷ []) ∙ ap (λ (k : ℕ). k + 1) (length-rows stride out 0 n) in
    let new : after ≡ stored all out =
    f ∙ paste_sets out row (n * stride) stride row (sym (take_all stride row (omega (arith, e)))) e h
    ∙ ap (λ (s : List ℕ). sets s (n * stride) row) (stored_same stride out n (omega arith))
    ∙ stored_push stride (first_rows out n) row out n (wide_rows stride out 0 n) e (sym (length-rows stride out 0 n)) h in
    ap (λ (s : List ℕ). first_rows s (n + 1)) new ∙ ap (first_rows (stored all out)) (sym size) ∙ rows-stored stride all out wide
  where
    wide_both : (l : List Row) → Wide stride l → Wide stride (l ++ (row ∷ []))
    wide_both [] w = (e, tt)
    wide_both (x ∷ l) w = (w.0, wide_both l w.1)

-- a row is among the rows that it is one of
row-member : (s : List ℕ) (j i n : ℕ) → i < n → member (row_at stride s (j + i)) (rows_from stride s j n) ≡ true
unfolding rows_from
row-member s j zero (suc n) h = let e : j + 0 ≡ j = omega arith in
    subst (λ (k : ℕ). member (row_at stride s k) (rows_from stride s j (suc n)) ≡ true) (sym e)
    (ap (λ (t : Bool). t || member (row_at stride s j) (rows_from stride s (suc j) n)) (same_row_refl (row_at stride s j)))
row-member s j (suc i) (suc n) h =
    let e : j + suc i ≡ suc j + i = omega arith in
    subst (λ (k : ℕ). member (row_at stride s k) (rows_from stride s j (suc n)) ≡ true) (sym e)
    (ap (λ (t : Bool). same_row (row_at stride s (suc j + i)) (row_at stride s j) || t) (row-member s (suc j) i n (le_of_suc-le-suc h))
    ∙ or-true (same_row (row_at stride s (suc j + i)) (row_at stride s j)))
row-member s j i zero h = absurd (omega arith)

-- ---- masked rows

module _ (columns input : List ℕ) (few : length columns ≤ max_width) where
  pub masked_none : (out : List ℕ) → length out ≡ place_size → MaskedSet columns (first_rows input 0) out 0
  unfolding rows_from
  masked_none out e = record { few = omega arith; size = e; same = refl }

  -- one row more
  module _ (i n : ℕ) (out : List ℕ) (row : Row) (given : row ≡ joined_row stride columns (row_at stride input i) (row_at stride (replicate stride 0) 0))
      (m : MaskedSet columns (first_rows input i) out n) where
    is : row ≡ masked_row columns (row_at stride input i)
    is = masked_is columns (row_at stride input i) row given

    size : length row ≡ stride
    size = masked_length columns (row_at stride input i) row few given

    turn : masked_rows columns (first_rows input (i + 1)) ≡ insert_row row (set_of (first_rows out n))
    turn =
        let z : 0 + i ≡ i = omega arith in
        let last : first_rows input (i + 1) ≡ first_rows input i ++ (row_at stride input i ∷ []) = rw z at (rows_snoc stride input 0 i) in
        ap (masked_rows columns) last ∙ ap set_of (map-append (masked_row columns) (first_rows input i) (row_at stride input i ∷ []))
        ∙ set_snoc (map (masked_row columns) (first_rows input i)) (masked_row columns (row_at stride input i)) ∙ rw (← is, ← m.same)

    longer : length (first_rows input (i + 1)) ≡ length (first_rows input i) + 1
    longer = length-rows stride input 0 (i + 1) ∙ ap (λ (k : ℕ). k + 1) (sym (length-rows stride input 0 i))

    -- that is there
    pub masked_there : (at : ℕ) → (ltb at n && same_row (row_at stride row 0) (row_at stride out at)) ≡ true → MaskedSet columns (first_rows input (i + 1)) out n
    masked_there at e =
        let z : 0 + at ≡ at = omega arith in
        let h : at < n = ltb-true at n (and_first (ltb at n) (same_row (row_at stride row 0) (row_at stride out at)) e) in
        let one : row ≡ row_at stride out at = sym (row_made row row refl size)
        ∙ same_row_eq (row_at stride row 0) (row_at stride out at) (and_second (ltb at n) (same_row (row_at stride row 0) (row_at stride out at)) e) in
        let there : member row (set_of (first_rows out n)) ≡ true =
        member-set_of row (first_rows out n) ∙ ap (λ (r : Row). member r (first_rows out n)) one ∙ (rw z at (row-member out 0 at n h)) in
        record {
          few = omega (arith, m.few, longer);
          size = m.size;
          same = sym (turn ∙ insert_present row (set_of (first_rows out n)) (asc-set_of (first_rows out n)) there);
        }

    -- that is put behind the others
    pub masked_more : (after : List ℕ) → n < max_rows → after ≡ paste out (n * stride) (drop 0 row) stride → MaskedSet columns (first_rows input (i + 1)) after (n + 1)
    masked_more after h f =
        record {
          few = omega (arith, m.few, longer);
          size = ap length f ∙ length-paste out (n * stride) (drop 0 row) stride (omega (arith, m.size)) (omega (arith, size)) ∙ m.size;
          same = ap set_of (rows_pushed out after row n size (omega (arith, m.size)) f) ∙ set_snoc (first_rows out n) row ∙ sym turn;
        }
