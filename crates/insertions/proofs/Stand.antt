-- One row put among rows that stand in words that were 0. For any number of rows and words. Assumes nothing.
use mathlib.Core.Bool.{Bool, cond, false, true, not}
use mathlib.Core.List.{List, ◌++◌, [], append_assoc, append-nil, ◌∷◌}
use mathlib.Core.Path.{◌≡◌, ap, refl, sym, ◌∙◌, ap₂}
use Prim.Native.Nat.{◌+◌, ◌<◌, suc, ℕ, ◌≤◌, ◌*◌, ◌-◌}
use native.Mathlib.Omega.{arith}
use native.Mathlib.Nat.{mul-le-mul_right, le_trans}
use lib.Dec.{leb}
use lib.ListN.{length, replicate, drop, length-append, replicate-append-replicate}
use lib.Seq.{drop_at}
use borrow.Author.Tests.{leb-false, leb-true}
use Rattle.laws.proofs.Sets.{Ascending, insert_more, insert_new, insert_present, delete_absent, delete_present}
use Rattle.std.specs.Prelude.{None, Some}
use Rattle.rows.specs.Rows.{Standing, stored, words}
use Rattle.insertions.specs.Insertions.{Inserts, insert_answer, Removes}
use Rattle.model.specs.Row.{Wide, Row, insert_row, member, delete_row, same_row}
use Rattle.model.specs.Areas.{stride}
use Rattle.rows.proofs.Words.{length-words, stored-stored, drop_zeros, words_append}
use Rattle.laws.proofs.Widths.{wide_insert, wide-keep}

new-says : (t u : Bool) → Some true ≡ cond t (Some false) (cond u None (Some true)) → (t ≡ false) × (u ≡ false)
new-says true u e = absurd cc
new-says false true e = absurd cc
new-says false false e = (refl, refl)

present_says : (t u : Bool) → Some false ≡ cond t (Some false) (cond u None (Some true)) → t ≡ true
present_says true u e = refl
present_says false true e = absurd cc
present_says false false e = absurd cc

full_says : (t u : Bool) → None ≡ cond t (Some false) (cond u None (Some true)) → (t ≡ false) × (u ≡ true)
full_says true u e = absurd cc
full_says false true e = (refl, refl)
full_says false false e = absurd cc

module _ (most size : ℕ) (r : Row) (l : List Row) (before after : List ℕ) (n : ℕ) (s : Standing most size l before n) where
  pub put-new : length r ≡ stride → Wide stride l → Inserts most r l before after (Some true) → Standing most size (insert_row r l) after (n + 1)
  unfolding insert_answer
  put-new lr wide i =
      let says : (member r l ≡ false) × (leb most (length l) ≡ false) = new-says (member r l) (leb most (length l)) i.says in
      let one : length (insert_row r l) ≡ suc (length l) = insert_new r l says.0 in
      let few : length l < most = leb-false most (length l) says.1 in
      let more : length (words l) ≤ length (words (insert_row r l)) =
      rw (length-words stride l wide, length-words stride (insert_row r l) (wide_insert stride r l lr wide)) (mul-le-mul_right stride (insert_more r l)) in
      record {
        count = omega (arith, s.count, one);
        few = omega (arith, s.count, few);
        is = i.leaves ∙ ap (stored (insert_row r l)) s.is ∙ stored-stored l (insert_row r l) (replicate size 0) more;
      }

  pub put_present : Ascending l → Inserts most r l before after (Some false) → Standing most size (insert_row r l) after n
  unfolding insert_answer
  put_present asc i =
      let same : insert_row r l ≡ l = insert_present r l asc (present_says (member r l) (leb most (length l)) i.says) in
      record { count = s.count ∙ ap length (sym same); few = s.few; is = i.leaves ∙ s.is ∙ ap (λ (k : List Row). stored k (replicate size 0)) (sym same) }

  pub put_full : Inserts most r l before after None → (most < length (insert_row r l)) × (after ≡ before)
  unfolding insert_answer
  put_full i =
      let says : (member r l ≡ false) × (leb most (length l) ≡ true) = full_says (member r l) (leb most (length l)) i.says in
      (omega (arith, insert_new r l says.0, leb-true most (length l) says.1), i.leaves)

-- ---- one row taken out

-- rows with a row of zeros behind them, over rows that were one more
taken_words : (size : ℕ) (d l : List Row) → Wide stride d → Wide stride l → suc (length d) ≡ length l → length l * stride ≤ size
    → stored (d ++ (replicate stride 0 ∷ [])) (stored l (replicate size 0))
    ≡ stored d (replicate size 0)
unfolding stored
taken_words size d l wd wl e h =
    let z : Row = replicate stride 0 in
    let ld : length (words d) ≡ length d * stride = length-words stride d wd in
    let ll : length (words l) ≡ length l * stride = length-words stride l wl in
    let both : words (d ++ (replicate stride 0 ∷ []))
    ≡ words d ++ replicate stride 0 = words_append d (replicate stride 0 ∷ []) ∙ ap (λ (x : List ℕ). words d ++ x) (append-nil (replicate stride 0)) in
    let size_is : length (words (d ++ (replicate stride 0 ∷ []))) ≡ length (words l) = ap length both ∙ length-append (words d) (replicate stride 0) ∙ rw (ld, ll) (omega (arith, e)) in
    let rest : drop (length (words (d ++ (replicate stride 0 ∷ [])))) (words l ++ drop (length (words l)) (replicate size 0)) ≡ replicate (size - length (words l)) 0 =
    ap (λ (k : ℕ). drop k (words l ++ drop (length (words l)) (replicate size 0))) size_is ∙ drop_at (words l) (drop (length (words l)) (replicate size 0)) (length (words l)) refl
    ∙ drop_zeros (length (words l)) size in
    let more : stride + (size - length (words l)) ≡ size - length (words d) = omega (arith, ld, ll, e) in
    ap₂ {A = List ℕ} {B = List ℕ} {C = List ℕ} (λ x y. x ++ y) both rest
    ∙ append_assoc (words d) (replicate stride 0) (replicate (size - length (words l)) 0)
    ∙ ap (λ (x : List ℕ). words d ++ x)
    (replicate-append-replicate {A = ℕ} stride (size - length (words l)) 0 ∙ ap (λ (k : ℕ). replicate {A = ℕ} k 0) more ∙ sym (drop_zeros (length (words d)) size))

module _ (most size : ℕ) (room : most * stride ≤ size) (r : Row) (l : List Row) (before after : List ℕ) (n : ℕ) (s : Standing most size l before n) where
  pub take_out : Wide stride l → Ascending l → Removes r l before after true → Standing most size (delete_row r l) after (n - 1)
  unfolding delete_row
  take_out wide asc x =
      let there : member r l ≡ true = sym x.says in
      let one : suc (length (delete_row r l)) ≡ length l = delete_present r l asc there in
      let fits : length l * stride ≤ size = le_trans (mul-le-mul_right stride (rw (← s.count) s.few)) room in
      record {
        count = omega (arith, s.count, one);
        few = omega (arith, s.few);
        is = x.leaves ∙ ap (stored (delete_row r l ++ (replicate stride 0 ∷ []))) s.is ∙ taken_words size (delete_row r l) l (wide-keep stride (λ t. not (same_row t r)) l wide) wide one fits;
      }

  pub leave_in : Removes r l before after false → Standing most size (delete_row r l) after n
  leave_in x =
      let same : delete_row r l ≡ l = delete_absent r l (sym x.says) in
      rw same (record { count = s.count; few = s.few; is = x.leaves ∙ s.is })
