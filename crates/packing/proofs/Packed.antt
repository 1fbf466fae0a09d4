-- Answers of 64 bits, and the reader's words. Assumes nothing.
use Prim.Native.Nat.{ℕ, ◌+◌, ◌<◌, ◌≤◌, suc}
use mathlib.Core.Path.{◌≡◌, sym, refl, ◌∙◌, ap}
use mathlib.Core.List.{List, ◌∷◌, ◌++◌, []}
use native.Mathlib.Omega.{arith}
use lib.ListN.{length, take, set, get_or, length-append, drop}
use lib.Seq.{sets, length-take-le, take-suc}
use Rattle.model.specs.Calls.{ReadAnswer}
use Rattle.laws.proofs.Parts.{sets_more, sets_first}
use Rattle.packing.specs.Packing.{ReadFits, read_words}

-- ---- numbers written as words

-- one number more of a list
pub list_more : (answer before : List ℕ) (at : ℕ) (list : List ℕ) (k : ℕ) → k < length list → before ≡ sets answer at (take k list) →
    set before (at + k) (get_or list k 0) ≡ sets answer at (take (k + 1) list)
list_more answer before at list k h e =
    let s : k + 1 ≡ suc k = omega arith in
    let size : length (take k list) ≡ k = length-take-le k list (omega arith) in
    sets_more answer before (set before (at + k) (get_or list k 0)) at (at + k) (take k list) (get_or list k 0 ∷ []) e (ap (λ (n : ℕ). at + n) (sym size)) refl
    ∙ ap (sets answer at) (sym (ap (λ (n : ℕ). take n list) s ∙ take-suc list k 0 h))

-- ---- the reader's answer

-- its four lists, written one after the other
pub words_written : (answer : List ℕ) (x : ReadAnswer) → ReadFits x → 97 ≤ length answer → (a1 a2 a3 a4 : List ℕ) →
    a1 ≡ sets answer 0 (x.count ∷ []) → a2 ≡ sets a1 1 x.kinds → a3 ≡ sets a2 33 x.widths → a4 ≡ sets a3 65 x.levels → a4 ≡ read_words x ++ drop 97 answer
words_written answer x f h a1 a2 a3 a4 e1 e2 e3 e4 =
    let n2 : length ((x.count ∷ []) ++ x.kinds) ≡ 33 = omega (arith, length-append (x.count ∷ []) x.kinds, f.kinds-length) in
    let n3 : length ((x.count ∷ []) ++ x.kinds ++ x.widths) ≡ 65 = omega (arith, length-append ((x.count ∷ []) ++ x.kinds) x.widths, n2, f.widths-length) in
    let n4 : length (read_words x) ≡ 97 = omega (arith, length-append ((x.count ∷ []) ++ x.kinds ++ x.widths) x.levels, n3, f.levels-length) in
    let s2 : a2 ≡ sets answer 0 ((x.count ∷ []) ++ x.kinds) = sets_more answer a1 a2 0 1 (x.count ∷ []) x.kinds e1 refl e2 in
    let s3 : a3 ≡ sets answer 0 ((x.count ∷ []) ++ x.kinds ++ x.widths) = sets_more answer a2 a3 0 33 ((x.count ∷ []) ++ x.kinds) x.widths s2 (omega (arith, n2)) e3 in
    let s4 : a4 ≡ sets answer 0 (read_words x) = sets_more answer a3 a4 0 65 ((x.count ∷ []) ++ x.kinds ++ x.widths) x.levels s3 (omega (arith, n3)) e4 in
    s4 ∙ sets_first answer (read_words x) (rw n4 h) ∙ ap (λ (k : ℕ). read_words x ++ drop k answer) n4
