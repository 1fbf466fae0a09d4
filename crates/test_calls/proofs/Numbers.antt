-- Numbers that fill a list, and a line of them. Assumes nothing.
use mathlib.Core.Path.{ap, refl, sym, ◌∙◌, ◌≡◌}
use mathlib.Core.List.{List, [], ◌∷◌, ◌++◌, append-nil}
use Prim.Native.Nat.{ℕ, ◌+◌, ◌≤◌, ◌<◌}
use native.Mathlib.Numerals.{add-one}
use native.Mathlib.Omega.{arith}
use lib.ListN.{get_or, length, length-replicate, drop, replicate, set, take}
use lib.Seq.{drop-length, length-take-le, sets, take_all, take-append_seam, take-suc}
use Rattle.model.specs.Record.{Bytes}
use Rattle.model.specs.Text.{line}
use Rattle.laws.proofs.Parts.{sets_first, sets_more}
use Rattle.lines.specs.Written.{PutLine}

-- one number more
pub put_one : (before now numbers : List ℕ) (k : ℕ) → k < length numbers → now ≡ sets before 0 (take k numbers) → set now k (get_or numbers k 0) ≡ sets before 0 (take (k + 1) numbers)
put_one before now numbers k h e =
    let size : length (take k numbers) ≡ k = length-take-le k numbers (omega arith) in
    let more : take (k + 1) numbers ≡ take k numbers ++ (get_or numbers k 0 ∷ []) = rw add-one (take-suc numbers k 0 h) in
    sets_more before now (set now k (get_or numbers k 0)) 0 k (take k numbers) (get_or numbers k 0 ∷ []) e (omega (arith, size)) refl ∙ ap (sets before 0) (sym more)

-- the numbers that were written from the first one on
pub first_written : (l a : List ℕ) (n : ℕ) → n ≡ length a → n ≤ length l → take n (sets l 0 a) ≡ a
first_written l a n e h = ap (take n) (sets_first l a (omega arith)) ∙ ap (λ (k : ℕ). take k (a ++ drop (length a) l)) e ∙ take-append_seam a (drop (length a) l)

-- a line of numbers that are known
pub tells : (word numbers all : List ℕ) (count at : ℕ) {text out : Bytes} {r : ℕ} → numbers ≡ all → count ≡ length all →
    PutLine (line word numbers) word (length numbers) at text out r → PutLine (line word all) word count at text out r
tells word numbers all count at e k p = record { bytes = rw (← e) p.bytes; next = rw (← e) p.next; short = omega (arith, ap length e, p.short) }

-- zeros copied over a whole list
pub zeros : (n : ℕ) (out : List ℕ) {after : List ℕ} → after ≡ take (length (replicate {A = ℕ} n 0)) (replicate {A = ℕ} n 0) ++ drop (length (replicate {A = ℕ} n 0)) out → length out ≡ n →
    after ≡ replicate {A = ℕ} n 0
zeros n out e h =
    let z : List ℕ = replicate {A = ℕ} n 0 in
    let k : length z ≡ length out = length-replicate {A = ℕ} n 0 ∙ sym h in
    e ∙ ap (λ (l : List ℕ). l ++ drop (length z) out) (take_all (length z) z (omega arith)) ∙ ap (λ (i : ℕ). z ++ drop i out) k ∙ ap (λ (l : List ℕ). z ++ l) (drop-length out) ∙ append-nil z
