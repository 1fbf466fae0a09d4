-- A node's place written over: what stands there, and that nothing else changed. Assumes nothing.
use mathlib.Core.List.{List, [], ◌∷◌, ◌++◌, append_assoc}
use Prim.Native.Nat.{ℕ, zero, suc, ◌+◌, ◌≤◌, ◌-◌, ◌*◌, ◌<◌}
use native.Mathlib.Nat.{zero-add}
use lib.ListN.{length, take, drop, length-drop, take-append-drop}
use mathlib.Core.Path.{◌≡◌, ap, ap₂, ◌∙◌, sym, refl}
use lib.Seq.{length-take-le, drop-append-le, take-append-le, paste, length_paste_head, drop_at, take_at, drop-drop, drop-paste, take-add, take-nil, take_all}
use native.Mathlib.Omega.{arith}
use lib.Dec.{ltb}
use mathlib.Core.Bool.{Bool, true, false}
use borrow.Author.Tests.{ltb-true, ltb-false}
use Rattle.areas.specs.Lent.{place_at}
use Rattle.model.specs.Areas.{area_size, place_size}
use Rattle.model.specs.Row.{max_nodes}

module _ (area p : List ℕ) (at n : ℕ) (fits : at + n ≤ length area) (size : n ≤ length p) where
  start : length (take at area) ≡ at
  start = length-take-le at area (omega arith)

  front : (k m : ℕ) (rest : List ℕ) → k + m ≤ at → take m (drop k (take at area ++ rest)) ≡ take m (drop k (take at area))
  front k m rest h =
      ap (take m) (drop-append-le k (take at area) rest (omega (arith, start)))
      ∙ take-append-le m (drop k (take at area)) rest (rw (length-drop k (take at area), start) (omega arith))

  -- words before it
  pub pasted_before : (k m : ℕ) → k + m ≤ at → take m (drop k (paste area at p n)) ≡ take m (drop k area)
  pasted_before k m h =
      ap (λ (l : List ℕ). take m (drop k l)) (append_assoc (take at area) (take n p) (drop (at + n) area))
      ∙ front k m (take n p ++ drop (at + n) area) h
      ∙ sym (front k m (drop at area) h)
      ∙ ap (λ (l : List ℕ). take m (drop k l)) (take-append-drop at area)

  -- the words written
  pub pasted_here : take n (drop at (paste area at p n)) ≡ take n p
  pasted_here =
      ap (λ (l : List ℕ). take n (drop at l)) (append_assoc (take at area) (take n p) (drop (at + n) area))
      ∙ ap (take n) (drop_at (take at area) (take n p ++ drop (at + n) area) at start)
      ∙ take_at (take n p) (drop (at + n) area) n (length-take-le n p size)

  -- words after it
  pub pasted_after : (k : ℕ) → at + n ≤ k → drop k (paste area at p n) ≡ drop k area
  pasted_after k h =
      let e : k ≡ at + n + (k - (at + n)) = omega arith in
      ap (λ (m : ℕ). drop m (paste area at p n)) e
      ∙ sym (drop-drop (k - (at + n)) (at + n) (paste area at p n))
      ∙ ap (drop (k - (at + n))) (drop-paste area at p n (omega arith) size)
      ∙ drop-drop (k - (at + n)) (at + n) area
      ∙ ap (λ (m : ℕ). drop m area) (sym e)

-- words that stand there already are written too
paste_more : (l p : List ℕ) (at a b : ℕ) → take b (drop (at + a) l) ≡ take b (drop a p) → paste l at p a ≡ paste l at p (a + b)
paste_more l p at a b e =
    ap (λ (z : List ℕ). (take at l ++ take a p) ++ z)
    (sym (take-append-drop b (drop (at + a) l)) ∙ ap₂ {A = List ℕ} {B = List ℕ} {C = List ℕ} (λ x y. x ++ y) e (drop-drop b (at + a) l ∙ ap (λ (k : ℕ). drop k l) (let f : at + a + b ≡ at +
    (a + b) = omega arith in f)))
    ∙ sym (append_assoc (take at l ++ take a p) (take b (drop a p)) (drop (at + (a + b)) l))
    ∙ ap (λ (z : List ℕ). z ++ drop (at + (a + b)) l) (append_assoc (take at l) (take a p) (take b (drop a p)) ∙ ap (λ (z : List ℕ). take at l ++ z) (sym (take-add a b p)))

-- the next words are written behind those that were
pub paste-next : (l p q : List ℕ) (at a b : ℕ) → at + a ≤ length l → a ≤ length p → take b q ≡ take b (drop a p) → paste (paste l at p a) (at + a) q b ≡ paste l at p (a + b)
paste-next l p q at a b fits size e =
    let front : take (at + a) (paste l at p a) ≡ take at l ++ take a p = take_at (take at l ++ take a p) (drop (at + a) l) (at + a) (length_paste_head l at p a (omega arith) size) in
    let behind : drop (at + a + b) (paste l at p a) ≡ drop (at + (a + b)) l = pasted_after l p at a fits size (at + a + b) (omega arith)
    ∙ ap (λ (k : ℕ). drop k l) (let f : at + a + b ≡ at + (a + b) = omega arith in f) in
    ap₂ {A = List ℕ} {B = List ℕ} {C = List ℕ} (λ x y. x ++ take b q ++ y) front behind
    ∙ ap (λ (z : List ℕ). z ++ drop (at + (a + b)) l)
    (ap (λ (z : List ℕ). (take at l ++ take a p) ++ z) e ∙ append_assoc (take at l) (take a p) (take b (drop a p)) ∙ ap (λ (z : List ℕ). take at l ++ z) (sym (take-add a b p)))

drop-take : (a b : ℕ) (l : List ℕ) → drop a (take (a + b) l) ≡ take b (drop a l)
drop-take zero b l = ap (λ (k : ℕ). take k l) (zero-add b)
drop-take (suc a) b [] = let e : suc a + b ≡ suc (a + b) = omega arith in rw e (sym (take-nil {A = ℕ} b))
drop-take (suc a) b (x ∷ l) = let e : suc a + b ≡ suc (a + b) = omega arith in rw e (drop-take a b l)

-- a place written up to where the rest of it is what stands there
pub place-counted : (area s : List ℕ) (i k : ℕ) → k ≤ place_size → length s ≡ place_size → drop k (place_at area i) ≡ drop k s → paste area (i * place_size) s k ≡ paste area (i * place_size) s
    place_size
place-counted area s i k h size e =
    let split : k + (place_size - k) ≡ place_size = omega arith in
    let cut : i * place_size + place_size - i * place_size ≡ k + (place_size - k) = omega arith in
    let stands : take (place_size - k) (drop (i * place_size + k) area) ≡ drop k (place_at area i) =
    ap (take (place_size - k)) (sym (drop-drop k (i * place_size) area)) ∙ sym (drop-take k (place_size - k) (drop (i * place_size) area))
    ∙ ap (λ (n : ℕ). drop k (take n (drop (i * place_size) area))) (sym cut) in
    let whole : drop k s ≡ take (place_size - k) (drop k s) = sym (take_all (place_size - k) (drop k s) (rw (length-drop k s, size) (omega arith))) in
    paste_more area s (i * place_size) k (place_size - k) (stands ∙ e ∙ whole) ∙ ap (paste area (i * place_size) s) split

module _ (area p : List ℕ) (i : ℕ) (fits : i * place_size + place_size ≤ length area) (size : place_size ≤ length p) where
  cut : (j : ℕ) → j * place_size + place_size - j * place_size ≡ place_size
  cut j = omega arith

  pub place_pasted : place_at (paste area (i * place_size) p place_size) i ≡ take place_size p
  place_pasted = ap (λ (m : ℕ). take m (drop (i * place_size) (paste area (i * place_size) p place_size))) (cut i) ∙ pasted_here area p (i * place_size) place_size fits size

  pub place_other : (j : ℕ) → (j ≡ i → ⊥) → place_at (paste area (i * place_size) p place_size) j ≡ place_at area j
  place_other j n = go (ltb j i) refl
    where
      go : (t : Bool) → ltb j i ≡ t → place_at (paste area (i * place_size) p place_size) j ≡ place_at area j
      go true e = let h : j < i = ltb-true j i e in rw (cut j) (pasted_before area p (i * place_size) place_size fits size (j * place_size) place_size (omega arith))
      go false e = let h : i ≤ j = ltb-false j i e in let k : i < j = omega (arith, n) in ap (take (j * place_size + place_size - j * place_size))
          (pasted_after area p (i * place_size) place_size fits size (j * place_size) (omega arith))

-- a place has its words
pub place-long : (area : List ℕ) (i : ℕ) → i < max_nodes → area_size ≤ length area → length (place_at area i) ≡ place_size
place-long area i h l = let e : i * place_size + place_size - i * place_size ≡ place_size = omega arith in ap (λ (m : ℕ). length (take m (drop (i * place_size) area))) e
    ∙ length-take-le place_size (drop (i * place_size) area) (rw (length-drop (i * place_size) area) (omega arith))
