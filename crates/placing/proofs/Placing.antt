-- A node's place of an area written over. Assumes nothing.
use Prim.Native.Nat.{ℕ, ◌+◌, ◌*◌, ◌≤◌, ◌-◌, ◌<◌}
use mathlib.Core.Bool.{Bool, true, false, cond}
use mathlib.Core.List.{List, ◌++◌, map}
use lib.Dec.{ltb}
use lib.ListN.{drop, take, length, take-append-drop, replicate, replicate-append-replicate, length-replicate}
use mathlib.Core.Path.{◌≡◌, ap, sym, ◌∙◌, ap₂, refl}
use native.Mathlib.Nat.{le_refl, zero-mul}
use native.Mathlib.Omega.{arith}
use lib.Seq.{take-add, take_all, paste, drop-drop, take_at}
use borrow.Author.Tests.{ltb-true, ltb-false}
use Rattle.areas.specs.Lent.{place_at}
use Rattle.areas.proofs.Pasted.{paste-next, place-counted}
use Rattle.model.specs.Row.{Row, Relation, Wide, max_rows}
use Rattle.model.specs.Areas.{place_of, layout, padded, place_size, stride}
use Rattle.placing.specs.Placing.{placed, row_from, cleared_rest}
use Rattle.places.specs.Places.{Place, relation_in}
use Rattle.places.proofs.Places.{place-few, place-count, place_rest, place-rows, place-wide, stored-blank}
use Rattle.rows.specs.Rows.{words, stored, first_rows}
use Rattle.rows.proofs.Placed.{place-length, rest_zero}
use Rattle.rows.proofs.Place.{length-map-padded, wide-padded}
use Rattle.rows.proofs.Words.{drop_zeros, length-words, words-rows}

module _ (area : List ℕ) (i : ℕ) (fits : i * place_size + place_size ≤ length area) where
  cut : i * place_size + place_size - i * place_size ≡ place_size
  cut = omega arith

  pub whole : take (i * place_size) area ++ place_at area i ++ drop (i * place_size + place_size) area ≡ area
  whole =
      ap (λ (n : ℕ). take (i * place_size) area ++ take n (drop (i * place_size) area) ++ drop (i * place_size + place_size) area) cut
      ∙ ap (λ (l : List ℕ). l ++ drop (i * place_size + place_size) area) (sym (take-add (i * place_size) place_size area))
      ∙ take-append-drop (i * place_size + place_size) area

  -- rows written where they stand already
  pub placed_same : (rel : Relation) → length (place_of layout rel) ≡ place_size → place_at area i ≡ place_of layout rel → area ≡ placed area i rel
  placed_same rel size e = sym (ap (λ (l : List ℕ). take (i * place_size) area ++ l ++ drop (i * place_size + place_size) area)
      (take_all place_size (place_of layout rel) (omega (arith, size)) ∙ sym e) ∙ whole)

-- zeros behind a word are zeros behind a later one
zeros_from : (s : List ℕ) (k j : ℕ) → k ≤ j → drop k s ≡ replicate (place_size - k) 0 → drop j s ≡ replicate (place_size - j) 0
zeros_from s k j h e =
    let f : k + (j - k) ≡ j = omega arith in
    let g : place_size - k - (j - k) ≡ place_size - j = omega arith in
    ap (λ (n : ℕ). drop n s) (sym f) ∙ sym (drop-drop (j - k) k s) ∙ ap (drop (j - k)) e ∙ drop_zeros (j - k) (place_size - k) ∙ ap (λ (n : ℕ). replicate {A = ℕ} n 0) g

stored_front : (l : List Row) (k : ℕ) → length (words l) ≡ k → take k (stored l (replicate place_size 0)) ≡ words l
unfolding stored
stored_front l k g = take_at (words l) (drop (length (words l)) (replicate place_size 0)) k g

-- n rows written at the front of a place that had m rows, and what is left of those cleared
module _ (area : List ℕ) (i n m w : ℕ) (rel : Relation) (fits : i * place_size + place_size ≤ length area) (p : Place w (place_at area i) m) (wide : Wide w rel) (size : n ≡ length rel) (few :
    n ≤ max_rows)
  where
    small : length rel ≤ max_rows
    small = rw (← size) few

    long : length (place_of layout rel) ≡ place_size
    long = place-length w rel p.narrow wide small

    stood : m ≤ max_rows
    stood = place-few w (place_at area i) m p

    -- what is behind the rows
    behind : drop (n * stride) (place_of layout rel) ≡ replicate (place_size - n * stride) 0
    behind = ap (λ (k : ℕ). drop (k * stride) (place_of layout rel)) size ∙ rest_zero w rel p.narrow wide small ∙ ap (λ (k : ℕ). replicate {A = ℕ} (place_size - k * stride) 0) (sym size)

    stood_behind : drop (m * stride) (place_at area i) ≡ replicate (place_size - m * stride) 0
    stood_behind = place_rest w (place_at area i) m p

    -- written up to row k, behind which all is 0
    counted : (k : ℕ) → n ≤ k → m ≤ k → k ≤ max_rows → paste area (i * place_size) (place_of layout rel) (k * stride) ≡ placed area i rel
    counted k h g f =
        place-counted area (place_of layout rel) i (k * stride) (omega arith) long
        (zeros_from (place_at area i) (m * stride) (k * stride) (omega arith) stood_behind ∙ sym (zeros_from (place_of layout rel) (n * stride) (k * stride) (omega arith) behind))

    rest : (t : Bool) → ltb n m ≡ t → (part : List ℕ) → part ≡ paste area (i * place_size) (place_of layout rel) (n * stride) →
        cond t (paste part (row_from i n) (replicate (row_from i m - row_from i n) 0) (row_from i m - row_from i n)) part ≡ placed area i rel
    rest false e part f = f ∙ counted n (le_refl n) (ltb-false n m e) few
    rest true e part f =
        let h : n < m = ltb-true n m e in
        let c : row_from i m - row_from i n ≡ (m - n) * stride = omega arith in
        let zeros : take ((m - n) * stride) (replicate {A = ℕ} ((m - n) * stride) 0) ≡ take ((m - n) * stride) (drop (n * stride) (place_of layout rel)) =
        sym (ap (take ((m - n) * stride)) behind ∙ first_zeros ((m - n) * stride) (place_size - n * stride) (omega (arith, stood))
        ∙ sym (take_all ((m - n) * stride) (replicate ((m - n) * stride) 0) (omega (arith, length-replicate {A = ℕ} ((m - n) * stride) 0)))) in
        let sum : n * stride + (m - n) * stride ≡ m * stride = omega arith in
        ap₂ {A = List ℕ} {B = ℕ} {C = List ℕ} (λ l k. paste l (i * place_size + n * stride) (replicate k 0) k) f c
        ∙ paste-next area (place_of layout rel) (replicate ((m - n) * stride) 0) (i * place_size) (n * stride) ((m - n) * stride) (omega (arith, few)) (rw long (omega (arith, few))) zeros
        ∙ ap (paste area (i * place_size) (place_of layout rel)) sum
        ∙ counted m (omega arith) (le_refl m) stood
      where
        first_zeros : (a b : ℕ) → a ≤ b → take a (replicate {A = ℕ} b 0) ≡ replicate a 0
        first_zeros a b g =
            let s : b ≡ a + (b - a) = omega arith in
            ap (λ (k : ℕ). take a (replicate {A = ℕ} k 0)) s ∙ ap (take a) (sym (replicate-append-replicate {A = ℕ} a (b - a) 0))
            ∙ take_at (replicate {A = ℕ} a 0) (replicate (b - a) 0) a (length-replicate {A = ℕ} a 0)

    pub placed-over : (src part : List ℕ) → part ≡ paste area (i * place_size) src (n * stride) → take (n * stride) src ≡ words (map (padded stride) rel) → cleared_rest part i n m ≡ placed
        area i rel
    placed-over src part e f =
        let front : take (n * stride) (place_of layout rel) ≡ words (map (padded stride) rel) =
        ap (take (n * stride)) (sym (stored-blank w rel p.narrow wide small)) ∙ stored_front (map (padded stride) rel) (n * stride) words_size in
        rest (ltb n m) refl part (e ∙ ap (λ (z : List ℕ). take (i * place_size) area ++ z ++ drop (i * place_size + n * stride) area) (f ∙ sym front))
      where
        words_size : length (words (map (padded stride) rel)) ≡ n * stride
        words_size = length-words stride (map (padded stride) rel) (wide-padded w stride rel p.narrow wide) ∙ ap (λ (k : ℕ). k * stride) (length-map-padded stride rel ∙ sym size)

    -- the same of the rows' own words
    pub placed-words : (part : List ℕ) → part ≡ paste area (i * place_size) (words (map (padded stride) rel)) (n * stride) → cleared_rest part i n m ≡ placed area i rel
    placed-words part e =
        let size-words : length (words (map (padded stride) rel)) ≡ n * stride = length-words stride (map (padded stride) rel) (wide-padded w stride rel p.narrow wide)
        ∙ ap (λ (k : ℕ). k * stride) (length-map-padded stride rel ∙ sym size) in
        placed-over (words (map (padded stride) rel)) part e (take_all (n * stride) (words (map (padded stride) rel)) (rw size-words (le_refl (n * stride))))

-- the rows of another place over a place
pub rows-over : (area src : List ℕ) (i n m w : ℕ) → i * place_size + place_size ≤ length area → Place w (place_at area i) m → Place w src n → (part : List ℕ) →
    part ≡ paste area (i * place_size) src (n * stride) → cleared_rest part i n m ≡ placed area i (relation_in w src n)
rows-over area src i n m w fits p q part e =
    let few : n ≤ max_rows = place-few w src n q in
    let front : words (first_rows src n) ≡ take (n * stride) src =
    words-rows stride src 0 n (rw (zero-mul stride, q.long) (omega (arith, few))) ∙ ap (λ (k : ℕ). take (n * stride) (drop k src)) (zero-mul stride) in
    placed-over area i n m w (relation_in w src n) fits p (place-wide w src n q) (sym (place-count w src n q)) few src part e (sym front ∙ ap words (place-rows w src n q))
