-- A node's lowest row taken out of the pending area, in its words. Assumes nothing.
use mathlib.Core.List.{List, [], ◌∷◌, ◌++◌, append_assoc, append-nil, map}
use mathlib.Core.Path.{◌≡◌, ap, ap₂, sym, ◌∙◌}
use Prim.Native.Nat.{ℕ, ◌+◌, ◌-◌, ◌*◌, ◌≤◌, ◌<◌}
use native.Mathlib.Nat.{le_refl}
use native.Mathlib.Omega.{arith}
use lib.ListN.{length, take, drop, set, replicate, drop_of_length-le, length-append, length-drop, length-replicate, replicate-append-replicate}
use lib.Seq.{paste, slice, take_at, drop_at, drop-drop, take_all, length-take-le}
use Rattle.model.specs.Row.{Relation, Wide, max_rows, max_width}
use Rattle.model.specs.Areas.{layout, area_size, padded, place_of, place_size, stride}
use Rattle.model.specs.Pending.{lowest_row, pending_count}
use Rattle.rows.specs.Rows.{words}
use Rattle.rows.proofs.Words.{length-words}
use Rattle.rows.proofs.Place.{length-map-padded, length-padded, wide-padded}
use Rattle.rows.proofs.Placed.{place-split}
use Rattle.areas.specs.Lent.{place_at}
use Rattle.places.specs.Places.{relation_in}
use Rattle.places.proofs.Places.{place-count, place-few, place_is, place-wide}
use Rattle.placing.specs.Placing.{placed}
use Rattle.placing.proofs.Placing.{whole}
use Rattle.pending.specs.Placed.{pending_with}
use Rattle.taking.specs.Taking.{Held}

-- ---- lists

-- the gap of one row closed, and the words behind the last row cleared
gap_closed : (a x y t : List ℕ) (k n : ℕ) → length a ≡ k → length x ≡ stride → length y ≡ n →
    paste (take k (a ++ (x ++ (y ++ t))) ++ (slice (k + stride) (k + stride + n) (a ++ (x ++ (y ++ t))) ++ drop (k + stride + n - stride) (a ++ (x ++ (y ++ t)))))
    (k + stride + n - stride) (replicate stride 0) stride
    ≡ a ++ (y ++ (replicate stride 0 ++ t))
gap_closed a x y t k n la lx ly =
    let at : k + stride + n - stride ≡ k + n = omega arith in
    let front : take k (a ++ (x ++ (y ++ t))) ≡ a = take_at a (x ++ (y ++ t)) k la in
    let behind-a : drop k (a ++ (x ++ (y ++ t))) ≡ x ++ (y ++ t) = drop_at a (x ++ (y ++ t)) k la in
    let behind-x : drop (k + stride) (a ++ (x ++ (y ++ t))) ≡ y ++ t = sym (drop-drop stride k (a ++ (x ++ (y ++ t)))) ∙ ap (drop stride) behind-a ∙ drop_at x (y ++ t) stride lx in
    let two : length (a ++ x) ≡ k + stride = length-append a x ∙ ap₂ {A = ℕ} {B = ℕ} {C = ℕ} (λ u v. u + v) la lx in
    let three : length ((a ++ x) ++ y) ≡ k + stride + n = length-append (a ++ x) y ∙ ap₂ {A = ℕ} {B = ℕ} {C = ℕ} (λ u v. u + v) two ly in
    let moved : slice (k + stride) (k + stride + n) (a ++ (x ++ (y ++ t))) ≡ y =
    ap (slice (k + stride) (k + stride + n)) (sym (append_assoc (a ++ x) y t ∙ append_assoc a x (y ++ t)))
    ∙ ap (drop (k + stride)) (take_at ((a ++ x) ++ y) t (k + stride + n) three) ∙ drop_at (a ++ x) y (k + stride) two in
    let d : List ℕ = drop (k + n) (a ++ (x ++ (y ++ t))) in
    let rest : drop stride (drop (k + n) (a ++ (x ++ (y ++ t)))) ≡ t =
    drop-drop stride (k + n) (a ++ (x ++ (y ++ t))) ∙ ap (λ (m : ℕ). drop m (a ++ (x ++ (y ++ t)))) (let e : k + n + stride ≡ k + stride + n = omega arith in e)
    ∙ sym (drop-drop n (k + stride) (a ++ (x ++ (y ++ t)))) ∙ ap (drop n) behind-x ∙ drop_at y t n ly in
    let shut : take k (a ++ (x ++ (y ++ t))) ++ (slice (k + stride) (k + stride + n) (a ++ (x ++ (y ++ t))) ++ drop (k + stride + n - stride) (a ++ (x ++ (y ++ t)))) ≡ (a ++ y) ++ d =
    ap₂ {A = List ℕ} {B = List ℕ} {C = List ℕ} (λ u v. u ++ v) front (ap₂ {A = List ℕ} {B = ℕ} {C = List ℕ} (λ u m. u ++ drop m (a ++ (x ++ (y ++ t)))) moved at) ∙ sym (append_assoc a y d) in
    let size : length (a ++ y) ≡ k + n = length-append a y ∙ ap₂ {A = ℕ} {B = ℕ} {C = ℕ} (λ u v. u + v) la ly in
    ap₂ {A = List ℕ} {B = ℕ} {C = List ℕ} (λ l m. paste l m (replicate stride 0) stride) shut at
    ∙ ap₂ {A = List ℕ} {B = List ℕ} {C = List ℕ} (λ u v. u ++ take stride (replicate stride 0) ++ v) (take_at (a ++ y) d (k + n) size)
    (sym (drop-drop stride (k + n) ((a ++ y) ++ d)) ∙ ap (drop stride) (drop_at (a ++ y) d (k + n) size) ∙ rest)
    ∙ append_assoc (a ++ y) (replicate stride 0) t
    ∙ append_assoc a y (replicate stride 0 ++ t)

-- ---- the words of a place

-- of a place with a first row: its row, the others, zeros
first-split : (w : ℕ) (rel : Relation) → w ≤ max_width → Wide w rel → 0 < length rel →
    (place_of layout rel ≡ padded stride (lowest_row rel) ++ (words (map (padded stride) (drop 1 rel)) ++ replicate (place_size - length rel * stride) 0))
    × (length (padded stride (lowest_row rel)) ≡ stride)
    × (length (words (map (padded stride) (drop 1 rel))) ≡ (length rel - 1) * stride)
first-split w [] narrow wide h = absurd (omega arith)
first-split w (r ∷ rel) narrow wide h =
    let one : length (padded stride r) ≡ stride = length-padded stride r (rw wide.0 narrow) in
    let others : length (words (map (padded stride) rel)) ≡ length rel * stride =
    length-words stride (map (padded stride) rel) (wide-padded w stride rel narrow wide.1) ∙ ap (λ (k : ℕ). k * stride) (length-map-padded stride rel) in
    let all : length (padded stride r ++ words (map (padded stride) rel)) ≡ length (r ∷ rel) * stride = length-append (padded stride r) (words (map (padded stride) rel)) ∙ omega
    (arith, one, others) in (
      place-split (r ∷ rel)
          ∙ ap (λ (k : ℕ). (padded stride r ++ words (map (padded stride) rel)) ++ replicate (place_size - k) 0) all
          ∙ append_assoc (padded stride r) (words (map (padded stride) rel)) (replicate (place_size - length (r ∷ rel) * stride) 0),
      one,
      others ∙ (let e : length rel * stride ≡ (length (r ∷ rel) - 1) * stride = omega arith in e),
    )

-- ---- a row taken

module _ (w : ℕ) (p : List ℕ) (i : ℕ) (h : Held w p i) where
  abbrev count : ℕ
  count = pending_count layout p i

  abbrev rel : Relation
  rel = relation_in w (place_at p i) (pending_count layout p i)

  size : length (relation_in w (place_at p i) (pending_count layout p i)) ≡ pending_count layout p i
  size = place-count w (place_at p i) count h.at

  pub few : pending_count layout p i ≤ max_rows
  few = place-few w (place_at p i) count h.at

  fits : i * place_size + place_size ≤ length p
  fits = omega (arith, h.inside, h.long)

  abbrev first : List ℕ
  first = padded stride (lowest_row rel)

  abbrev others : List ℕ
  others = words (map (padded stride) (drop 1 rel))

  abbrev front : List ℕ
  front = take (i * place_size) p

  abbrev behind : List ℕ
  behind = drop (i * place_size + place_size) p

  split : (place_of layout rel ≡ first ++ (others ++ replicate (place_size - length rel * stride) 0)) × (length first ≡ stride) × (length others ≡ (length rel - 1) * stride)
  split = first-split w rel h.at.narrow (place-wide w (place_at p i) count h.at) (rw size h.some)

  front_size : length (take (i * place_size) p) ≡ i * place_size
  front_size = length-take-le (i * place_size) p (omega (arith, fits))

  -- the area, with the first row apart
  apart : p ≡ front ++ (first ++ (others ++ (replicate (place_size - length rel * stride) 0 ++ behind)))
  apart =
      sym (whole p i fits)
      ∙ append_assoc front (place_at p i) behind
      ∙ ap (λ (l : List ℕ). front ++ (l ++ behind)) (place_is w (place_at p i) count h.at ∙ split.0)
      ∙ ap (λ (l : List ℕ). front ++ l)
      (append_assoc first (others ++ replicate (place_size - length rel * stride) 0) behind
      ∙ ap (λ (l : List ℕ). first ++ l) (append_assoc others (replicate (place_size - length rel * stride) 0) behind))

  pub row_taken : (blank row : List ℕ) → length blank ≡ stride → row ≡ paste blank 0 (drop (i * place_size) p) stride → row ≡ padded stride (lowest_row rel)
  row_taken blank row l e =
      let rest : List ℕ = others ++ (replicate (place_size - length rel * stride) 0 ++ behind) in
      let here : drop (i * place_size) p ≡ first ++ rest = ap (drop (i * place_size)) apart ∙ drop_at front (first ++ rest) (i * place_size) front_size in
      let none : drop stride blank ≡ [] = drop_of_length-le blank {i = stride} (rw l (le_refl stride)) in
      e ∙ ap₂ {A = List ℕ} {B = List ℕ} {C = List ℕ} (λ u v. take stride u ++ v) here none
      ∙ append-nil (take stride (first ++ rest)) ∙ take_at first rest stride split.1

  -- the others' place
  rest_size : length (drop 1 rel) ≡ count - 1
  rest_size = length-drop 1 rel ∙ ap (λ (k : ℕ). k - 1) size

  rest_words : place_of layout (drop 1 rel) ≡ others ++ (replicate stride 0 ++ replicate (place_size - length rel * stride) 0)
  rest_words =
      let zeros : replicate {A = ℕ} (place_size - length others) 0 ≡ replicate stride 0 ++ replicate (place_size - length rel * stride) 0 =
      ap (λ (k : ℕ). replicate {A = ℕ} k 0)
      (let e : place_size - length others ≡ stride + (place_size - length rel * stride) = omega (arith, split.2, size, few, h.some) in e)
      ∙ sym (replicate-append-replicate {A = ℕ} stride (place_size - length rel * stride) 0) in
      place-split (drop 1 rel) ∙ ap (λ (l : List ℕ). others ++ l) zeros

  rest_long : length (place_of layout (drop 1 rel)) ≤ place_size
  rest_long =
      omega (
        arith,
        ap length rest_words,
        length-append others (replicate stride 0 ++ replicate (place_size - length rel * stride) 0),
        length-append {A = ℕ} (replicate stride 0) (replicate (place_size - length rel * stride) 0),
        length-replicate {A = ℕ} stride 0,
        length-replicate {A = ℕ} (place_size - length rel * stride) 0,
        split.2,
        size,
        few,
        h.some,
      )

  pub row-long : (row : List ℕ) → row ≡ padded stride (lowest_row (relation_in w (place_at p i) (pending_count layout p i))) → length row ≡ stride
  row-long row e = ap length e ∙ split.1

  pub row-left : (shut cleared : List ℕ) →
      shut ≡ take (i * place_size) p ++ (slice (i * place_size + stride) (i * place_size + count * stride) p ++ drop (i * place_size + count * stride - stride) p) →
      cleared ≡ paste shut (i * place_size + count * stride - stride) (replicate (i * place_size + count * stride - (i * place_size + count * stride - stride)) 0)
      (i * place_size + count * stride - (i * place_size + count * stride - stride)) →
      set cleared (area_size + i) (count - 1) ≡ pending_with p i (drop 1 rel)
  row-left shut cleared e f =
      let k : ℕ = i * place_size in
      let n : ℕ = (length rel - 1) * stride in
      let zeros : List ℕ = replicate (place_size - length rel * stride) 0 in
      let end : i * place_size + count * stride ≡ i * place_size + stride + (length rel - 1) * stride = omega (arith, size, h.some) in
      let one : i * place_size + count * stride - (i * place_size + count * stride - stride) ≡ stride = omega (arith, h.some) in
      let words_left : cleared ≡ front ++ (others ++ (replicate stride 0 ++ (zeros ++ behind))) =
      f ∙ ap (λ (m : ℕ). paste shut (i * place_size + count * stride - stride) (replicate m 0) m) one
      ∙ ap (λ (l : List ℕ). paste l (i * place_size + count * stride - stride) (replicate stride 0) stride) e
      ∙ ap (λ (m : ℕ). paste (take (i * place_size) p ++ (slice (i * place_size + stride) m p ++ drop (m - stride) p)) (m - stride) (replicate stride 0) stride) end
      ∙ ap (λ (l : List ℕ). paste (take (i * place_size) l ++ (slice (i * place_size + stride) (i * place_size + stride + n) l ++ drop (i * place_size + stride + n - stride) l))
      (i * place_size + stride + n - stride) (replicate stride 0) stride) apart
      ∙ gap_closed front first others (zeros ++ behind) (i * place_size) n front_size split.1 split.2 in
      let written : placed p i (drop 1 rel) ≡ front ++ (others ++ (replicate stride 0 ++ (zeros ++ behind))) =
      ap (λ (l : List ℕ). front ++ l ++ behind) (take_all place_size (place_of layout (drop 1 rel)) rest_long ∙ rest_words)
      ∙ append_assoc front (others ++ (replicate stride 0 ++ zeros)) behind
      ∙ ap (λ (l : List ℕ). front ++ l) (append_assoc others (replicate stride 0 ++ zeros) behind ∙ ap (λ (l : List ℕ). others ++ l) (append_assoc (replicate stride 0) zeros behind)) in
      ap₂ {A = List ℕ} {B = ℕ} {C = List ℕ} (λ l m. set l (area_size + i) m) (words_left ∙ sym written) (sym rest_size)
