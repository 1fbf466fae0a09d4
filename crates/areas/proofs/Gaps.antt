-- An area's unused words as runs: those between the rows of a node and those of the next that has any, and those behind the last. Assumes nothing.
use mathlib.Core.Bool.{◌&&◌, Bool, and_assoc, and_comm, cond, false, true}
use mathlib.Core.List.{List}
use mathlib.Core.Path.{ap, ap₂, refl, sym, ◌∙◌, ◌≡◌}
use Prim.Native.Nat.{◌*◌, ◌+◌, ◌<◌, ℕ, zero, suc, ◌≤◌, ◌-◌}
use native.Mathlib.Omega.{arith}
use native.Mathlib.Nat.{zero-add, add-zero}
use native.Mathlib.Numerals.{add-one}
use lib.Dec.{eqb, ltb, leb}
use lib.ListN.{drop, get_or, length, take}
use lib.Seq.{drop-drop, length-slice, slice, slice_empty, take_all}
use borrow.Author.Tests.{eqb-true, eqb-false, le-ltb, lt-ltb, leb-true, leb-false, le-leb, lt-leb}
use Rattle.model.specs.Row.{all_of, count_from, numbers_below, max_nodes, max_rows, max_width}
use Rattle.model.specs.Areas.{all_zero, area_size, batch_number, empty_place, good_area, good_place, good_stamps, good_worked, head_words, layout}
use Rattle.model.specs.Areas.{place_size, stamp_at, stride, worked_at, worked_count}
use Rattle.zeros.proofs.Zeros.{and_four, zero_one, zero_split}
use Rattle.rows.specs.Rows.{first_rows, rows_from}
use Rattle.row_checks.specs.RowChecks.{good_rows}
use Rattle.row_checks.proofs.Form.{slice-part}
use Rattle.laws.proofs.All.{AllTo}
use Rattle.laws.proofs.Sets.{and_first, and_second}
use Rattle.areas.specs.Lent.{counts_from, place_at}
use Rattle.areas.proofs.Good.{area_is, empty_is, empty_not, node_good, part_is, place-form, too_many}

-- ---- numbers from one on

-- those below i pass: those from there on decide
all_left : (p : ℕ → Bool) (from i m : ℕ) → ((j : ℕ) → from ≤ j → j < from + i → p j ≡ true) → all_of p (count_from from (i + m)) ≡ all_of p (count_from (from + i) m)
all_left p from zero m h = rw (zero-add, add-zero)
all_left p from (suc i) m h =
    let next : from + suc i ≡ suc from + i = omega arith in
    let more : suc i + m ≡ suc (i + m) = omega arith in
    rw (more, next, h from (omega arith) (omega arith)) (all_left p (suc from) i m (λ j f g. h j (omega arith) (omega arith)))

-- a test that asks for a word that is 0
all_words : (p : ℕ → Bool) (s : List ℕ) (base i m to : ℕ) → base + i + m ≡ to → to ≤ length s → ((j : ℕ) → i ≤ j → p j ≡ eqb (get_or s (base + j) 0) 0) →
    all_of p (count_from i m) ≡ all_zero (slice (base + i) to s)
all_words p s base i zero to e l h = let same : base + i ≡ to = omega arith in rw (same, slice_empty to s)
all_words p s base i (suc m) to e l h =
    let next : base + suc i ≡ base + i + 1 = omega arith in
    ap₂ {A = Bool} {B = Bool} {C = Bool} (λ a b. a && b) (h i (omega arith) ∙ sym (zero_one s (base + i) (omega arith)))
    (all_words p s base (suc i) m to (omega arith) l (λ j f. h j (omega arith)) ∙ ap (λ (k : ℕ). all_zero (slice k to s)) next)
    ∙ sym (zero_split s (base + i) (base + i + 1) to (omega arith) (omega arith) l)

-- ---- what is known of an area after some places

module _ (ws : List ℕ) (n : ℕ) (count : ℕ → ℕ) (area : List ℕ) where
  -- the words from one on up to place i, and the places from there on, decide
  abbrev pub GapTo : ℕ → ℕ → Type 0
  GapTo from i = all_of (node_good ws n count area) (numbers_below max_nodes)
      ≡ (all_zero (slice from (i * place_size) area) && all_of (node_good ws n count area) (count_from i (max_nodes - i)))

  pub gap_none : GapTo 0 0
  gap_none = refl

  -- what is asked of a node with rows
  abbrev pub node_asked : ℕ → ℕ → Bool
  node_asked from i = leb (count i) max_rows && all_zero (slice from (i * place_size) area) && good_rows (get_or ws i 0) (first_rows (place_at area i) (count i))

  module _ (from i : ℕ) (asked : node_asked from i ≡ true) where
    abbrev rows_good : Bool
    rows_good = good_rows (get_or ws i 0) (first_rows (place_at area i) (count i))

    asked_two : (leb (count i) max_rows && all_zero (slice from (i * place_size) area)) ≡ true
    asked_two = and_first (leb (count i) max_rows && all_zero (slice from (i * place_size) area)) rows_good asked

    asked_rows : rows_good ≡ true
    asked_rows = and_second (leb (count i) max_rows && all_zero (slice from (i * place_size) area)) rows_good asked

    asked_clean : all_zero (slice from (i * place_size) area) ≡ true
    asked_clean = and_second (leb (count i) max_rows) (all_zero (slice from (i * place_size) area)) asked_two

    pub asked_few : count i ≤ max_rows
    asked_few = leb-true (count i) max_rows (and_first (leb (count i) max_rows) (all_zero (slice from (i * place_size) area)) asked_two)

-- ---- one place

-- the words of a place from one on, in the area
place_run : (area : List ℕ) (i a : ℕ) → i * place_size + place_size ≤ length area → slice a place_size (place_at area i) ≡ slice (i * place_size + a) (i * place_size + place_size) area
place_run area i a h =
    let q : ℕ = i * place_size in
    let size : q + place_size - q ≡ place_size = omega arith in
    let part : place_at area i ≡ slice q (q + place_size) area =
    ap (λ (k : ℕ). take k (drop q area)) size ∙ sym (slice-part q place_size area h) in
    ap (drop a)
    (take_all place_size (place_at area i)
    (rw (part, length-slice q (q + place_size) area h) (omega arith)))
    ∙ ap (drop a) part
    ∙ drop-drop a q (take (q + place_size) area)

module _ (ws : List ℕ) (n : ℕ) (count : ℕ → ℕ) (area : List ℕ) (long : area_size ≤ length area) where
  -- a node's place: its rows, and the words behind them
  place_is : (i : ℕ) → i < n → i < max_nodes → get_or ws i 0 ≤ max_width → count i ≤ max_rows →
      node_good ws n count area i ≡ (good_rows (get_or ws i 0) (first_rows (place_at area i) (count i)) && all_zero (slice (i * place_size + count i * stride) (i * place_size + place_size) area))
  place_is i h g narrow few =
      rw (lt-ltb i n h)
      (place-form (get_or ws i 0) (count i) area (place_at area i) i (good_rows (get_or ws i 0) (first_rows (place_at area i) (count i))) (all_zero (slice (count i * stride) place_size (place_at area i)))
      narrow few g long (part_is area i) refl refl
      ∙ ap (λ (run : List ℕ). good_rows (get_or ws i 0) (first_rows (place_at area i) (count i)) && all_zero run) (place_run area i (count i * stride) (omega arith)))

  -- a place without rows
  blank_is : (w i : ℕ) → i < max_nodes → w ≤ max_width → good_place layout w 0 area i ≡ all_zero (slice (i * place_size) (i * place_size + place_size) area)
  unfolding good_rows rows_from
  blank_is w i g narrow =
      let none : i * place_size + 0 * stride ≡ i * place_size = omega arith in
      place-form w 0 area (place_at area i) i (good_rows w (first_rows (place_at area i) 0)) (all_zero (slice (0 * stride) place_size (place_at area i))) narrow (omega arith) g long
      (part_is area i) refl refl
      ∙ ap all_zero (place_run area i (0 * stride) (omega arith))
      ∙ rw none

  place_none : (i : ℕ) → i < n → i < max_nodes → get_or ws i 0 ≤ max_width → count i ≡ 0 → node_good ws n count area i ≡ all_zero (slice (i * place_size) (i * place_size + place_size) area)
  place_none i h g narrow e = rw (lt-ltb i n h, e) (blank_is (get_or ws i 0) i g narrow)

  -- a place past the last node
  place_past : (i : ℕ) → n ≤ i → i < max_nodes → node_good ws n count area i ≡ (eqb (count i) 0 && all_zero (slice (i * place_size) (i * place_size + place_size) area))
  place_past i h g = rw (le-ltb i n h) (go (eqb (count i) 0) refl)
    where
      go : (t : Bool) → eqb (count i) 0 ≡ t → empty_place layout (count i) area i ≡ (t && all_zero (slice (i * place_size) (i * place_size + place_size) area))
      go true e = sym (empty_is area i (count i) (eqb-true (count i) 0 e)) ∙ blank_is 0 i g (omega arith)
      go false e = empty_not area i (count i) e

  -- ---- place by place

  next_place : (i : ℕ) → i < max_nodes →
      all_of (node_good ws n count area) (count_from i (max_nodes - i)) ≡ (node_good ws n count area i && all_of (node_good ws n count area) (count_from (i + 1) (max_nodes - (i + 1))))
  next_place i h = let one : max_nodes - i ≡ suc (max_nodes - (i + 1)) = omega arith in rw (one, add-one)

  -- a node without rows: its words go to the run
  pub gap_empty : (from i : ℕ) → from ≤ i * place_size → i < n → i < max_nodes → get_or ws i 0 ≤ max_width → count i ≡ 0 → GapTo ws n count area from i →
      GapTo ws n count area from (i + 1)
  gap_empty from i b h g narrow e z =
      let rest : Bool = all_of (node_good ws n count area) (count_from (i + 1) (max_nodes - (i + 1))) in
      let end : i * place_size + place_size ≡ (i + 1) * place_size = omega arith in
      z
      ∙ ap (λ (t : Bool). all_zero (slice from (i * place_size) area) && t) (next_place i g ∙ rw (place_none i h g narrow e))
      ∙ sym (and_assoc (all_zero (slice from (i * place_size) area)) (all_zero (slice (i * place_size) (i * place_size + place_size) area)) rest)
      ∙ ap (λ (t : Bool). t && rest) (sym (zero_split area from (i * place_size) (i * place_size + place_size) b (omega arith) (omega arith)))
      ∙ ap (λ (k : ℕ). all_zero (slice from k area) && rest) end

  pub gap_rows : (from i : ℕ) → i < n → i < max_nodes → get_or ws i 0 ≤ max_width → node_asked ws n count area from i ≡ true → GapTo ws n count area from i →
      GapTo ws n count area (i * place_size + count i * stride) (i + 1)
  gap_rows from i h g narrow asked z =
      let end : i * place_size + place_size ≡ (i + 1) * place_size = omega arith in
      z
      ∙ rw (asked_clean ws n count area from i asked, next_place i g, place_is i h g narrow (asked_few ws n count area from i asked), asked_rows ws n count area from i asked, end)

  pub gap_not : (from i : ℕ) → i < n → i < max_nodes → get_or ws i 0 ≤ max_width → node_asked ws n count area from i ≡ false → GapTo ws n count area from i →
      all_of (node_good ws n count area) (numbers_below max_nodes) ≡ false
  gap_not from i h g narrow asked z = z ∙ rw (next_place i g) (go (leb (count i) max_rows) refl (all_zero (slice from (i * place_size) area)) refl)
    where
      rest : Bool
      rest = all_of (node_good ws n count area) (count_from (i + 1) (max_nodes - (i + 1)))

      go : (few : Bool) → leb (count i) max_rows ≡ few → (clean : Bool) → all_zero (slice from (i * place_size) area) ≡ clean → (clean && (node_good ws n count area i && rest)) ≡ false
      go few e false f = refl
      go true e true f =
          let bad : good_rows (get_or ws i 0) (first_rows (place_at area i) (count i)) ≡ false = rw (e, f) at asked in
          rw (place_is i h g narrow (leb-true (count i) max_rows e), bad)
      go false e true f = rw (lt-ltb i n h, too_many (get_or ws i 0) (count i) area i (leb-false (count i) max_rows e))

-- ---- the words behind the last rows

and_exchange : (a b c : Bool) → (a && (b && c)) ≡ (b && (a && c))
and_exchange a b c = sym (and_assoc a b c) ∙ ap (λ (t : Bool). t && c) (and_comm a b) ∙ and_assoc b a c

module _ (ws : List ℕ) (n : ℕ) (words : List ℕ) (first : ℕ) (area : List ℕ) (long : area_size ≤ length area) (counts : first + max_nodes ≤ length words) where
  abbrev good : ℕ → Bool
  good = node_good ws n (counts_from words first) area

  -- places past the last node: no count, and no word
  past_zero : (i m : ℕ) → n ≤ i → i + m ≡ max_nodes → all_of good (count_from i m) ≡ (all_zero (slice (first + i) (first + max_nodes) words) && all_zero (slice (i * place_size) area_size area))
  past_zero i zero h e =
      let last : i ≡ max_nodes = omega arith in
      let end : i * place_size ≡ area_size = omega arith in
      rw (end, last, slice_empty (first + max_nodes) words, slice_empty area_size area)
  past_zero i (suc m) h e =
      let next : first + suc i ≡ first + i + 1 = omega arith in
      let end : suc i * place_size ≡ i * place_size + place_size = omega arith in
      rw (
        place_past ws n (counts_from words first) area long i h (omega arith),
        past_zero (suc i) m (omega arith) (omega arith),
        next,
        end,
        zero_split words (first + i) (first + i + 1) (first + max_nodes) (omega arith) (omega arith) counts,
        zero_one words (first + i) (omega arith),
        zero_split area (i * place_size) (i * place_size + place_size) area_size (omega arith) (omega arith) long,
      )
      (and_four (eqb (get_or words (first + i) 0) 0) (all_zero (slice (i * place_size) (i * place_size + place_size) area)) (all_zero (slice (first + i + 1) (first + max_nodes) words))
      (all_zero (slice (i * place_size + place_size) area_size area)))

  pub gap_end : (from i : ℕ) → i ≡ n → n ≤ max_nodes → from ≤ i * place_size → GapTo ws n (counts_from words first) area from i →
      all_of good (numbers_below max_nodes) ≡ (all_zero (slice (first + n) (first + max_nodes) words) && all_zero (slice from area_size area))
  gap_end from i e h b z =
      z
      ∙ ap (λ (t : Bool). all_zero (slice from (i * place_size) area) && t) (past_zero i (max_nodes - i) (omega arith) (omega arith))
      ∙ and_exchange (all_zero (slice from (i * place_size) area)) (all_zero (slice (first + i) (first + max_nodes) words)) (all_zero (slice (i * place_size) area_size area))
      ∙ ap₂ {A = ℕ} {B = Bool} {C = Bool} (λ k t. all_zero (slice (first + k) (first + max_nodes) words) && t) e (sym (zero_split area from (i * place_size) area_size b (omega arith) long))

  -- the area once every node is passed
  pub area_end : n ≤ length ws → (from i : ℕ) → i ≡ n → n ≤ max_nodes → from ≤ i * place_size → GapTo ws n (counts_from words first) area from i →
      good_area layout (take n ws) (counts_from words first) area ≡ (all_zero (slice (first + n) (first + max_nodes) words) && all_zero (slice from area_size area))
  area_end h from i e few b z = area_is ws n (counts_from words first) area h ∙ gap_end from i e few b z

-- ---- the head's lists

-- those below n pass, and from there on a word is asked to be 0
tail_is : (p : ℕ → Bool) (s : List ℕ) (base n : ℕ) → n ≤ max_nodes → base + max_nodes ≤ length s → AllTo p max_nodes n →
    ((j : ℕ) → n ≤ j → p j ≡ eqb (get_or s (base + j) 0) 0) → all_of p (numbers_below max_nodes) ≡ all_zero (slice (base + n) (base + max_nodes) s)
tail_is p s base n h l below past =
    let all : n + (max_nodes - n) ≡ max_nodes = omega arith in
    ap (λ (k : ℕ). all_of p (count_from 0 k)) (sym all)
    ∙ all_left p 0 n (max_nodes - n) (λ j f g. below j (omega arith))
    ∙ ap (λ (k : ℕ). all_of p (count_from k (max_nodes - n))) (zero-add n)
    ∙ all_words p s base n (max_nodes - n) (base + max_nodes) (omega arith) l past

leb_zero : (x : ℕ) → leb x 0 ≡ eqb x 0
leb_zero x = go (eqb x 0) refl
  where
    go : (t : Bool) → eqb x 0 ≡ t → leb x 0 ≡ t
    go true e = le-leb x 0 (omega (arith, eqb-true x 0 e))
    go false e = lt-leb x 0 (pos x (eqb-false x 0 e))
      where
        pos : (x : ℕ) → (x ≡ 0 → ⊥) → 0 < x
        pos zero h = absurd (h refl)
        pos (suc x) h = omega arith

module _ (n : ℕ) (head : List ℕ) where
  -- a stamp, by its node's number
  abbrev pub stamp_good : ℕ → Bool
  stamp_good i = leb (stamp_at head i) (cond (ltb i n) (batch_number head) 0)

  pub stamp_is : (i : ℕ) → i < n → stamp_good i ≡ leb (stamp_at head i) (batch_number head)
  stamp_is i h = rw (lt-ltb i n h)

  pub stamps-left : head_words ≤ length head → n ≤ max_nodes → AllTo stamp_good max_nodes n → good_stamps n head ≡ all_zero (slice (33 + n) (33 + max_nodes) head)
  unfolding good_stamps
  stamps-left l h below = tail_is stamp_good head 33 n h (omega arith) below (λ j g. rw (le-ltb j n g) (leb_zero (stamp_at head j)))

  -- an entry of the worked list
  abbrev pub entry_good : ℕ → Bool
  entry_good k = cond (ltb k (worked_count head)) (ltb (worked_at head k) n) (eqb (worked_at head k) 0)

  pub entry_is : (k : ℕ) → k < worked_count head → entry_good k ≡ ltb (worked_at head k) n
  entry_is k h = rw (lt-ltb k (worked_count head) h)

  pub entries_left : head_words ≤ length head → worked_count head ≤ n → n ≤ max_nodes → AllTo entry_good max_nodes (worked_count head) →
      good_worked n head ≡ all_zero (slice (130 + worked_count head) (130 + max_nodes) head)
  unfolding good_worked
  entries_left l few h below =
      rw (le-leb (worked_count head) n few)
      (tail_is entry_good head 130 (worked_count head) (omega arith) (omega arith) below (λ j g. rw (le-ltb j (worked_count head) g)))
