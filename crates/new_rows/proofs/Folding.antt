-- A table's rows in the working array of 128 rows: put there, folded, and taken back to a place. Assumes nothing.
use mathlib.Core.List.{List, ◌++◌, map}
use lib.ListN.{length, replicate, drop, take}
use Prim.Native.Nat.{◌≤◌, ◌-◌, ◌+◌, ℕ, ◌<◌, ◌*◌}
use mathlib.Core.Path.{◌≡◌, ap, ◌∙◌, sym, ap₂}
use native.Mathlib.Omega.{arith}
use lib.Seq.{paste, take-take, take_at}
use native.Mathlib.Nat.{zero-mul, zero-add}
use Rattle.model.specs.Row.{Row, Relation, max_nodes, max_rows, Wide}
use Rattle.rows.specs.Rows.{words, stored, first_rows}
use Rattle.rows.proofs.Words.{words-rows, length-words, wide_rows, length-rows}
use Rattle.model.specs.Record.{Bytes, offsets}
use Rattle.places.specs.Places.{Place, relation_in, Fills}
use Rattle.areas.specs.Lent.{place_at}
use Rattle.tables.specs.Fold.{StandsFolded, Foldable, Table, fold_rows, fold_at}
use Rattle.places.proofs.Places.{place-few, place-wide, rows_ascend, place-rows, stored-blank}
use Rattle.tables.proofs.Folds.{stands-table}
use Rattle.laws.proofs.Sets.{ascending-holds}
use Rattle.model.specs.Areas.{padded, area_size, folded_size, place_size, stride}
use Rattle.tables.proofs.Acts.{fold_padded, fold_wide}
use Rattle.rows.proofs.Place.{length-map-padded, wide-padded}

-- the first words of a node's place are those of its rows
pub front_words : (w : ℕ) (area : List ℕ) (i n : ℕ) → Place w (place_at area i) n → take (n * stride) (drop (i * place_size) area) ≡ words (first_rows (place_at area i) n)
front_words w area i n p =
    let few : n ≤ max_rows = place-few w (place_at area i) n p in
    sym (take-take (n * stride) (i * place_size + place_size - i * place_size) (drop (i * place_size) area) (omega (arith, few)))
    ∙ sym (words-rows stride (place_at area i) 0 n (rw p.long (omega (arith, few, zero-mul stride))))

module _ (bs : Bytes) (t w : ℕ) (rows : List ℕ) (n : ℕ) (inside : t < max_nodes) (long : area_size ≤ length rows) (p : Place w (place_at rows t) n) (f : Foldable bs t w) where
  rel : Relation
  rel = relation_in w (place_at rows t) n

  few : n ≤ max_rows
  few = place-few w (place_at rows t) n p

  -- the working array with the table's rows at its front
  abbrev filled : List ℕ
  filled = paste (replicate folded_size 0) 0 (drop (t * place_size) rows) (n * stride)

  size : length (words (first_rows (place_at rows t) n)) ≡ n * stride
  size = length-words stride (first_rows (place_at rows t) n) (wide_rows stride (place_at rows t) 0 n) ∙ ap (λ (k : ℕ). k * stride) (length-rows stride (place_at rows t) 0 n)

  filled_is : filled ≡ stored (first_rows (place_at rows t) n) (replicate folded_size 0)
  unfolding stored
  filled_is = ap₂ {A = List ℕ} {B = ℕ} {C = List ℕ} (λ a k. a ++ drop k (replicate folded_size 0)) (front_words w rows t n p) (zero-add (n * stride) ∙ sym size)

  wide : Wide w (relation_in w (place_at rows t) n)
  wide = place-wide w (place_at rows t) n p

  pub table_ready : (first_rows filled n ≡ first_rows (place_at rows t) n) × Table filled n × (length filled ≡ folded_size)
  table_ready =
      stands-table (first_rows (place_at rows t) n) filled n (wide_rows stride (place_at rows t) 0 n) (ascending-holds (first_rows (place_at rows t) n) (rows_ascend w (place_at rows t) n p))
      (record { count = sym (length-rows stride (place_at rows t) 0 n); few = omega (arith, few); is = filled_is })

  -- the rows after the events
  abbrev after : Relation
  after = fold_rows bs t w (offsets bs) (relation_in w (place_at rows t) n)

  after_is : fold_at bs t w (offsets bs) (first_rows filled n) ≡ map (padded stride) after
  after_is = ap (fold_at bs t w (offsets bs)) (table_ready.0 ∙ place-rows w (place_at rows t) n p) ∙ fold_padded bs t w (offsets bs) (relation_in w (place_at rows t) n) wide

  module _ (out : List ℕ) (count : ℕ) (s : StandsFolded (fold_at bs t w (offsets bs) (first_rows filled n)) out count) where
    count_is : count ≡ length after
    count_is = s.count ∙ ap length after_is ∙ length-map-padded stride after

    pub after-over : max_rows < count → max_rows < length after
    after-over h = omega (arith, h, count_is)

    pub after_fills : (place : List ℕ) → count ≤ max_rows → place ≡ paste (replicate place_size 0) 0 (drop 0 out) (count * stride) → Fills after place count
    unfolding stored
    after_fills place h e =
        let wide-after : Wide w after = fold_wide bs t w (offsets bs) (relation_in w (place_at rows t) n) wide in
        let small : length after ≤ max_rows = omega (arith, h, count_is) in
        let l : List Row = map (padded stride) after in
        let words_size : length (words (map (padded stride) after)) ≡ count * stride = length-words stride (map (padded stride) after) (wide-padded w stride after p.narrow wide-after)
        ∙ ap (λ (k : ℕ). k * stride) (length-map-padded stride after ∙ sym count_is) in
        let taken : take (count * stride) out ≡ words (map (padded stride) after) =
        ap (take (count * stride)) (s.is ∙ ap (λ (r : List Row). stored r (replicate folded_size 0)) after_is)
        ∙ take_at (words (map (padded stride) after)) (drop (length (words (map (padded stride) after))) (replicate folded_size 0)) (count * stride) words_size in
        record {
          count = count_is;
          few = h;
          is = e ∙ ap₂ {A = List ℕ} {B = ℕ} {C = List ℕ} (λ a k. a ++ drop k (replicate place_size 0)) taken (zero-add (count * stride) ∙ sym words_size)
              ∙ stored-blank w after p.narrow wide-after small;
        }
