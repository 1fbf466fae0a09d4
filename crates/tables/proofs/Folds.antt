-- Events on rows of words. Assumes nothing.
use mathlib.Core.List.{◌++◌, List, [], ◌∷◌}
use mathlib.Core.Path.{ap, ap₂, refl, sym, ◌∙◌, ◌≡◌}
use mathlib.Core.Bool.{true, true≢false, Bool, cond, false, not}
use Prim.Native.Nat.{◌*◌, ◌+◌, ◌-◌, ◌<◌, suc, zero, ℕ, ◌≤◌}
use native.Mathlib.Omega.{arith}
use lib.ListN.{length, set, drop, length-append, length-drop, length-replicate, replicate}
use lib.Seq.{take_all}
use lib.Dec.{eqb}
use Rattle.model.specs.Record.{Bytes, u32, kind_at, field_at, is_broken, length_at, offsets}
use Rattle.rows.proofs.Words.{fields-part, length-words, rows-stored, wide_rows}
use Rattle.laws.proofs.Widths.{wide_insert, wide-keep}
use Rattle.model.specs.Row.{Wide, Row, delete_row, insert_row, member, ascending, keep, same_row, max_rows, max_width}
use Rattle.rows.specs.Rows.{words, row_at, first_rows, stored}
use Rattle.rows.proofs.Place.{length-padded}
use Rattle.model.specs.Areas.{padded, folded_size, stride}
use Rattle.rows.proofs.Padding.{padded_more}
use Rattle.model.specs.Batch.{row_in, folded_rows}
use Rattle.tables.specs.Fold.{StandsFolded, act_on, Events, Foldable, Table, fold_at}
use Rattle.laws.proofs.Sets.{Ascending, asc_delete, asc_insert, ascending-holds, ascending_true, insert_once}
use Rattle.std.specs.Prelude.{None, Some}
use Rattle.insertions.specs.Insertions.{Inserts, Removes}
use Rattle.insertions.proofs.Stand.{leave_in, put_full, put-new, put_present, take_out}
use Rattle.records.proofs.Header.{Whole, whole}
use Rattle.records.proofs.Offsets.{remaining, remaining_all, remaining_broken, remaining_none, remaining_whole}
use Rattle.laws.proofs.Events.{length-row_in}

row_more : (bs : Bytes) (at k : ℕ) → row_in bs at (k + 1) ≡ row_in bs at k ++ (u32 bs (at + 4 * k) ∷ [])
row_more bs at zero = ap (λ (n : ℕ). u32 bs n ∷ []) (let e : at ≡ at + 4 * 0 = omega arith in e)
row_more bs at (suc k) =
    let e : suc k + 1 ≡ suc (k + 1) = omega arith in
    let f : at + 4 + 4 * k ≡ at + 4 * suc k = omega arith in
    rw e (ap (λ (l : List ℕ). u32 bs at ∷ l) (row_more bs (at + 4) k ∙ ap (λ (n : ℕ). row_in bs (at + 4) k ++ (u32 bs n ∷ [])) f))

-- one field more of an event's row
pub row-filled : (bs : Bytes) (at k : ℕ) (row : List ℕ) (x : ℕ) → k < stride → row ≡ padded stride (row_in bs at k) → x ≡ u32 bs (at + 4 * k) → set row k x ≡ padded stride (row_in bs at (k + 1))
row-filled bs at k row x h e f =
    ap₂ {A = List ℕ} {B = ℕ} {C = List ℕ} (λ r y. set r k y) e f ∙ padded_more stride (row_in bs at k) (u32 bs (at + 4 * k)) k (length-row_in bs at k) h ∙ ap (padded stride)
    (sym (row_more bs at k))

-- an event's row in words is its own row
pub event_row_at : (bs : Bytes) (at w : ℕ) (row : List ℕ) → w ≤ max_width → row ≡ padded stride (row_in bs at w) → row_at stride row 0 ≡ padded stride (row_in bs at w)
unfolding row_at
event_row_at bs at w row h e =
    let size : length row ≡ stride = ap length e ∙ length-padded stride (row_in bs at w) (rw (length-row_in bs at w) h) in
    fields-part stride row 0 (omega (arith, size)) ∙ take_all stride row (omega (arith, size)) ∙ e

module _ (bs : Bytes) (at w : ℕ) (rows : List Row) (out : List ℕ) (n : ℕ) where
  pub act-put : eqb (kind_at bs at) 32 ≡ true → StandsFolded (insert_row (padded stride (row_in bs (at + 6) w)) rows) out n → StandsFolded (act_on bs at w rows) out n
  act-put e s = rw e s

  pub act-remove : eqb (kind_at bs at) 32 ≡ false → StandsFolded (delete_row (padded stride (row_in bs (at + 6) w)) rows) out n → StandsFolded (act_on bs at w rows) out n
  act-remove e s = rw e s

-- an event's own row put among the rows of some words, or taken out of them
module _ (bs : Bytes) (at w : ℕ) (narrow : w ≤ max_width) (row : List ℕ) (own : row ≡ padded stride (row_in bs (at + 6) w)) (before after : List ℕ)
    (n : ℕ) (t : Table before n) where
  abbrev rows : List Row
  rows = first_rows before n

  abbrev own_row : Row
  own_row = padded stride (row_in bs (at + 6) w)

  pub put_adds : eqb (kind_at bs at) 32 ≡ true → Inserts folded_rows (row_at stride row 0) rows before after (Some true) → StandsFolded (act_on bs at w rows) after (n + 1)
  put_adds e i =
      act-put bs at w rows after (n + 1) e
      (put-new folded_rows folded_size own_row rows before after n t.stands (length-padded stride (row_in bs (at + 6) w) (rw (length-row_in bs (at + 6) w) narrow)) (wide_rows stride before 0 n)
      (rw (event_row_at bs (at + 6) w row narrow own) at i))

  pub put_keeps : eqb (kind_at bs at) 32 ≡ true → Inserts folded_rows (row_at stride row 0) rows before after (Some false) → StandsFolded (act_on bs at w rows) after n
  put_keeps e i =
      act-put bs at w rows after n e
      (put_present folded_rows folded_size own_row rows before after n t.stands (ascending-holds rows t.asc) (rw (event_row_at bs (at + 6) w row narrow own) at i))

  pub put_fits : n < folded_rows → Inserts folded_rows (row_at stride row 0) rows before after None → ⊥
  put_fits h i =
      let full = put_full folded_rows folded_size own_row rows before after n t.stands (rw (event_row_at bs (at + 6) w row narrow own) at i) in
      omega (arith, full.0, insert_once own_row rows, t.stands.count)

  pub take_drops : eqb (kind_at bs at) 32 ≡ false → Removes (row_at stride row 0) rows before after true → StandsFolded (act_on bs at w rows) after (n - 1)
  take_drops e x =
      act-remove bs at w rows after (n - 1) e
      (take_out folded_rows folded_size (omega arith) own_row rows before after n t.stands (wide_rows stride before 0 n) (ascending-holds rows t.asc)
      (rw (event_row_at bs (at + 6) w row narrow own) at x))

  pub take_keeps : eqb (kind_at bs at) 32 ≡ false → Removes (row_at stride row 0) rows before after false → StandsFolded (act_on bs at w rows) after n
  take_keeps e x =
      act-remove bs at w rows after n e
      (leave_in folded_rows folded_size (omega arith) own_row rows before after n t.stands (rw (event_row_at bs (at + 6) w row narrow own) at x))

-- a relation with a row has one
pub some-row : (r : Row) (l : List Row) (n : ℕ) → member r l ≡ true → n ≡ length l → 1 ≤ n
some-row r [] n e f = absurd (true≢false (sym e))
some-row r (s ∷ l) n e f = omega arith

-- ---- all events of a table

-- rows that stand in words, read back
pub stands-table : (rows : List Row) (out : List ℕ) (n : ℕ) → Wide stride rows → Ascending rows → StandsFolded rows out n → (first_rows out n ≡ rows) × Table out n × (length out ≡ folded_size)
unfolding stored
stands-table rows out n wide asc s =
    let back : first_rows out n ≡ rows = rw (s.is, s.count) (rows-stored stride rows (replicate folded_size 0) wide) in
    let size : length (words rows) ≡ length rows * stride = length-words stride rows wide in (
      back,
      record { stands = rw back s; asc = ap ascending back ∙ ascending_true rows asc },
      ap length s.is ∙ length-append (words rows) (drop (length (words rows)) (replicate folded_size 0)) ∙ rw (length-drop, length-replicate, size) (omega (arith, s.count, s.few)),
    )

wide-act : (bs : Bytes) (at w : ℕ) (rows : List Row) → w ≤ max_width → Wide stride rows → Wide stride (act_on bs at w rows)
unfolding delete_row
wide-act bs at w rows h wide = go (eqb (kind_at bs at) 32)
  where
    r : Row
    r = padded stride (row_in bs (at + 6) w)

    go : (t : Bool) → Wide stride (cond t (insert_row (padded stride (row_in bs (at + 6) w)) rows) (keep (λ s. not (same_row s (padded stride (row_in bs (at + 6) w)))) rows))
    go true = wide_insert stride (padded stride (row_in bs (at + 6) w)) rows (length-padded stride (row_in bs (at + 6) w) (rw (length-row_in bs (at + 6) w) h)) wide
    go false = wide-keep stride (λ s. not (same_row s (padded stride (row_in bs (at + 6) w)))) rows wide

asc-act : (bs : Bytes) (at w : ℕ) (rows : List Row) → Ascending rows → Ascending (act_on bs at w rows)
asc-act bs at w rows asc = go (eqb (kind_at bs at) 32)
  where
    go : (t : Bool) → Ascending (cond t (insert_row (padded stride (row_in bs (at + 6) w)) rows) (delete_row (padded stride (row_in bs (at + 6) w)) rows))
    go true = asc_insert (padded stride (row_in bs (at + 6) w)) rows asc
    go false = asc_delete (padded stride (row_in bs (at + 6) w)) rows asc

-- the fold so far: what is left to fold decides
pub record Folded (bs : Bytes) (t w : ℕ) (start : List Row) (words : List ℕ) (count at : ℕ) : Type 0 where
  pub table : Table words count
  pub size : length words ≡ folded_size
  pub room : count + length (remaining bs at) ≤ folded_rows
  pub events : Events bs t w (remaining bs at)
  pub same : fold_at bs t w (offsets bs) start ≡ fold_at bs t w (remaining bs at) (first_rows words count)

pub folded_start : (bs : Bytes) (t w : ℕ) (words : List ℕ) (n : ℕ) → Foldable bs t w → Table words n → n ≤ max_rows → length words ≡ folded_size → Folded bs t w (first_rows words n) words n 0
folded_start bs t w words n f tb few size =
    let all : offsets bs ≡ remaining bs 0 = remaining_all bs in
    record {
      table = tb;
      size = size;
      room = omega (arith, f.few, ap length all);
      events = rw (← all) f.events;
      same = ap (λ (l : List ℕ). fold_at bs t w l (first_rows words n)) all;
    }

module _ (bs : Bytes) (t w : ℕ) (start : List Row) (words : List ℕ) (count at : ℕ) (f : Folded bs t w start words count at) (inside : at < length bs) where
  here_whole : is_broken bs at ≡ false
  here_whole = go (is_broken bs at) refl
    where
      go : (b : Bool) → is_broken bs at ≡ b → is_broken bs at ≡ false
      go true e = (rw (remaining_broken bs at inside e) at f.events).0
      go false e = e

  next_is : remaining bs at ≡ at ∷ remaining bs (at + length_at bs at)
  next_is = remaining_whole bs at inside here_whole

  events_here : Events bs t w (at ∷ remaining bs (at + length_at bs at))
  events_here = rw next_is at f.events

  pub fold_whole : Whole bs at
  fold_whole = whole bs at here_whole

  pub fold_header : at + 6 ≤ length bs
  fold_header = events_here.1

  pub fold_inside : field_at bs at 0 ≡ t → at + 6 + 4 * w ≤ length bs
  fold_inside e = events_here.2 e

  room_here : count + suc (length (remaining bs (at + length_at bs at))) ≤ folded_rows
  room_here = omega (arith, f.room, ap length next_is)

  pub fold_room : count < folded_rows
  fold_room = omega (arith, room_here)

  -- the rows after the event at this offset
  abbrev after : List Row
  after = cond (eqb (field_at bs at 0) t) (act_on bs at w (first_rows words count)) (first_rows words count)

  after_fine : w ≤ max_width → Wide stride after × Ascending after
  after_fine narrow = go (eqb (field_at bs at 0) t)
    where
      go : (b : Bool) → Wide stride (cond b (act_on bs at w (first_rows words count)) (first_rows words count)) × Ascending (cond b (act_on bs at w (first_rows words count)) (first_rows words count))
      go true = (
        wide-act bs at w (first_rows words count) narrow (wide_rows stride words 0 count),
        asc-act bs at w (first_rows words count)
            (ascending-holds (first_rows words count) f.table.asc),
      )
      go false = (wide_rows stride words 0 count, ascending-holds (first_rows words count) f.table.asc)

  pub folded_more : (out : List ℕ) (more next : ℕ) → w ≤ max_width → StandsFolded (cond (eqb (field_at bs at 0) t) (act_on bs at w (first_rows words count)) (first_rows words count)) out more →
      more ≤ count + 1 → next ≡ at + length_at bs at → Folded bs t w start out more next
  folded_more out more next narrow s few k =
      let fine : Wide stride after × Ascending after = after_fine narrow in
      let back : (first_rows out more ≡ after) × Table out more × (length out ≡ folded_size) = stands-table after out more fine.0 fine.1 s in
      rw k (record {
        table = back.1;
        size = back.2;
        room = omega (arith, room_here);
        events = events_here.3;
        same = f.same ∙ ap (λ (l : List ℕ). fold_at bs t w l (first_rows words count)) next_is ∙ ap (fold_at bs t w (remaining bs (at + length_at bs at))) (sym back.0);
      })

pub folded_end : (bs : Bytes) (t w : ℕ) (start : List Row) (words : List ℕ) (count at : ℕ) → Folded bs t w start words count at → length bs ≤ at →
    StandsFolded (fold_at bs t w (offsets bs) start) words count
folded_end bs t w start words count at f h =
    let same : fold_at bs t w (offsets bs) start ≡ first_rows words count = f.same ∙ ap (λ (l : List ℕ). fold_at bs t w l (first_rows words count)) (remaining_none bs at h) in
    rw same f.table.stands
