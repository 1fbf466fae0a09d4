-- One node written: what writing it asks, and what it leaves. Assumes nothing.
use Prim.Native.Nat.{ℕ, ◌+◌, ◌-◌, ◌*◌, ◌≤◌}
use native.Mathlib.Omega.{arith}
use mathlib.Core.Bool.{Bool, true, false, cond}
use mathlib.Core.List.{List}
use mathlib.Core.Path.{◌≡◌, ap, sym, ◌∙◌}
use lib.ListN.{length, get_or, take, drop, length-drop}
use lib.Seq.{length-take-le, paste}
use Rattle.model.specs.Row.{Row, Relation, Wide, max_rows}
use Rattle.model.specs.Algebra.{difference_rows}
use Rattle.model.specs.Areas.{layout, place_of, row_count, gained_count, lost_count, place_size, stride}
use Rattle.rows.specs.Rows.{words}
use Rattle.areas.specs.Lent.{place_at}
use Rattle.places.specs.Places.{Place, relation_in}
use Rattle.places.proofs.Places.{place-few, place-count, place_is, place-wide}
use Rattle.states.proofs.Changes.{less_wide, less_short}
use Rattle.differences.specs.Differences.{chosen, picks_size}
use Rattle.working.specs.Worked.{told, picks_at, gains_at, losses_at, Picked}
use Rattle.placing.specs.Placing.{placed, cleared_rest}
use Rattle.placing.proofs.Placing.{placed_same, placed-words}
use Rattle.changes.specs.Written.{Writable, WritesNode}

-- ---- one place

-- rows by their numbers over a place
pub picked_over : (area : List ℕ) (i n m w : ℕ) (rel : Relation) → i * place_size + place_size ≤ length area → Place w (place_at area i) m → Wide w rel → n ≤ max_rows → (src numbers : List ℕ) →
    Picked rel src numbers n → (part : List ℕ) → part ≡ paste area (i * place_size) (words (chosen src (take n numbers))) (n * stride) → cleared_rest part i n m ≡ placed area i rel
picked_over area i n m w rel fits p wide few src numbers k part e =
    placed-words area i n m w rel fits p wide k.count few part (e ∙ ap (λ (l : List Row). paste area (i * place_size) (words l) (n * stride)) k.rows)

-- ---- one node

module _ (rows gained lost head work counts : List ℕ) (changed : List Bool) (picks sizes : List ℕ) (i : ℕ) (o : Writable rows gained lost head work counts changed picks sizes i) where
  abbrev old : Relation
  old = relation_in o.width (place_at rows i) (row_count head i)

  abbrev new : Relation
  new = relation_in o.width (place_at (cond (get_or changed i false) work rows) i) (get_or counts i 0)

  pub new-few : get_or counts i 0 ≤ max_rows
  new-few = place-few o.width (place_at (cond (get_or changed i false) work rows) i) (get_or counts i 0) o.new_at

  pub old-few : row_count head i ≤ max_rows
  old-few = place-few o.width (place_at rows i) (row_count head i) o.old_at

  pub gained-few : gained_count head i ≤ max_rows
  gained-few = place-few o.width (place_at gained i) (gained_count head i) o.gained_at

  pub lost-few : lost_count head i ≤ max_rows
  lost-few = place-few o.width (place_at lost i) (lost_count head i) o.lost_at

  new-size : length new ≡ get_or counts i 0
  new-size = place-count o.width (place_at (cond (get_or changed i false) work rows) i) (get_or counts i 0) o.new_at

  old-size : length old ≡ row_count head i
  old-size = place-count o.width (place_at rows i) (row_count head i) o.old_at

  pub came-few : gains_at (told picks sizes) i ≤ max_rows
  came-few = omega (arith, o.tells.came.count, less_short new old, new-size, new-few)

  pub gone-few : losses_at (told picks sizes) i ≤ max_rows
  gone-few = omega (arith, o.tells.gone.count, less_short old new, old-size, old-few)

  pub numbers_long : length (picks_at picks i) ≡ picks_size
  numbers_long =
      let e : i * picks_size + picks_size - i * picks_size ≡ picks_size = omega arith in
      ap (λ (k : ℕ). length (take k (drop (i * picks_size) picks))) e
      ∙ length-take-le picks_size (drop (i * picks_size) picks) (rw (length-drop (i * picks_size) picks, o.told-long.picks) (omega (arith, o.inside)))

  module _ (gained' lost' : List ℕ)
      (g : (w : ℕ) (rel : Relation) → Wide w rel → Place w (place_at gained i) (gained_count head i) → Picked rel (place_at work i) (picks_at picks i) (gains_at (told picks sizes) i) →
      gained' ≡ placed gained i rel)
      (l : (w : ℕ) (rel : Relation) → Wide w rel → Place w (place_at lost i) (lost_count head i) → Picked rel (place_at rows i) (drop max_rows (picks_at picks i)) (losses_at (told picks sizes) i) →
      lost' ≡ placed lost i rel) where
    gained_is : gained' ≡ placed gained i (difference_rows new old)
    gained_is = g o.width (difference_rows new old)
        (less_wide o.width new old (place-wide o.width (place_at (cond (get_or changed i false) work rows) i) (get_or counts i 0) o.new_at)) o.gained_at o.tells.came

    lost_is : lost' ≡ placed lost i (difference_rows old new)
    lost_is = l o.width (difference_rows old new) (less_wide o.width old new (place-wide o.width (place_at rows i) (row_count head i) o.old_at)) o.lost_at o.tells.gone

    -- a node that changed
    pub node-changed : get_or changed i false ≡ true → (rows' : List ℕ) →
        ((w : ℕ) → Place w (place_at work i) (get_or counts i 0) → Place w (place_at rows i) (row_count head i) → rows' ≡ placed rows i (relation_in w (place_at work i) (get_or counts i 0))) →
        WritesNode old new rows gained lost rows' gained' lost' i
    node-changed e rows' r =
        record {
          rows_are = r o.width (rw e at o.new_at) o.old_at
              ∙ ap (λ (t : Bool). placed rows i (relation_in o.width (place_at (cond t work rows) i) (get_or counts i 0))) (sym e);
          gained-are = gained_is;
          lost-are = lost_is;
        }

    -- a node that did not
    pub node_kept : get_or changed i false ≡ false → WritesNode old new rows gained lost rows gained' lost' i
    node_kept e =
        let stands : Place o.width (place_at rows i) (get_or counts i 0) = rw e at o.new_at in
        let same : new ≡ relation_in o.width (place_at rows i) (get_or counts i 0) = ap (λ (t : Bool). relation_in o.width (place_at (cond t work rows) i) (get_or counts i 0)) e in
        let is : place_at rows i ≡ place_of layout new = place_is o.width (place_at rows i) (get_or counts i 0) stands ∙ ap (place_of layout) (sym same) in
        record {
          rows_are = placed_same rows i (omega (arith, o.inside, o.rows_long)) new (sym (ap length is) ∙ stands.long) is;
          gained-are = gained_is;
          lost-are = lost_is;
        }
