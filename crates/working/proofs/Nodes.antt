-- One node worked: its new rows are ready. Assumes nothing.
use Prim.Native.Nat.{ℕ}
use mathlib.Core.List.{List}
use lib.ListN.{get_or, set, length-set, length}
use lib.Dec.{eqb}
use mathlib.Core.Path.{refl, ◌≡◌, ◌∙◌, sym, ap, ap₂}
use mathlib.Core.Bool.{Bool, cond, true, false, not}
use borrow.Author.Tests.{eqb-false}
use lib.Seq.{get_or-set_same, get_or-set_other}
use native.Mathlib.Omega.{arith}
use Rattle.network.specs.declared.Slot.{Slot}
use Rattle.model.specs.Record.{Bytes, offsets}
use Rattle.new_rows.specs.Working.{Working, Workable, old_rows, Present, present_rows, present_place, worked_rows, working}
use Rattle.working.specs.Worked.{Changes, Untold, must_work, WorksNode, next_rows, Puts}
use Rattle.places.specs.Places.{Place, Fills, relation_in}
use Rattle.areas.specs.Lent.{place_at}
use Rattle.model.specs.Areas.{row_count, layout, place_of}
use Rattle.model.specs.Row.{Wide, same_rows, Relation}
use Rattle.places.proofs.Places.{place-wide, place-ascending, place-few, place_is}
use Rattle.laws.proofs.Sets.{Ascending, ascending-holds, same_rows_refl}
use Rattle.tables.specs.Fold.{fold_rows}
use Rattle.model.specs.Network.{evaluate_on, left_of, right_of}
use Rattle.network.specs.Reading.{slot_node}
use Rattle.tables.proofs.Acts.{fold_wide, fold_asc}
use Rattle.coherence.specs.Held.{Derived}
use Rattle.laws.proofs.ByKind.{on_wide, on_asc}
use Rattle.rows.proofs.Place.{length_held}
use Rattle.places.proofs.Same.{fills_place}
use Rattle.working.proofs.Differ.{tells_none, keeps_all}

module _ (slot : Slot) (level : ℕ) (bs : Bytes) (head : List ℕ) (m : Working) (i : ℕ) (can : Workable slot level bs head m i) where
  w : ℕ
  w = get_or m.widths i 0

  old-place : Place (get_or m.widths i 0) (place_at m.rows i) (row_count head i)
  old-place = can.old

  old-wide : Wide (get_or m.widths i 0) (old_rows head m i)
  old-wide = rw (← can.old_is) (place-wide (get_or m.widths i 0) (place_at m.rows i) (row_count head i) old-place)

  old-asc : Ascending (old_rows head m i)
  old-asc = ascending-holds (old_rows head m i) (rw (← can.old_is) (place-ascending (get_or m.widths i 0) (place_at m.rows i) (row_count head i) old-place))

  present_wide : (j : ℕ) → Present m j → Wide (get_or m.widths j 0) (present_rows m j)
  present_wide j p = place-wide (get_or m.widths j 0) (present_place m j) (get_or m.counts j 0) p

  -- the rows worked have the node's width and ascend
  pub worked_fine : Wide (get_or m.widths i 0) (worked_rows slot level bs head m i) × Ascending (worked_rows slot level bs head m i)
  worked_fine = go (eqb level 0) refl
    where
      go : (t : Bool) → eqb level 0 ≡ t →
          Wide (get_or m.widths i 0)
          (cond t (fold_rows bs i (get_or m.widths i 0) (offsets bs) (old_rows head m i))
          (evaluate_on (slot_node slot) (present_rows m (left_of (slot_node slot))) (present_rows m (right_of (slot_node slot)))))
          × Ascending (cond t (fold_rows bs i (get_or m.widths i 0) (offsets bs) (old_rows head m i))
          (evaluate_on (slot_node slot) (present_rows m (left_of (slot_node slot))) (present_rows m (right_of (slot_node slot)))))
      go true e = (fold_wide bs i (get_or m.widths i 0) (offsets bs) (old_rows head m i) old-wide, fold_asc bs i (get_or m.widths i 0) (offsets bs) (old_rows head m i) old-asc)
      go false e =
          let n : level ≡ 0 → ⊥ = eqb-false level 0 e in
          let d : Derived slot m.widths i = can.derived n in (
            rw d.width
                (on_wide (get_or m.widths (left_of (slot_node slot)) 0) (get_or m.widths (right_of (slot_node slot)) 0) (slot_node slot) (present_rows m (left_of (slot_node slot)))
                (present_rows m (right_of (slot_node slot))) d.derived d.fits (present_wide (left_of (slot_node slot)) (can.left n))
                (present_wide (right_of (slot_node slot)) (can.right n))),
            on_asc (slot_node slot) (present_rows m (left_of (slot_node slot))) (present_rows m (right_of (slot_node slot)))
                (ascending-holds (present_rows m (left_of (slot_node slot)))
                (place-ascending (get_or m.widths (left_of (slot_node slot)) 0) (present_place m (left_of (slot_node slot))) (get_or m.counts (left_of (slot_node slot)) 0) (can.left n))),
          )

  module _ (due : List Bool) (d : Changes) (untold : Untold d i) where
    abbrev must : Bool
    must = must_work slot level i m.changed due

    -- a node that need not be worked keeps its rows
    pub kept_works : (due' : List Bool) → due' ≡ set due i must → must ≡ false →
        WorksNode head (next_rows slot level bs head m due i) m (working m.widths m.rows m.work (set m.counts i (row_count head i)) m.changed) d d due due' must i
    kept_works due' f e =
        record {
          worked = rw e (record {
            count = get_or-set_same m.counts i (row_count head i) 0 (omega (arith, can.sized.counts, can.inside))
                ∙ sym (length_held layout (get_or m.widths i 0) (row_count head i) m.rows i);
            few = rw (length_held layout (get_or m.widths i 0) (row_count head i) m.rows i) (place-few (get_or m.widths i 0) (place_at m.rows i) (row_count head i) old-place);
            changed = can.unchanged ∙ ap not (sym (same_rows_refl (old_rows head m i)));
            place = ap (λ (t : Bool). place_at (cond t m.work m.rows) i) can.unchanged ∙ place_is (get_or m.widths i 0) (place_at m.rows i) (row_count head i) old-place
                ∙ ap (place_of layout) can.old_is;
            tells = tells_none (old_rows head m i) (old_rows head m i) (place_at m.rows i) (place_at m.work i) d i refl untold;
          });
          others = record {
            sized = record {
              widths = can.sized.widths;
              narrow = can.sized.narrow;
              rows = can.sized.rows;
              work = can.sized.work;
              counts = length-set m.counts i (row_count head i)
                  ∙ can.sized.counts;
              changed = can.sized.changed;
            };
            counts = λ j h. get_or-set_other m.counts i j (row_count head i) 0 h;
            changed = λ j h. refl;
            work = λ j h k. refl;
          };
          keeps = keeps_all d i untold.sized;
          marks = f;
        }

  module _ (out : List ℕ) (n : ℕ) (f : Fills (worked_rows slot level bs head m i) out n) where
    here : Place (get_or m.widths i 0) out n × (relation_in (get_or m.widths i 0) out n ≡ worked_rows slot level bs head m i)
    here = fills_place (get_or m.widths i 0) (worked_rows slot level bs head m i) out n (can.sized.narrow i) worked_fine.0 worked_fine.1 f

    pub made_place : Place (get_or m.widths i 0) out n
    made_place = here.0

    -- rows worked and put
    pub put_works : (due due' : List Bool) (d d' : Changes) → due' ≡ set due i (must_work slot level i m.changed due) → must_work slot level i m.changed due ≡ true →
        (work counts : List ℕ) (changed : List Bool) →
        Puts (relation_in (get_or m.widths i 0) (place_at m.rows i) (row_count head i)) (relation_in (get_or m.widths i 0) out n) out n m (working m.widths m.rows work counts changed)
        d d' i →
        WorksNode head (next_rows slot level bs head m due i) m (working m.widths m.rows work counts changed) d d' due due' (must_work slot level i m.changed due) i
    put_works due due' d d' g e work counts changed p =
        record {
          worked = rw e (record {
            count = ap (λ (l : List ℕ). get_or l i 0) p.counts ∙ get_or-set_same m.counts i n 0 (omega (arith, can.sized.counts, can.inside)) ∙ f.count;
            few = rw (← f.count) f.few;
            changed = ap (λ (l : List Bool). get_or l i false) p.changed
                ∙ get_or-set_same m.changed i (not (same_rows (relation_in (get_or m.widths i 0) out n) (relation_in (get_or m.widths i 0) (place_at m.rows i) (row_count head i)))) false
                (omega (arith, can.sized.changed, can.inside)) ∙ ap₂ {A = Relation} {B = Relation} {C = Bool} (λ a b. not (same_rows a b)) here.1 can.old_is;
            place = p.place ∙ f.is;
            tells = rw (← here.1, ← can.old_is) p.tells;
          });
          others = record {
            sized = record {
              widths = can.sized.widths;
              narrow = can.sized.narrow;
              rows = can.sized.rows;
              work = p.work-long;
              counts = ap length p.counts ∙ length-set m.counts i n
                  ∙ can.sized.counts;
              changed = ap length p.changed
                  ∙ length-set m.changed i (not (same_rows (relation_in (get_or m.widths i 0) out n) (relation_in (get_or m.widths i 0) (place_at m.rows i) (row_count head i))))
                  ∙ can.sized.changed;
            };
            counts = λ j h. ap (λ (l : List ℕ). get_or l j 0) p.counts ∙ get_or-set_other m.counts i j n 0 h;
            changed = λ j h. ap (λ (l : List Bool). get_or l j false) p.changed
                ∙ get_or-set_other m.changed i j (not (same_rows (relation_in (get_or m.widths i 0) out n) (relation_in (get_or m.widths i 0) (place_at m.rows i) (row_count head i)))) false h;
            work = p.work;
          };
          keeps = p.keeps;
          marks = g;
        }
