-- All nodes worked, one after the other, from areas of good form. Assumes nothing.
use mathlib.Core.List.{List, [], ◌∷◌}
use Prim.Native.Nat.{ℕ, ◌<◌, ◌≤◌, ◌+◌, ◌-◌, ◌*◌, zero-le}
use lib.ListN.{length, get_or, length-set, take, replicate, length-replicate, replicate-append-replicate}
use lib.Seq.{get_or-set_same, get_or-set_other, take_at}
use mathlib.Core.Path.{◌≡◌, ◌∙◌, refl, sym, ap, ap₂}
use lib.Dec.{ltb, eqb}
use mathlib.Core.Bool.{Bool, true, false, not, cond, ◌||◌, or-false}
use borrow.Author.Tests.{ltb-true, ltb-false, eqb-true, eqb-false, ne_eqb}
use native.Mathlib.Omega.{arith}
use native.Mathlib.Nat.{le_refl, not-suc-le-zero, zero-add}
use Rattle.model.specs.Network.{Node, AllFit, widths, node_at, is_table, left_of, right_of, evaluate_on}
use Rattle.network.specs.declared.Network.{Network}
use Rattle.model.specs.Record.{Bytes, Verdict, accepted, refused, offsets}
use Rattle.propagation.specs.Propagated.{Propagatable, Unworked, Marked, tables_after, new_rows, changed_in, limit_verdict, Propagates}
use Rattle.new_rows.specs.Working.{Working, working, Present, present_rows, present_place, Workable}
use Rattle.working.specs.Worked.{Changes, told, SizedChanges, Untold, Worked, WorkedTo, must_work, next_rows, WorksNode}
use Rattle.named_tables.specs.Named.{is_named}
use Rattle.named_tables.proofs.Marks.{named_at, length-marks}
use Rattle.worklist.specs.Listed.{input_changed}
use Rattle.std.specs.Prelude.{Err, None, Ok, Option, Some}
use Rattle.std.specs.Option.{ok_or}
use Rattle.verdicts.specs.declared.Rule.TheVariants.{TooManyRows}
use Rattle.network.specs.Reading.{nodes_of, Built, no_slot, slot_node}
use Rattle.model.specs.Row.{Relation, ascending, same_rows, max_nodes, max_rows, Wide}
use Rattle.coherence.specs.Held.{rows_held, Places, held_at, Derived}
use Rattle.coherence.proofs.Coherent.{rows_held_lem, rows-length, level_derived, level_table}
use Rattle.network.proofs.Nodes.{nodes-count, width_is, slot_node_lem, narrow-widths}
use Rattle.laws.proofs.Fits.{length-widths}
use Rattle.laws.proofs.Parts.{same_at}
use Rattle.model.specs.Evaluation.{rows_at, overfull}
use Rattle.states.specs.Fitting.{Fitting}
use Rattle.rows.proofs.Place.{held_wide}
use Rattle.model.specs.Areas.{layout, row_count, tables_of, area_size, place_size}
use Rattle.places.specs.Places.{Blank}
use Rattle.rows.proofs.Words.{drop_zeros}
use Rattle.coherence.proofs.Placed.{rows_few, held_at_lem, place_at_lem}
use Rattle.places.proofs.Places.{place-ascending}
use Rattle.areas.specs.Lent.{place_at}
use Rattle.states.proofs.Tables.{Tables, act_all-tables, all_under, first-over}
use Rattle.model.specs.Batch.{read_batch}
use Rattle.states.proofs.Batches.{batch-good}
use Rattle.states.proofs.Fitted.{tables-fit, only_length}
use Rattle.propagation.proofs.News.{new-wide, new-asc, new-table, new-derived, new-length}
use Rattle.laws.proofs.Sets.{Ascending, ascending_true}
use Rattle.places.proofs.Same.{fills_place}
use Rattle.network.specs.declared.Slot.{Slot}
use Rattle.tables.proofs.Acts.{accepted-folds, acts_fold, unnamed_folds}
use Rattle.tables.specs.Fold.{fold_rows}
use Rattle.laws.proofs.Fresh.{tables_at}

-- the marks that the batch leaves for its tables
pub named_first : (bs : Bytes) (work counts : List ℕ) (changed due : List Bool) (picks sizes : List ℕ) → Unworked bs work counts changed due picks sizes → (j : ℕ) → j < max_nodes →
    get_or due j false ≡ is_named bs (offsets bs) j
named_first bs work counts changed due picks sizes u j h =
    ap (λ (l : List Bool). get_or l j false) u.due_are
    ∙ named_at bs (offsets bs) (replicate max_nodes false) j (rw (length-replicate {A = Bool} max_nodes false) h)
    ∙ ap (λ (t : Bool). is_named bs (offsets bs) j || t) (same_at false max_nodes j)
    ∙ or-false (is_named bs (offsets bs) j)

-- the first i nodes are worked, and the tables among the others are marked as the batch names them
pub record Propagating (net : Network) (rows head : List ℕ) (bs : Bytes) (work counts : List ℕ) (changed due : List Bool) (picks sizes : List ℕ) (i : ℕ) : Type 0 where
  pub within : i ≤ net.count
  pub to : WorkedTo head (new_rows net rows head bs) (working net.widths rows work counts changed) (told picks sizes) i
  pub marked : Marked net changed due i
  pub named : (j : ℕ) → i ≤ j → j < max_nodes → get_or due j false ≡ is_named bs (offsets bs) j
  pub size : length due ≡ max_nodes

module _ (net : Network) (rows head : List ℕ) (bs : Bytes) (ready : Propagatable net rows head bs) where
  abbrev nodes : List Node
  nodes = nodes_of net

  abbrev old : List Relation
  old = rows_held net rows head

  abbrev copy : List Relation
  copy = tables_after net rows head bs

  abbrev new : List Relation
  new = new_rows net rows head bs

  b : Built net
  b = ready.checkable.built

  fit : AllFit (nodes_of net)
  fit = ready.checkable.fit

  places : Places net.widths net.count rows head
  places = ready.checkable.places

  count_is : length (nodes_of net) ≡ net.count
  count_is = nodes-count net b

  pub new_many : length (new_rows net rows head bs) ≡ net.count
  new_many = new-length (nodes_of net) fit (rows_held net rows head) (tables_after net rows head bs) ∙ count_is

  widths-size : length (widths (nodes_of net)) ≡ net.count
  widths-size = length-widths (nodes_of net) ∙ count_is

  old_at : (i : ℕ) → i < net.count → rows_at (rows_held net rows head) i ≡ held_at net.widths head rows i
  old_at i h = rows_held_lem net b fit rows head i h

  -- the old rows fit
  pub old-fits : Fitting (widths (nodes_of net)) (rows_held net rows head)
  old-fits =
      record {
        size = rows-length net b fit rows head ∙ sym (length-widths (nodes_of net));
        few = rw widths-size places.few;
        narrow = narrow-widths net b;
        wide = λ i h. let k : i < net.count = rw widths-size at h in rw (old_at i k, width_is net b i k) (held_wide layout (get_or net.widths i 0) (row_count head i) rows i);
        small = λ i h. let k : i < net.count = rw widths-size at h in rw (old_at i k) (rows_few net.widths net.count rows head places i k);
        asc = λ i h. let k : i < net.count = rw widths-size at h in rw (old_at i k)
            (ap ascending (sym (held_at_lem net.widths net.count rows head places i k)) ∙ place-ascending (get_or net.widths i 0) (place_at rows i) (row_count head i)
            (place_at_lem net.widths net.count rows head places i k));
      }

  pub copy_tables : Tables (nodes_of net) (tables_after net rows head bs)
  copy_tables = act_all-tables (nodes_of net) (read_batch (nodes_of net) bs).events (tables_of (nodes_of net) (rows_held net rows head)) (batch-good (nodes_of net) bs)
      (tables-fit (nodes_of net) (rows_held net rows head) old-fits)

  in_nodes : (i : ℕ) → i < net.count → i < length (nodes_of net)
  in_nodes i h = rw count_is h

  new-wide_at : (i : ℕ) → i < net.count → Wide (get_or net.widths i 0) (rows_at (new_rows net rows head bs) i)
  new-wide_at i h = rw (← width_is net b i h) (new-wide (nodes_of net) fit (rows_held net rows head) (tables_after net rows head bs) old-fits copy_tables i (in_nodes i h))

  new-asc_at : (i : ℕ) → i < net.count → Ascending (rows_at (new_rows net rows head bs) i)
  new-asc_at i h = new-asc (nodes_of net) fit (rows_held net rows head) (tables_after net rows head bs) old-fits copy_tables i (in_nodes i h)

  module _ (work counts : List ℕ) (changed : List Bool) (d : Changes) where
    abbrev m : Working
    m = working net.widths rows work counts changed

    -- a node's new rows that are ready are read back
    present_at : (j : ℕ) → j < net.count → Worked head (working net.widths rows work counts changed) d (rows_at (new_rows net rows head bs) j) j →
        Present (working net.widths rows work counts changed) j × (present_rows (working net.widths rows work counts changed) j ≡ rows_at (new_rows net rows head bs) j)
    present_at j h k =
        fills_place (get_or net.widths j 0) (rows_at (new_rows net rows head bs) j) (present_place (working net.widths rows work counts changed) j) (get_or counts j 0) (b.narrow j)
        (new-wide_at j h) (new-asc_at j h)
        (record { count = k.count; few = rw k.count k.few; is = k.place })

    flag_at : (j : ℕ) → j < net.count → Worked head (working net.widths rows work counts changed) d (rows_at (new_rows net rows head bs) j) j → get_or changed j false
        ≡ changed_in (rows_held net rows head) (new_rows net rows head bs) j
    flag_at j h k = k.changed ∙ ap (λ (r : Relation). not (same_rows (rows_at (new_rows net rows head bs) j) r)) (sym (old_at j h))

    module _ (i : ℕ) (inside : i < net.count) (to : WorkedTo head (new_rows net rows head bs) (working net.widths rows work counts changed) d i) where
      abbrev slot : Slot
      slot = get_or net.slots i no_slot

      abbrev level : ℕ
      level = get_or net.levels i 0

      node_is : node_at (nodes_of net) i ≡ slot_node (get_or net.slots i no_slot)
      node_is = slot_node_lem net b i inside

      -- the next node can be worked
      pub can_work : Workable (get_or net.slots i no_slot) (get_or net.levels i 0) bs head (working net.widths rows work counts changed) i
      can_work =
          let v : (get_or net.levels i 0 ≡ 0 → ⊥) → Derived (get_or net.slots i no_slot) net.widths i = level_derived net b fit i inside in
          record {
            sized = to.sized;
            inside = omega (arith, inside, places.few);
            head-long = places.head-long;
            old = place_at_lem net.widths net.count rows head places i inside;
            old_is = held_at_lem net.widths net.count rows head places i inside;
            unchanged = to.unchanged i (le_refl i);
            blank = to.blank i (le_refl i) (omega (arith, inside, places.few));
            table = λ e. rw (← width_is net b i inside) (accepted-folds (nodes_of net) bs i ready.accepts (narrow-widths net b i));
            derived = v;
            left = λ n. (present_at (left_of (slot_node (get_or net.slots i no_slot))) (omega (arith, inside, (v n).left))
                (to.worked (left_of (slot_node (get_or net.slots i no_slot))) (v n).left)).0;
            right = λ n. (present_at (right_of (slot_node (get_or net.slots i no_slot))) (omega (arith, inside, (v n).right))
                (to.worked (right_of (slot_node (get_or net.slots i no_slot))) (v n).right)).0;
          }

      table_is : get_or net.levels i 0 ≡ 0 → fold_rows bs i (get_or net.widths i 0) (offsets bs) (held_at net.widths head rows i) ≡ rows_at (new_rows net rows head bs) i
      table_is e =
          let t : is_table (node_at (nodes_of net) i) ≡ true = ap is_table node_is ∙ level_table net b fit i inside e in
          let k : i < length (nodes_of net) = in_nodes i inside in
          let long : length (rows_held net rows head) ≡ length (nodes_of net) = rows-length net b fit rows head in
          let own : rows_at (tables_of (nodes_of net) (rows_held net rows head)) i ≡ held_at net.widths head rows i = tables_at (nodes_of net) (rows_held net rows head) i long k
          ∙ ap (λ (x : Bool). cond x (rows_at (rows_held net rows head) i) []) t ∙ old_at i inside in
          sym
          (new-table (nodes_of net) fit (rows_held net rows head) (tables_after net rows head bs) i k t
          ∙ acts_fold (nodes_of net) bs i ready.accepts (tables_of (nodes_of net) (rows_held net rows head)) (rw (only_length (nodes_of net) (rows_held net rows head) long) k)
          ∙ ap₂ {A = ℕ} {B = Relation} {C = Relation} (λ w r. fold_rows bs i w (offsets bs) r) (width_is net b i inside) own)

      derived_is : (get_or net.levels i 0 ≡ 0 → ⊥) →
          cond (input_changed (get_or net.slots i no_slot) changed)
          (evaluate_on (slot_node (get_or net.slots i no_slot)) (present_rows (working net.widths rows work counts changed) (left_of (slot_node (get_or net.slots i no_slot))))
          (present_rows (working net.widths rows work counts changed) (right_of (slot_node (get_or net.slots i no_slot))))) (held_at net.widths head rows i)
          ≡ rows_at (new_rows net rows head bs) i
      derived_is n =
          let v : Derived (get_or net.slots i no_slot) net.widths i = level_derived net b fit i inside n in
          let kind : is_table (node_at (nodes_of net) i) ≡ false = ap is_table node_is ∙ v.derived in
          let wl : Worked head (working net.widths rows work counts changed) d (rows_at (new_rows net rows head bs) (left_of (slot_node (get_or net.slots i no_slot))))
          (left_of (slot_node (get_or net.slots i no_slot))) = to.worked (left_of (slot_node (get_or net.slots i no_slot))) v.left in
          let wr : Worked head (working net.widths rows work counts changed) d (rows_at (new_rows net rows head bs) (right_of (slot_node (get_or net.slots i no_slot))))
          (right_of (slot_node (get_or net.slots i no_slot))) = to.worked (right_of (slot_node (get_or net.slots i no_slot))) v.right in
          let il : left_of (slot_node (get_or net.slots i no_slot)) < net.count = omega (arith, inside, v.left) in
          let ir : right_of (slot_node (get_or net.slots i no_slot)) < net.count = omega (arith, inside, v.right) in
          let flags : input_changed (get_or net.slots i no_slot) changed
          ≡ (changed_in (rows_held net rows head) (new_rows net rows head bs) (left_of (slot_node (get_or net.slots i no_slot))) || changed_in (rows_held net rows head) (new_rows net rows head bs)
          (right_of (slot_node (get_or net.slots i no_slot)))) = ap₂ {A = Bool} {B = Bool} {C = Bool} (λ x y. x || y) (flag_at (left_of (slot_node (get_or net.slots i no_slot))) il wl)
          (flag_at (right_of (slot_node (get_or net.slots i no_slot))) ir wr) in
          let given : evaluate_on (slot_node (get_or net.slots i no_slot)) (present_rows (working net.widths rows work counts changed) (left_of (slot_node (get_or net.slots i no_slot))))
          (present_rows (working net.widths rows work counts changed) (right_of (slot_node (get_or net.slots i no_slot))))
          ≡ evaluate_on (slot_node (get_or net.slots i no_slot)) (rows_at (new_rows net rows head bs) (left_of (slot_node (get_or net.slots i no_slot))))
          (rows_at (new_rows net rows head bs) (right_of (slot_node (get_or net.slots i no_slot)))) = ap₂ {A = Relation} {B = Relation} {C = Relation}
          (λ x y. evaluate_on (slot_node (get_or net.slots i no_slot)) x y) (present_at (left_of (slot_node (get_or net.slots i no_slot))) il wl).1
          (present_at (right_of (slot_node (get_or net.slots i no_slot))) ir wr).1 in
          ap (λ (t : Bool). cond t
          (evaluate_on (slot_node (get_or net.slots i no_slot)) (present_rows (working net.widths rows work counts changed) (left_of (slot_node (get_or net.slots i no_slot))))
          (present_rows (working net.widths rows work counts changed) (right_of (slot_node (get_or net.slots i no_slot))))) (held_at net.widths head rows i)) flags
          ∙ ap₂ {A = Relation} {B = Relation} {C = Relation}
          (λ x y. cond (changed_in (rows_held net rows head) (new_rows net rows head bs) (left_of (slot_node (get_or net.slots i no_slot))) || changed_in (rows_held net rows head)
          (new_rows net rows head bs) (right_of (slot_node (get_or net.slots i no_slot)))) x y) given (sym (old_at i inside))
          ∙ ap (λ (n : Node). cond (changed_in (rows_held net rows head) (new_rows net rows head bs) (left_of n) || changed_in (rows_held net rows head) (new_rows net rows head bs) (right_of n))
          (evaluate_on n (rows_at (new_rows net rows head bs) (left_of n)) (rows_at (new_rows net rows head bs) (right_of n))) (rows_at (rows_held net rows head) i)) (sym node_is)
          ∙ sym (new-derived (nodes_of net) fit (rows_held net rows head) (tables_after net rows head bs) i (in_nodes i inside) kind)

      module _ (due : List Bool) (named : get_or due i false ≡ is_named bs (offsets bs) i) where
        abbrev must : Bool
        must = must_work (get_or net.slots i no_slot) (get_or net.levels i 0) i changed due

        -- what it gives are its new rows
        pub next_is : next_rows (get_or net.slots i no_slot) (get_or net.levels i 0) bs head (working net.widths rows work counts changed) due i ≡ rows_at (new_rows net rows head bs) i
        next_is = go (eqb (get_or net.levels i 0) 0) refl
          where
            event : (t : Bool) → get_or due i false ≡ t → get_or net.levels i 0 ≡ 0 →
                cond t (fold_rows bs i (get_or net.widths i 0) (offsets bs) (held_at net.widths head rows i)) (held_at net.widths head rows i) ≡ rows_at (new_rows net rows head bs) i
            event true f e = table_is e
            event false f e = sym (unnamed_folds bs i (get_or net.widths i 0) (offsets bs) (held_at net.widths head rows i) (sym named ∙ f)) ∙ table_is e

            go : (t : Bool) → eqb (get_or net.levels i 0) 0 ≡ t →
                cond (cond t (get_or due i false) (input_changed (get_or net.slots i no_slot) changed))
                (cond t (fold_rows bs i (get_or net.widths i 0) (offsets bs) (held_at net.widths head rows i))
                (evaluate_on (slot_node (get_or net.slots i no_slot)) (present_rows (working net.widths rows work counts changed) (left_of (slot_node (get_or net.slots i no_slot))))
                (present_rows (working net.widths rows work counts changed) (right_of (slot_node (get_or net.slots i no_slot)))))) (held_at net.widths head rows i)
                ≡ rows_at (new_rows net rows head bs) i
            go true e = event (get_or due i false) refl (eqb-true (get_or net.levels i 0) 0 e)
            go false e = derived_is (eqb-false (get_or net.levels i 0) 0 e)

        module _ (work' counts' : List ℕ) (changed' : List Bool) (d' : Changes) (due' : List Bool)
            (k : WorksNode head (next_rows (get_or net.slots i no_slot) (get_or net.levels i 0) bs head (working net.widths rows work counts changed) due i)
            (working net.widths rows work counts changed) (working net.widths rows work' counts' changed') d d' due due'
            (must_work (get_or net.slots i no_slot) (get_or net.levels i 0) i changed due) i) where
          in_all : (j : ℕ) → j < i → j < max_nodes
          in_all j h = omega (arith, h, inside, places.few)

          -- one node more
          pub worked_more : WorkedTo head (new_rows net rows head bs) (working net.widths rows work' counts' changed') d' (i + 1)
          worked_more =
              record {
                sized = k.others.sized;
                told = k.keeps.sized;
                worked = λ j h. go j h (ltb j i) refl;
                unchanged = λ j h. k.others.changed j (λ e. absurd (omega (arith, h, e))) ∙ to.unchanged j (omega arith);
                uncounted = λ j h. k.others.counts j (λ e. absurd (omega (arith, h, e))) ∙ to.uncounted j (omega arith);
                untold = λ j h g.
                    let n : j ≡ i → ⊥ = λ e. absurd (omega (arith, h, e)) in
                    let u : Untold d j = to.untold j (omega arith) g in
                    record { sized = k.keeps.sized; gains = k.keeps.gains j g n ∙ u.gains; losses = k.keeps.losses j n ∙ u.losses };
                blank = λ j h g. k.others.work j g (λ e. absurd (omega (arith, h, e))) ∙ to.blank j (omega arith) g;
              }
            where
              others : (j : ℕ) → j < i → Worked head (working net.widths rows work' counts' changed') d' (rows_at (new_rows net rows head bs) j) j
              others j h =
                  let n : j ≡ i → ⊥ = λ e. absurd (omega (arith, h, e)) in
                  let before : Worked head (working net.widths rows work counts changed) d (rows_at (new_rows net rows head bs) j) j = to.worked j h in
                  let flag : get_or changed' j false ≡ get_or changed j false = k.others.changed j n in
                  let put : place_at work' j ≡ place_at work j = k.others.work j (in_all j h) n in
                  record {
                    count = k.others.counts j n ∙ before.count;
                    few = before.few;
                    changed = flag ∙ before.changed;
                    place = ap (λ (t : Bool). place_at (cond t work' rows) j) flag ∙ same (get_or changed j false) put ∙ before.place;
                    tells = record {
                      came = rw (put, k.keeps.picks j n, k.keeps.gains j (in_all j h) n) before.tells.came;
                      gone = rw (k.keeps.picks j n, k.keeps.losses j n) before.tells.gone;
                    };
                  }
                where
                  same : (t : Bool) → place_at work' j ≡ place_at work j → place_at (cond t work' rows) j ≡ place_at (cond t work rows) j
                  same true e = e
                  same false e = refl

              go : (j : ℕ) → j < i + 1 → (t : Bool) → ltb j i ≡ t → Worked head (working net.widths rows work' counts' changed') d' (rows_at (new_rows net rows head bs) j) j
              go j h true e = others j (ltb-true j i e)
              go j h false e =
                  let g : i ≤ j = ltb-false j i e in
                  let same : j ≡ i = omega arith in
                  rw (same, ← next_is) k.worked

          -- what is said of a node's inputs still holds
          still : (j : ℕ) → j ≤ i → (get_or net.levels j 0 ≡ 0 → ⊥) → input_changed (get_or net.slots j no_slot) changed ≡ input_changed (get_or net.slots j no_slot) changed'
          still j h n =
              let v : Derived (get_or net.slots j no_slot) net.widths j = level_derived net b fit j (omega (arith, h, inside)) n in
              ap₂ {A = Bool} {B = Bool} {C = Bool} (λ x y. x || y)
              (sym (k.others.changed (left_of (slot_node (get_or net.slots j no_slot))) (λ e. absurd (omega (arith, h, e, v.left)))))
              (sym (k.others.changed (right_of (slot_node (get_or net.slots j no_slot))) (λ e. absurd (omega (arith, h, e, v.right)))))

          -- one mark more
          pub marked_more : length due ≡ max_nodes → Marked net changed due i → Marked net changed' due' (i + 1)
          marked_more size marked j h n = go (ltb j i) refl
            where
              go : (t : Bool) → ltb j i ≡ t → get_or due' j false ≡ input_changed (get_or net.slots j no_slot) changed'
              go true e =
                  let g : j < i = ltb-true j i e in
                  ap (λ (l : List Bool). get_or l j false) k.marks ∙ get_or-set_other due i j must false (λ z. absurd (omega (arith, g, z))) ∙ marked j g n ∙ still j (omega arith) n
              go false e =
                  let g : i ≤ j = ltb-false j i e in
                  let same : j ≡ i = omega arith in
                  let derived : get_or net.levels i 0 ≡ 0 → ⊥ = rw same at n in
                  rw same
                  (ap (λ (l : List Bool). get_or l i false) k.marks ∙ get_or-set_same due i must false (omega (arith, size, inside, places.few))
                  ∙ ap (λ (t : Bool). cond t (get_or due i false) (input_changed (get_or net.slots i no_slot) changed)) (ne_eqb (get_or net.levels i 0) 0 derived) ∙ still i (le_refl i) derived)

          -- the tables that are still to be worked are marked as before
          pub named_more : (j : ℕ) → i + 1 ≤ j → get_or due' j false ≡ get_or due j false
          named_more j h = ap (λ (l : List Bool). get_or l j false) k.marks ∙ get_or-set_other due i j must false (λ z. absurd (omega (arith, h, z)))

  -- the new rows fit once all nodes are worked
  pub new-fits : (m : Working) (d : Changes) → WorkedTo head (new_rows net rows head bs) m d net.count → Fitting (widths (nodes_of net)) (new_rows net rows head bs)
  new-fits m d to =
      record {
        size = new-length (nodes_of net) fit (rows_held net rows head) (tables_after net rows head bs) ∙ sym (length-widths (nodes_of net));
        few = old-fits.few;
        narrow = narrow-widths net b;
        wide = λ i h. new-wide (nodes_of net) fit (rows_held net rows head) (tables_after net rows head bs) old-fits copy_tables i (rw (length-widths (nodes_of net)) at h);
        small = λ i h. (to.worked i (rw widths-size at h)).few;
        asc = λ i h. ascending_true (rows_at (new_rows net rows head bs) i)
            (new-asc (nodes_of net) fit (rows_held net rows head) (tables_after net rows head bs) old-fits copy_tables i (rw (length-widths (nodes_of net)) at h));
      }

  -- no node worked yet
  pub worked_none : (work counts : List ℕ) (changed due : List Bool) (picks sizes : List ℕ) → Unworked bs work counts changed due picks sizes →
      WorkedTo head (new_rows net rows head bs) (working net.widths rows work counts changed) (told picks sizes) 0
  worked_none work counts changed due picks sizes u = rw (u.work_is, u.counts-are, u.changed_is, u.sizes-are)
      (record {
        sized = record {
          widths = b.widths-length;
          narrow = b.narrow;
          rows = places.rows_long;
          work = length-replicate {A = ℕ} area_size 0;
          counts = length-replicate {A = ℕ} max_nodes 0;
          changed = length-replicate {A = Bool} max_nodes false;
        };
        told = nothing;
        worked = λ j h. absurd (not-suc-le-zero h);
        unchanged = λ j h. same_at false max_nodes j;
        uncounted = λ j h. same_at 0 max_nodes j;
        untold = λ j h g. record { sized = nothing; gains = same_at 0 (2 * max_nodes) j; losses = same_at 0 (2 * max_nodes) (max_nodes + j) };
        blank = λ j h g. zeros_place j g;
      })
    where
      nothing : SizedChanges (told picks (replicate (2 * max_nodes) 0))
      nothing = record { picks = u.picks-long; sizes = length-replicate {A = ℕ} (2 * max_nodes) 0 }

      zeros_place : (j : ℕ) → j < max_nodes → Blank (place_at (replicate area_size 0) j)
      zeros_place j h =
          let cut : j * place_size + place_size - j * place_size ≡ place_size = omega arith in
          let long : place_size + (area_size - j * place_size - place_size) ≡ area_size - j * place_size = omega arith in
          ap (take (j * place_size + place_size - j * place_size)) (drop_zeros (j * place_size) area_size)
          ∙ ap₂ {A = ℕ} {B = ℕ} {C = List ℕ} (λ k n. take k (replicate n 0)) cut (sym long)
          ∙ ap (take place_size) (sym (replicate-append-replicate {A = ℕ} place_size (area_size - j * place_size - place_size) 0))
          ∙ take_at (replicate {A = ℕ} place_size 0) (replicate (area_size - j * place_size - place_size) 0) place_size (length-replicate {A = ℕ} place_size 0)

  -- ---- node after node

  pub propagating_none : (work counts : List ℕ) (changed due : List Bool) (picks sizes : List ℕ) → Unworked bs work counts changed due picks sizes → Propagating net rows head bs work counts
      changed due picks sizes 0
  propagating_none work counts changed due picks sizes u =
      record {
        within = zero-le;
        to = worked_none work counts changed due picks sizes u;
        marked = λ j h. absurd (not-suc-le-zero h);
        named = λ j h k. named_first bs work counts changed due picks sizes u j k;
        size = length-marks bs due u.due_are;
      }

  module _ (work counts : List ℕ) (changed due : List Bool) (picks sizes : List ℕ) (i : ℕ) (h : i < net.count) (p : Propagating net rows head bs work counts changed due picks sizes i) where
    in_marks : i < max_nodes
    in_marks = omega (arith, h, places.few)

    pub ready_node : Workable (get_or net.slots i no_slot) (get_or net.levels i 0) bs head (working net.widths rows work counts changed) i × Untold (told picks sizes) i × (i < length due)
    ready_node = (can_work work counts changed (told picks sizes) i h p.to, p.to.untold i (le_refl i) in_marks, rw p.size in_marks)

    -- what working it gives are its new rows
    pub next-rows : next_rows (get_or net.slots i no_slot) (get_or net.levels i 0) bs head (working net.widths rows work counts changed) due i ≡ rows_at (new_rows net rows head bs) i
    next-rows = next_is work counts changed (told picks sizes) i h p.to due (p.named i (le_refl i) in_marks)

    pub propagating_more : (work' counts' : List ℕ) (changed' due' : List Bool) (picks' sizes' : List ℕ) →
        WorksNode head (next_rows (get_or net.slots i no_slot) (get_or net.levels i 0) bs head (working net.widths rows work counts changed) due i)
        (working net.widths rows work counts changed) (working net.widths rows work' counts' changed') (told picks sizes) (told picks' sizes') due due'
        (must_work (get_or net.slots i no_slot) (get_or net.levels i 0) i changed due) i → Propagating net rows head bs work' counts' changed' due' picks' sizes' (i + 1)
    propagating_more work' counts' changed' due' picks' sizes' k =
        let n = p.named i (le_refl i) in_marks in
        record {
          within = omega arith;
          to = worked_more work counts changed (told picks sizes) i h p.to due n work' counts' changed' (told picks' sizes') due' k;
          marked = marked_more work counts changed (told picks sizes) i h p.to due n work' counts' changed' (told picks' sizes') due' k p.size p.marked;
          named = λ j g f. named_more work counts changed (told picks sizes) i h p.to due n work' counts' changed' (told picks' sizes') due' k j g ∙ p.named j (omega arith) f;
          size = ap length k.marks ∙ length-set due i (must_work (get_or net.slots i no_slot) (get_or net.levels i 0) i changed due) ∙ p.size;
        }

-- ---- the verdict

-- the refusal where nothing is worked
pub refused_with : {X E : Type 0} (o : Option X) (e x : E) → Err x ≡ ok_or o e → x ≡ e
refused_with (Some y) e x f = absurd cc
refused_with None e x f = cc

module _ (head : List ℕ) (new : List Relation) (net : Network) (m : Working) (d : Changes) (due : List Bool) (many : length new ≡ net.count) where
  pub propagates_over : (i : ℕ) → i < net.count → max_rows < length (rows_at new i) → ((j : ℕ) → j < i → length (rows_at new j) ≤ max_rows) →
      Propagates head new net m d due (Err (record { rule = TooManyRows; place = i }))
  propagates_over i h o u =
      let first : (rest : List ℕ) × (overfull 0 new ≡ (0 + i) ∷ rest) = first-over 0 new i (rw many h) o u in
      record {
        verdict = sym (ap limit_verdict first.1 ∙ ap (refused 14) (zero-add i));
        worked = λ e. absurd (refused-not e);
        marked = λ e. absurd (refused-not e);
      }
    where
      refused-not : {i : ℕ} → refused 14 i ≡ accepted → ⊥
      refused-not e = let z : ◌≡◌ {A = ℕ} 14 0 = ap (λ (v : Verdict). v.number) e in omega arith

  pub propagates_all : (u : Unit {0}) → WorkedTo head new m d net.count → Marked net m.changed due net.count → Propagates head new net m d due (Ok u)
  propagates_all u w k =
      record { verdict = sym (ap limit_verdict (all_under 0 new (λ i h. (w.worked i (rw many at h)).few))); worked = λ e. w; marked = λ e. k }
