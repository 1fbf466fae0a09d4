-- Folding a batch's events on a table's rows in words is the plain station's acting on that table. Assumes nothing.
use mathlib.Core.Bool.{Bool, cond, true, false, not, ◌||◌, ◌&&◌, true≢false}
use Prim.Native.Nat.{◌+◌, ◌<◌, ◌≤◌, ◌*◌, zero-le, ℕ}
use mathlib.Core.List.{map, ◌∷◌, ◌++◌, append-nil, append_assoc, [], List}
use mathlib.Core.Path.{◌≡◌, refl, ap, ◌∙◌, sym}
use lib.Dec.{eqb, leb, ltb}
use native.Mathlib.Omega.{arith}
use lib.ListN.{get_or, length, length-append, set, length-set}
use borrow.Author.Tests.{leb-false, leb-true, ltb-true, eqb-true, eqb-false}
use lib.Seq.{get_or-set_same, get_or-set_other}
use Rattle.model.specs.Record.{Bytes, field_at, kind_at, first_broken, rule, is_broken, length_at, is_accepted, refused, offsets}
use Rattle.model.specs.Row.{Relation, insert_row, delete_row, same_row, max_width, max_nodes, Wide}
use Rattle.laws.proofs.Widths.{wide_insert, wide-keep}
use Rattle.model.specs.Batch.{row_in, event_fault, event_fits, read_events, event_at, act, event_of, put, remove, act_all, read_batch, Event}
use Rattle.laws.proofs.Events.{length-row_in}
use Rattle.model.specs.Areas.{padded, stride}
use Rattle.tables.specs.Fold.{fold_at, fold_rows, act_on, act_in, Events, Foldable}
use Rattle.model.specs.Network.{Node, widths, is_table, node_at}
use Rattle.laws.proofs.Sets.{and_first, and_second, Ascending, asc_insert, asc_delete}
use Rattle.records.proofs.Header.{Whole, whole}
use Rattle.named_tables.specs.Named.{is_named, NamesNodes}
use Rattle.model.specs.Evaluation.{rows_at}
use Rattle.rows.proofs.Padding.{insert_padded, delete_padded}
use Rattle.model.specs.Batch.{max_events}

-- ---- rows in words and relations

wide_one : (bs : Bytes) (at w : ℕ) (rel : Relation) (k : Bool) → Wide w rel → Wide w (cond k (insert_row (row_in bs (at + 6) w) rel) (delete_row (row_in bs (at + 6) w) rel))
unfolding delete_row
wide_one bs at w rel true h = wide_insert w (row_in bs (at + 6) w) rel (length-row_in bs (at + 6) w) h
wide_one bs at w rel false h = wide-keep w (λ s. not (same_row s (row_in bs (at + 6) w))) rel h

padded_one : (bs : Bytes) (at w : ℕ) (rel : Relation) (k : Bool) → Wide w rel →
    cond k (insert_row (padded stride (row_in bs (at + 6) w)) (map (padded stride) rel)) (delete_row (padded stride (row_in bs (at + 6) w)) (map (padded stride) rel))
    ≡ map (padded stride) (cond k (insert_row (row_in bs (at + 6) w) rel) (delete_row (row_in bs (at + 6) w) rel))
padded_one bs at w rel true h = insert_padded stride w (row_in bs (at + 6) w) rel (length-row_in bs (at + 6) w) h
padded_one bs at w rel false h = delete_padded stride w (row_in bs (at + 6) w) rel (length-row_in bs (at + 6) w) h

-- the fold of rows in words is that of the relation
pub fold_padded : (bs : Bytes) (t w : ℕ) (ats : List ℕ) (rel : Relation) → Wide w rel → fold_at bs t w ats (map (padded stride) rel) ≡ map (padded stride) (fold_rows bs t w ats rel)
fold_padded bs t w [] rel h = refl
fold_padded bs t w (at ∷ ats) rel h = go (eqb (field_at bs at 0) t) (fold_padded bs t w ats)
  where
    go : (b : Bool) → ((rel : Relation) → Wide w rel → fold_at bs t w ats (map (padded stride) rel) ≡ map (padded stride) (fold_rows bs t w ats rel)) →
        fold_at bs t w ats (cond b (act_on bs at w (map (padded stride) rel)) (map (padded stride) rel)) ≡ map (padded stride) (fold_rows bs t w ats (cond b (act_in (λ r. r) bs at w rel) rel))
    go true ih = ap (fold_at bs t w ats) (padded_one bs at w rel (eqb (kind_at bs at) 32) h)
        ∙ ih (cond (eqb (kind_at bs at) 32) (insert_row (row_in bs (at + 6) w) rel) (delete_row (row_in bs (at + 6) w) rel)) (wide_one bs at w rel (eqb (kind_at bs at) 32) h)
    go false ih = ih rel h

pub fold_wide : (bs : Bytes) (t w : ℕ) (ats : List ℕ) (rel : Relation) → Wide w rel → Wide w (fold_rows bs t w ats rel)
fold_wide bs t w [] rel h = h
fold_wide bs t w (at ∷ ats) rel h = go (eqb (field_at bs at 0) t) (fold_wide bs t w ats)
  where
    go : (b : Bool) → ((rel : Relation) → Wide w rel → Wide w (fold_rows bs t w ats rel)) → Wide w (fold_rows bs t w ats (cond b (act_in (λ r. r) bs at w rel) rel))
    go true ih = ih (cond (eqb (kind_at bs at) 32) (insert_row (row_in bs (at + 6) w) rel) (delete_row (row_in bs (at + 6) w) rel)) (wide_one bs at w rel (eqb (kind_at bs at) 32) h)
    go false ih = ih rel h

pub fold_asc : (bs : Bytes) (t w : ℕ) (ats : List ℕ) (rel : Relation) → Ascending rel → Ascending (fold_rows bs t w ats rel)
fold_asc bs t w [] rel h = h
fold_asc bs t w (at ∷ ats) rel h = go (eqb (field_at bs at 0) t) (eqb (kind_at bs at) 32) (fold_asc bs t w ats)
  where
    go : (b k : Bool) → ((rel : Relation) → Ascending rel → Ascending (fold_rows bs t w ats rel)) →
        Ascending (fold_rows bs t w ats (cond b (cond k (insert_row (row_in bs (at + 6) w) rel) (delete_row (row_in bs (at + 6) w) rel)) rel))
    go true true ih = ih (insert_row (row_in bs (at + 6) w) rel) (asc_insert (row_in bs (at + 6) w) rel h)
    go true false ih = ih (delete_row (row_in bs (at + 6) w) rel) (asc_delete (row_in bs (at + 6) w) rel h)
    go false k ih = ih rel h

-- ---- a batch that reading accepts

-- a record that breaks no rule
fault_none : (a b c e : Bool) → first_broken (rule 10 a ∷ rule 11 b ∷ rule 12 c ∷ rule 13 (not e) ∷ []) ≡ 0 → (a ≡ false) × (c ≡ false) × (e ≡ true)
fault_none true b c e h = absurd (omega arith)
fault_none false true c e h = absurd (omega arith)
fault_none false false true e h = absurd (omega arith)
fault_none false false false true h = (refl, refl, refl)
fault_none false false false false h = absurd (omega arith)

module _ (nodes : List Node) (bs : Bytes) where
  -- what reading says of each record that it accepts
  pub record Fits (before at : ℕ) : Type 0 where
    pub whole? : is_broken bs at ≡ false
    pub early : before < max_events
    pub least : 6 ≤ length_at bs at
    pub node : field_at bs at 0 < length nodes
    pub size : length_at bs at ≡ 6 + 4 * get_or (widths nodes) (field_at bs at 0) 0

  fault_fits : (before at : ℕ) → event_fault nodes before bs at ≡ 0 → Fits before at
  unfolding event_fault event_fits
  fault_fits before at z =
      let f : (is_broken bs at ≡ false) × (leb max_events before ≡ false) × (event_fits nodes bs at ≡ true) = fault_none (is_broken bs at) (not (eqb (kind_at bs at) 32 || eqb (kind_at bs at) 33))
      (leb max_events before) (event_fits nodes bs at) z in
      let three : (leb 6 (length_at bs at) && ltb (field_at bs at 0) (length nodes) && is_table (node_at nodes (field_at bs at 0)))
      ≡ true = and_first (leb 6 (length_at bs at) && ltb (field_at bs at 0) (length nodes) && is_table (node_at nodes (field_at bs at 0)))
      (eqb (length_at bs at) (6 + 4 * get_or (widths nodes) (field_at bs at 0) 0)) f.2 in
      let two : (leb 6 (length_at bs at) && ltb (field_at bs at 0) (length nodes)) ≡ true = and_first (leb 6 (length_at bs at) && ltb (field_at bs at 0) (length nodes))
      (is_table (node_at nodes (field_at bs at 0))) three in
      record {
        whole? = f.0;
        early = leb-false max_events before f.1;
        least = leb-true 6 (length_at bs at) (and_first (leb 6 (length_at bs at)) (ltb (field_at bs at 0) (length nodes)) two);
        node = ltb-true (field_at bs at 0) (length nodes) (and_second (leb 6 (length_at bs at)) (ltb (field_at bs at 0) (length nodes)) two);
        size = eqb-true (length_at bs at) (6 + 4 * get_or (widths nodes) (field_at bs at 0) 0)
            (and_second (leb 6 (length_at bs at) && ltb (field_at bs at 0) (length nodes) && is_table (node_at nodes (field_at bs at 0)))
            (eqb (length_at bs at) (6 + 4 * get_or (widths nodes) (field_at bs at 0) 0)) f.2);
      }

  module _ (t : ℕ) where
    abbrev w : ℕ
    w = get_or (widths nodes) t 0

    -- the records of an accepted batch: its events, that they can be folded, and how many there are
    pub record Reads (done : List Event) (ats : List ℕ) : Type 0 where
      pub events : (read_events nodes bs done ats).events ≡ done ++ map (event_at (widths nodes) bs) ats
      pub foldable : Events bs t (get_or (widths nodes) t 0) ats
      pub names : length nodes ≤ max_nodes → NamesNodes bs ats
      pub few : length done ≤ max_events → length done + length ats ≤ max_events

    event_inside : (before at : ℕ) → Fits before at → (at + 6 ≤ length bs) × (field_at bs at 0 ≡ t → at + 6 + 4 * get_or (widths nodes) t 0 ≤ length bs)
    event_inside before at f =
        let h : Whole bs at = whole bs at f.whole? in (
          omega (arith, h.inside, f.least),
          λ e. let size : length_at bs at ≡ 6 + 4 * get_or (widths nodes) t 0 = f.size ∙ ap (λ (x : ℕ). 6 + 4 * get_or (widths nodes) x 0) e in omega
              (arith, h.inside, size),
        )

    reads : (done : List Event) (ats : List ℕ) → is_accepted (read_events nodes bs done ats).verdict ≡ true → Reads done ats
    unfolding read_events
    reads done [] a = record { events = sym (append-nil done); foldable = tt; names = λ h. tt; few = λ h. omega (arith, h) }
    reads done (at ∷ rest) a = go (eqb (event_fault nodes (length done) bs at) 0) refl a (reads (done ++ (event_at (widths nodes) bs at ∷ [])) rest)
      where
        go : (b : Bool) → eqb (event_fault nodes (length done) bs at) 0 ≡ b →
            is_accepted (cond b (read_events nodes bs (done ++ (event_at (widths nodes) bs at ∷ [])) rest)
            (record { verdict = refused (event_fault nodes (length done) bs at) at; events = [] })).verdict ≡ true →
            (is_accepted (read_events nodes bs (done ++ (event_at (widths nodes) bs at ∷ [])) rest).verdict ≡ true → Reads (done ++ (event_at (widths nodes) bs at ∷ [])) rest) →
            Reads done (at ∷ rest)
        go false e c ih = absurd (true≢false (sym c ∙ e))
        go true e c ih =
            let later : Reads (done ++ (event_at (widths nodes) bs at ∷ [])) rest = ih c in
            let fits : Fits (length done) at = fault_fits (length done) at (eqb-true (event_fault nodes (length done) bs at) 0 e) in
            let inside : (at + 6 ≤ length bs) × (field_at bs at 0 ≡ t → at + 6 + 4 * get_or (widths nodes) t 0 ≤ length bs) = event_inside (length done) at fits in
            record {
              events = rw e (later.events ∙ append_assoc done (event_at (widths nodes) bs at ∷ []) (map (event_at (widths nodes) bs) rest));
              foldable = (fits.whole?, inside.0, inside.1, later.foldable);
              names = λ h. (fits.whole?, inside.0, omega (arith, fits.node), later.names h);
              few = λ h. let size : length (done ++ (event_at (widths nodes) bs at ∷ [])) ≡ length done + 1 = length-append done (event_at (widths nodes) bs at ∷ []) in omega
                  (arith, size, later.few (omega (arith, size, fits.early)));
            }

    -- one event on the table
    acts_one : (at f : ℕ) (tables : List Relation) (k b : Bool) → t < length tables → eqb f t ≡ b →
        rows_at (act (event_of k f (row_in bs (at + 6) (get_or (widths nodes) f 0))) tables) t
        ≡ cond b (cond k (insert_row (row_in bs (at + 6) (get_or (widths nodes) t 0)) (rows_at tables t)) (delete_row (row_in bs (at + 6) (get_or (widths nodes) t 0)) (rows_at tables t)))
        (rows_at tables t)
    unfolding act
    acts_one at f tables true true h e = ap (λ (x : ℕ). rows_at (set tables x (insert_row (row_in bs (at + 6) (get_or (widths nodes) x 0)) (get_or tables x []))) t) (eqb-true f t e)
        ∙ get_or-set_same tables t (insert_row (row_in bs (at + 6) (get_or (widths nodes) t 0)) (get_or tables t [])) [] h
    acts_one at f tables false true h e = ap (λ (x : ℕ). rows_at (set tables x (delete_row (row_in bs (at + 6) (get_or (widths nodes) x 0)) (get_or tables x []))) t) (eqb-true f t e)
        ∙ get_or-set_same tables t (delete_row (row_in bs (at + 6) (get_or (widths nodes) t 0)) (get_or tables t [])) [] h
    acts_one at f tables true false h e = let n : f ≡ t → ⊥ = eqb-false f t e in get_or-set_other tables f t (insert_row (row_in bs (at + 6) (get_or (widths nodes) f 0)) (get_or tables f [])) []
        (λ z. n (sym z))
    acts_one at f tables false false h e = let n : f ≡ t → ⊥ = eqb-false f t e in get_or-set_other tables f t (delete_row (row_in bs (at + 6) (get_or (widths nodes) f 0)) (get_or tables f [])) []
        (λ z. n (sym z))

    act-length : (e : Event) (tables : List Relation) → length (act e tables) ≡ length tables
    unfolding act
    act-length (put f r) tables = length-set tables f (insert_row r (get_or tables f []))
    act-length (remove f r) tables = length-set tables f (delete_row r (get_or tables f []))

    acts : (ats : List ℕ) (tables : List Relation) → t < length tables → rows_at (act_all (map (event_at (widths nodes) bs) ats) tables) t
        ≡ fold_rows bs t (get_or (widths nodes) t 0) ats (rows_at tables t)
    unfolding act_all event_at
    acts [] tables h = refl
    acts (at ∷ ats) tables h =
        acts ats (act (event_at (widths nodes) bs at) tables) (rw (act-length (event_at (widths nodes) bs at) tables) h)
        ∙ ap (fold_rows bs t (get_or (widths nodes) t 0) ats) (acts_one at (field_at bs at 0) tables (eqb (kind_at bs at) 32) (eqb (field_at bs at 0) t) h refl)

    module _ (accepts : is_accepted (read_batch nodes bs).verdict ≡ true) where
      here : Reads [] (offsets bs)
      unfolding read_batch
      here = reads [] (offsets bs) accepts

      -- a table's rows after an accepted batch
      pub acts_fold : (tables : List Relation) → t < length tables → rows_at (act_all (read_batch nodes bs).events tables) t
          ≡ fold_rows bs t (get_or (widths nodes) t 0) (offsets bs) (rows_at tables t)
      unfolding read_batch
      acts_fold tables h = ap (λ (es : List Event). rows_at (act_all es tables) t) here.events ∙ acts (offsets bs) tables h

      -- it can be folded
      pub accepted-folds : get_or (widths nodes) t 0 ≤ max_width → Foldable bs t (get_or (widths nodes) t 0)
      accepted-folds narrow = record { narrow = narrow; few = omega (arith, here.few zero-le); events = here.foldable }

      -- its events name nodes
      pub accepted_names : length nodes ≤ max_nodes → NamesNodes bs (offsets bs)
      accepted_names few = here.names few

-- ---- a table that no event names

pub unnamed_folds : (bs : Bytes) (t w : ℕ) (ats : List ℕ) (rel : Relation) → is_named bs ats t ≡ false → fold_rows bs t w ats rel ≡ rel
unnamed_folds bs t w [] rel e = refl
unnamed_folds bs t w (at ∷ ats) rel e =
    let none = none_of (eqb (field_at bs at 0) t) (is_named bs ats t) e in
    ap (λ (b : Bool). fold_rows bs t w ats (cond b (act_in (λ r. r) bs at w rel) rel)) none.0 ∙ unnamed_folds bs t w ats rel none.1
  where
    none_of : (a b : Bool) → (a || b) ≡ false → (a ≡ false) × (b ≡ false)
    none_of true b f = absurd (true≢false f)
    none_of false b f = (refl, f)
