-- Demand 2: the one-row changes of a batch's events, folded in turn by delta-union, are each table's net change. For rows of any width. Assumes nothing.
use mathlib.Core.Path.{◌≡◌, refl, sym, ap, ◌∙◌}
use mathlib.Core.Bool.{Bool, true, false, not, ◌&&◌, ◌||◌, cond, true≢false}
use mathlib.Core.List.{List, [], ◌∷◌}
use Prim.Native.Nat.{ℕ, ◌<◌}
use lib.Dec.{eqb}
use lib.ListN.{length, get_or, set, length-set}
use lib.Seq.{get_or-set_same, get_or-set_other}
use borrow.Author.Tests.{eqb-true, eqb-false}
use Rattle.model.specs.Row.{Row, Relation, member, same_row, insert_row, delete_row}
use Rattle.model.specs.Algebra.{difference_rows}
use Rattle.model.specs.Delta.{Change, no_change, net_change, delta_union}
use Rattle.model.specs.Record.{Bytes}
use Rattle.model.specs.Network.{Node}
use Rattle.model.specs.Evaluation.{rows_at}
use Rattle.model.specs.Batch.{Event, put, remove, read_batch, act, act_all, table_of, one_row_change, change_by, fold_changes}
use Rattle.laws.proofs.Order.{same_row_eq}
use Rattle.laws.proofs.Sets.{Ascending, ext, member_insert, member_delete, asc_insert, asc_delete, insert_present, delete_absent}
use Rattle.laws.proofs.Algebra.{member-difference, asc-difference}
use Rattle.laws.proofs.Delta.{delta_union_lem}

-- a change is the net change if each of its rows is on one side alone
known : (gained lost old new : Relation) → Ascending gained → Ascending lost → Ascending old → Ascending new →
    ((x : Row) → member x gained ≡ (not (member x old) && member x new)) → ((x : Row) → member x lost ≡ (not (member x new) && member x old)) →
    record { gained = gained; lost = lost } ≡ net_change old new
unfolding net_change
known gained lost old new ag al ao an g l =
    let gains : gained ≡ difference_rows new old = ext gained (difference_rows new old) ag (asc-difference new old an) (λ x. g x ∙ sym (member-difference x new old)) in
    let loses : lost ≡ difference_rows old new = ext lost (difference_rows old new) al (asc-difference old new ao) (λ x. l x ∙ sym (member-difference x old new)) in
    λ i. record { gained = gains i; lost = loses i }

nothing : (x : Bool) → false ≡ (not x && x)
nothing true = refl
nothing false = refl

-- nothing changed
unchanged : (rel : Relation) → Ascending rel → no_change ≡ net_change rel rel
unchanged rel a = known [] [] rel rel tt tt a a (λ x. nothing (member x rel)) (λ x. nothing (member x rel))

-- the rows of an event's table afterwards
abbrev acted : Event → Relation → Relation
acted (put t r) rel = insert_row r rel
acted (remove t r) rel = delete_row r rel

asc_acted : (e : Event) (rel : Relation) → Ascending rel → Ascending (acted e rel)
asc_acted (put t r) rel a = asc_insert r rel a
asc_acted (remove t r) rel a = asc_delete r rel a

-- whether a row is r, and whether it was there: what putting a new row r gains and loses
put-new : (t y : Bool) → (t ≡ true → y ≡ false) → ((t || false) ≡ (not y && (t || y))) × (false ≡ (not (t || y) && y))
put-new true true h = absurd (true≢false (h refl))
put-new true false h = (refl, refl)
put-new false true h = (refl, refl)
put-new false false h = (refl, refl)

-- the same of removing a row r that was there
removed-old : (t y : Bool) → (t ≡ true → y ≡ true) → (false ≡ (not y && (not t && y))) × ((t || false) ≡ (not (not t && y) && y))
removed-old true true h = (refl, refl)
removed-old true false h = absurd (true≢false (sym (h refl)))
removed-old false true h = (refl, refl)
removed-old false false h = (refl, refl)

-- the one-row change of an event is the net change of its table's rows
one_row : (e : Event) (rel : Relation) → Ascending rel → one_row_change e rel ≡ net_change rel (acted e rel)
unfolding one_row_change
one_row (put t r) rel a = go (member r rel) refl
  where
    at : member r rel ≡ false → (x : Row) → ((same_row x r || false) ≡ (not (member x rel) && (same_row x r || member x rel))) × (false ≡ (not (same_row x r || member x rel) && member x rel))
    at f x = put-new (same_row x r) (member x rel) (λ e. ap (λ (y : Row). member y rel) (same_row_eq x r e) ∙ f)

    go : (m : Bool) → member r rel ≡ m → cond m no_change (record { gained = r ∷ []; lost = [] }) ≡ net_change rel (insert_row r rel)
    go true f = unchanged rel a ∙ ap (net_change rel) (sym (insert_present r rel a f))
    go false f =
        known (r ∷ []) [] rel (insert_row r rel) (tt, tt) tt a (asc_insert r rel a)
        (λ x. rw (member_insert x r rel) (at f x).0)
        (λ x. rw (member_insert x r rel) (at f x).1)
one_row (remove t r) rel a = go (member r rel) refl
  where
    at : member r rel ≡ true → (x : Row) → (false ≡ (not (member x rel) && (not (same_row x r) && member x rel)))
        × ((same_row x r || false) ≡ (not (not (same_row x r) && member x rel) && member x rel))
    at f x = removed-old (same_row x r) (member x rel) (λ e. ap (λ (y : Row). member y rel) (same_row_eq x r e) ∙ f)

    go : (m : Bool) → member r rel ≡ m → cond m (record { gained = []; lost = r ∷ [] }) no_change ≡ net_change rel (delete_row r rel)
    go true f =
        known [] (r ∷ []) rel (delete_row r rel) tt (tt, tt) a (asc_delete r rel a)
        (λ x. rw (member_delete x r rel) (at f x).0)
        (λ x. rw (member_delete x r rel) (at f x).1)
    go false f = unchanged rel a ∙ ap (net_change rel) (sym (delete_absent r rel f))

-- ---- an event among the tables

module _ (t : ℕ) where
  -- table t's rows after an event
  after : (e : Event) (tables : List Relation) → t < length tables → rows_at (act e tables) t ≡ cond (eqb (table_of e) t) (acted e (rows_at tables t)) (rows_at tables t)
  unfolding act
  after (put u r) tables h = go (eqb u t) refl
    where
      go : (b : Bool) → eqb u t ≡ b → get_or (set tables u (insert_row r (get_or tables u []))) t [] ≡ cond b (insert_row r (rows_at tables t)) (rows_at tables t)
      go true f = rw (eqb-true u t f) (get_or-set_same tables t (insert_row r (get_or tables t [])) [] h)
      go false f = get_or-set_other tables u t (insert_row r (get_or tables u [])) [] (λ e. eqb-false u t f (sym e))
  after (remove u r) tables h = go (eqb u t) refl
    where
      go : (b : Bool) → eqb u t ≡ b → get_or (set tables u (delete_row r (get_or tables u []))) t [] ≡ cond b (delete_row r (rows_at tables t)) (rows_at tables t)
      go true f = rw (eqb-true u t f) (get_or-set_same tables t (delete_row r (get_or tables t [])) [] h)
      go false f = get_or-set_other tables u t (delete_row r (get_or tables u [])) [] (λ e. eqb-false u t f (sym e))

  length-act : (e : Event) (tables : List Relation) → length (act e tables) ≡ length tables
  unfolding act
  length-act (put u r) tables = length-set tables u (insert_row r (get_or tables u []))
  length-act (remove u r) tables = length-set tables u (delete_row r (get_or tables u []))

  -- the rows stay ascending, and the change of table t is its net change
  turn : (e : Event) (tables : List Relation) → t < length tables → Ascending (rows_at tables t) →
      Ascending (rows_at (act e tables) t) × (change_by t e tables ≡ net_change (rows_at tables t) (rows_at (act e tables) t))
  unfolding change_by
  turn e tables h a = rw (after e tables h) (go (eqb (table_of e) t))
    where
      go : (b : Bool) → Ascending (cond b (acted e (rows_at tables t)) (rows_at tables t))
          × (cond b (one_row_change e (rows_at tables t)) no_change ≡ net_change (rows_at tables t) (cond b (acted e (rows_at tables t)) (rows_at tables t)))
      go true = (asc_acted e (rows_at tables t) a, one_row e (rows_at tables t) a)
      go false = (a, unchanged (rows_at tables t) a)

  -- the fold of the events' changes, after a net change that is there already
  folds-from : (old : Relation) (events : List Event) (tables : List Relation) → t < length tables → Ascending old → Ascending (rows_at tables t) →
      fold_changes t (net_change old (rows_at tables t)) events tables ≡ net_change old (rows_at (act_all events tables) t)
  unfolding fold_changes act_all
  folds-from old [] tables h o a = refl
  folds-from old (e ∷ events) tables h o a =
      let now : Ascending (rows_at (act e tables) t) × (change_by t e tables ≡ net_change (rows_at tables t) (rows_at (act e tables) t)) = turn e tables h a in
      ap (λ (c : Change). fold_changes t (delta_union (net_change old (rows_at tables t)) c) events (act e tables)) now.1
      ∙ ap (λ (c : Change). fold_changes t c events (act e tables)) (delta_union_lem old (rows_at tables t) (rows_at (act e tables) t) o now.0)
      ∙ folds-from old events (act e tables) (rw (length-act e tables) h) o now.0

  -- "A batch's events fold into net changes": for each table, whatever the events
  pub folds : (events : List Event) (tables : List Relation) → t < length tables → Ascending (rows_at tables t) →
      fold_changes t no_change events tables ≡ net_change (rows_at tables t) (rows_at (act_all events tables) t)
  folds events tables h a =
      ap (λ (c : Change). fold_changes t c events tables) (unchanged (rows_at tables t) a) ∙ folds-from (rows_at tables t) events tables h a a

  -- the same of a batch's bytes
  pub batch-folds : (nodes : List Node) (bs : Bytes) (tables : List Relation) → t < length tables → Ascending (rows_at tables t) →
      fold_changes t no_change (read_batch nodes bs).events tables ≡ net_change (rows_at tables t) (rows_at (act_all (read_batch nodes bs).events tables) t)
  batch-folds nodes bs tables h a = folds (read_batch nodes bs).events tables h a
