-- A left row's join along the chain of its key's slot, from the first right row to the last. Assumes nothing.
use mathlib.Core.Path.{◌≡◌, refl, ap, ◌∙◌}
use mathlib.Core.Bool.{Bool, true, false, cond}
use mathlib.Core.List.{List, []}
use Prim.Native.Nat.{ℕ, zero, suc, ◌+◌, ◌-◌, ◌≤◌, ◌<◌}
use native.Mathlib.Omega.{arith}
use lib.ListN.{length, get_or, take}
use borrow.Author.Tests.{eqb-true, eqb-false}
use Rattle.model.specs.Row.{Row, insert_row, ascending, max_rows, Wide}
use Rattle.model.specs.Areas.{place_size, stride}
use Rattle.laws.proofs.Sets.{Ascending}
use Rattle.rows.specs.Rows.{first_rows, row_at}
use Rattle.nodes.specs.Nodes.{pairs_of}
use Rattle.places.specs.Places.{Stands, Stored, insert_all}
use Rattle.std.specs.Prelude.{Option, Some, None}
use Rattle.places.proofs.Puts.{put_exceeds, put_none, put_ready, put-size, put-stands, put_start, put-turn, put_up_to}
use Rattle.columns.specs.Columns.{joined_row}
use Rattle.columns.proofs.Rows.{joined_length, row_made}
use Rattle.masks.specs.Masks.{JoinFits}
use Rattle.masks.specs.declared.Joining.{Joining}
use Rattle.keys.specs.Keys.{side_columns, Keyed, KeyedRows}
use Rattle.keys.specs.Chains.{slot_of, first_from, in_slot, key_in, Chained}
use Rattle.keys.proofs.Keys.{key_agrees, key_differs}
use Rattle.keys.proofs.Chains.{slot_below, first_least, first_most, first_passes, head_at, link_at}
use Rattle.joins.specs.Joins.{joined_with}
use Rattle.joins.proofs.Joins.{few_given, joined_from, joined_if, wide_joined}

-- the rows that a left row makes with the right rows before number at stand in a place; that row is in the slot
pub record Walked (how : Joining) (l : Row) (key : ℕ) (right : List ℕ) (m : ℕ) (keys : List ℕ) (base : List Row) (at : ℕ) (out : List ℕ) (rows : ℕ) : Type 0 where
  pub most : at ≤ m
  pub size : length out ≡ place_size
  pub own : at < m → in_slot keys (slot_of key) at ≡ true
  pub stands : Stands (put_up_to (joined_if how l) base right at) out rows

module _ (how : Joining) (fits : JoinFits how) (l : Row) (key : ℕ) (own : Keyed (side_columns 0 (pairs_of how.p how.pairs)) l key) (right : List ℕ) (m : ℕ) (few : m ≤ max_rows) (keys : List ℕ)
    (keyed : KeyedRows (side_columns 1 (pairs_of how.p how.pairs)) right m keys) (heads next : List ℕ) (chained : Chained keys m 0 heads next)
    (base : List Row) (wide : Wide stride base) (asc : Ascending base) where
  -- a row with another key makes none
  other_key : (j : ℕ) → j < m → (get_or keys j 0 ≡ key → ⊥) → joined_if how l (row_at stride right j) ≡ []
  other_key j h e = rw (key_differs (pairs_of how.p how.pairs) l key own right m keys keyed j h e)

  -- the rows before the next of a slot make none
  skipped : (i n : ℕ) → i + n ≤ m → put_up_to (joined_if how l) base right (first_from (in_slot keys (slot_of key)) i n) ≡ put_up_to (joined_if how l) base right i
  skipped i zero h = refl
  skipped i (suc n) h = go (in_slot keys (slot_of key) i) refl (skipped (suc i) n (omega arith))
    where
      go : (t : Bool) → in_slot keys (slot_of key) i ≡ t →
          put_up_to (joined_if how l) base right (first_from (in_slot keys (slot_of key)) (suc i) n) ≡ put_up_to (joined_if how l) base right (suc i) →
          put_up_to (joined_if how l) base right (cond t i (first_from (in_slot keys (slot_of key)) (suc i) n)) ≡ put_up_to (joined_if how l) base right i
      go true e ih = refl
      go false e ih =
          let s : suc i ≡ i + 1 = omega arith in
          ih ∙ ap (put_up_to (joined_if how l) base right) s ∙ put-turn (joined_if how l) base right m (wide_joined how fits l) wide asc i
          ∙ ap (λ (r : List Row). insert_all r (put_up_to (joined_if how l) base right i))
          (other_key i (omega arith) (λ q. eqb-false (slot_of (get_or keys i 0)) (slot_of key) e (ap slot_of q)))

  -- on to the next row of the slot
  stepped : (i at : ℕ) (out : List ℕ) (rows : ℕ) → i ≤ m → at ≡ key_in keys m i (slot_of key) →
      Stands (put_up_to (joined_if how l) base right i) out rows → Walked how l key right m keys base at out rows
  stepped i at out rows h e t =
      let size : i + (m - i) ≡ m = omega arith in
      record {
        most = omega (arith, e, first_most (in_slot keys (slot_of key)) i (m - i));
        size = put-size (joined_if how l) base right m (wide_joined how fits l) wide asc i out rows t;
        own = λ b. rw e (first_passes (in_slot keys (slot_of key)) i (m - i) (omega (arith, e, b)));
        stands = rw (e, skipped i (m - i) (omega arith)) t;
      }

  pub walk_starts : (at : ℕ) (out : List ℕ) (count : ℕ) → at ≡ get_or heads (slot_of key) 0 → Stands base out count → Walked how l key right m keys base at out count
  walk_starts at out count e t =
      stepped 0 at out count (omega arith) (e ∙ head_at keys m 0 heads next chained (slot_of key) (slot_below key))
      (put_start (joined_if how l) base right m (wide_joined how fits l) wide asc out count t)

  -- one step, from a row of the slot
  module _ (at : ℕ) (out : List ℕ) (rows : ℕ) (inside : at < m) (w : Walked how l key right m keys base at out rows) where
    link : get_or next at 0 ≡ key_in keys m (at + 1) (slot_of key)
    link =
        let s : slot_of (get_or keys at 0) ≡ slot_of key = eqb-true (slot_of (get_or keys at 0)) (slot_of key) (w.own inside) in
        link_at keys m 0 heads next chained at few (omega arith) inside ∙ ap (key_in keys m (at + 1)) s

    pub walk_less : (at < get_or next at 0) × (get_or next at 0 ≤ m)
    walk_less = (
      omega (arith, link, first_least (in_slot keys (slot_of key)) (at + 1) (m - (at + 1))),
      omega (arith, link, first_most (in_slot keys (slot_of key)) (at + 1) (m - (at + 1)), inside),
    )

    pub walk_ready : Stands (first_rows out rows) out rows × (ascending (first_rows out rows) ≡ true)
    walk_ready = put_ready (joined_if how l) base right m (wide_joined how fits l) wide asc at out rows w.stands

    -- a row with another key
    pub walk_passes : (get_or keys at 0 ≡ key → ⊥) → Walked how l key right m keys base (get_or next at 0) out rows
    walk_passes d =
        stepped (at + 1) (get_or next at 0) out rows (omega (arith, inside)) link
        (put_none (joined_if how l) base right m (wide_joined how fits l) wide asc at out rows (other_key at inside d) w.stands)

    -- the row that one with the key makes, put in
    module _ (agrees : get_or keys at 0 ≡ key) (row : Row) (is : row ≡ joined_row how.split (take how.n how.columns) l (row_at stride right at)) (after : List ℕ) (made : Option ℕ)
        (put : Stored (insert_row (row_at stride row 0) (first_rows out rows)) after made) where
      brought : Stored (insert_all (joined_if how l (row_at stride right at)) (first_rows out rows)) after made
      brought =
          let columns : List ℕ = take how.n how.columns in
          let r : Row = row_at stride right at in
          rw (key_agrees (pairs_of how.p how.pairs) l key own right m keys keyed at inside agrees)
          (rw (row_made row (joined_row how.split columns l r) is (joined_length how.split columns l r (few_given how fits))) at put)

      pub walk_puts : (more : ℕ) → made ≡ Some more → Walked how l key right m keys base (get_or next at 0) after more
      walk_puts more q =
          stepped (at + 1) (get_or next at 0) after more (omega (arith, inside)) link
          (put-stands (joined_if how l) base right m (wide_joined how fits l) wide asc at out after rows more made q w.stands brought).1

      pub walk_exceeds : made ≡ None → (max_rows < length (insert_all (joined_with how (first_rows right m) l) base)) × (length after ≡ place_size)
      walk_exceeds q =
          rw (← joined_from how fits l base right m) (put_exceeds (joined_if how l) base right m (wide_joined how fits l) wide asc at out after rows made q inside w.stands brought)

  pub walk_ends : (at : ℕ) (out : List ℕ) (rows : ℕ) → at ≡ m → Walked how l key right m keys base at out rows → Stands (insert_all (joined_with how (first_rows right m) l) base) out rows
  walk_ends at out rows e w = rw (← joined_from how fits l base right m, ← e) w.stands
