-- What a search for a row in an ascending list finds, and what that says of inserting and removing. Assumes nothing.
use mathlib.Core.Path.{◌≡◌, refl, sym, ap, ◌∙◌, subst}
use mathlib.Core.Bool.{true, false}
use mathlib.Core.List.{List, [], ◌∷◌, ◌++◌}
use Prim.Native.Nat.{ℕ, zero, suc, ◌+◌, ◌≤◌, ◌<◌, Ordering, zero-le, suc-le-suc}
use native.Mathlib.Nat.{not-suc-le-zero, le_of_suc-le-suc, le_trans, lt_irrefl, eq-or-lt_of_le, zero-add}
use native.Mathlib.Numerals.{add-one}
use mathlib.Core.Logic.{⊎_elim}
use native.Mathlib.Omega.{arith}
use lib.ListN.{length, get_or, take, drop}
use Rattle.model.specs.Row.{Row, order, member, insert_row, delete_row}
use Rattle.laws.proofs.Order.{flip, order_flip, order_eq, order_trans}
use Rattle.laws.proofs.Sets.{Above, Ascending, above_trans, above_not-member}
use Rattle.rows.specs.Rows.{row_at, rows_from, later, locate_by, locate}
use Rattle.std.specs.Prelude.{Result, Ok, Err}
use Rattle.rows.proofs.Words.{length-rows}

-- ---- rows by their index

pub row_at_lem : (w : ℕ) (s : List ℕ) (j n i : ℕ) → i < n → get_or (rows_from w s j n) i [] ≡ row_at w s (j + i)
unfolding rows_from
row_at_lem w s j zero i h = absurd (not-suc-le-zero h)
row_at_lem w s j (suc n) zero h = let e : j + 0 ≡ j = omega arith in rw e
row_at_lem w s j (suc n) (suc i) h = let e : j + suc i ≡ suc j + i = omega arith in rw e (row_at_lem w s (suc j) n i (le_of_suc-le-suc h))

above_at : (r : Row) (l : List Row) (i : ℕ) → Above r l → i < length l → order r (get_or l i []) ≡ Ordering.lt
above_at r [] i a h = absurd (not-suc-le-zero h)
above_at r (s ∷ l) zero a h = a.0
above_at r (s ∷ l) (suc i) a h = above_at r l i a.1 (le_of_suc-le-suc h)

-- in an ascending list an earlier row is below a later one
pub ascending_at : (l : List Row) (i j : ℕ) → Ascending l → i < j → j < length l → order (get_or l i []) (get_or l j []) ≡ Ordering.lt
ascending_at [] i j a h g = absurd (not-suc-le-zero g)
ascending_at (r ∷ l) i zero a h g = absurd (not-suc-le-zero h)
ascending_at (r ∷ l) zero (suc j) a h g = above_at r l j a.0 (le_of_suc-le-suc g)
ascending_at (r ∷ l) (suc i) (suc j) a h g = ascending_at l i j a.1 (le_of_suc-le-suc h) (le_of_suc-le-suc g)

-- ---- the answers of a search

pub locate-missing : (r : Row) (l : List Row) (p : ℕ) → p ≤ length l →
    ((j : ℕ) → j < p → order r (get_or l j []) ≡ Ordering.gt) → ((j : ℕ) → p ≤ j → j < length l → order r (get_or l j []) ≡ Ordering.lt) → locate r l ≡ Err p
locate-missing r [] p h b a = let e : p ≡ 0 = omega arith in rw e
locate-missing r (s ∷ l) zero h b a = rw (a 0 zero-le (suc-le-suc zero-le))
locate-missing r (s ∷ l) (suc p) h b a =
    rw (b 0 (suc-le-suc zero-le), locate-missing r l p (le_of_suc-le-suc h) (λ j g. b (suc j) (suc-le-suc g)) (λ j g f. a (suc j) (suc-le-suc g) (suc-le-suc f)))

pub locate_at : (r : Row) (l : List Row) (p : ℕ) → p < length l →
    ((j : ℕ) → j < p → order r (get_or l j []) ≡ Ordering.gt) → order r (get_or l p []) ≡ Ordering.eq → locate r l ≡ Ok p
locate_at r [] p h b e = absurd (not-suc-le-zero h)
locate_at r (s ∷ l) zero h b e = rw e
locate_at r (s ∷ l) (suc p) h b e = rw (b 0 (suc-le-suc zero-le), locate_at r l p (le_of_suc-le-suc h) (λ j g. b (suc j) (suc-le-suc g)) e)

-- ---- narrowing a search

-- of the n rows those before low are below r, and those from high on above it
pub record Narrowed (w : ℕ) (r : Row) (s : List ℕ) (n low high : ℕ) : Type 0 where
  pub below : (j : ℕ) → j < low → order r (row_at w s j) ≡ Ordering.gt
  pub above : (j : ℕ) → high ≤ j → j < n → order r (row_at w s j) ≡ Ordering.lt

module _ (w : ℕ) (r : Row) (s : List ℕ) (n : ℕ) (asc : Ascending (rows_from w s 0 n)) where
  earlier : (i j : ℕ) → i < j → j < n → order (row_at w s i) (row_at w s j) ≡ Ordering.lt
  earlier i j h g =
      let e : 0 + i ≡ i = omega arith in
      let f : 0 + j ≡ j = omega arith in
      let a : order (get_or (rows_from w s 0 n) i []) (get_or (rows_from w s 0 n) j []) ≡ Ordering.lt =
      ascending_at (rows_from w s 0 n) i j asc h (rw length-rows g) in
      rw (row_at_lem w s 0 n i (omega arith), row_at_lem w s 0 n j g, e, f) at a

  pub narrowed_all : Narrowed w r s n 0 n
  narrowed_all = record { below = λ j h. absurd (not-suc-le-zero h); above = λ j h g. absurd (lt_irrefl j (le_trans g h)) }

  -- a row above r: so are those after it
  pub narrowed_less : (low high mid : ℕ) → mid < n → Ordering.lt ≡ order r (row_at w s mid) → Narrowed w r s n low high → Narrowed w r s n low mid
  narrowed_less low high mid h o k =
      record {
        below = k.below;
        above = λ j a g. ⊎_elim
            (λ (e : mid ≡ j). subst (λ (i : ℕ). order r (row_at w s i) ≡ Ordering.lt) e (sym o))
            (λ (f : mid < j). order_trans r (row_at w s mid) (row_at w s j) (sym o) (earlier mid j f g))
            (eq-or-lt_of_le a);
      }

  -- a row below r: so are those before it
  pub narrowed_greater : (low high mid : ℕ) → mid < n → Ordering.gt ≡ order r (row_at w s mid) → Narrowed w r s n low high → Narrowed w r s n (mid + 1) high
  narrowed_greater low high mid h o k =
      let under : order (row_at w s mid) r ≡ Ordering.lt = order_flip r (row_at w s mid) ∙ ap flip (sym o) in
      record {
        below = λ j a. ⊎_elim
            (λ (e : j ≡ mid). subst (λ (i : ℕ). order r (row_at w s i) ≡ Ordering.gt) (sym e) (sym o))
            (λ (f : j < mid). order_flip (row_at w s j) r ∙ ap flip (order_trans (row_at w s j) (row_at w s mid) r (earlier j mid f h) under))
            (eq-or-lt_of_le (le_of_suc-le-suc (rw add-one at a)));
        above = k.above;
      }

  below_row : (p : ℕ) → p ≤ n → ((j : ℕ) → j < p → order r (row_at w s j) ≡ Ordering.gt) → (j : ℕ) → j < p → order r (get_or (rows_from w s 0 n) j []) ≡ Ordering.gt
  below_row p h b j g = rw (row_at_lem w s 0 n j (omega arith), zero-add) (b j g)

  pub narrowed_found : (low high mid : ℕ) → low ≤ mid → mid < high → high ≤ n → Ordering.eq ≡ order r (row_at w s mid) → Narrowed w r s n low high → locate r (rows_from w s 0 n) ≡ Ok mid
  narrowed_found low high mid a b h o k =
      let here : row_at w s mid ≡ r = sym (order_eq r (row_at w s mid) (sym o)) in
      let before : (j : ℕ) → j < mid → order r (row_at w s j) ≡ Ordering.gt =
      λ j g. order_flip (row_at w s j) r ∙ ap flip (subst (λ (x : Row). order (row_at w s j) x ≡ Ordering.lt) here (earlier j mid g (omega arith))) in
      locate_at r (rows_from w s 0 n) mid (rw length-rows (omega arith)) (below_row mid (omega arith) before) (rw (row_at_lem w s 0 n mid (omega arith), zero-add) (sym o))

  pub narrowed_none : (low high : ℕ) → high ≤ low → low ≤ n → Narrowed w r s n low high → locate r (rows_from w s 0 n) ≡ Err low
  narrowed_none low high e h k =
      locate-missing r (rows_from w s 0 n) low (rw length-rows h) (below_row low h k.below)
      (λ j a g. let f : j < n = rw length-rows at g in rw (row_at_lem w s 0 n j f, zero-add) (k.above j (omega arith) f))

-- ---- what the answer of a search says of the row and the list

abbrev pub Spot : Result ℕ ℕ → Row → List Row → Type 0
Spot (Ok p) r l = (p < length l) × (member r l ≡ true) × (delete_row r l ≡ take p l ++ drop (suc p) l)
Spot (Err p) r l = (p ≤ length l) × (member r l ≡ false) × (insert_row r l ≡ take p l ++ (r ∷ drop p l))

-- a list all of whose rows are above r does not hold it
delete_absent : (r : Row) (l : List Row) → Above r l → delete_row r l ≡ l
unfolding delete_row
delete_absent r [] a = refl
delete_absent r (s ∷ l) a =
    let e : order s r ≡ Ordering.gt = order_flip r s ∙ ap flip a.0 in
    rw (e, delete_absent r l a.1)

spot_later : (f : Result ℕ ℕ) (r s : Row) (l : List Row) → order r s ≡ Ordering.gt → Spot f r l → Spot (later f) r (s ∷ l)
unfolding delete_row
spot_later (Ok p) r s l o h =
    let e : order s r ≡ Ordering.lt = order_flip r s ∙ ap flip o in
    (suc-le-suc h.0, rw (o, h.1), rw (e, h.2))
spot_later (Err p) r s l o h = (suc-le-suc h.0, rw (o, h.1), rw (o, h.2))

pub located : (r : Row) (l : List Row) → Ascending l → Spot (locate r l) r l
unfolding delete_row
located r [] a = (zero-le, refl, refl)
located r (s ∷ l) a = go (order r s) refl (located r l a.1)
  where
    go : (o : Ordering) → order r s ≡ o → Spot (locate r l) r l → Spot (locate_by o (locate r l)) r (s ∷ l)
    go Ordering.lt e ih = (zero-le, above_not-member r (s ∷ l) (e, above_trans r s l e a.0), rw e)
    go Ordering.eq e ih =
        let q : r ≡ s = order_eq r s e in
        let f : order s r ≡ Ordering.eq = order_flip r s ∙ ap flip e in
        (suc-le-suc zero-le, rw e, rw f (delete_absent r l (subst (λ (x : Row). Above x l) (sym q) a.0)))
    go Ordering.gt e ih = spot_later (locate r l) r s l e ih

pub located_as : (r : Row) (l : List Row) (f : Result ℕ ℕ) → Ascending l → locate r l ≡ f → Spot f r l
located_as r l f a e = subst (λ (g : Result ℕ ℕ). Spot g r l) e (located r l a)
