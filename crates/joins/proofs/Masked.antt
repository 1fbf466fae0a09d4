-- Masks: a join whose rows are masked in columns that it does not use is the same join. Assumes nothing.
use mathlib.Core.Path.{◌≡◌, refl, sym, ap, ap₂, ◌∙◌, fun_ext}
use mathlib.Core.Bool.{Bool, true, false, cond, ◌&&◌, ◌||◌, or_self_left, or_assoc, or_comm}
use mathlib.Core.List.{List, [], ◌∷◌, map, flat_map}
use Prim.Native.Nat.{ℕ, zero, suc, ◌+◌, ◌-◌, ◌*◌, ◌≤◌, ◌<◌, zero-le, Ordering}
use native.Mathlib.Nat.{not-suc-le-zero}
use native.Mathlib.Omega.{arith}
use lib.Dec.{eqb, ltb}
use lib.ListN.{length, get_or, take, drop, replicate, length-map}
use lib.Seq.{take_all, get_or-drop}
use borrow.Author.Tests.{lt-ltb, ltb-true, ltb-false}
use Rattle.model.specs.Row.{Row, order, member, place, insert_row, set_of, some_of, keep_if, max_rows}
use Rattle.model.specs.Algebra.{agree}
use Rattle.model.specs.Areas.{padded, stride}
use Rattle.laws.proofs.Order.{order_eq}
use Rattle.laws.proofs.Sets.{asc-set_of, ext, member-set_of}
use Rattle.laws.proofs.Algebra.{member-append, member-flat_map}
use Rattle.rows.specs.Rows.{first_rows}
use Rattle.rows.proofs.Padding.{field_padded}
use Rattle.rows.proofs.Words.{length-rows}
use Rattle.nodes.specs.Nodes.{pairs_of}
use Rattle.columns.specs.Columns.{joined_field, masked_row, masked_rows}
use Rattle.masked_rows.specs.MaskedRows.{MaskedSet}
use Rattle.columns.proofs.Rows.{column-below}
use Rattle.masks.specs.Masks.{JoinFits}
use Rattle.masks.specs.declared.Joining.{Joining}
use Rattle.masks.proofs.Masks.{Mask, Keeps, Uses}
use Rattle.joins.specs.Joins.{joined_with, joined_rows}
use Rattle.joins.proofs.Joins.{joined_if, each_joined}

-- ---- sets of rows made of the rows of a set

some_insert : (p : Row → Bool) (r : Row) (l : List Row) → some_of p (insert_row r l) ≡ (p r || some_of p l)
some_insert p r [] = refl
some_insert p r (x ∷ l) = go (order r x) refl (some_insert p r l)
  where
    go : (o : Ordering) → order r x ≡ o → some_of p (insert_row r l) ≡ (p r || some_of p l) → some_of p (place o r x l (insert_row r l)) ≡ (p r || (p x || some_of p l))
    go Ordering.lt e ih = refl
    go Ordering.eq e ih = rw (order_eq r x e) (sym (or_self_left (p x) (some_of p l)))
    go Ordering.gt e ih = rw ih
        (sym (or_assoc (p x) (p r) (some_of p l)) ∙ ap (λ (b : Bool). b || some_of p l) (or_comm (p x) (p r)) ∙ or_assoc (p r) (p x) (some_of p l))

some-set : (p : Row → Bool) (l : List Row) → some_of p (set_of l) ≡ some_of p l
some-set p [] = refl
some-set p (r ∷ l) = some_insert p r (set_of l) ∙ rw (some-set p l)

some-map : (p : Row → Bool) (g : Row → Row) → ((r : Row) → p (g r) ≡ p r) → (l : List Row) → some_of p (map g l) ≡ some_of p l
some-map p g e [] = refl
some-map p g e (r ∷ l) = rw (e r, some-map p g e l)

member_each : (x : Row) (f g : Row → List Row) → ((r : Row) → member x (f r) ≡ member x (g r)) → (l : List Row) → member x (flat_map f l) ≡ member x (flat_map g l)
unfolding flat_map
member_each x f g e [] = refl
member_each x f g e (r ∷ l) = member-append x (f r) (flat_map f l) ∙ rw (e r, member_each x f g e l) (sym (member-append x (g r) (flat_map g l)))

-- what f makes of rows whose set is that of rows that g changes, where f makes the same of a row that g changed
module _ (f : Row → List Row) (g : Row → Row) (same : (r : Row) → f (g r) ≡ f r) where
  member-set : (x : Row) (k l : List Row) → set_of k ≡ set_of (map g l) → member x (flat_map f k) ≡ member x (flat_map f l)
  member-set x k l e =
      let p : Row → Bool = λ r. member x (f r) in
      member-flat_map f x k ∙ sym (some-set p k) ∙ ap (some_of p) e ∙ some-set p (map g l) ∙ some-map p g (λ r. ap (member x) (same r)) l ∙ sym (member-flat_map f x l)

-- ---- fields that a mask keeps

field_map : (f : ℕ → ℕ) (l : List ℕ) (i : ℕ) → i < length l → get_or (map f l) i 0 ≡ f (get_or l i 0)
field_map f [] i h = absurd (not-suc-le-zero h)
field_map f (x ∷ l) zero h = refl
field_map f (x ∷ l) (suc i) h = field_map f l i (omega arith)

field_kept : (used : List ℕ) → Mask used → (r : Row) (c : ℕ) → Keeps used c → get_or (masked_row used r) c 0 ≡ get_or r c 0
field_kept used m r c k =
    let f : ℕ → ℕ = joined_field stride r (replicate stride 0) in
    field_padded stride (map f used) c (rw (length-map used f, m.size) k.0) ∙ field_map f used c (rw m.size k.0) ∙ ap f k.1 ∙ rw (lt-ltb c stride k.0)

-- rows that agree with others in each pair's columns
agree_same : (p : ℕ) (pairs : List ℕ) (l k r s : Row) → ((j : ℕ) → j < p → get_or l (get_or pairs (2 * j + 0) 0) 0 ≡ get_or k (get_or pairs (2 * j + 0) 0) 0) →
    ((j : ℕ) → j < p → get_or r (get_or pairs (2 * j + 1) 0) 0 ≡ get_or s (get_or pairs (2 * j + 1) 0) 0) → agree (pairs_of p pairs) l r ≡ agree (pairs_of p pairs) k s
agree_same zero pairs l k r s e f = refl
agree_same (suc p) pairs l k r s e f =
    ap₂ {A = Bool} {B = Bool} {C = Bool} (λ x y. x && y) (ap₂ {A = ℕ} {B = ℕ} {C = Bool} eqb (e 0 (omega arith)) (f 0 (omega arith)))
    (agree_same p (drop 2 pairs) l k r s
    (λ j h. let i : 2 * suc j + 0 ≡ 2 + (2 * j + 0) = omega arith in rw (get_or-drop 2 pairs (2 * j + 0) 0, ← i) (e (suc j) (omega arith)))
    (λ j h. let i : 2 * suc j + 1 ≡ 2 + (2 * j + 1) = omega arith in rw (get_or-drop 2 pairs (2 * j + 1) 0, ← i) (f (suc j) (omega arith))))

columns_each : (n : ℕ) (columns : List ℕ) (f g : ℕ → ℕ) → ((j : ℕ) → j < n → f (get_or columns j 0) ≡ g (get_or columns j 0)) → map f (take n columns) ≡ map g (take n columns)
columns_each zero columns f g e = refl
columns_each (suc n) [] f g e = refl
columns_each (suc n) (c ∷ columns) f g e =
    ap₂ {A = ℕ} {B = List ℕ} {C = List ℕ} (λ x l. x ∷ l) (e 0 (omega arith)) (columns_each n columns f g (λ j h. e (suc j) (omega arith)))

-- ---- the law

module _ (how : Joining) (fits : JoinFits how) where
  -- rows that have the fields of others where a join looks make what the others make
  joined_same : (l k r s : Row) → ((j : ℕ) → j < how.p → get_or l (get_or how.pairs (2 * j + 0) 0) 0 ≡ get_or k (get_or how.pairs (2 * j + 0) 0) 0) →
      ((j : ℕ) → j < how.p → get_or r (get_or how.pairs (2 * j + 1) 0) 0 ≡ get_or s (get_or how.pairs (2 * j + 1) 0) 0) →
      ((j : ℕ) → j < how.n → joined_field how.split l r (get_or how.columns j 0) ≡ joined_field how.split k s (get_or how.columns j 0)) → joined_if how l r ≡ joined_if how k s
  joined_same l k r s e f g =
      ap₂ {A = Bool} {B = Row} {C = List Row} (λ t x. keep_if t x []) (agree_same how.p how.pairs l k r s e f)
      (ap (padded stride) (columns_each how.n how.columns (joined_field how.split l r) (joined_field how.split k s) g))

  -- left rows masked
  module _ (used : List ℕ) (u : Uses how 0 0 how.split used) where
    left-same : (l r : Row) → joined_if how (masked_row used l) r ≡ joined_if how l r
    left-same l r =
        joined_same (masked_row used l) l r r (λ j h. field_kept used u.mask l (get_or how.pairs (2 * j + 0) 0) (u.pairs j h)) (λ j h. refl)
        (λ j h. go (get_or how.columns j 0) (u.columns j h) (ltb (get_or how.columns j 0) how.split) refl)
      where
        go : (c : ℕ) → (0 ≤ c → c < how.split → Keeps used (c - 0)) → (t : Bool) → ltb c how.split ≡ t →
            cond t (get_or (masked_row used l) c 0) (get_or r (c - how.split) 0) ≡ cond t (get_or l c 0) (get_or r (c - how.split) 0)
        go c k true e = let z : c - 0 ≡ c = omega arith in field_kept used u.mask l c (rw z at (k zero-le (ltb-true c how.split e)))
        go c k false e = refl

    pub left_masked : (left right masked : List Row) → set_of masked ≡ masked_rows used left → joined_rows how masked right ≡ joined_rows how left right
    left_masked left right masked e =
        ext (joined_rows how masked right) (joined_rows how left right) (asc-set_of (flat_map (joined_with how right) masked)) (asc-set_of (flat_map (joined_with how right) left))
        (λ x. member-set_of x (flat_map (joined_with how right) masked)
        ∙ member-set (joined_with how right) (masked_row used)
        (λ l. sym (each_joined how fits (masked_row used l) right) ∙ ap (λ (f : Row → List Row). flat_map f right) (fun_ext (left-same l)) ∙ each_joined how fits l right) x masked left e
        ∙ sym (member-set_of x (flat_map (joined_with how right) left)))

  -- right rows masked
  module _ (used : List ℕ) (u : Uses how 1 how.split (how.split + stride) used) where
    right-same : (l r : Row) → joined_if how l (masked_row used r) ≡ joined_if how l r
    right-same l r =
        joined_same l l (masked_row used r) r (λ j h. refl) (λ j h. field_kept used u.mask r (get_or how.pairs (2 * j + 1) 0) (u.pairs j h))
        (λ j h. go (get_or how.columns j 0) (λ g. u.columns j h g (column-below (how.split + stride) how.columns how.n j fits.columns h (omega (arith, fits.columns-long))))
        (ltb (get_or how.columns j 0) how.split) refl)
      where
        go : (c : ℕ) → (how.split ≤ c → Keeps used (c - how.split)) → (t : Bool) → ltb c how.split ≡ t →
            cond t (get_or l c 0) (get_or (masked_row used r) (c - how.split) 0) ≡ cond t (get_or l c 0) (get_or r (c - how.split) 0)
        go c k true e = refl
        go c k false e = field_kept used u.mask r (c - how.split) (k (ltb-false c how.split e))

    pub right_masked : (left right masked : List Row) → set_of masked ≡ masked_rows used right → joined_rows how left masked ≡ joined_rows how left right
    right_masked left right masked e =
        ext (joined_rows how left masked) (joined_rows how left right) (asc-set_of (flat_map (joined_with how masked) left)) (asc-set_of (flat_map (joined_with how right) left))
        (λ x. member-set_of x (flat_map (joined_with how masked) left)
        ∙ member_each x (joined_with how masked) (joined_with how right)
        (λ l. ap (member x) (sym (each_joined how fits l masked))
        ∙ member-set (joined_if how l) (masked_row used) (right-same l) x masked right e ∙ ap (member x) (each_joined how fits l right)) left
        ∙ sym (member-set_of x (flat_map (joined_with how right) left)))

-- masked rows in a place, read back
module _ (used : List ℕ) (m : Mask used) (s : List ℕ) (n : ℕ) (few : n ≤ max_rows) (out : List ℕ) (k : ℕ) (st : MaskedSet (take stride used) (first_rows s n) out k) where
  pub masked_few : k ≤ max_rows
  masked_few = omega (arith, st.few, length-rows stride s 0 n)

  pub masked_long : k * stride ≤ length out
  masked_long = omega (arith, st.size, masked_few)

  pub masked_rows_lem : set_of (first_rows out k) ≡ masked_rows used (first_rows s n)
  masked_rows_lem = st.same ∙ ap (λ (l : List ℕ). masked_rows l (first_rows s n)) (take_all stride used (omega (arith, m.size)))
