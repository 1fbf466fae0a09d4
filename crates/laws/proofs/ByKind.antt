-- Laws of every node, kind by kind. Assumes nothing.
use mathlib.Core.Bool.{Bool, ◌&&◌, not, true, false, true≢false}
use mathlib.Core.List.{List, [], ◌∷◌, ◌++◌, flat_map, map}
use mathlib.Core.Path.{◌≡◌, ap, refl, sym}
use Prim.Native.Nat.{ℕ, zero, suc, ◌+◌, ◌*◌, ◌≤◌, zero-le}
use native.Mathlib.Omega.{arith}
use lib.Dec.{eqb, leb}
use lib.ListN.{get_or, length, length-map}
use borrow.Author.Tests.{eqb-true, leb-true}
use Rattle.model.specs.Row.{Row, Relation, Wide, keep, member, some_of, max_width}
use Rattle.model.specs.Algebra.{Pair, agree, columns_of, join_one, passes, select_rows, project_rows, join_rows, union_rows, difference_rows, intersect_rows, unmatched_rows}
use Rattle.model.specs.Algebra.{column, constant, Operand}
use Rattle.model.specs.Record.{Bytes, field_at, fields_at, length_at}
use Rattle.model.specs.Network.{max_pairs, Item, Kind, Node, difference, has_shape, intersection, item_at, item_fits, join, join_shape, kind_of, kinds, no_kind, node_fits, node_item, project}
use Rattle.model.specs.Network.{is_table, width_on, counted_shape, select, set_operation, no_match, table, union, watch_item, width_of, within, fits_on, SetOperation, evaluate_on, evaluate_set}
use Rattle.laws.proofs.Sets.{Ascending, and_first, and_second}
use Rattle.laws.proofs.Widths.{wide-keep, wide-append, wide-set_of, wide_each, wide-map}
use Rattle.laws.proofs.Algebra.{asc-select, asc-project, asc-join, asc-union, asc-difference, asc_intersect, asc_unmatched}

-- ---- a kind's number

pub kind_most : (n : Node) → kind_of n ≤ 32
kind_most (table w) = omega arith
kind_most (select i c k (constant v)) = omega arith
kind_most (select i c k (column o)) = omega arith
kind_most (project i columns) = omega arith
kind_most (join l r pairs columns) = omega arith
kind_most (set_operation union l r) = omega arith
kind_most (set_operation difference l r) = omega arith
kind_most (set_operation intersection l r) = omega arith
kind_most (no_match l r pairs) = omega arith

-- ---- what a record of a kind brings is no wider than the largest width, if the nodes before it are

-- the width of the node that an item brings, 0 if it brings a watch
abbrev pub width_from : Item → List ℕ → ℕ
width_from (node_item n) ws = width_of n ws
width_from (watch_item w) ws = 0

-- so it is of a kind
abbrev BringsNarrow : Kind → Type 0
BringsNarrow kind =
    (ws signs : List ℕ) (bs : Bytes) (at : ℕ) → kind.shape bs at ≡ true → item_fits ws signs (kind.item bs at) ≡ true → ((i : ℕ) → get_or ws i 0 ≤ max_width) → width_from (kind.item bs at) ws ≤
    max_width

-- so it is of each kind of a list
abbrev AllNarrow : List Kind → Type 0
AllNarrow [] = Unit {0}
AllNarrow (kind ∷ l) = BringsNarrow kind × AllNarrow l

no_kind-narrow : BringsNarrow no_kind
no_kind-narrow ws signs bs at h f narrow = absurd (true≢false (sym h))

narrow_in : (l : List Kind) (k : ℕ) → AllNarrow l → BringsNarrow (get_or l k no_kind)
narrow_in [] k h = no_kind-narrow
narrow_in (kind ∷ l) zero h = h.0
narrow_in (kind ∷ l) (suc k) h = narrow_in l k h.1

length-fields_at : (bs : Bytes) (at k n : ℕ) → length (fields_at bs at k n) ≡ n
length-fields_at bs at k zero = refl
length-fields_at bs at k (suc n) = ap suc (length-fields_at bs at (suc k) n)

counted-few : (k most each : ℕ) (bs : Bytes) (at : ℕ) → counted_shape k most each bs at ≡ true → field_at bs at k ≤ most
unfolding counted_shape
counted-few k most each bs at e =
    let long : Bool = leb (6 + 2 * k) (length_at bs at) in
    let f : (long && within 1 most (field_at bs at k)) ≡ true = and_first (long && within 1 most (field_at bs at k)) (eqb (length_at bs at) (6 + 2 * (k + each * field_at bs at k))) e in
    leb-true (field_at bs at k) most (and_second (leb 1 (field_at bs at k)) (leb (field_at bs at k) most) (and_second long (within 1 most (field_at bs at k)) f))

join-narrow : (bs : Bytes) (at : ℕ) → join_shape bs at ≡ true → field_at bs at (3 + 2 * field_at bs at 2) ≤ max_width
unfolding join_shape
join-narrow bs at e =
    let c : ℕ = field_at bs at (3 + 2 * field_at bs at 2) in
    let front : Bool = leb 10 (length_at bs at) && leb (field_at bs at 2) max_pairs && leb (12 + 4 * field_at bs at 2) (length_at bs at) in
    let f : (front && within 1 max_width c) ≡ true = and_first (front && within 1 max_width c) (eqb (length_at bs at) (12 + 4 * field_at bs at 2 + 2 * c)) e in
    leb-true c max_width (and_second (leb 1 c) (leb c max_width) (and_second front (within 1 max_width c) f))

kinds-narrow : AllNarrow kinds
unfolding item_fits node_fits fits_on
kinds-narrow = (
  λ ws signs bs at h f narrow. leb-true (field_at bs at 0) max_width (and_second (leb 1 (field_at bs at 0)) (leb (field_at bs at 0) max_width) f),
  (
    λ ws signs bs at h f narrow. narrow (field_at bs at 0),
    (
      λ ws signs bs at h f narrow. narrow (field_at bs at 0),
      (
        λ ws signs bs at h f narrow. rw (length-fields_at bs at 2 (field_at bs at 1)) (counted-few 1 max_width 1 bs at h),
        (
          λ ws signs bs at h f narrow. rw (length-fields_at bs at (4 + 2 * field_at bs at 2) (field_at bs at (3 + 2 * field_at bs at 2))) (join-narrow bs at h),
          (
            λ ws signs bs at h f narrow. narrow (field_at bs at 0),
            (
              λ ws signs bs at h f narrow. narrow (field_at bs at 0),
              (
                λ ws signs bs at h f narrow. narrow (field_at bs at 0),
                (
                  λ ws signs bs at h f narrow. zero-le,
                  (
                    λ ws signs bs at h f narrow. narrow (field_at bs at 0),
                    tt,
                  ),
                ),
              ),
            ),
          ),
        ),
      ),
    ),
  ),
)

-- so it is of the kind of any number
pub item-narrow : (k : ℕ) (ws signs : List ℕ) (bs : Bytes) (at : ℕ) → has_shape k bs at ≡ true → item_fits ws signs (item_at k bs at) ≡ true → ((i : ℕ) → get_or ws i 0 ≤ max_width) →
    width_from (item_at k bs at) ws ≤ max_width
unfolding has_shape item_at
item-narrow k = narrow_in (no_kind ∷ kinds) k (no_kind-narrow, kinds-narrow)

-- ---- what a node's kind gives

asc-set : (o : SetOperation) (l r : Relation) → Ascending l → Ascending (evaluate_set o l r)
unfolding evaluate_set
asc-set union l r a = asc-union l r
asc-set difference l r a = asc-difference l r a
asc-set intersection l r a = asc_intersect l r a

-- it ascends
pub on_asc : (n : Node) (l r : Relation) → Ascending l → Ascending (evaluate_on n l r)
unfolding evaluate_on
on_asc (table w) l r a = tt
on_asc (select i c k o) l r a = asc-select c k o l a
on_asc (project i columns) l r a = asc-project columns l
on_asc (join i j pairs columns) l r a = asc-join pairs columns l r
on_asc (set_operation o i j) l r a = asc-set o l r a
on_asc (no_match i j pairs) l r a = asc_unmatched pairs l r a

select_none : (c k : ℕ) (o : Operand) → select_rows c k o [] ≡ []
unfolding select_rows
select_none c k (constant v) = refl
select_none c k (column x) = refl

set_none : (o : SetOperation) → evaluate_set o [] [] ≡ []
unfolding evaluate_set union_rows difference_rows intersect_rows
set_none union = refl
set_none difference = refl
set_none intersection = refl

-- from no rows it gives none
pub on_none : (n : Node) → evaluate_on n [] [] ≡ []
unfolding evaluate_on project_rows join_rows unmatched_rows flat_map
on_none (table w) = refl
on_none (select i c k o) = select_none c k o
on_none (project i columns) = refl
on_none (join l r pairs columns) = refl
on_none (set_operation o l r) = set_none o
on_none (no_match l r pairs) = refl

wide_one : (pairs : List Pair) (columns : List ℕ) (right : Relation) (l : Row) → Wide (length columns) (join_one pairs columns right l)
unfolding join_one
wide_one pairs columns right l = wide-map (λ r. columns_of columns (l ++ r)) (length columns) (keep (agree pairs l) right) (λ r. length-map columns (λ c. get_or (l ++ r) c 0))

wide_operation : (v : ℕ) (o : SetOperation) (l r : Relation) → Wide v l → Wide v r → Wide v (evaluate_set o l r)
unfolding evaluate_set union_rows difference_rows intersect_rows
wide_operation v union l r h g = wide-set_of v (l ++ r) (wide-append v l r h g)
wide_operation v difference l r h g = wide-keep v (λ x. not (member x r)) l h
wide_operation v intersection l r h g = wide-keep v (λ x. member x r) l h

-- what a node's kind gives has its width
pub on_wide : (v w : ℕ) (n : Node) (l r : Relation) → is_table n ≡ false → fits_on v w n ≡ true → Wide v l → Wide w r → Wide (width_on v n) (evaluate_on n l r)
unfolding evaluate_on fits_on select_rows project_rows join_rows unmatched_rows
on_wide v w (table x) l r e f h g = absurd (true≢false e)
on_wide v w (select i c k o) l r e f h g = wide-keep v (passes c k o) l h
on_wide v w (project i columns) l r e f h g = wide-set_of (length columns) (map (columns_of columns) l)
    (wide-map (columns_of columns) (length columns) l (λ s. length-map columns (λ c. get_or s c 0)))
on_wide v w (join i j pairs columns) l r e f h g = wide-set_of (length columns) (flat_map (join_one pairs columns r) l)
    (wide_each (length columns) (join_one pairs columns r) l v h (λ s k. wide_one pairs columns r s))
on_wide v w (set_operation o i j) l r e f h g = let same : v ≡ w = eqb-true v w f in wide_operation v o l r h (rw same g)
on_wide v w (no_match i j pairs) l r e f h g = wide-keep v (λ x. not (some_of (agree pairs x) r)) l h
