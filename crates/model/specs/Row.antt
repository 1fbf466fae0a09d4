-- Rows, their order, and relations: document 01, "Rows, nodes, levels". A relation, a set of rows of one width, is
-- written as the strictly ascending list of its rows, so that each set has exactly one form.
use Rattle.std.specs.Prelude.{◌≡◌, Bool, true, false, not, ◌&&◌, ◌||◌, List, [], ◌∷◌, length, get_or}
use Prim.Native.Nat.{ℕ, zero, suc, ◌≤◌, compare, Ordering}
use Rattle.std.proofs.Math.Dec.{compare_is_eq}

-- "A row has 1 to 4 fields", each an unsigned 32-bit number
abbrev pub Row : Type 0
Row = List ℕ

-- "A relation is a set of rows of one width"
abbrev pub Relation : Type 0
Relation = List Row

-- the most fields of a row
abbrev pub max_width : ℕ
max_width = 4

-- "A relation holds at most 64 rows, judged after a whole batch"
abbrev pub max_rows : ℕ
max_rows = 64

-- "A network has 1 to 32 nodes"
abbrev pub max_nodes : ℕ
max_nodes = 32

-- "rows of one width": every row has w fields
abbrev pub Wide : ℕ → List Row → Type 0
Wide w [] = Unit {0}
Wide w (r ∷ l) = (length r ≡ w) × Wide w l

-- every width of a list is at most the largest
abbrev pub Narrow : List ℕ → Type 0
Narrow ws = (i : ℕ) → get_or ws i 0 ≤ max_width

-- ---- the order of rows

-- the first outcome, and where it finds no difference the second
abbrev pub and_then : Ordering → Ordering → Ordering
and_then Ordering.lt o = Ordering.lt
and_then Ordering.eq o = o
and_then Ordering.gt o = Ordering.gt

-- "Rows are ordered by first field, then second, and so on"
abbrev pub order : Row → Row → Ordering
order [] [] = Ordering.eq
order [] (y ∷ s) = Ordering.lt
order (x ∷ r) [] = Ordering.gt
order (x ∷ r) (y ∷ s) = and_then (compare x y) (order r s)

-- the first is below the second
abbrev pub is_less : Ordering → Bool
is_less Ordering.lt = true
is_less Ordering.eq = false
is_less Ordering.gt = false

-- the two rows are one
abbrev pub same_row : Row → Row → Bool
same_row r s = compare_is_eq (order r s)

-- r is below the first row of a list, if it has one
abbrev pub below_first : Row → List Row → Bool
below_first r [] = true
below_first r (s ∷ l) = is_less (order r s)

-- "strictly ascending": each row is below the next
abbrev pub ascending : List Row → Bool
ascending [] = true
ascending (r ∷ l) = below_first r l && ascending l

-- ---- sets

-- the row is in the relation
abbrev pub member : Row → List Row → Bool
member r [] = false
member r (s ∷ l) = same_row r s || member r l

-- the two relations are one
abbrev pub same_rows : List Row → List Row → Bool
same_rows [] [] = true
same_rows [] (s ∷ m) = false
same_rows (r ∷ l) [] = false
same_rows (r ∷ l) (s ∷ m) = same_row r s && same_rows l m

-- r before s ∷ l, or s ∷ l alone, or s before the rest, as r is below, equal to or above s
abbrev pub place : Ordering → Row → Row → List Row → List Row → List Row
place Ordering.lt r s l rest = r ∷ s ∷ l
place Ordering.eq r s l rest = s ∷ l
place Ordering.gt r s l rest = s ∷ rest

-- the relation with one row more, at its place
abbrev pub insert_row : Row → List Row → List Row
insert_row r [] = r ∷ []
insert_row r (s ∷ l) = place (order r s) r s l (insert_row r l)

-- the set of a list's rows
abbrev pub set_of : List Row → List Row
set_of [] = []
set_of (r ∷ l) = insert_row r (set_of l)

module _ {A : Type 0} where
  -- the element in front, where the test says so
  abbrev pub keep_if : Bool → A → List A → List A
  keep_if true a l = a ∷ l
  keep_if false a l = l

  -- the elements that pass a test
  abbrev pub keep : (A → Bool) → List A → List A
  keep p [] = []
  keep p (a ∷ l) = keep_if (p a) a (keep p l)

  -- every element passes a test
  abbrev pub all_of : (A → Bool) → List A → Bool
  all_of p [] = true
  all_of p (a ∷ l) = p a && all_of p l

  -- some element passes a test
  abbrev pub some_of : (A → Bool) → List A → Bool
  some_of p [] = false
  some_of p (a ∷ l) = p a || some_of p l

  -- the list has no element
  abbrev pub is_empty : List A → Bool
  is_empty [] = true
  is_empty (a ∷ l) = false

-- the relation without a row
unfoldable pub delete_row : Row → List Row → List Row
delete_row r l = keep (λ s. not (same_row s r)) l

-- the numbers from i on, n of them
abbrev pub count_from : ℕ → ℕ → List ℕ
count_from i zero = []
count_from i (suc n) = i ∷ count_from (suc i) n

-- the numbers below n, ascending
abbrev pub numbers_below : ℕ → List ℕ
numbers_below n = count_from 0 n
