-- Relations in places of 64 rows: what the operators read and leave.
use Rattle.std.specs.Prelude.{◌≡◌, Bool, true, List, [], ◌∷◌, ℕ, ◌≤◌, ◌<◌, length, replicate, Option, None, Some}
use Rattle.model.specs.Row.{Row, Relation, keep, insert_row, max_rows, max_width}
use Rattle.model.specs.Areas.{layout, held_in, good_place, place_of, place_size}
use Rattle.rows.specs.Rows.{first_rows, stored, Standing}

-- the relation that a place holds
abbrev pub relation_in : ℕ → List ℕ → ℕ → Relation
relation_in w words n = held_in layout w n words 0

-- a place of good form, of a width
pub record Place (w : ℕ) (words : List ℕ) (n : ℕ) : Type 0 where
  pub long : length words ≡ place_size
  pub narrow : w ≤ max_width
  pub good : good_place layout w n words 0 ≡ true

-- an empty place
abbrev pub Blank : List ℕ → Type 0
Blank words = words ≡ replicate place_size 0

-- the relation stands in the place, with its count
pub record Fills (rel : Relation) (after : List ℕ) (n : ℕ) : Type 0 where
  pub count : n ≡ length rel
  pub few : n ≤ max_rows
  pub is : after ≡ place_of layout rel

-- of the first i rows of some words those that pass a test stand in a place that was empty
pub record Kept (p : Row → Bool) (s : List ℕ) (i : ℕ) (out : List ℕ) (m : ℕ) : Type 0 where
  pub count : m ≡ length (keep p (first_rows s i))
  pub is : out ≡ stored (keep p (first_rows s i)) (replicate place_size 0)
  pub few : m ≤ i
  pub size : length out ≡ place_size

-- some rows stand in a place that was empty, with their count
abbrev pub Stands : List Row → List ℕ → ℕ → Type 0
Stands l out n = Standing max_rows place_size l out n

-- some rows stand in the place, or they are more than 64
abbrev pub Stored : List Row → List ℕ → Option ℕ → Type 0
Stored l out (Some n) = Stands l out n
Stored l out None = (max_rows < length l) × (length out ≡ place_size)

-- a relation stands in the place, or it has more than 64 rows
abbrev pub Makes : Relation → List ℕ → Option ℕ → Type 0
Makes rel out (Some n) = Fills rel out n
Makes rel out None = (max_rows < length rel) × (length out ≡ place_size)

-- the rows of a put into b, from the last to the first
abbrev pub insert_all : List Row → List Row → List Row
insert_all [] b = b
insert_all (r ∷ a) b = insert_row r (insert_all a b)
