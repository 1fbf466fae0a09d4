-- Records in bytes: document 01, "Records" ("House format, little-endian"), and the rule that 3 and 10 share.
use Rattle.std.specs.Prelude.{Bool, ◌||◌, cond, List, [], ◌∷◌, ◌++◌, ℕ, zero, suc, ◌+◌, ◌-◌, ◌*◌, ◌/◌, ◌%◌, ◌<◌, leb, ltb, eqb, get_or, length}

-- a network's or a batch's bytes, each below 256
abbrev pub Bytes : Type 0
Bytes = List ℕ

-- ---- numbers, little-endian

-- the 2-byte number at an offset; 0 for a byte past the end
abbrev pub u16 : Bytes → ℕ → ℕ
u16 bs at = get_or bs at 0 + 256 * get_or bs (at + 1) 0

-- the 4-byte number at an offset
abbrev pub u32 : Bytes → ℕ → ℕ
u32 bs at = u16 bs at + 65536 * u16 bs (at + 2)

-- a number in 2 bytes
abbrev pub bytes16 : ℕ → Bytes
bytes16 x = (x % 256) ∷ ((x / 256) % 256) ∷ []

-- a number in 4 bytes
abbrev pub bytes32 : ℕ → Bytes
bytes32 x = bytes16 x ++ bytes16 (x / 65536)

-- ---- a record at an offset

-- "2 bytes length of the whole record, 2 bytes kind"
abbrev pub length_at : Bytes → ℕ → ℕ
length_at bs at = u16 bs at

-- the kind of the record at an offset
abbrev pub kind_at : Bytes → ℕ → ℕ
kind_at bs at = u16 bs (at + 2)

-- "then fields of 2 bytes": field k of the body
abbrev pub field_at : Bytes → ℕ → ℕ → ℕ
field_at bs at k = u16 bs (at + 4 + 2 * k)

-- n fields of the body, from field k on
abbrev pub fields_at : Bytes → ℕ → ℕ → ℕ → List ℕ
fields_at bs at k zero = []
fields_at bs at k (suc n) = field_at bs at k ∷ fields_at bs at (suc k) n

-- rules 3 and 10: "1 to 3 bytes remain, or the length is below 4 or beyond the end"
unfoldable pub is_broken : Bytes → ℕ → Bool
is_broken bs at = ltb (length bs - at) 4 || ltb (length_at bs at) 4 || ltb (length bs - at) (length_at bs at)

-- the offsets of the records from an offset on, each behind the one before, as far as the first broken one; n bounds
-- their number
unfoldable pub offsets_from : ℕ → Bytes → ℕ → List ℕ
unfolding is_broken
offsets_from zero bs at = []
offsets_from (suc n) bs at =
    let next : List ℕ = offsets_from n bs (at + length_at bs at) in
    let here : List ℕ = at ∷ cond (is_broken bs at) [] next in
    cond (leb (length bs) at) [] here

-- the offsets of all records: no more than there are bytes
unfoldable pub offsets : Bytes → List ℕ
unfolding offsets_from
offsets bs = offsets_from (length bs) bs 0

-- ---- refusals

-- "A refusal returns its number and a place"; "A call not refused has number 0 and place 0"
pub record Verdict : Type 0 where
  pub number : ℕ
  pub place : ℕ

-- not refused
abbrev pub accepted : Verdict
accepted = record { number = 0; place = 0 }

-- refused by a number, at a place
abbrev pub refused : ℕ → ℕ → Verdict
refused number place = record { number = number; place = place }

-- the number is 0
abbrev pub is_accepted : Verdict → Bool
is_accepted v = eqb v.number 0

-- a verdict fits an answer of 64 bits: its number is below 27, and its place fits 32 bits
pub record SmallVerdict (v : Verdict) : Type 0 where
  pub number : v.number < 27
  pub place : v.place < 4294967296

-- a rule's number, and whether it is broken
pub record Rule : Type 0 where
  pub number : ℕ
  pub broken : Bool

-- a rule by its number
abbrev pub rule : ℕ → Bool → Rule
rule number broken = record { number = number; broken = broken }

-- "on it the lowest number": the first broken rule of a list in checking order, 0 if none is
abbrev pub first_broken : List Rule → ℕ
first_broken [] = 0
first_broken (r ∷ rules) = cond r.broken r.number (first_broken rules)
