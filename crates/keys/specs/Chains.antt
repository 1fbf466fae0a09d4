-- Keys chained by slots: the keys of one slot, from the first to the last.
use Rattle.std.specs.Prelude.{◌≡◌, Bool, cond, ◌&&◌, List, map, ℕ, zero, suc, ◌+◌, ◌-◌, ◌*◌, ◌/◌, ◌%◌, eqb, leb, ltb, get_or}
use Rattle.model.specs.Row.{numbers_below, max_rows}

-- the slot of a key, by its two fields
unfoldable pub slot_of : ℕ → ℕ
slot_of key = (key % 4294967296 + 9 * (key / 4294967296)) % max_rows

-- what f gives of each number below n
unfoldable pub counted : ℕ → (ℕ → ℕ) → List ℕ
counted n f = map f (numbers_below n)

-- the first number from one on that passes a test, of so many, or the one behind them
abbrev pub first_from : (ℕ → Bool) → ℕ → ℕ → ℕ
first_from p i zero = i
first_from p i (suc n) = cond (p i) i (first_from p (suc i) n)

-- key j is in a slot
abbrev pub in_slot : List ℕ → ℕ → ℕ → Bool
in_slot keys s j = eqb (slot_of (get_or keys j 0)) s

-- of the first n keys the first in a slot from key i on, or n
abbrev pub key_in : List ℕ → ℕ → ℕ → ℕ → ℕ
key_in keys n i s = first_from (in_slot keys s) i (n - i)

-- of the first n keys the next one in the slot of key j, or n; 0 of other keys and of those before key i
abbrev pub key_after : List ℕ → ℕ → ℕ → ℕ → ℕ
key_after keys n i j = cond (leb i j && ltb j n) (key_in keys n (j + 1) (slot_of (get_or keys j 0))) 0

-- of the first n keys those from key i on chained
pub record Chained (keys : List ℕ) (n i : ℕ) (heads next : List ℕ) : Type 0 where
  pub first : heads ≡ counted max_rows (key_in keys n i)
  pub links : next ≡ counted max_rows (key_after keys n i)
