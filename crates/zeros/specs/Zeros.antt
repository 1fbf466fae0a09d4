-- Whether words are 0, told by bits that are gathered.
use Rattle.std.specs.Prelude.{◌≡◌, Bool, ◌&&◌, List, ℕ, ◌+◌, ◌*◌, eqb, get_or}
use Rattle.model.specs.Areas.{all_zero}
use Rattle.zeros.specs.declared.Bits.{Bits}

-- how many words are taken in a turn
abbrev pub turn : ℕ
turn = 128

-- the two fields from an index on as one 64-bit word
abbrev pub pair_at : List ℕ → ℕ → ℕ
pair_at s k = get_or s k 0 + get_or s (k + 1) 0 * 4294967296

-- some bits are 0 exactly if every word of a run is
abbrev pub Tells : ℕ → List ℕ → Type 0
Tells bits run = eqb bits 0 ≡ all_zero run

-- no bit was gathered
abbrev pub no_bits : Bits → Bool
no_bits b = eqb b.even 0 && eqb b.odd 0

-- the bits of a run are gathered beside those before
abbrev pub Gathers : Bits → List ℕ → Bits → Type 0
Gathers before run after = no_bits after ≡ (no_bits before && all_zero run)
