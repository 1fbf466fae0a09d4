-- Numbers read from bytes.
use Rattle.std.specs.Prelude.{◌≡◌, ℕ, ◌<◌}
use Rattle.model.specs.Record.{Bytes, u16}

-- a 2-byte number, which is below 65,536
pub record Is16 (bs : Bytes) (at r : ℕ) : Type 0 where
  pub is : r ≡ u16 bs at
  pub small : r < 65536
