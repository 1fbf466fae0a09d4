-- Texts written into lent bytes.
use Rattle.std.specs.Prelude.{◌≡◌, ℕ, ◌+◌, ◌*◌, ◌≤◌, ◌<◌, length}
use Rattle.std.proofs.lemmas.List.Edits.{sets}
use Rattle.model.specs.Record.{Bytes}

-- a text is written from an offset on, no other byte changes, and the answer is where the bytes after it begin
pub record Put (text : Bytes) (most at : ℕ) (before after : Bytes) (r : ℕ) : Type 0 where
  pub bytes : after ≡ sets before at text
  pub next : r ≡ at + length text
  pub short : r ≤ at + most

-- a line of so many numbers is written from an offset on
abbrev pub PutLine : Bytes → Bytes → ℕ → ℕ → Bytes → Bytes → ℕ → Type 0
PutLine text word count at before after r = Put text (length word + 21 * count + 1) at before after r

-- a text is written from the first byte on if there is room for the longest such text, and else nothing is
pub record PutIfRoom (text : Bytes) (most : ℕ) (before after : Bytes) (r : ℕ) : Type 0 where
  pub whole : most ≤ length before → Put text most 0 before after r
  pub nothing : length before < most → (after ≡ before) × (r ≡ 0)
