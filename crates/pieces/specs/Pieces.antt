-- A file of batches, cut at its marks: what the functions of this crate answer, in the model's terms.
use Rattle.std.specs.Prelude.{◌≡◌, List, [], ◌∷◌, ℕ, ◌+◌, ◌-◌, ◌≤◌, length}
use Rattle.model.specs.Record.{Bytes, offsets_from, Verdict, accepted, refused}
use Rattle.model.specs.Text as text
use Rattle.model.specs.Text.{pieces_from, bytes_between, batch, broken, unfinished}
use Rattle.pieces.specs.declared.Piece.{Piece}
use Rattle.pieces.specs.declared.Piece.TheVariants.{Batch, Broken, Unfinished, End}

-- the pieces of the file from the batch that starts at an offset
abbrev pub pieces_on : Bytes → ℕ → List text.Piece
pieces_on file start = pieces_from file start (offsets_from (length file - start) file start)

-- the number and the place of each answer: a broken length is 10, at its offset from the batch's first byte
abbrev pub refusal_of : Piece → Verdict
refusal_of (Batch end) = accepted
refusal_of (Broken at) = refused 10 at
refusal_of Unfinished = accepted
refusal_of End = accepted

-- the first of them, and those after it
abbrev pub Next : Bytes → ℕ → Piece → Type 0
Next file start (Batch end) = (start ≤ end) × (end + 4 ≤ length file)
    × (pieces_on file start ≡ batch (bytes_between file start end) ∷ pieces_on file (end + 4))
Next file start (Broken at) = pieces_on file start ≡ broken at ∷ []
Next file start Unfinished = pieces_on file start ≡ unfinished ∷ []
Next file start End = pieces_on file start ≡ []
