-- A file cut at its marks, record by record. Assumes nothing.
use Prim.Native.Nat.{ℕ, zero, suc, ◌≤◌, ◌<◌, ◌-◌, ◌+◌}
use lib.ListN.{length}
use mathlib.Core.Path.{◌≡◌, refl, ◌∙◌, ap}
use native.Mathlib.Nat.{le_refl}
use mathlib.Core.Bool.{Bool, true, false}
use mathlib.Core.List.{◌∷◌, []}
use borrow.Author.Tests.{eqb-true, lt-leb, le-leb, ltb-false, ltb-true}
use lib.Dec.{eqb, ltb}
use native.Mathlib.Omega.{arith}
use Rattle.model.specs.Record.{Bytes, is_broken, length_at, kind_at}
use Rattle.pieces.specs.declared.Piece.{Piece}
use Rattle.pieces.specs.declared.Piece.TheVariants.{Batch, Broken, End, Unfinished}
use Rattle.pieces.specs.Pieces.{Next, pieces_on}
use Rattle.model.specs.Text.{pieces_from, broken, is_mark, batch, bytes_between, unfinished, pieces}
use Rattle.records.proofs.Offsets.{remaining, remaining_broken, remaining_whole, remaining_none, remaining_all}
use Rattle.records.proofs.Header.{Whole, whole}
use Rattle.laws.proofs.Sets.{and_first}

module _ (file : Bytes) (start : ℕ) where
  -- the search so far: no mark yet
  pub record Seeking (at : ℕ) : Type 0 where
    pub from : start ≤ at
    pub same : pieces_on file start ≡ pieces_from file start (remaining file at)

  pub seek_start : Seeking start
  seek_start = record { from = le_refl start; same = refl }

  module _ (at : ℕ) (s : Seeking at) (h : at < length file) where
    pub cut_broken : is_broken file at ≡ true → pieces_on file start ≡ broken (at - start) ∷ []
    unfolding pieces_from
    cut_broken e = s.same ∙ ap (pieces_from file start) (remaining_broken file at h e) ∙ rw e refl

    module _ (w : is_broken file at ≡ false) where
      here : pieces_on file start ≡ pieces_from file start (at ∷ remaining file (at + length_at file at))
      here = s.same ∙ ap (pieces_from file start) (remaining_whole file at h w)

      pub whole_here : Whole file at
      whole_here = whole file at w

      pub cut_mark : is_mark file at ≡ true → (start ≤ at) × (at + 4 ≤ length file) × (pieces_on file start ≡ batch (bytes_between file start at) ∷ pieces_on file (at + 4))
      unfolding pieces_from
      cut_mark m =
          let four : length_at file at ≡ 4 = eqb-true (length_at file at) 4 (and_first (eqb (length_at file at) 4) (eqb (kind_at file at) 34) m) in
          (s.from, omega (arith, whole_here.header), here ∙ rw (w, m) (ap (λ (n : ℕ). batch (bytes_between file start at) ∷ pieces_from file (at + 4) (remaining file (at + n))) four))

      pub cut_on : is_mark file at ≡ false → (next : ℕ) → next ≡ at + length_at file at → Seeking next
      unfolding pieces_from
      cut_on m next e = rw e (record { from = omega (arith, s.from); same = here ∙ rw (w, m) refl })

  pub cut_unfinished : (at : ℕ) → Seeking at → length file ≤ at → start < length file → pieces_on file start ≡ unfinished ∷ []
  unfolding pieces_from
  cut_unfinished at s h g = s.same ∙ ap (pieces_from file start) (remaining_none file at h) ∙ rw (lt-leb (length file) start g) refl

  pub cut_end : (at : ℕ) → Seeking at → length file ≤ at → length file ≤ start → pieces_on file start ≡ []
  unfolding pieces_from
  cut_end at s h g = s.same ∙ ap (pieces_from file start) (remaining_none file at h) ∙ rw (le-leb (length file) start g) refl

-- ---- there is a first piece, or none

-- an answer that is right
pub record Found (file : Bytes) (start : ℕ) : Type 0 where
  pub piece : Piece
  pub next : Next file start piece

module _ (file : Bytes) (start : ℕ) where
  ended : (at : ℕ) → Seeking file start at → length file ≤ at → (t : Bool) → ltb start (length file) ≡ t → Found file start
  ended at s p true e = record { piece = Unfinished; next = cut_unfinished file start at s p (ltb-true start (length file) e) }
  ended at s p false e = record { piece = End; next = cut_end file start at s p (ltb-false start (length file) e) }

  seek : (n at : ℕ) → length file - at ≤ n → Seeking file start at → Found file start
  seek zero at h s = ended at s (omega (arith, h)) (ltb start (length file)) refl
  seek (suc n) at h s = go (ltb at (length file)) refl (is_broken file at) refl (is_mark file at) refl (seek n (at + length_at file at))
    where
      go : (t : Bool) → ltb at (length file) ≡ t → (b : Bool) → is_broken file at ≡ b → (m : Bool) → is_mark file at ≡ m →
          (length file - (at + length_at file at) ≤ n → Seeking file start (at + length_at file at) → Found file start) → Found file start
      go false e b f m g ih = ended at s (ltb-false at (length file) e) (ltb start (length file)) refl
      go true e true f m g ih = record { piece = Broken (at - start); next = cut_broken file start at s (ltb-true at (length file) e) f }
      go true e false f true g ih = record { piece = Batch at; next = cut_mark file start at s (ltb-true at (length file) e) f g }
      go true e false f false g ih =
          let p : at < length file = ltb-true at (length file) e in
          ih (omega (arith, h, p, (whole_here file start at s p f).least)) (cut_on file start at s p f g (at + length_at file at) refl)

  pub found : Found file start
  found = seek (length file - start) start (omega arith) (seek_start file start)

-- all of a file
pub pieces_all : (file : Bytes) → pieces file ≡ pieces_on file 0
unfolding pieces
pieces_all file = ap (pieces_from file 0) (remaining_all file)
