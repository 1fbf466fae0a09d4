-- Computed examples of a taking's lent words. Each says in its comment what it pins.
use mathlib.Core.List.{List, [], ◌∷◌}
use mathlib.Core.Path.{◌≡◌, refl}
use Prim.Native.Nat.{ℕ}
use Rattle.model.specs.Record.{Bytes, accepted, refused}
use Rattle.model.specs.Areas.{Areas}
use Rattle.model.specs.Calls.{refused_taking, take_call}
use Rattle.bagwezin.specs.Answers.{row_after, take_lent}

-- the row, zeros past its width, the word past the fourth as it was; a refusal writes nothing
row_words : row_after (record { verdict = accepted; node = 1; row = 5 ∷ []; pending = [] }) (9 ∷ 9 ∷ 9 ∷ 9 ∷ 9 ∷ []) ∷ row_after (refused_taking (refused 18 0) []) (9 ∷ 9 ∷ 9 ∷ 9 ∷ []) ∷ []
    ≡ (5 ∷ 0 ∷ 0 ∷ 0 ∷ 9 ∷ []) ∷ (9 ∷ 9 ∷ 9 ∷ 9 ∷ []) ∷ []
row_words = refl

-- 3 words: 1 before anything else; 4 words: the call
three_words : (net : Bytes) (a : Areas) (p : List ℕ) → take_lent net a p (9 ∷ 9 ∷ 9 ∷ []) ≡ refused_taking (refused 1 0) p
three_words net a p = refl

four_words : (net : Bytes) (a : Areas) (p : List ℕ) → take_lent net a p (9 ∷ 9 ∷ 9 ∷ 9 ∷ []) ≡ take_call net a p
four_words net a p = refl
