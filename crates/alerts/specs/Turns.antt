-- Lists of calls on the same areas and one pending area: what document 02's claim about alerts speaks of. "This holds
-- where all calls get the same network, nobody else writes to the areas and each accepted batch, but no refused one, is
-- folded just once, before any taking and before the next, and is not claimed between a batch and its folding": a batch
-- and its folding are one turn.
use Rattle.std.specs.Prelude.{◌≡◌, true, false, List, [], ◌∷◌, ℕ}
use Rattle.model.specs.Record.{Bytes, is_accepted}
use Rattle.model.specs.Areas.{Areas}
use Rattle.model.specs.Calls.{Result, Applied, FoldAnswer, fold_call, TakeAnswer, take_call}

-- a turn: a batch is applied and, if it is accepted, folded in; or a row is taken
pub data Turn : Type 0 where
  batch : Bytes → Turn
  taking : Turn

-- what the calls of a turn answered and left
pub data Outcome : Type 0 where
  refused_batch : Result → Outcome
  folded_batch : Result → FoldAnswer → Outcome
  took_row : TakeAnswer → Outcome

-- the areas after a turn: folding and taking only read them
abbrev pub areas_after : Areas → Outcome → Areas
areas_after a (refused_batch r) = r.areas
areas_after a (folded_batch r f) = r.areas
areas_after a (took_row t) = a

-- the pending area after a turn
abbrev pub pending_after : List ℕ → Outcome → List ℕ
pending_after p (refused_batch r) = p
pending_after p (folded_batch r f) = f.pending
pending_after p (took_row t) = t.pending

-- every call of a turn meets its contract
abbrev pub MeetsTurn : Bytes → Turn → Areas → List ℕ → Outcome → Type 0
MeetsTurn net (batch b) a p (refused_batch r) = Applied net b a r × (is_accepted r.verdict ≡ false)
MeetsTurn net (batch b) a p (folded_batch r f) = Applied net b a r × (is_accepted r.verdict ≡ true)
    × (f ≡ fold_call net r.areas p)
MeetsTurn net (batch b) a p (took_row t) = ⊥
MeetsTurn net taking a p (refused_batch r) = ⊥
MeetsTurn net taking a p (folded_batch r f) = ⊥
MeetsTurn net taking a p (took_row t) = t ≡ take_call net a p

-- each turn on what the one before left; one outcome for each turn
abbrev pub RunsTurns : Bytes → Areas → List ℕ → List Turn → List Outcome → Type 0
RunsTurns net a p [] [] = Unit {0}
RunsTurns net a p [] (o ∷ outcomes) = ⊥
RunsTurns net a p (t ∷ turns) [] = ⊥
RunsTurns net a p (t ∷ turns) (o ∷ outcomes) = MeetsTurn net t a p o
    × RunsTurns net (areas_after a o) (pending_after p o) turns outcomes

-- the areas after the last turn
abbrev pub last_areas : Areas → List Outcome → Areas
last_areas a [] = a
last_areas a (o ∷ outcomes) = last_areas (areas_after a o) outcomes

-- the pending area after the last turn
abbrev pub last_pending : List ℕ → List Outcome → List ℕ
last_pending p [] = p
last_pending p (o ∷ outcomes) = last_pending (pending_after p o) outcomes
