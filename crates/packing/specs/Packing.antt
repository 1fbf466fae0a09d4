-- Answers for C: a number of 64 bits, and the reader's words.
use Rattle.std.specs.Prelude.{◌≡◌, cond, List, [], ◌∷◌, ◌++◌, ℕ, ◌+◌, ◌*◌, ◌/◌, ◌%◌, ◌<◌, get_or, length, Result, Ok, Err}
use Rattle.model.specs.Record.{Verdict, SmallVerdict, is_accepted}
use Rattle.model.specs.Row.{max_nodes}
use Rattle.model.specs.Calls.{ReadAnswer}
use Rattle.verdicts.specs.declared.Refusal.{Refusal}

-- 32 bits
abbrev pub half : ℕ
half = 4294967296

-- the lower half of an answer: the value, or beside a refusal its place
abbrev pub lower : Verdict → ℕ → ℕ
lower v value = cond (is_accepted v) value v.place

-- the verdict's number in the upper half
abbrev pub packed : Verdict → ℕ → ℕ
packed v value = v.number * half + lower v value

-- an answer: it is packed, its verdict is small, so that no bit is lost, and its halves give the number and the place
-- or value back
pub record Answers (v : Verdict) (value answer : ℕ) : Type 0 where
  pub packs : answer ≡ packed v value
  pub small : SmallVerdict v
  pub upper_half : answer / half ≡ v.number
  pub lower-half : answer % half ≡ lower v value

-- the value of an answer, 0 beside a refusal
abbrev pub value_of : Result ℕ Refusal → ℕ
value_of (Ok value) = value
value_of (Err refusal) = 0

-- every number of a list fits a word of 32 bits
abbrev pub FitWords : List ℕ → Type 0
FitWords l = (i : ℕ) → get_or l i 0 < half

-- the words of a reader's answer
abbrev pub read_words : ReadAnswer → List ℕ
read_words a = (a.count ∷ []) ++ a.kinds ++ a.widths ++ a.levels

-- a reader's answer fits 97 words
pub record ReadFits (x : ReadAnswer) : Type 0 where
  pub kinds-length : length x.kinds ≡ max_nodes
  pub widths-length : length x.widths ≡ max_nodes
  pub levels-length : length x.levels ≡ max_nodes
  pub count_fits : x.count < half
  pub kinds-fit : FitWords x.kinds
  pub widths-fit : FitWords x.widths
  pub levels-fit : FitWords x.levels
