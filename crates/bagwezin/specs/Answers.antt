-- What the C interface answers for each call.
use Rattle.std.specs.Prelude.{◌≡◌, Bool, true, false, cond, List, ◌++◌, ℕ, ltb, length, drop}
use Rattle.model.specs.Record.{Bytes, Verdict, refused, is_accepted}
use Rattle.model.specs.Areas.{Areas, stride, padded, over}
use Rattle.model.specs.Calls.{Result, CheckAnswer, ReportAnswer, TakeAnswer, Applied, read_call, take_call, refused_taking}
use Rattle.packing.specs.Packing.{Answers, read_words}

-- yes is 1
abbrev pub bit : Bool → ℕ
bit true = 1
bit false = 0

-- the check's answer
abbrev pub AnswersCheck : CheckAnswer → ℕ → Type 0
AnswersCheck x answer = Answers x.verdict (bit x.yes?) answer

-- the report's answer: its value is the length
abbrev pub AnswersReport : ReportAnswer → ℕ → Type 0
AnswersReport x answer = Answers x.verdict x.size answer

-- fewer than 97 lent words are refused by 1 before anything else
abbrev pub read_verdict : Bytes → List ℕ → Verdict
read_verdict net answer = cond (ltb (length answer) 97) (refused 1 0) (read_call net).verdict

-- the lent words afterwards: a refusal writes nothing, and words past the 97th stay
abbrev pub read_after : Bytes → List ℕ → List ℕ
read_after net answer = cond (is_accepted (read_verdict net answer)) (read_words (read_call net) ++ drop 97 answer) answer

-- a batch's answer and the areas that it leaves, as far as they are settled
pub record Applies (net batch : Bytes) (a after : Areas) (answer : ℕ) : Type 0 where
  pub result : Result
  pub applied : Applied net batch a result
  pub areas : after ≡ result.areas
  pub answers : Answers result.verdict 0 answer

-- a taking: fewer than 4 lent words are refused by 1 before anything else
abbrev pub take_lent : Bytes → Areas → List ℕ → List ℕ → TakeAnswer
take_lent net a pending answer =
    cond (ltb (length answer) stride) (refused_taking (refused 1 0) pending) (take_call net a pending)

-- the lent words afterwards: the row, zeros past its width; a refusal writes nothing, and words past the 4th stay
abbrev pub row_after : TakeAnswer → List ℕ → List ℕ
row_after t answer = cond (is_accepted t.verdict) (over (padded stride t.row) answer) answer
