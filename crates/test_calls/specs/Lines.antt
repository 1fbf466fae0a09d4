-- The lines that tell what a call of the monitor gave.
use Rattle.std.specs.Prelude.{◌≡◌, cond, List, [], ◌∷◌, ◌++◌, ℕ, length}
use Rattle.model.specs.Record.{Bytes, Verdict}
use Rattle.model.specs.Areas.{Areas}
use Rattle.model.specs.Calls.{Applied, CheckAnswer, ReportAnswer, Result, check_call}
use Rattle.model.specs.Text.{line}
use Rattle.lines.specs.Written.{Put}

-- ---- lines

-- a verdict
abbrev pub verdict_line : Verdict → Bytes
verdict_line v = line [] (v.number ∷ v.place ∷ [])

-- the coherence check's answer; yes is 1
abbrev pub check_line : CheckAnswer → Bytes
check_line c = line [] (c.verdict.number ∷ c.verdict.place ∷ cond c.yes? 1 0 ∷ [])

-- the check's answer as a report's, which writes nothing: yes is size 1
abbrev pub checked : CheckAnswer → Bytes → ReportAnswer
checked c out = record { verdict = c.verdict; size = cond c.yes? 1 0; out = out }

-- a report's verdict and size
abbrev pub report_line : ReportAnswer → Bytes
report_line r = line [] (r.verdict.number ∷ r.verdict.place ∷ r.size ∷ [])

-- " apply"
abbrev pub apply_word : Bytes
apply_word = 32 ∷ 97 ∷ 112 ∷ 112 ∷ 108 ∷ 121 ∷ []

-- " head"
abbrev pub head_word : Bytes
head_word = 32 ∷ 104 ∷ 101 ∷ 97 ∷ 100 ∷ []

-- a batch's verdict, and what the check then says
abbrev pub applied_line : Verdict → CheckAnswer → Bytes
applied_line v c = line apply_word (v.number ∷ v.place ∷ c.verdict.number ∷ cond c.yes? 1 0 ∷ [])

-- a batch: its line, and the head's words after it
abbrev pub batch_lines : Verdict → CheckAnswer → List ℕ → Bytes
batch_lines v c head = applied_line v c ++ line head_word head

-- ---- calls

-- a text is written from the first byte on
abbrev pub Writes : Bytes → Bytes → Bytes → ℕ → Type 0
Writes shown text after r = Put shown (length text) 0 text after r

-- a batch is applied, and its lines are written
pub record Applies (net batch : Bytes) (a after : Areas) (text text-after : Bytes) (r : ℕ) : Type 0 where
  pub result : Result
  pub applied : Applied net batch a result
  pub areas : after ≡ result.areas
  pub wrote : Writes (batch_lines result.verdict (check_call net after) after.head) text text-after r
