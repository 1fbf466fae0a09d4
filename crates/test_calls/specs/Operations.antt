-- The operations of a script: what each prints, and what it leaves.
use Rattle.std.specs.Prelude.{◌≡◌, cond, List, [], ◌∷◌, ◌++◌, ℕ, ◌-◌, ◌≤◌, ltb, drop, length, replicate, set, take}
use Rattle.model.specs.Record.{Bytes}
use Rattle.model.specs.Areas.{Areas, head_words}
use Rattle.model.specs.Calls.{ReportAnswer, Result, check_call, longest_report, open_call, report_call}
use Rattle.model.specs.Text.{line}
use Rattle.areas.specs.Lent.{lent}
use Rattle.test_calls.specs.declared.script.Area.{Area}
use Rattle.test_calls.specs.declared.script.Area.TheVariants.{Rows, Gained, Lost, Head}
use Rattle.test_calls.specs.declared.script.Kind.{Kind}
use Rattle.test_calls.specs.declared.script.Kind.TheVariants.{Name, Network, Word, Open, Check, Report, Values}
use Rattle.test_calls.specs.declared.script.Kind.TheVariants.{ShortRows, ShortGained, ShortLost, ShortHead}
use Rattle.test_calls.specs.declared.script.Kind.TheVariants.{Batch, Clear}
use Rattle.test_calls.specs.declared.script.Operation.{Operation}
use Rattle.test_calls.specs.Lines.{Applies, Writes, check_line, checked, report_line, verdict_line}

-- ---- lent bytes

-- the bytes that are lent for a report: as many as asked for, at most those of the longest
abbrev pub room_of : ℕ → ℕ
room_of asked = cond (ltb asked longest_report) asked longest_report

-- ---- the areas

-- an area that is too short
abbrev pub short : List ℕ
short = replicate (head_words - 1) 0

-- one area in place of another
abbrev pub with_rows : List ℕ → Areas → Areas
with_rows l a = lent l a.gained a.lost a.head

-- the areas with other gained rows
abbrev pub with_gained : List ℕ → Areas → Areas
with_gained l a = lent a.rows l a.lost a.head

-- the areas with other lost rows
abbrev pub with_lost : List ℕ → Areas → Areas
with_lost l a = lent a.rows a.gained l a.head

-- the areas with another head
abbrev pub with_head : List ℕ → Areas → Areas
with_head l a = lent a.rows a.gained a.lost l

-- a word of an area set if it is there
abbrev pub stored : Area → ℕ → ℕ → Areas → Areas
stored Rows i v a = with_rows (set a.rows i v) a
stored Gained i v a = with_gained (set a.gained i v) a
stored Lost i v a = with_lost (set a.lost i v) a
stored Head i v a = with_head (set a.head i v) a

-- ---- calls by their kinds

-- a result with these rows
abbrev pub result_rows : List ℕ → Result → Result
result_rows l r = record { verdict = r.verdict; areas = with_rows l r.areas }

-- a result with this head
abbrev pub result_head : List ℕ → Result → Result
result_head l r = record { verdict = r.verdict; areas = with_head l r.areas }

-- the areas opened, by two of the kinds with an area too short, which keeps its words
abbrev pub opened_by : Kind → Bytes → Areas → Result
opened_by ShortRows net a = result_rows a.rows (open_call net (with_rows short a))
opened_by ShortHead net a = result_head a.head (open_call net (with_head short a))
opened_by _ net a = open_call net a

-- a report's answer, with the lent bytes behind its own
abbrev pub answer_before : Bytes → ReportAnswer → ReportAnswer
answer_before rest r = record { verdict = r.verdict; size = r.size; out = r.out ++ rest }

-- the check's answer by two of the kinds, else a report's; by two with an area too short
abbrev pub asked_by : Kind → Operation → Bytes → Areas → Bytes → ReportAnswer
asked_by Check op net a out = checked (check_call net a) out
asked_by Report op net a out =
    answer_before (drop (room_of op.value) out) (report_call net op.index a (take (room_of op.value) out))
asked_by ShortGained op net a out = checked (check_call net (with_gained short a)) out
asked_by _ op net a out = report_call net op.index (with_lost short a) out

-- ---- an operation, with the network, its own text, the areas and the bytes that are lent for a report

-- "bytes"
abbrev pub bytes_word : Bytes
bytes_word = 98 ∷ 121 ∷ 116 ∷ 101 ∷ 115 ∷ []

-- it prints a text, and leaves these areas and lent bytes
pub record Leaves (shown : Bytes) (areas : Areas) (bytes : Bytes) (after : Areas) (out-after text text-after : Bytes)
    (r : ℕ) : Type 0 where
  pub wrote : Writes shown text text-after r
  pub areas-are : after ≡ areas
  pub bytes-are : out-after ≡ bytes

-- it applies a batch, and leaves the lent bytes
pub record LeavesBatch (net batch : Bytes) (a : Areas) (bytes : Bytes) (after : Areas)
    (out-after text text-after : Bytes) (r : ℕ) : Type 0 where
  pub applies : Applies net batch a after text text-after r
  pub bytes-are : out-after ≡ bytes

-- what it does, by its kind
abbrev pub Does : Kind → Operation → Bytes → Bytes → Areas → Bytes → Areas → Bytes → Bytes → Bytes → ℕ → Type 0
Does Name op net part a out = Leaves part a out
Does Network op net part a out = Leaves [] a out
Does Word op net part a out = Leaves [] (stored op.area op.index op.value a) out
Does Open op net part a out = Leaves (verdict_line (open_call net a).verdict) (open_call net a).areas out
Does Check op net part a out = Leaves (check_line (check_call net a)) a out
Does Report op net part a out =
    Leaves (report_line (report_call net op.index a (take (room_of op.value) out))) a
    ((report_call net op.index a (take (room_of op.value) out)).out ++ drop (room_of op.value) out)
Does Values op net part a out = Leaves (line bytes_word (take (room_of op.value) out)) a out
Does ShortRows op net part a out =
    Leaves (verdict_line (open_call net (with_rows short a)).verdict)
    (with_rows a.rows (open_call net (with_rows short a)).areas) out
Does ShortGained op net part a out = Leaves (check_line (check_call net (with_gained short a))) a out
Does ShortLost op net part a out =
    Leaves (report_line (report_call net op.index (with_lost short a) out)) a
    (report_call net op.index (with_lost short a) out).out
Does ShortHead op net part a out =
    Leaves (verdict_line (open_call net (with_head short a)).verdict)
    (with_head a.head (open_call net (with_head short a)).areas) out
Does Batch op net part a out = LeavesBatch net part a out
Does Clear op net part a out = Leaves [] a (replicate longest_report 0)

-- it is run
pub record Runs (k : Kind) (op : Operation) (net part : Bytes) (a after : Areas)
    (out out-after text text-after : Bytes) (r : ℕ) : Type 0 where
  pub does : Does k op net part a out after out-after text text-after r
  pub fits : r ≤ length text
