-- What a report answers, in the model's terms.
use Rattle.std.specs.Prelude.{ℕ, Result, Ok, Err}
use Rattle.model.specs.Record.{Bytes, accepted}
use Rattle.model.specs.Calls.{ReportAnswer}
use Rattle.verdicts.specs.declared.Refusal.{Refusal}
use Rattle.verdicts.specs.Verdicts.{refusal_of}

-- the length, or the refusal, with length 0 beside it, and the bytes that it leaves
abbrev pub report_answer_of : Result ℕ Refusal → Bytes → ReportAnswer
report_answer_of (Ok size) out = record { verdict = accepted; size = size; out = out }
report_answer_of (Err r) out = record { verdict = refusal_of r; size = 0; out = out }
