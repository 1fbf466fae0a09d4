-- What the coherence check answers, in the model's terms.
use Rattle.std.specs.Prelude.{Bool, false, Result, Ok, Err}
use Rattle.model.specs.Record.{accepted}
use Rattle.model.specs.Calls.{CheckAnswer}
use Rattle.verdicts.specs.declared.Refusal.{Refusal}
use Rattle.verdicts.specs.Verdicts.{refusal_of}

-- yes or no, or the refusal, with no beside it
abbrev pub check_answer_of : Result Bool Refusal → CheckAnswer
check_answer_of (Ok is) = record { verdict = accepted; yes? = is }
check_answer_of (Err r) = record { verdict = refusal_of r; yes? = false }
