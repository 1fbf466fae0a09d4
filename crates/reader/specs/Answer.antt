-- What the reader answers, in the model's terms.
use Rattle.std.specs.Prelude.{[], Result, Ok, Err}
use Rattle.model.specs.Areas.{padded}
use Rattle.model.specs.Calls.{ReadAnswer}
use Rattle.model.specs.Record.{accepted}
use Rattle.model.specs.Row.{max_nodes}
use Rattle.verdicts.specs.declared.Refusal.{Refusal}
use Rattle.verdicts.specs.Verdicts.{refusal_of}
use Rattle.reader.specs.declared.Answer.{Answer}

-- the model's answer: zeros beside a refusal
abbrev pub answer_of : Result Answer Refusal → ReadAnswer
answer_of (Ok a) =
    record { verdict = accepted; count = a.count; kinds = a.kinds; widths = a.widths; levels = a.levels }
answer_of (Err r) =
    record {
      verdict = refusal_of r;
      count = 0;
      kinds = padded max_nodes [];
      widths = padded max_nodes [];
      levels = padded max_nodes [];
    }
