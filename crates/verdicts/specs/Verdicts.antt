-- What rules, refusals and answers in the code mean.
use Rattle.std.specs.Prelude.{ℕ, Result, Ok, Err}
use Rattle.model.specs.Record.{accepted, refused}
use Rattle.verdicts.specs.declared.Refusal.{Refusal}
use Rattle.verdicts.specs.declared.Rule.{Rule}
use Rattle.verdicts.specs.declared.Rule.TheVariants.{ShortArea, EmptyNetwork, BrokenRecord, UnknownKind, TooManyNodes}
use Rattle.verdicts.specs.declared.Rule.TheVariants.{WrongLength, WrongField, BadForm, LastBatch, BrokenEvent}
use Rattle.verdicts.specs.declared.Rule.TheVariants.{UnknownEvent, TooManyEvents, WrongEvent, TooManyRows, Unwatched}
use Rattle.verdicts.specs.declared.Rule.TheVariants.{ShortReport, BadPending, NothingPending}
use Rattle.model.specs.Record as model

-- the order's number of a rule
abbrev pub number_of : Rule → ℕ
number_of ShortArea = 1
number_of EmptyNetwork = 2
number_of BrokenRecord = 3
number_of UnknownKind = 4
number_of TooManyNodes = 5
number_of WrongLength = 6
number_of WrongField = 7
number_of BadForm = 8
number_of LastBatch = 9
number_of BrokenEvent = 10
number_of UnknownEvent = 11
number_of TooManyEvents = 12
number_of WrongEvent = 13
number_of TooManyRows = 14
number_of Unwatched = 15
number_of ShortReport = 16
number_of BadPending = 17
number_of NothingPending = 18

-- the rule's number and the place
abbrev pub refusal_of : Refusal → model.Verdict
refusal_of r = refused (number_of r.rule) r.place

-- an answer is refused, or whatever it is, accepted
abbrev pub verdict_of : {X : Type 0} → Result X Refusal → model.Verdict
verdict_of (Ok x) = accepted
verdict_of (Err r) = refusal_of r
