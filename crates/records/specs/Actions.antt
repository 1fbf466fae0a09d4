-- What events do, by their kinds' numbers.
use Rattle.std.specs.Prelude.{◌≡◌, ℕ, Result, MatchResult, false}
use Rattle.model.specs.Batch.{is_event_kind}
use Rattle.records.specs.declared.Action.{Action}
use Rattle.records.specs.declared.Action.TheVariants.{Put, Remove}
use Rattle.verdicts.specs.declared.Rule.{Rule}
use Rattle.verdicts.specs.declared.Rule.TheVariants.{UnknownEvent}

-- the number of an action's kind
abbrev pub action_number : Action → ℕ
action_number Put = 32
action_number Remove = 33

-- the action with this number, or rule 11 where none has it
abbrev pub IsAction : ℕ → Result Action Rule → Type 0
IsAction kind r = MatchResult r (λ a. action_number a ≡ kind) (λ e. (e ≡ UnknownEvent) × (is_event_kind kind ≡ false))
