-- No rule has number 0. Assumes nothing.
use Rattle.std.proofs.Common.{◌≡◌, refl, ℕ, false, ◌≤◌, lit≤}
use Rattle.model.specs.Record.{is_accepted}
use Rattle.verdicts.specs.Verdicts.{number_of, refusal_of}
use Rattle.verdicts.specs.declared.Refusal.{Refusal}
use Rattle.verdicts.specs.declared.Rule.{Rule}
use Rattle.verdicts.specs.declared.Rule.TheVariants.{ShortArea, EmptyNetwork, BrokenRecord, UnknownKind, TooManyNodes}
use Rattle.verdicts.specs.declared.Rule.TheVariants.{WrongLength, WrongField, BadForm, LastBatch, BrokenEvent}
use Rattle.verdicts.specs.declared.Rule.TheVariants.{UnknownEvent, TooManyEvents, WrongEvent, TooManyRows, Unwatched}
use Rattle.verdicts.specs.declared.Rule.TheVariants.{ShortReport, BadPending, NothingPending}

pub rule_some : (r : Rule) → 1 ≤ number_of r
rule_some ShortArea = lit≤ tt
rule_some EmptyNetwork = lit≤ tt
rule_some BrokenRecord = lit≤ tt
rule_some UnknownKind = lit≤ tt
rule_some TooManyNodes = lit≤ tt
rule_some WrongLength = lit≤ tt
rule_some WrongField = lit≤ tt
rule_some BadForm = lit≤ tt
rule_some LastBatch = lit≤ tt
rule_some BrokenEvent = lit≤ tt
rule_some UnknownEvent = lit≤ tt
rule_some TooManyEvents = lit≤ tt
rule_some WrongEvent = lit≤ tt
rule_some TooManyRows = lit≤ tt
rule_some Unwatched = lit≤ tt
rule_some ShortReport = lit≤ tt
rule_some BadPending = lit≤ tt
rule_some NothingPending = lit≤ tt

-- so a refusal is not accepted
refused_by : (r : Rule) (place : ℕ) → is_accepted (refusal_of (record { rule = r; place = place })) ≡ false
refused_by ShortArea place = refl
refused_by EmptyNetwork place = refl
refused_by BrokenRecord place = refl
refused_by UnknownKind place = refl
refused_by TooManyNodes place = refl
refused_by WrongLength place = refl
refused_by WrongField place = refl
refused_by BadForm place = refl
refused_by LastBatch place = refl
refused_by BrokenEvent place = refl
refused_by UnknownEvent place = refl
refused_by TooManyEvents place = refl
refused_by WrongEvent place = refl
refused_by TooManyRows place = refl
refused_by Unwatched place = refl
refused_by ShortReport place = refl
refused_by BadPending place = refl
refused_by NothingPending place = refl

pub not-accepted : (d : Refusal) → is_accepted (refusal_of d) ≡ false
not-accepted d = refused_by d.rule d.place
