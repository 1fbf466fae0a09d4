-- A list of calls on the same areas, each meeting its contract: what demand 3 speaks of.
use Rattle.std.specs.Prelude.{Bool, not, List, [], ◌∷◌, eqb}
use Rattle.model.specs.Row.{all_of}
use Rattle.model.specs.Record.{Bytes}
use Rattle.model.specs.Station.{Call, apply}
use Rattle.model.specs.Areas.{Areas}
use Rattle.model.specs.Calls.{Result, Applied}

-- a call meets its contract
abbrev pub Meets : Bytes → Call → Areas → Result → Type 0
Meets net (apply batch) a r = Applied net batch a r

-- each call meets its contract on the areas that the one before left; one result for each call
abbrev pub Runs : Bytes → Areas → List Call → List Result → Type 0
Runs net a [] [] = Unit {0}
Runs net a [] (r ∷ results) = ⊥
Runs net a (c ∷ calls) [] = ⊥
Runs net a (c ∷ calls) (r ∷ results) = Meets net c a r × Runs net r.areas calls results

-- the areas after the last call
abbrev pub end_of : Areas → List Result → Areas
end_of a [] = a
end_of a (r ∷ results) = end_of r.areas results

-- no call is refused by 8
abbrev pub never_eight : List Result → Bool
never_eight results = all_of (λ r. not (eqb r.verdict.number 8)) results
