-- Computed examples of the calls' promises, and what the free part leaves free. Each says in its comment what it pins.
use mathlib.Core.Path.{◌≡◌, refl}
use mathlib.Core.Bool.{Bool, true, false}
use mathlib.Core.Logic.{◌⊎◌, inl, inr}
use mathlib.Core.List.{List, [], ◌∷◌, ◌++◌, map}
use Prim.Native.Nat.{ℕ, ◌<◌}
use Rattle.model.specs.Record.{Bytes, accepted, refused}
use Rattle.model.specs.Network.{Node, read_network}
use Rattle.model.specs.Station.{State, Step, refused_step}
use Rattle.model.specs.Areas.{Areas, layout, coherent, long_enough, KeepsRest}
use Rattle.model.specs.Calls.{open_verdict, Result, Promise, settled, free, promise_of, Free, freely_accepted, freely_refused, report_bytes, report_rule, written_to}
use Rattle.model.specs.Examples.{network_n}

-- ---- 1 comes before 2

-- areas without words
none : Areas
none = record { rows = []; gained = []; lost = []; head = [] }

-- no bytes: by 1 with areas that are too short, by 2 with areas that are long enough
short-first : open_verdict [] none ≡ refused 1 0
unfolding none open_verdict
short-first = refl

long_then : (a : Areas) → long_enough layout a ≡ true → open_verdict [] a ≡ refused 2 0
unfolding open_verdict
long_then a e = rw e

-- ---- what is free

is_free : Promise → Bool
is_free (settled r) = false
is_free (free n) = true

-- on areas that are not coherent, 9 to 13 are settled, and acceptance and 14 are free
free_off_coherence : (nodes : List Node) (a : Areas) (s : State) → coherent layout nodes a ≡ false →
    map (λ n. is_free (promise_of nodes a (refused_step (refused n 0) s))) (0 ∷ 9 ∷ 10 ∷ 11 ∷ 12 ∷ 13 ∷ 14 ∷ []) ≡ true ∷ false ∷ false ∷ false ∷ false ∷ false ∷ true ∷ []
unfolding promise_of is_free
free_off_coherence nodes a s e = rw e

-- on coherent areas everything is settled
settled_on_coherence : (nodes : List Node) (a : Areas) (st : Step) → coherent layout nodes a ≡ true → is_free (promise_of nodes a st) ≡ false
unfolding promise_of is_free
settled_on_coherence nodes a st e = rw e

-- no other outcome is free, and no other word: acceptance with place 0, which keeps the rest, or 14 at a node, which writes nothing
free-says : (n : ℕ) (a : Areas) (r : Result) → Free n a r →
    ((r.verdict ≡ accepted) × KeepsRest layout a r.areas) ⊎ ((r.verdict.number ≡ 14) × (r.verdict.place < n) × (r.areas ≡ a))
free-says n a r (freely_accepted v rest) = inl (v, rest)
free-says n a r (freely_refused v inside same) = inr (v, inside, same)

-- ---- reports

-- the records of two gained rows, and of a lost one, of node 4
abbrev gains : Bytes
gains = 14 ∷ 0 ∷ 64 ∷ 0 ∷ 4 ∷ 0 ∷ 5 ∷ 0 ∷ 0 ∷ 0 ∷ 2 ∷ 1 ∷ 0 ∷ 0 ∷ 14 ∷ 0 ∷ 64 ∷ 0 ∷ 4 ∷ 0 ∷ 6 ∷ 0 ∷ 0 ∷ 0 ∷ 1 ∷ 0 ∷ 0 ∷ 0 ∷ []

abbrev loses : Bytes
loses = 14 ∷ 0 ∷ 65 ∷ 0 ∷ 4 ∷ 0 ∷ 7 ∷ 0 ∷ 0 ∷ 0 ∷ 0 ∷ 0 ∷ 0 ∷ 0 ∷ []

-- the reports of that change by signs 1, 2 and 3
reports :
    map (λ sign. report_bytes sign 4 (record { gained = (5 ∷ 258 ∷ []) ∷ (6 ∷ 1 ∷ []) ∷ []; lost = (7 ∷ 0 ∷ []) ∷ [] })) (1 ∷ 2 ∷ 3 ∷ [])
    ≡ gains ∷ loses ∷ (gains ++ loses) ∷ []
unfolding report_bytes
reports = refl

-- the bytes after what is written keep their values
bytes_after : written_to (1 ∷ 2 ∷ 3 ∷ 4 ∷ []) (9 ∷ 8 ∷ []) ≡ 9 ∷ 8 ∷ 3 ∷ 4 ∷ []
bytes_after = refl

-- the numbers of 15 and 16 on N, whose node 4 alone is watched: node, the report's length, the lent bytes
ruled : ℕ → ℕ → ℕ → ℕ
unfolding read_network network_n
ruled node size lent = (report_rule (read_network network_n).network node size lent).number

-- no watch, no such node, and 15 before 16; a report one byte too long, one that just fits, and one of no bytes
report_rules : (ruled 3 0 99 ∷ ruled 5 0 99 ∷ ruled 0 11 10 ∷ ruled 4 11 10 ∷ ruled 4 10 10 ∷ ruled 4 0 0 ∷ []) ≡ 15 ∷ 15 ∷ 15 ∷ 16 ∷ 0 ∷ 0 ∷ []
unfolding ruled
report_rules = refl
