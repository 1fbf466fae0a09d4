-- The truth table of comparisons, checked once: one test that antt computes over all codes and outcomes. Assumes nothing.
use mathlib.Core.Path.{◌≡◌, refl, sym, ap, ◌∙◌}
use mathlib.Core.Bool.{Bool, true, false, ◌&&◌, beq, true≢false}
use mathlib.Core.List.{List, [], ◌∷◌}
use Prim.Native.Nat.{ℕ, ◌+◌, ◌*◌, ◌<◌, Ordering}
use native.Mathlib.Nat.{zero-add}
use lib.Dec.{eqb}
use lib.ListN.{get_or}
use Rattle.model.specs.Row.{all_of, count_from}
use Rattle.model.specs.Algebra.{holds_of, outcome_column}
use Rattle.laws.proofs.Sets.{and_first, and_second}
use Rattle.laws.proofs.All.{all_below}

-- the code's table
abbrev pub table : List ℕ
table = 0 ∷ 1 ∷ 0 ∷ 1 ∷ 0 ∷ 1 ∷ 1 ∷ 0 ∷ 0 ∷ 1 ∷ 1 ∷ 0 ∷ 0 ∷ 0 ∷ 1 ∷ 0 ∷ 1 ∷ 1 ∷ []

agrees : ℕ → Ordering → Bool
unfolding holds_of
agrees code o = beq (eqb (get_or table (3 * code + outcome_column o) 0) 1) (holds_of code o)

agrees_all : ℕ → Bool
unfolding agrees
agrees_all code = agrees code Ordering.lt && agrees code Ordering.eq && agrees code Ordering.gt

-- the rule of the table
rule : all_of agrees_all (count_from 0 6) ≡ true
unfolding agrees_all
rule = refl

same : (a b : Bool) → beq a b ≡ true → a ≡ b
same true true e = refl
same true false e = absurd (true≢false (sym e))
same false true e = absurd (true≢false (sym e))
same false false e = refl

agrees_at : (code : ℕ) (o : Ordering) → code < 6 → agrees code o ≡ true
unfolding agrees_all
agrees_at code o h =
    let e : agrees_all code ≡ true = ap agrees_all (sym (zero-add code)) ∙ all_below agrees_all 0 6 rule code h in
    go o e
  where
    go : (o : Ordering) → agrees_all code ≡ true → agrees code o ≡ true
    go Ordering.lt e = and_first (agrees code Ordering.lt) (agrees code Ordering.eq) (and_first (agrees code Ordering.lt && agrees code Ordering.eq) (agrees code Ordering.gt) e)
    go Ordering.eq e = and_second (agrees code Ordering.lt) (agrees code Ordering.eq) (and_first (agrees code Ordering.lt && agrees code Ordering.eq) (agrees code Ordering.gt) e)
    go Ordering.gt e = and_second (agrees code Ordering.lt && agrees code Ordering.eq) (agrees code Ordering.gt) e

pub truth : (code : ℕ) (o : Ordering) (k : ℕ) → code < 6 → k ≡ 3 * code + outcome_column o → eqb (get_or table k 0) 1 ≡ holds_of code o
unfolding agrees
truth code o k h e = rw e (same (eqb (get_or table (3 * code + outcome_column o) 0) 1) (holds_of code o) (agrees_at code o h))
