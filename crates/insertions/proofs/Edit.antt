-- What inserting and removing answer and leave, from what the search found. For any stride. Assumes nothing.
use mathlib.Core.Path.{◌≡◌, refl, sym, ap, ◌∙◌}
use mathlib.Core.Bool.{true, false}
use mathlib.Core.List.{List, [], ◌∷◌, ◌++◌}
use Prim.Native.Nat.{ℕ, suc, ◌≤◌, ◌<◌}
use lib.ListN.{length, take, drop, replicate}
use borrow.Author.Tests.{le-leb, lt-leb}
use Rattle.model.specs.Row.{Row, ascending}
use Rattle.model.specs.Areas.{stride}
use Rattle.rows.specs.Rows.{stored, first_rows, locate}
use Rattle.insertions.specs.Insertions.{insert_answer, Inserts, Removes}
use Rattle.std.specs.Prelude.{Result, Ok, Err, None, Some}
use Rattle.rows.proofs.Search.{Spot, located_as}
use Rattle.rows.proofs.Words.{length-rows}
use Rattle.laws.proofs.Sets.{ascending-holds}

-- what the answer of a search says of the row and the list
pub spot : (r : Row) (l : List Row) (found f : Result ℕ ℕ) → ascending l ≡ true → found ≡ locate r l → found ≡ f → Spot f r l
spot r l found f h e m = located_as r l f (ascending-holds l h) (sym e ∙ m)

-- its place is within the rows
pub missing_within : (s : List ℕ) (n : ℕ) (r : Row) (found : Result ℕ ℕ) (p : ℕ) → ascending (first_rows s n) ≡ true → found ≡ locate r (first_rows s n) → found ≡ Err p → p ≤ n
missing_within s n r found p h e m = rw length-rows at (spot r (first_rows s n) found (Err p) h e m).0

pub present_within : (s : List ℕ) (n : ℕ) (r : Row) (found : Result ℕ ℕ) (p : ℕ) → ascending (first_rows s n) ≡ true → found ≡ locate r (first_rows s n) → found ≡ Ok p → p < n
present_within s n r found p h e m = rw length-rows at (spot r (first_rows s n) found (Ok p) h e m).0

module _ (capacity : ℕ) (r : Row) (l : List Row) (s : List ℕ) where
  pub inserts_present : (p : ℕ) → Spot (Ok p) r l → Inserts capacity r l s s (Some false)
  unfolding insert_answer
  inserts_present p h = record { says = rw h.1; leaves = refl }

  pub inserts_full : (p : ℕ) → Spot (Err p) r l → capacity ≤ length l → Inserts capacity r l s s None
  unfolding insert_answer
  inserts_full p h f = record { says = rw (h.1, le-leb capacity (length l) f); leaves = refl }

  pub inserts_new : (p : ℕ) (after : List ℕ) → Spot (Err p) r l → length l < capacity → after ≡ stored (take p l ++ (r ∷ drop p l)) s → Inserts capacity r l s after (Some true)
  unfolding insert_answer
  inserts_new p after h f e = record { says = rw (h.1, lt-leb capacity (length l) f); leaves = e ∙ ap (λ (m : List Row). stored m s) (sym h.2) }

module _ (r : Row) (l : List Row) (s : List ℕ) where
  pub removes-not : (p : ℕ) → Spot (Err p) r l → Removes r l s s false
  removes-not p h = record { says = sym h.1; leaves = refl }

  pub removes-row : (p : ℕ) (after : List ℕ) → Spot (Ok p) r l → after ≡ stored (take p l ++ drop (suc p) l ++ (replicate stride 0 ∷ [])) s → Removes r l s after true
  removes-row p after h e = record { says = sym h.1; leaves = e ∙ ap (λ (m : List Row). stored (m ++ (replicate stride 0 ∷ [])) s) (sym h.2) }
