-- One relation of a list replaced by another. Assumes nothing.
use mathlib.Core.Bool.{Bool, false, true}
use mathlib.Core.List.{List, []}
use mathlib.Core.Path.{◌≡◌, refl, subst, sym, ◌∙◌}
use Prim.Native.Nat.{ℕ, ◌≤◌, ◌<◌}
use lib.Dec.{eqb}
use lib.ListN.{get_or, length, length-set, set}
use lib.Seq.{get_or-set_other, get_or-set_same}
use borrow.Author.Tests.{eqb-false, eqb-true}
use Rattle.model.specs.Row.{Relation, Wide, ascending, max_rows}
use Rattle.states.specs.Fitting.{Fitting}

-- what holds of the other one, and of every relation that stays
pub set-case : (P : ℕ → Relation → Type 0) (rels : List Relation) (i : ℕ) (rel : Relation) → i < length rels → P i rel → (j : ℕ) → P j (get_or rels j []) → P j (get_or (set rels i rel) j [])
set-case P rels i rel h p j q = go (eqb j i) refl
  where
    go : (t : Bool) → eqb j i ≡ t → P j (get_or (set rels i rel) j [])
    go true e =
        let same : j ≡ i = eqb-true j i e in
        subst (λ (k : ℕ). P k (get_or (set rels i rel) k [])) (sym same) (subst (P i) (sym (get_or-set_same rels i rel [] h)) p)
    go false e = subst (P j) (sym (get_or-set_other rels i j rel [] (eqb-false j i e))) q

-- relations that fit into an area, with another one that fits
pub set-fits : (ws : List ℕ) (rels : List Relation) → Fitting ws rels → (i : ℕ) (rel : Relation) → i < length ws → Wide (get_or ws i 0) rel → length rel ≤ max_rows → ascending rel ≡ true →
    Fitting ws (set rels i rel)
set-fits ws rels f i rel h wide small asc =
    let inside : i < length rels = rw f.size h in
    record {
      size = length-set rels i rel ∙ f.size;
      few = f.few;
      narrow = f.narrow;
      wide = λ j k. set-case (λ m l. Wide (get_or ws m 0) l) rels i rel inside wide j (f.wide j k);
      small = λ j k. set-case (λ m l. length l ≤ max_rows) rels i rel inside small j (f.small j k);
      asc = λ j k. set-case (λ m l. ascending l ≡ true) rels i rel inside asc j (f.asc j k);
    }
