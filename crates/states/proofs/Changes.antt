-- Net changes and stamps of a batch. Assumes nothing.
use mathlib.Core.Bool.{Bool, cond, false, not, true, ◌||◌, or-true, true≢false, ◌&&◌}
use mathlib.Core.List.{List, [], map, zip_with, ◌∷◌}
use mathlib.Core.Path.{ap, refl, sym, ◌∙◌, ◌≡◌}
use Prim.Native.Nat.{◌<◌, suc, zero, zero-le, ℕ, ◌≤◌}
use native.Mathlib.Omega.{arith}
use native.Mathlib.Nat.{le_of_suc-le-suc, le_refl, le_trans, not-suc-le-zero}
use lib.ListN.{get_or, length, length-map}
use Rattle.laws.proofs.Sets.{Ascending, ascending-holds, ascending_true, member-keep, ext, same_rows_refl, same_rows_eq, bool_same}
use Rattle.model.specs.Delta.{Change, change_at, is_changed, net_change, net_changes, no_change}
use Rattle.states.specs.Fitting.{Fitting}
use Rattle.model.specs.Row.{Relation, Row, keep, keep_if, member, same_row, is_empty, same_rows, max_rows, Wide}
use Rattle.model.specs.Station.{stamp_of}
use Rattle.laws.proofs.Widths.{wide-keep}
use Rattle.laws.proofs.Algebra.{asc-difference}
use Rattle.model.specs.Algebra.{difference_rows}
use Rattle.laws.proofs.Order.{same_row_refl}

keep-short : (p : Row → Bool) (l : List Row) → length (keep p l) ≤ length l
keep-short p [] = zero-le
keep-short p (r ∷ l) = go (p r) (keep-short p l)
  where
    go : (t : Bool) → length (keep p l) ≤ length l → length (keep_if t r (keep p l)) ≤ suc (length l)
    go true ih = omega arith
    go false ih = omega arith

-- ---- net changes

pub changes-length : (old new : List Relation) → length old ≡ length new → length (net_changes old new) ≡ length old
unfolding net_changes zip_with
changes-length [] new e = refl
changes-length (x ∷ old) [] e = absurd (omega arith)
changes-length (x ∷ old) (y ∷ new) e = ap suc (changes-length old new (omega arith))

pub changes_at : (old new : List Relation) (i : ℕ) → length old ≡ length new → i < length old → change_at (net_changes old new) i ≡ net_change (get_or old i []) (get_or new i [])
unfolding net_changes zip_with
changes_at [] new i e h = absurd (not-suc-le-zero h)
changes_at (x ∷ old) [] i e h = absurd (omega arith)
changes_at (x ∷ old) (y ∷ new) zero e h = refl
changes_at (x ∷ old) (y ∷ new) (suc i) e h = changes_at old new i (omega arith) (le_of_suc-le-suc h)

pub map_at : (g : Change → Relation) (cs : List Change) (i : ℕ) → i < length cs → get_or (map g cs) i [] ≡ g (change_at cs i)
map_at g [] i h = absurd (not-suc-le-zero h)
map_at g (c ∷ cs) zero h = refl
map_at g (c ∷ cs) (suc i) h = map_at g cs i (le_of_suc-le-suc h)

-- rows of one relation that are not in another
pub less_wide : (w : ℕ) (a b : Relation) → Wide w a → Wide w (difference_rows a b)
unfolding difference_rows
less_wide w a b h = wide-keep w (λ r. not (member r b)) a h

pub less_short : (a b : Relation) → length (difference_rows a b) ≤ length a
unfolding difference_rows
less_short a b = keep-short (λ r. not (member r b)) a

module _ (ws : List ℕ) (old new : List Relation) (fo : Fitting ws old) (fn : Fitting ws new) where
  same_size : length old ≡ length new
  same_size = fo.size ∙ sym fn.size

  pub changes-size : length (net_changes old new) ≡ length ws
  changes-size = changes-length old new same_size ∙ fo.size

  -- a part of each change that fits
  part-fits : (g : Change → Relation) →
      ((i : ℕ) → i < length ws → Wide (get_or ws i 0) (g (net_change (get_or old i []) (get_or new i []))) × (length (g (net_change (get_or old i []) (get_or new i []))) ≤ max_rows)
      × Ascending (g (net_change (get_or old i []) (get_or new i [])))) → Fitting ws (map g (net_changes old new))
  part-fits g f =
      let at : (i : ℕ) → i < length ws → get_or (map g (net_changes old new)) i [] ≡ g (net_change (get_or old i []) (get_or new i [])) = λ i h. map_at g (net_changes old new) i (rw changes-size h)
      ∙ ap g (changes_at old new i same_size (rw fo.size h)) in
      record {
        size = length-map (net_changes old new) g ∙ changes-size;
        few = fo.few;
        narrow = fo.narrow;
        wide = λ i h. rw (at i h) (f i h).0;
        small = λ i h. rw (at i h) (f i h).1;
        asc = λ i h. rw (at i h) (ascending_true (g (net_change (get_or old i []) (get_or new i []))) (f i h).2);
      }

  pub gained-fits : Fitting ws (map (λ c. c.gained) (net_changes old new))
  unfolding net_change
  gained-fits = part-fits (λ c. c.gained)
      (λ i h. (
        less_wide (get_or ws i 0) (get_or new i []) (get_or old i []) (fn.wide i h),
        le_trans (less_short (get_or new i []) (get_or old i [])) (fn.small i h),
        asc-difference (get_or new i []) (get_or old i []) (ascending-holds (get_or new i []) (fn.asc i h)),
      ))

  pub lost-fits : Fitting ws (map (λ c. c.lost) (net_changes old new))
  unfolding net_change
  lost-fits = part-fits (λ c. c.lost)
      (λ i h. (
        less_wide (get_or ws i 0) (get_or old i []) (get_or new i []) (fo.wide i h),
        le_trans (less_short (get_or old i []) (get_or new i [])) (fo.small i h),
        asc-difference (get_or old i []) (get_or new i []) (ascending-holds (get_or old i []) (fo.asc i h)),
      ))

-- ---- stamps

pub stamps-length : (k : ℕ) (cs : List Change) (stamps : List ℕ) → length cs ≡ length stamps → length (zip_with (stamp_of k) cs stamps) ≡ length stamps
unfolding zip_with
stamps-length k [] [] e = refl
stamps-length k [] (x ∷ stamps) e = absurd (omega arith)
stamps-length k (c ∷ cs) [] e = absurd (omega arith)
stamps-length k (c ∷ cs) (x ∷ stamps) e = ap suc (stamps-length k cs stamps (omega arith))

pub stamps-below : (k : ℕ) (cs : List Change) (stamps : List ℕ) → ((i : ℕ) → get_or stamps i 0 ≤ k) → (i : ℕ) → get_or (zip_with (stamp_of k) cs stamps) i 0 ≤ k
unfolding zip_with
stamps-below k [] stamps h i = zero-le
stamps-below k (c ∷ cs) [] h i = zero-le
stamps-below k (c ∷ cs) (x ∷ stamps) h zero = go (is_changed c)
  where
    go : (t : Bool) → cond t k x ≤ k
    go true = le_refl k
    go false = h 0
stamps-below k (c ∷ cs) (x ∷ stamps) h (suc i) = stamps-below k cs stamps (λ j. h (suc j)) i

-- ---- no change

pub difference_self : (l m : Relation) → ((r : Row) → member r l ≡ true → member r m ≡ true) → keep (λ r. not (member r m)) l ≡ []
difference_self [] m h = refl
difference_self (x ∷ l) m h = go (member x m) (h x (ap (λ (t : Bool). t || member x l) (same_row_refl x))) (difference_self l m (λ r e. h r (later r e)))
  where
    later : (r : Row) → member r l ≡ true → member r (x ∷ l) ≡ true
    later r e = ap (λ (t : Bool). same_row r x || t) e ∙ or-true (same_row r x)

    go : (t : Bool) → t ≡ true → keep (λ r. not (member r m)) l ≡ [] → keep_if (not t) x (keep (λ r. not (member r m)) l) ≡ []
    go true e ih = ih
    go false e ih = absurd (true≢false (sym e))

pub no_change_lem : (r : Relation) → net_change r r ≡ no_change
unfolding net_change difference_rows
no_change_lem r = let none : keep (λ x. not (member x r)) r ≡ [] = difference_self r r (λ x e. e) in λ i. record { gained = none i; lost = none i }

-- every row of l is in m if none is left without those of m
none_left : (l m : Relation) → keep (λ r. not (member r m)) l ≡ [] → (r : Row) → member r l ≡ true → member r m ≡ true
none_left l m e r h = go (member r m) (sym (ap (member r) e) ∙ member-keep (λ s. not (member s m)) r l ∙ ap (λ (t : Bool). not (member r m) && t) h)
  where
    go : (t : Bool) → false ≡ (not t && true) → t ≡ true
    go true f = refl
    go false f = absurd (true≢false (sym f))

empty_is : (l : Relation) → is_empty l ≡ true → l ≡ []
empty_is [] e = refl
empty_is (r ∷ l) e = absurd (true≢false (sym e))

-- a change is nonempty exactly if the rows are others
pub changed_is : (a b : Relation) → Ascending a → Ascending b → is_changed (net_change a b) ≡ not (same_rows b a)
unfolding net_change difference_rows
changed_is a b x y = go (same_rows b a) refl
  where
    other : same_rows b a ≡ false → (s t : Bool) → is_empty (keep (λ r. not (member r a)) b) ≡ s → is_empty (keep (λ r. not (member r b)) a) ≡ t → not (s && t) ≡ true
    other e true true f g =
        let same : b ≡ a = ext b a y x
        (λ r. bool_same (member r b) (member r a) (none_left b a (empty_is (keep (λ s. not (member s a)) b) f) r) (none_left a b (empty_is (keep (λ s. not (member s b)) a) g) r)) in
        absurd (true≢false (sym (same_rows_refl b) ∙ ap (same_rows b) same ∙ e))
    other e true false f g = refl
    other e false t f g = refl

    go : (t : Bool) → same_rows b a ≡ t → is_changed (net_change a b) ≡ not t
    go true e = ap (λ (r : Relation). is_changed (net_change a r)) (same_rows_eq b a e) ∙ ap is_changed (no_change_lem a)
    go false e = other e (is_empty (keep (λ r. not (member r a)) b)) (is_empty (keep (λ r. not (member r b)) a)) refl refl

-- the lengths of a part of each change
pub map_twice : (g : Change → Relation) (cs : List Change) → map (λ c. length (g c)) cs ≡ map length (map g cs)
map_twice g [] = refl
map_twice g (c ∷ cs) = ap (λ (l : List ℕ). length (g c) ∷ l) (map_twice g cs)

pub lengths_at : (rels : List Relation) (i : ℕ) → get_or (map length rels) i 0 ≡ length (get_or rels i [])
lengths_at [] i = refl
lengths_at (r ∷ rels) zero = refl
lengths_at (r ∷ rels) (suc i) = lengths_at rels i

-- a stamp of the next state
pub stamps_at : (k : ℕ) (cs : List Change) (stamps : List ℕ) (i : ℕ) → length cs ≡ length stamps → i < length cs → get_or (zip_with (stamp_of k) cs stamps) i 0
    ≡ stamp_of k (change_at cs i) (get_or stamps i 0)
unfolding zip_with
stamps_at k [] stamps i e h = absurd (not-suc-le-zero h)
stamps_at k (c ∷ cs) [] i e h = absurd (omega arith)
stamps_at k (c ∷ cs) (x ∷ stamps) zero e h = refl
stamps_at k (c ∷ cs) (x ∷ stamps) (suc i) e h = stamps_at k cs stamps i (omega arith) (le_of_suc-le-suc h)
