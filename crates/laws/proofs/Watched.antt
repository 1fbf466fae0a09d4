-- Watched changes told one after the other: by direction, and by node. Assumes nothing.
use mathlib.Core.Bool.{Bool, cond, false, true}
use mathlib.Core.List.{List, [], ◌∷◌, ◌++◌, flat_map, map}
use mathlib.Core.Path.{ap, ap₂, refl, ◌∙◌, ◌≡◌}
use Prim.Native.Nat.{ℕ}
use lib.ListN.{length}
use Rattle.model.specs.Row.{Relation, Row, numbers_below}
use Rattle.model.specs.Network.{Network, sign_of}
use Rattle.model.specs.Delta.{Change, change_at, no_change}
use Rattle.model.specs.Watched.{Direction, WatchedChange, allowed_rows, allows, changes_of, was_gained, was_lost, watched_changes}
use Rattle.model.specs.Text.{batch_word, batch_lines, change_line, line, node_lines}
use Rattle.model.specs.Station.{State}
use Rattle.laws.proofs.Parts.{flat_append}

-- a row that a node gained or lost
abbrev pub changed : ℕ → Direction → Row → WatchedChange
changed node direction r = record { direction = direction; node = node; row = r }

module _ (f : WatchedChange → List ℕ) where
  -- each row of a node in one direction
  flat_rows : (node : ℕ) (d : Direction) (rows : Relation) → flat_map f (map (changed node d) rows) ≡ flat_map (λ r. f (changed node d r)) rows
  unfolding flat_map
  flat_rows node d [] = refl
  flat_rows node d (r ∷ rows) = ap (λ (l : List ℕ). f (changed node d r) ++ l) (flat_rows node d rows)

  flat_if : (t : Bool) (node : ℕ) (d : Direction) (rows : Relation) → flat_map f (cond t (map (changed node d) rows) []) ≡ cond t (flat_map (λ r. f (changed node d r)) rows) []
  unfolding flat_map
  flat_if true node d rows = flat_rows node d rows
  flat_if false node d rows = refl

  -- gained rows if they are allowed, then lost rows if they are
  pub flat_changes : (sign node : ℕ) (change : Change) → flat_map f (changes_of sign node change)
      ≡ cond (allows sign was_gained) (flat_map (λ r. f (changed node was_gained r)) change.gained) []
      ++ cond (allows sign was_lost) (flat_map (λ r. f (changed node was_lost r)) change.lost) []
  unfolding changes_of
  flat_changes sign node change =
      flat_append f (allowed_rows sign node was_gained change.gained) (allowed_rows sign node was_lost change.lost)
      ∙ ap₂ {A = List ℕ} {B = List ℕ} {C = List ℕ} (λ x y. x ++ y) (flat_if (allows sign was_gained) node was_gained change.gained) (flat_if (allows sign was_lost) node was_lost change.lost)

  -- all parts, node by node
  flat_flat : (g : ℕ → List WatchedChange) (l : List ℕ) → flat_map f (flat_map g l) ≡ flat_map (λ i. flat_map f (g i)) l
  unfolding flat_map
  flat_flat g [] = refl
  flat_flat g (i ∷ l) = flat_append f (g i) (flat_map g l) ∙ ap (λ (x : List ℕ). flat_map f (g i) ++ x) (flat_flat g l)

-- no change is none to tell
pub none_changed : (sign node : ℕ) → changes_of sign node no_change ≡ []
unfolding changes_of
none_changed sign node =
    ap₂ {A = List WatchedChange} {B = List WatchedChange} {C = List WatchedChange} (λ x y. x ++ y) (neither (allows sign was_gained)) (neither (allows sign was_lost))
  where
    neither : (t : Bool) → cond {A = List WatchedChange} t [] [] ≡ []
    neither true = refl
    neither false = refl

-- an accepted batch's lines: its number, then those of each node
pub batch_by_node : (net : Network) (s : State) → batch_lines net s ≡ line batch_word (s.number ∷ []) ++ flat_map (node_lines net s.changes) (numbers_below (length net.nodes))
unfolding batch_lines watched_changes node_lines
batch_by_node net s =
    ap (λ (l : List ℕ). line batch_word (s.number ∷ []) ++ l)
    (flat_flat change_line (λ i. changes_of (sign_of net i) i (change_at s.changes i)) (numbers_below (length net.nodes)))
