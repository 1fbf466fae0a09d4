-- A node has no input, one, or two: what holds of them all holds of the first and of the last. Assumes nothing.
use mathlib.Core.Bool.{Bool, true, false, true≢false, ◌&&◌, ◌||◌}
use mathlib.Core.List.{List}
use mathlib.Core.Path.{◌≡◌, refl, sym}
use Prim.Native.Nat.{ℕ, ◌<◌, max}
use native.Mathlib.Omega.{arith}
use lib.Dec.{ltb}
use lib.ListN.{get_or, length}
use borrow.Author.Tests.{ltb-true}
use Rattle.model.specs.Row.{Relation, all_of, is_empty, some_of}
use Rattle.model.specs.Network.{Inputs, Node, first_of, fits_on, highest, inputs_of, is_table, last_of, left_of, listed, no_input, node_fits, one_input, right_of, two_inputs}
use Rattle.model.specs.Network.{evaluate_on, uses_of}
use Rattle.model.specs.Evaluation.{evaluate_node, rows_at}
use Rattle.laws.proofs.Sets.{and_first, and_second}

-- ---- of any inputs

or-false : (a : Bool) → (a || false) ≡ a
or-false true = refl
or-false false = refl

or_self : (a : Bool) → (a || a) ≡ a
or_self true = refl
or_self false = refl

module _ (p : ℕ → Bool) where
  listed-some : (u : Inputs) → is_empty (listed u) ≡ false → some_of p (listed u) ≡ (p (first_of u) || p (last_of u))
  listed-some no_input e = absurd (true≢false e)
  listed-some (one_input i) e = rw (or-false (p i), or_self (p i))
  listed-some (two_inputs l r) e = rw (or-false (p r))

  listed_none : (u : Inputs) → is_empty (listed u) ≡ true → some_of p (listed u) ≡ false
  listed_none no_input e = refl
  listed_none (one_input i) e = absurd (true≢false (sym e))
  listed_none (two_inputs l r) e = absurd (true≢false (sym e))

  listed_all : (u : Inputs) → is_empty (listed u) ≡ false → all_of p (listed u) ≡ true → (p (first_of u) ≡ true) × (p (last_of u) ≡ true)
  listed_all no_input e f = absurd (true≢false e)
  listed_all (one_input i) e f = let h : p i ≡ true = and_first (p i) true f in (h, h)
  listed_all (two_inputs l r) e f = (and_first (p l) (p r && true) f, and_first (p r) true (and_second (p l) (p r && true) f))

listed_high : (levels : List ℕ) (u : Inputs) (i : ℕ) → get_or levels (first_of u) 0 < i → get_or levels (last_of u) 0 < i → highest levels (listed u) < i
listed_high levels no_input i l r = omega arith
listed_high levels (one_input j) i l r = omega arith
listed_high levels (two_inputs x y) i l r = omega arith

listed-highest : (levels : List ℕ) (u : Inputs) → is_empty (listed u) ≡ false → highest levels (listed u) ≡ max (get_or levels (first_of u) 0) (get_or levels (last_of u) 0)
listed-highest levels no_input e = absurd (true≢false e)
listed-highest levels (one_input j) e = omega arith
listed-highest levels (two_inputs x y) e = omega arith

listed_below : (u : Inputs) (k m : ℕ) → all_of (λ i. ltb i k) (listed u) ≡ true → k < m → (first_of u < m) × (last_of u < m)
listed_below no_input k m f h = (omega arith, omega arith)
listed_below (one_input i) k m f h = let b : i < k = ltb-true i k (and_first (ltb i k) true f) in (omega arith, omega arith)
listed_below (two_inputs x y) k m f h =
    let a : x < k = ltb-true x k (and_first (ltb x k) (ltb y k && true) f) in
    let b : y < k = ltb-true y k (and_first (ltb y k) true (and_second (ltb x k) (ltb y k && true) f)) in
    (omega arith, omega arith)

-- ---- of a node's

-- a test of some input
pub inputs_some : (n : Node) (p : ℕ → Bool) → is_table n ≡ false → some_of p (inputs_of n) ≡ (p (left_of n) || p (right_of n))
inputs_some n p e = listed-some p (uses_of n) e

pub inputs_none : (n : Node) (p : ℕ → Bool) → is_table n ≡ true → some_of p (inputs_of n) ≡ false
inputs_none n p e = listed_none p (uses_of n) e

-- the highest level of the inputs
pub inputs_high : (levels : List ℕ) (n : Node) (i : ℕ) → get_or levels (left_of n) 0 < i → get_or levels (right_of n) 0 < i → highest levels (inputs_of n) < i
inputs_high levels n i l r = listed_high levels (uses_of n) i l r

pub inputs_highest : (levels : List ℕ) (n : Node) → is_table n ≡ false → highest levels (inputs_of n) ≡ max (get_or levels (left_of n) 0) (get_or levels (right_of n) 0)
inputs_highest levels n e = listed-highest levels (uses_of n) e

-- the inputs come before the node, and it fits their widths
pub inputs_fit : (ws : List ℕ) (n : Node) → is_table n ≡ false → node_fits ws n ≡ true → (left_of n < length ws) × (right_of n < length ws)
    × (fits_on (get_or ws (left_of n) 0) (get_or ws (right_of n) 0) n ≡ true)
unfolding node_fits
inputs_fit ws n e f =
    let before : Bool = all_of (λ i. ltb i (length ws)) (inputs_of n) in
    let fits : Bool = fits_on (get_or ws (left_of n) 0) (get_or ws (right_of n) 0) n in
    let b : (ltb (left_of n) (length ws) ≡ true) × (ltb (right_of n) (length ws) ≡ true) = listed_all (λ i. ltb i (length ws)) (uses_of n) e (and_first before fits f) in
    (ltb-true (left_of n) (length ws) b.0, ltb-true (right_of n) (length ws) b.1, and_second before fits f)

-- of a node that fits, table or not, both are below any number that is above that of the nodes before it
pub inputs_below : (n : Node) (ws : List ℕ) (m : ℕ) → node_fits ws n ≡ true → length ws < m → (left_of n < m) × (right_of n < m)
unfolding node_fits
inputs_below n ws m f h =
    listed_below (uses_of n) (length ws) m (and_first (all_of (λ i. ltb i (length ws)) (inputs_of n)) (fits_on (get_or ws (left_of n) 0) (get_or ws (right_of n) 0) n) f) h

-- a table's rows are its own
pub table_own : (n : Node) (own : Relation) (rels : List Relation) → is_table n ≡ true → evaluate_node n own rels ≡ own
unfolding evaluate_node
table_own n own rels e = rw e

-- a derived node's are what its kind gives
pub on_inputs : (n : Node) (own : Relation) (rels : List Relation) → is_table n ≡ false → evaluate_node n own rels ≡ evaluate_on n (rows_at rels (left_of n)) (rows_at rels (right_of n))
unfolding evaluate_node
on_inputs n own rels e = rw e
