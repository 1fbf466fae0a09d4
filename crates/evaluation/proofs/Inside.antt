-- A node's rows from those of its inputs: what each operator asks for, and what it leaves. Assumes nothing.
use mathlib.Core.Bool.{◌&&◌, true}
use mathlib.Core.List.{List, [], flat_map, ◌∷◌}
use mathlib.Core.Path.{refl, ◌≡◌}
use Prim.Native.Nat.{◌*◌, ◌+◌, ◌<◌, zero-le, ℕ, ◌≤◌}
use native.Mathlib.Omega.{arith}
use lib.ListN.{length, take}
use lib.Dec.{ltb}
use borrow.Author.Tests.{eqb-true, lt-ltb, ltb-true}
use Rattle.nodes.specs.declared.Operand.{Operand}
use Rattle.places.specs.Places.{Blank, Fills}
use Rattle.joins.specs.Joins.{JoinsIn}
use Rattle.masks.specs.Masks.{JoinFits}
use Rattle.selections.specs.Selections.{OperandIn}
use Rattle.nodes.specs.declared.Operand.TheVariants.{Column, Constant}
use Rattle.masks.specs.declared.Joining.{Joining}
use Rattle.model.specs.Network.{columns_below, operand_below, pairs_below, fits_on, max_pairs}
use Rattle.model.specs.Algebra.{Pair}
use Rattle.laws.proofs.Sets.{and_both, and_first, and_second}
use Rattle.columns.proofs.Rows.{columns_more}
use Rattle.nodes.specs.Nodes.{operand_of, pairs_of}
use Rattle.model.specs.Row.{max_width}
use Rattle.model.specs.Areas.{place_of, stride}
use Rattle.model.specs.Network as model

-- ---- rule 7, given the inputs' widths

pub select-inside : (v w i c k : ℕ) (o : Operand) → fits_on v w (model.select i c k (operand_of o)) ≡ true → (c < v) × (k < 6) × OperandIn v o
unfolding fits_on
select-inside v w i c k o e =
    let first : (ltb c v && ltb k 6) ≡ true = and_first (ltb c v && ltb k 6) (operand_below v (operand_of o)) e in (
      ltb-true c v (and_first (ltb c v) (ltb k 6) first),
      ltb-true k 6 (and_second (ltb c v) (ltb k 6) first),
      operand_inside o (and_second (ltb c v && ltb k 6) (operand_below v (operand_of o)) e),
    )
  where
    operand_inside : (p : Operand) → operand_below v (operand_of p) ≡ true → OperandIn v p
    operand_inside (Constant x) f = tt
    operand_inside (Column x) f = ltb-true x v f

pub operand_narrow : (v : ℕ) (o : Operand) → v ≤ max_width → OperandIn v o → OperandIn stride o
operand_narrow v (Constant x) h f = tt
operand_narrow v (Column x) h f = omega arith

pub project-inside : (v w i : ℕ) (columns : List ℕ) → fits_on v w (model.project i columns) ≡ true → columns_below v columns ≡ true
unfolding fits_on
project-inside v w i columns e = e

pub join-inside : (v w i j : ℕ) (pairs : List Pair) (columns : List ℕ) → fits_on v w (model.join i j pairs columns) ≡ true → (pairs_below v w pairs ≡ true)
    × (columns_below (v + w) columns ≡ true)
unfolding fits_on
join-inside v w i j pairs columns e = (and_first (pairs_below v w pairs) (columns_below (v + w) columns) e, and_second (pairs_below v w pairs) (columns_below (v + w) columns) e)

pub set-inside : (v w i j : ℕ) (o : model.SetOperation) → fits_on v w (model.set_operation o i j) ≡ true → v ≡ w
unfolding fits_on
set-inside v w i j o e = eqb-true v w e

pub no_match_inside : (v w i j : ℕ) (pairs : List Pair) → fits_on v w (model.no_match i j pairs) ≡ true → pairs_below v w pairs ≡ true
unfolding fits_on
no_match_inside v w i j pairs e = e

pub pairs_more : (v w : ℕ) (pairs : List Pair) → v ≤ max_width → w ≤ max_width → pairs_below v w pairs ≡ true → pairs_below stride stride pairs ≡ true
pairs_more v w [] h g e = refl
pairs_more v w (p ∷ pairs) h g e =
    let b : (ltb p.left v && ltb p.right w) ≡ true = and_first (ltb p.left v && ltb p.right w) (pairs_below v w pairs) e in
    and_both (ltb p.left stride && ltb p.right stride) (pairs_below stride stride pairs)
    (and_both (ltb p.left stride) (ltb p.right stride) (lt-ltb p.left stride (omega (arith, ltb-true p.left v (and_first (ltb p.left v) (ltb p.right w) b))))
    (lt-ltb p.right stride (omega (arith, ltb-true p.right w (and_second (ltb p.left v) (ltb p.right w) b)))))
    (pairs_more v w pairs h g (and_second (ltb p.left v && ltb p.right w) (pairs_below v w pairs) e))

-- a join that fits its inputs
pub join-fits : (how : Joining) (w : ℕ) → how.split ≤ max_width → w ≤ max_width → how.p ≤ max_pairs → how.n ≤ max_width → length how.pairs ≡ 2 * max_pairs → length how.columns ≡ stride
    → JoinsIn how w → JoinFits how
join-fits how w h g p n lp lc inside =
    record {
      split = h;
      pairs-long = omega arith;
      pairs = pairs_more how.split w (pairs_of how.p how.pairs) h g inside.pairs;
      few = n;
      columns-long = omega arith;
      columns = columns_more (how.split + w) (how.split + stride) (take how.n how.columns) (omega arith) inside.columns;
    }

-- ---- a table's kind gives no row

pub fills_none : (out : List ℕ) → Blank out → Fills [] out 0
unfolding place_of flat_map
fills_none out e = record { count = refl; few = zero-le; is = e }
