-- Rules 6 and 7 on the record of a derived node of each kind, by the tests that the readings make. Assumes nothing.
use mathlib.Core.Path.{◌≡◌, refl, sym, ◌∙◌}
use mathlib.Core.Bool.{Bool, true, false, ◌&&◌}
use mathlib.Core.List.{List}
use Rattle.std.specs.Prelude.{Result, Err}
use Prim.Native.Nat.{ℕ, ◌+◌, ◌*◌, ◌≤◌, ◌<◌}
use native.Mathlib.Omega.{arith}
use lib.Dec.{ltb, leb, eqb, lit≤}
use lib.ListN.{length, get_or, take}
use lib.Seq.{length-take-le, get_or-take}
use borrow.Author.Tests.{lt-ltb, le-ltb, le-leb, lt-leb, eq-eqb, ne_eqb, ltb-true, leb-true, eqb-true}
use Rattle.model.specs.Record.{Bytes, kind_at, u32, length_at, field_at, fields_at}
use Rattle.model.specs.Network.{has_shape, counted_shape, join_shape, item_at, item_fits, node_fits, fits_on, columns_below, pairs_below, pairs_at, set_at, select, operand_below, node_item}
use Rattle.model.specs.Algebra.{Operand, constant, column}
use Rattle.laws.proofs.Sets.{and_first, and_second}
use Rattle.laws.proofs.ByKind.{item-narrow}
use Rattle.model.specs.Row.{max_width}
use Rattle.nodes.specs.Nodes.{lists_of, operation_of, set_kind}
use Rattle.derived_records.specs.Bodies.{NodeRecord, ListsFit, node_in_record, body_fault, select_fits, ReadsBody, ReadsNode}
use Rattle.nodes.specs.declared.Operand.TheVariants.{Constant, Column}
use Rattle.nodes.specs.declared.SetOperation.{SetOperation}
use Rattle.nodes.specs.declared.SetOperation.TheVariants.{Union, Difference, Intersection}
use Rattle.nodes.specs.declared.Node.{Node}
use Rattle.nodes.specs.declared.Node.TheVariants.{Select, Project, Join, Set}
use Rattle.nodes.specs.declared.Item.{Item}
use Rattle.nodes.proofs.Codes.{code_below}
use Rattle.verdicts.specs.declared.Rule.{Rule}
use Rattle.verdicts.specs.declared.Rule.TheVariants.{WrongLength, WrongField}

pub no_second : (a b : Bool) → b ≡ false → (a && b) ≡ false
no_second true b e = e
no_second false b e = refl

-- ---- the three outcomes

module _ (ws signs : List ℕ) (bs : Bytes) (at : ℕ) (kind : ℕ) where
  pub reads_6 : has_shape kind bs at ≡ false → ReadsBody ws signs kind bs at (Err WrongLength)
  unfolding body_fault
  reads_6 e = record { number = rw e; item = λ z. absurd (omega arith); fits = lit≤ tt }

  pub reads_7 : has_shape kind bs at ≡ true → item_fits ws signs (item_at kind bs at) ≡ false → ReadsBody ws signs kind bs at (Err WrongField)
  unfolding body_fault
  reads_7 e f = record { number = rw (e, f); item = λ z. absurd (omega arith); fits = lit≤ tt }

  module _ (shape : has_shape kind bs at ≡ true) (fits : item_fits ws signs (item_at kind bs at) ≡ true) where
    -- a node, given that its lists fit
    pub reads-node : (n : Node) → node_item (node_in_record n bs at) ≡ item_at kind bs at → ListsFit (lists_of n) bs at → ReadsBody ws signs kind bs at (NodeRecord n)
    unfolding body_fault item_fits
    reads-node n is lists =
        record {
          number = rw (shape, fits);
          item = λ z. is;
          fits = record {
            fits = rw (← is) at fits;
            narrow = λ narrow. rw (← is) at (item-narrow kind ws signs bs at shape fits narrow);
            lists = lists;
          };
        }

-- a body read as the kind of a number
pub as_kind : {ws signs : List ℕ} {bs : Bytes} {at : ℕ} {r : Result Item Rule} (k n : ℕ) → k ≡ n → ReadsBody ws signs n bs at r → ReadsBody ws signs k bs at r
as_kind k n e b = rw e b

-- a derived node read as its record's kind
pub reads_as : {ws : List ℕ} {bs : Bytes} {at : ℕ} {r : Result Item Rule} (n : ℕ) → kind_at bs at ≡ n → ((signs : List ℕ) → ReadsBody ws signs n bs at r) → ReadsNode ws bs at r
reads_as {bs = bs} {at = at} n e b = record { body = λ signs. as_kind (kind_at bs at) n e (b signs) }

-- the lists of a node that has none
pub none_fit : (bs : Bytes) (at : ℕ) → ListsFit (record { pairs = 0; columns = 0; from = 0 }) bs at
none_fit bs at =
    record { few-pairs = omega arith; few-columns = omega arith; near = omega arith; pairs-inside = λ h. absurd (omega arith); columns-inside = λ h. absurd (omega arith) }

-- one of two inputs is not below the count
pub missing : (l r count : ℕ) (f : Bool) → (l < count → count ≤ r) → ((ltb l count && (ltb r count && true)) && f) ≡ false
missing l r count f h = go (ltb l count) refl
  where
    go : (b : Bool) → ltb l count ≡ b → ((ltb l count && (ltb r count && true)) && f) ≡ false
    go true e = rw (e, le-ltb r count (h (ltb-true l count e)))
    go false e = rw e

-- ---- kinds 2 and 3

-- an index below the count reads the same in the first widths as in all
pub first_at : (xs : List ℕ) (count i : ℕ) → i < count → get_or (take count xs) i 0 ≡ get_or xs i 0
first_at xs count i h = get_or-take count xs i 0 h

-- a select that fits has an input before it
select-below : (ws : List ℕ) (bs : Bytes) (at : ℕ) → select_fits ws bs at ≡ true → field_at bs at 0 < length ws
unfolding select_fits
select-below ws bs at e =
    let a : Bool = ltb (field_at bs at 0) (length ws) in
    let b : Bool = ltb (field_at bs at 1) (get_or ws (field_at bs at 0) 0) in
    ltb-true (field_at bs at 0) (length ws) (and_first a b (and_first (a && b) (ltb (field_at bs at 2) 6) e))

module _ (xs : List ℕ) (count : ℕ) (long : count ≤ length xs) (bs : Bytes) (at : ℕ) where
  pub counted : length (take count xs) ≡ count
  counted = length-take-le count xs long

  pub select_no_input : count ≤ field_at bs at 0 → select_fits (take count xs) bs at ≡ false
  unfolding select_fits
  select_no_input h = rw (counted, le-ltb (field_at bs at 0) count h)

  pub select_no_column : field_at bs at 0 < count → get_or xs (field_at bs at 0) 0 ≤ field_at bs at 1 → select_fits (take count xs) bs at ≡ false
  unfolding select_fits
  select_no_column w h = rw (counted, lt-ltb (field_at bs at 0) count w, first_at xs count (field_at bs at 0) w, le-ltb (field_at bs at 1) (get_or xs (field_at bs at 0) 0) h)

  pub select_no_code : 6 ≤ field_at bs at 2 → select_fits (take count xs) bs at ≡ false
  unfolding select_fits
  select_no_code h =
      let input : Bool = ltb (field_at bs at 0) (length (take count xs)) in
      let column : Bool = ltb (field_at bs at 1) (get_or (take count xs) (field_at bs at 0) 0) in
      no_second (input && column) (ltb (field_at bs at 2) 6) (le-ltb (field_at bs at 2) 6 h)

  pub select_ok : field_at bs at 0 < count → field_at bs at 1 < get_or xs (field_at bs at 0) 0 → field_at bs at 2 < 6 → select_fits (take count xs) bs at ≡ true
  unfolding select_fits
  select_ok w l h = rw (counted, lt-ltb (field_at bs at 0) count w, first_at xs count (field_at bs at 0) w, lt-ltb (field_at bs at 1) (get_or xs (field_at bs at 0) 0) l, lt-ltb (field_at bs at 2) 6 h)

  -- where it fits, the input is below the count
  pub select_input : select_fits (take count xs) bs at ≡ true → field_at bs at 0 < count
  select_input e = rw counted at (select-below (take count xs) bs at e)

-- rule 7 on what both kinds share, test by test, and that a comparison's code is below 6
pub ruleset select_tests = (select_no_input, select_no_column, select_no_code, select_ok, code_below)

fits_either : (i c k o : Bool) → ((i && true) && (c && k && o)) ≡ (i && c && k && o)
fits_either true c k o = refl
fits_either false c k o = refl

-- rule 7 on either kind of select
fits-select : (ws : List ℕ) (bs : Bytes) (at : ℕ) (o : Operand) → node_fits ws (select (field_at bs at 0) (field_at bs at 1) (field_at bs at 2) o)
    ≡ (select_fits ws bs at && operand_below (get_or ws (field_at bs at 0) 0) o)
unfolding node_fits fits_on select_fits
fits-select ws bs at o =
    fits_either (ltb (field_at bs at 0) (length ws)) (ltb (field_at bs at 1) (get_or ws (field_at bs at 0) 0)) (ltb (field_at bs at 2) 6) (operand_below (get_or ws (field_at bs at 0) 0) o)

module _ (ws signs : List ℕ) (bs : Bytes) (at size : ℕ) (sized : size ≡ length_at bs at) where
  pub constant-size : (size ≡ 14 → ⊥) → ReadsBody ws signs 2 bs at (Err WrongLength)
  unfolding has_shape
  constant-size h = reads_6 ws signs bs at 2 (rw (← sized) (ne_eqb size 14 h))

  pub constant-not : size ≡ 14 → select_fits ws bs at ≡ false → ReadsBody ws signs 2 bs at (Err WrongField)
  unfolding has_shape item_fits item_at
  constant-not s e = reads_7 ws signs bs at 2 (rw (← sized) (eq-eqb size 14 s)) (fits-select ws bs at (constant (u32 bs (at + 10))) ∙ rw e)

  pub constant_ok : size ≡ 14 → select_fits ws bs at ≡ true → (i c k v : ℕ) → i ≡ field_at bs at 0 → c ≡ field_at bs at 1 → k ≡ field_at bs at 2 → v ≡ u32 bs (at + 10) →
      ReadsBody ws signs 2 bs at (NodeRecord (Select i c k (Constant v)))
  unfolding has_shape item_fits item_at
  constant_ok s e i c k v p q r t =
      reads-node ws signs bs at 2 (rw (← sized) (eq-eqb size 14 s)) (fits-select ws bs at (constant (u32 bs (at + 10))) ∙ rw e) (Select i c k (Constant v)) (rw (p, q, r, t)) (none_fit bs at)

  pub column-size : (size ≡ 12 → ⊥) → ReadsBody ws signs 3 bs at (Err WrongLength)
  unfolding has_shape
  column-size h = reads_6 ws signs bs at 3 (rw (← sized) (ne_eqb size 12 h))

  pub column-not : size ≡ 12 → select_fits ws bs at ≡ false → ReadsBody ws signs 3 bs at (Err WrongField)
  unfolding has_shape item_fits item_at
  column-not s e = reads_7 ws signs bs at 3 (rw (← sized) (eq-eqb size 12 s)) (fits-select ws bs at (column (field_at bs at 3)) ∙ rw e)

  module _ (i o : ℕ) (is : i ≡ field_at bs at 0) (other : o ≡ field_at bs at 3) where
    pub column_high : size ≡ 12 → select_fits ws bs at ≡ true → get_or ws i 0 ≤ o → ReadsBody ws signs 3 bs at (Err WrongField)
    unfolding has_shape item_fits item_at
    column_high s e h = reads_7 ws signs bs at 3 (rw (← sized) (eq-eqb size 12 s)) (fits-select ws bs at (column (field_at bs at 3)) ∙ rw (e, ← is, ← other) (le-ltb o (get_or ws i 0) h))

    pub column_ok : size ≡ 12 → select_fits ws bs at ≡ true → o < get_or ws i 0 → (c k : ℕ) → c ≡ field_at bs at 1 → k ≡ field_at bs at 2 →
        ReadsBody ws signs 3 bs at (NodeRecord (Select i c k (Column o)))
    unfolding has_shape item_fits item_at
    column_ok s e h c k q r =
        reads-node ws signs bs at 3 (rw (← sized) (eq-eqb size 12 s)) (fits-select ws bs at (column (field_at bs at 3)) ∙ rw (e, ← is, ← other) (lt-ltb o (get_or ws i 0) h))
        (Select i c k (Column o)) (rw (is, other, q, r)) (none_fit bs at)

-- ---- one count

module _ (k most each : ℕ) (bs : Bytes) (at size : ℕ) (sized : size ≡ length_at bs at) where
  pub counted-short : size < 6 + 2 * k → counted_shape k most each bs at ≡ false
  unfolding counted_shape
  counted-short h = rw (← sized, lt-leb (6 + 2 * k) size h)

  module _ (long : 6 + 2 * k ≤ size) (c : ℕ) (is : c ≡ field_at bs at k) where
    pub counted_none : c < 1 → counted_shape k most each bs at ≡ false
    unfolding counted_shape
    counted_none h = rw (← sized, ← is, le-leb (6 + 2 * k) size long, lt-leb 1 c h)

    pub counted_many : 1 ≤ c → most < c → counted_shape k most each bs at ≡ false
    unfolding counted_shape
    counted_many h g = rw (← sized, ← is, le-leb (6 + 2 * k) size long, le-leb 1 c h, lt-leb c most g)

    pub counted-size : 1 ≤ c → c ≤ most → eqb size (6 + 2 * (k + each * c)) ≡ counted_shape k most each bs at
    unfolding counted_shape
    counted-size h g = sym (rw (← sized, ← is, le-leb (6 + 2 * k) size long, le-leb 1 c h, le-leb c most g))

-- the count of a record, and its length
pub record Counted (k most each : ℕ) (bs : Bytes) (at : ℕ) : Type 0 where
  pub size : length_at bs at ≡ 6 + 2 * (k + each * field_at bs at k)
  pub few : field_at bs at k ≤ most
  pub some : 1 ≤ field_at bs at k

pub shape-counted : (k most each : ℕ) (bs : Bytes) (at : ℕ) → counted_shape k most each bs at ≡ true → Counted k most each bs at
unfolding counted_shape
shape-counted k most each bs at e =
    let l : Bool = leb (6 + 2 * k) (length_at bs at) in
    let w : Bool = leb 1 (field_at bs at k) && leb (field_at bs at k) most in
    let s : Bool = eqb (length_at bs at) (6 + 2 * (k + each * field_at bs at k)) in
    let range : w ≡ true = and_second l w (and_first (l && w) s e) in
    record {
      size = eqb-true (length_at bs at) (6 + 2 * (k + each * field_at bs at k)) (and_second (l && w) s e);
      few = leb-true (field_at bs at k) most (and_second (leb 1 (field_at bs at k)) (leb (field_at bs at k) most) range);
      some = leb-true 1 (field_at bs at k) (and_first (leb 1 (field_at bs at k)) (leb (field_at bs at k) most) range);
    }

-- ---- kind 4

module _ (xs : List ℕ) (count : ℕ) (long : count ≤ length xs) (signs : List ℕ) (bs : Bytes) (at : ℕ) where
  pub project_unshaped : counted_shape 1 max_width 1 bs at ≡ false → ReadsBody (take count xs) signs 4 bs at (Err WrongLength)
  unfolding has_shape
  project_unshaped e = reads_6 (take count xs) signs bs at 4 e

  module _ (shape : counted_shape 1 max_width 1 bs at ≡ true) (i : ℕ) (is : i ≡ field_at bs at 0) where
    pub project_no_input : count ≤ i → ReadsBody (take count xs) signs 4 bs at (Err WrongField)
    unfolding has_shape item_fits item_at node_fits fits_on
    project_no_input h = reads_7 (take count xs) signs bs at 4 shape (rw (← is, counted xs count long bs at, le-ltb i count h))

    module _ (within : i < count) (n : ℕ) (of : n ≡ field_at bs at 1) where
      pub project_high : columns_below (get_or xs i 0) (fields_at bs at 2 n) ≡ false → ReadsBody (take count xs) signs 4 bs at (Err WrongField)
      unfolding has_shape item_fits item_at node_fits fits_on
      project_high e = reads_7 (take count xs) signs bs at 4 shape (rw (← is, ← of, counted xs count long bs at, lt-ltb i count within, first_at xs count i within) e)

      pub project_ok : columns_below (get_or xs i 0) (fields_at bs at 2 n) ≡ true → at + length_at bs at ≤ length bs → ReadsBody (take count xs) signs 4 bs at (NodeRecord (Project i n))
      unfolding has_shape item_fits item_at node_fits fits_on
      project_ok e inside =
          let sh : Counted 1 max_width 1 bs at = shape-counted 1 max_width 1 bs at shape in
          reads-node (take count xs) signs bs at 4 shape
          (rw (← is, ← of, counted xs count long bs at, lt-ltb i count within, first_at xs count i within) e) (Project i n) (rw (is, of))
          (record {
            few-pairs = omega arith;
            few-columns = rw of sh.few;
            near = omega arith;
            pairs-inside = λ h. absurd (omega arith);
            columns-inside = λ h. omega (arith, sh.size, of);
          })

-- ---- kind 5

module _ (bs : Bytes) (at size : ℕ) (sized : size ≡ length_at bs at) where
  pub join-short : size < 10 → join_shape bs at ≡ false
  unfolding join_shape
  join-short h = rw (← sized, lt-leb 10 size h)

  module _ (long : 10 ≤ size) (p : ℕ) (is : p ≡ field_at bs at 2) where
    pub join-pairs : 2 < p → join_shape bs at ≡ false
    unfolding join_shape
    join-pairs h = rw (← sized, ← is, le-leb 10 size long, lt-leb p 2 h)

    module _ (few : p ≤ 2) where
      pub join_no_count : size < 12 + 4 * p → join_shape bs at ≡ false
      unfolding join_shape
      join_no_count h = rw (← sized, ← is, le-leb 10 size long, le-leb p 2 few, lt-leb (12 + 4 * p) size h)

      module _ (room : 12 + 4 * p ≤ size) (c : ℕ) (of : c ≡ field_at bs at (3 + 2 * p)) where
        pub join_none : c < 1 → join_shape bs at ≡ false
        unfolding join_shape
        join_none h = rw (← sized, ← is, ← of, le-leb 10 size long, le-leb p 2 few, le-leb (12 + 4 * p) size room, lt-leb 1 c h)

        pub join_many : 1 ≤ c → max_width < c → join_shape bs at ≡ false
        unfolding join_shape
        join_many h g = rw (← sized, ← is, ← of, le-leb 10 size long, le-leb p 2 few, le-leb (12 + 4 * p) size room, le-leb 1 c h, lt-leb c max_width g)

        pub join-size : 1 ≤ c → c ≤ max_width → eqb size (12 + 4 * p + 2 * c) ≡ join_shape bs at
        unfolding join_shape
        join-size h g = sym (rw (← sized, ← is, ← of, le-leb 10 size long, le-leb p 2 few, le-leb (12 + 4 * p) size room, le-leb 1 c h, le-leb c max_width g))

-- the counts of a join's record, and its length
pub record JoinShape (bs : Bytes) (at : ℕ) : Type 0 where
  pub pairs : field_at bs at 2 ≤ 2
  pub few : field_at bs at (3 + 2 * field_at bs at 2) ≤ max_width
  pub some : 1 ≤ field_at bs at (3 + 2 * field_at bs at 2)
  pub size : length_at bs at ≡ 12 + 4 * field_at bs at 2 + 2 * field_at bs at (3 + 2 * field_at bs at 2)

pub join-shaped : (bs : Bytes) (at : ℕ) → join_shape bs at ≡ true → JoinShape bs at
unfolding join_shape
join-shaped bs at e =
    let p : ℕ = field_at bs at 2 in
    let c : ℕ = field_at bs at (3 + 2 * p) in
    let a : Bool = leb 10 (length_at bs at) in
    let b : Bool = leb p 2 in
    let d : Bool = leb (12 + 4 * p) (length_at bs at) in
    let w : Bool = leb 1 c && leb c max_width in
    let s : Bool = eqb (length_at bs at) (12 + 4 * p + 2 * c) in
    let first : (a && b && d && w) ≡ true = and_first (a && b && d && w) s e in
    let range : w ≡ true = and_second (a && b && d) w first in
    record {
      pairs = leb-true p 2 (and_second a b (and_first (a && b) d (and_first (a && b && d) w first)));
      few = leb-true c max_width (and_second (leb 1 c) (leb c max_width) range);
      some = leb-true 1 c (and_first (leb 1 c) (leb c max_width) range);
      size = eqb-true (length_at bs at) (12 + 4 * p + 2 * c) (and_second (a && b && d && w) s e);
    }

module _ (xs : List ℕ) (count : ℕ) (long : count ≤ length xs) (signs : List ℕ) (bs : Bytes) (at : ℕ) where
  pub join_unshaped : join_shape bs at ≡ false → ReadsBody (take count xs) signs 5 bs at (Err WrongLength)
  unfolding has_shape
  join_unshaped e = reads_6 (take count xs) signs bs at 5 e

  module _ (shape : join_shape bs at ≡ true) where
    pub join_no_inputs : (field_at bs at 0 < count → count ≤ field_at bs at 1) → ReadsBody (take count xs) signs 5 bs at (Err WrongField)
    unfolding has_shape item_fits item_at node_fits fits_on
    join_no_inputs h = reads_7 (take count xs) signs bs at 5 shape (rw (counted xs count long bs at) (missing (field_at bs at 0) (field_at bs at 1) count _ h))

    module _ (l : ℕ) (is : l ≡ field_at bs at 0) (left : l < count) (r : ℕ) (of : r ≡ field_at bs at 1) where
      module _ (right : r < count) (p : ℕ) (paired : p ≡ field_at bs at 2) where
        pub join_bad_pair : pairs_below (get_or xs l 0) (get_or xs r 0) (pairs_at bs at 3 p) ≡ false → ReadsBody (take count xs) signs 5 bs at (Err WrongField)
        unfolding has_shape item_fits item_at node_fits fits_on
        join_bad_pair e =
            reads_7 (take count xs) signs bs at 5 shape
            (rw (← is, ← of, ← paired, counted xs count long bs at, lt-ltb l count left, lt-ltb r count right, first_at xs count l left, first_at xs count r right, e))

        module _ (good : pairs_below (get_or xs l 0) (get_or xs r 0) (pairs_at bs at 3 p) ≡ true) (c : ℕ) (columns : c ≡ field_at bs at (3 + 2 * p)) where
          pub join_high : columns_below (get_or xs l 0 + get_or xs r 0) (fields_at bs at (4 + 2 * p) c) ≡ false → ReadsBody (take count xs) signs 5 bs at (Err WrongField)
          unfolding has_shape item_fits item_at node_fits fits_on
          join_high e =
              reads_7 (take count xs) signs bs at 5 shape
              (rw (← is, ← of, ← paired, ← columns, counted xs count long bs at, lt-ltb l count left, lt-ltb r count right, first_at xs count l left, first_at xs count r right, good, e))

          pub join_ok : columns_below (get_or xs l 0 + get_or xs r 0) (fields_at bs at (4 + 2 * p) c) ≡ true → at + length_at bs at ≤ length bs →
              ReadsBody (take count xs) signs 5 bs at (NodeRecord (Join l r p c))
          unfolding has_shape item_fits item_at node_fits fits_on
          join_ok e inside =
              let sh : JoinShape bs at = join-shaped bs at shape in
              let same : c ≡ field_at bs at (3 + 2 * field_at bs at 2) = rw paired at columns in
              reads-node (take count xs) signs bs at 5 shape
              (rw (← is, ← of, ← paired, ← columns, counted xs count long bs at, lt-ltb l count left, lt-ltb r count right, first_at xs count l left, first_at xs count r right, good, e))
              (Join l r p c)
              (rw (is, of, columns, paired))
              (record {
                few-pairs = rw paired sh.pairs;
                few-columns = rw same sh.few;
                near = omega arith;
                pairs-inside = λ h. omega (arith, sh.size, paired, same);
                columns-inside = λ h. omega (arith, sh.size, paired, same);
              })

-- ---- kinds 6, 7, 8

set-shape : (o : SetOperation) (bs : Bytes) (at : ℕ) → has_shape (set_kind o) bs at ≡ eqb (length_at bs at) 8
unfolding has_shape
set-shape Union bs at = refl
set-shape Difference bs at = refl
set-shape Intersection bs at = refl

set-item : (o : SetOperation) (bs : Bytes) (at : ℕ) → item_at (set_kind o) bs at ≡ set_at (operation_of o) bs at
unfolding item_at
set-item Union bs at = refl
set-item Difference bs at = refl
set-item Intersection bs at = refl

module _ (xs : List ℕ) (count : ℕ) (long : count ≤ length xs) (signs : List ℕ) (bs : Bytes) (at : ℕ) (o : SetOperation) (size : ℕ) (sized : size ≡ length_at bs at) where
  pub set-size : (size ≡ 8 → ⊥) → ReadsBody (take count xs) signs (set_kind o) bs at (Err WrongLength)
  set-size h = reads_6 (take count xs) signs bs at (set_kind o) (rw (set-shape o bs at, ← sized) (ne_eqb size 8 h))

  module _ (eight : size ≡ 8) where
    set-shaped : has_shape (set_kind o) bs at ≡ true
    set-shaped = rw (set-shape o bs at, ← sized) (eq-eqb size 8 eight)

    pub set_no_inputs : (field_at bs at 0 < count → count ≤ field_at bs at 1) → ReadsBody (take count xs) signs (set_kind o) bs at (Err WrongField)
    unfolding item_fits node_fits fits_on
    set_no_inputs h = reads_7 (take count xs) signs bs at (set_kind o) set-shaped (rw (set-item o bs at, counted xs count long bs at) (missing (field_at bs at 0) (field_at bs at 1) count _ h))

    module _ (l : ℕ) (is : l ≡ field_at bs at 0) (left : l < count) (r : ℕ) (of : r ≡ field_at bs at 1) where
      module _ (right : r < count) where
        pub set_unequal : (get_or xs l 0 ≡ get_or xs r 0 → ⊥) → ReadsBody (take count xs) signs (set_kind o) bs at (Err WrongField)
        unfolding item_fits node_fits fits_on
        set_unequal h =
            reads_7 (take count xs) signs bs at (set_kind o) set-shaped
            (rw (set-item o bs at, ← is, ← of, counted xs count long bs at, lt-ltb l count left, lt-ltb r count right, first_at xs count l left, first_at xs count r right)
            (ne_eqb (get_or xs l 0) (get_or xs r 0) h))

        pub set_ok : get_or xs l 0 ≡ get_or xs r 0 → ReadsBody (take count xs) signs (set_kind o) bs at (NodeRecord (Set o l r))
        unfolding item_fits node_fits fits_on
        set_ok h =
            reads-node (take count xs) signs bs at (set_kind o) set-shaped
            (rw (set-item o bs at, ← is, ← of, counted xs count long bs at, lt-ltb l count left, lt-ltb r count right, first_at xs count l left, first_at xs count r right)
            (eq-eqb (get_or xs l 0) (get_or xs r 0) h)) (Set o l r)
            (rw (set-item o bs at, is, of)) (none_fit bs at)
