-- Computed examples of reading: numbers, records, networks and refusals 2 to 7. Each says in its comment what it pins.
use mathlib.Core.Path.{◌≡◌, refl}
use mathlib.Core.Bool.{Bool, true}
use mathlib.Core.List.{[], ◌∷◌, ◌++◌, flat_map}
use Prim.Native.Nat.{ℕ}
use lib.ListN.{replicate}
use Rattle.model.specs.Row.{same_row, all_of, numbers_below}
use Rattle.model.specs.Record.{Bytes, u16, u32, bytes16, bytes32, Verdict, accepted, refused}
use Rattle.model.specs.Algebra.{constant, column}
use Rattle.model.specs.Network.{table, select, project, join, set_operation, no_match, union, difference, intersection, read_network}
use Rattle.model.specs.Calls.{read_call}
use Rattle.model.specs.Examples.{record_bytes, shown}

-- ---- numbers

-- "little_endian", 256 to a byte
little_endian : (u32 (1 ∷ 2 ∷ 3 ∷ 4 ∷ []) 0 ∷ u16 (9 ∷ 1 ∷ 2 ∷ []) 1 ∷ u32 (255 ∷ 255 ∷ 255 ∷ 255 ∷ []) 0 ∷ []) ≡ 67305985 ∷ 513 ∷ 4294967295 ∷ []
little_endian = refl

-- and back
in_bytes : bytes32 67305985 ++ bytes16 513 ≡ 1 ∷ 2 ∷ 3 ∷ 4 ∷ 1 ∷ 2 ∷ []
in_bytes = refl

-- ---- one node of each kind

-- two tables, both selects, a project, a join on two pairs, the three set operations, a no match on two pairs; watches on nodes 7, 0 and 5, the last two with priorities
network_k : Bytes
unfolding record_bytes
network_k =
    record_bytes 1 (2 ∷ [])
    ++ record_bytes 2 (0 ∷ 1 ∷ 4 ∷ 4464 ∷ 1 ∷ [])
    ++ record_bytes 3 (1 ∷ 0 ∷ 3 ∷ 1 ∷ [])
    ++ record_bytes 4 (2 ∷ 3 ∷ 1 ∷ 0 ∷ 1 ∷ [])
    ++ record_bytes 5 (0 ∷ 3 ∷ 2 ∷ 0 ∷ 1 ∷ 1 ∷ 2 ∷ 4 ∷ 0 ∷ 4 ∷ 3 ∷ 1 ∷ [])
    ++ record_bytes 6 (0 ∷ 2 ∷ [])
    ++ record_bytes 7 (1 ∷ 0 ∷ [])
    ++ record_bytes 8 (5 ∷ 6 ∷ [])
    ++ record_bytes 9 (7 ∷ 2 ∷ [])
    ++ record_bytes 9 (0 ∷ 1 ∷ 7 ∷ [])
    ++ record_bytes 1 (1 ∷ [])
    ++ record_bytes 10 (0 ∷ 3 ∷ 2 ∷ 0 ∷ 1 ∷ 1 ∷ 2 ∷ [])
    ++ record_bytes 9 (5 ∷ 3 ∷ 4 ∷ [])

-- each field where its kind's body says
read_nodes : (read_network network_k).network ≡ record {
  nodes =
      table 2
      ∷ select 0 1 4 (constant 70000)
      ∷ select 1 0 3 (column 1)
      ∷ project 2 (1 ∷ 0 ∷ 1 ∷ [])
      ∷ join 0 3 (record { left = 0; right = 1 } ∷ record { left = 1; right = 2 } ∷ []) (0 ∷ 4 ∷ 3 ∷ 1 ∷ [])
      ∷ set_operation union 0 2
      ∷ set_operation difference 1 0
      ∷ set_operation intersection 5 6
      ∷ table 1
      ∷ no_match 0 3 (record { left = 0; right = 1 } ∷ record { left = 1; right = 2 } ∷ [])
      ∷ [];
  signs = 1 ∷ 0 ∷ 0 ∷ 0 ∷ 0 ∷ 3 ∷ 0 ∷ 2 ∷ 0 ∷ 0 ∷ [];
  priorities = 7 ∷ 0 ∷ 0 ∷ 0 ∷ 0 ∷ 4 ∷ 0 ∷ 0 ∷ 0 ∷ 0 ∷ [];
}
unfolding read_network network_k
read_nodes = refl

-- the reader's answer on it: node count, kinds, widths, levels, 0 past the last node
read_answer : read_call network_k ≡ record {
  verdict = accepted;
  count = 10;
  kinds = 1 ∷ 2 ∷ 3 ∷ 4 ∷ 5 ∷ 6 ∷ 7 ∷ 8 ∷ 1 ∷ 10 ∷ replicate 22 0;
  widths = 2 ∷ 2 ∷ 2 ∷ 3 ∷ 4 ∷ 2 ∷ 2 ∷ 2 ∷ 1 ∷ 2 ∷ replicate 22 0;
  levels = 0 ∷ 1 ∷ 2 ∷ 3 ∷ 4 ∷ 3 ∷ 2 ∷ 4 ∷ 0 ∷ 4 ∷ replicate 22 0;
}
unfolding read_call network_k
read_answer = refl

-- beside a refusal all numbers are 0
read_refused : read_call (record_bytes 1 (2 ∷ []) ++ record_bytes 11 []) ≡ record { verdict = refused 4 6; count = 0; kinds = replicate 32 0; widths = replicate 32 0; levels = replicate 32 0 }
unfolding read_call record_bytes
read_refused = refl

-- ---- refusals 2 to 7

-- a table of width 1, and one of width 2
one : Bytes
unfolding record_bytes
one = record_bytes 1 (1 ∷ [])

two : Bytes
unfolding record_bytes
two = record_bytes 1 (2 ∷ [])

-- 32 tables
full : Bytes
unfolding one flat_map
full = flat_map (λ x. one) (numbers_below 32)

-- the verdict that some bytes must have
pub record Expected : Type 0 where
  pub verdict : Verdict
  pub bytes : Bytes

-- by number and place
abbrev pub verdict : ℕ → ℕ → Bytes → Expected
verdict number place bytes = record { verdict = refused number place; bytes = bytes }

-- a network has that verdict
judged : Expected → Bool
unfolding read_network
judged e = same_row (shown (read_network e.bytes).verdict) (shown e.verdict)

-- refusals 2 to 5
judged_2_to_5 :
    all_of judged (
    verdict 2 0 []  -- no bytes
    ∷ verdict 3 6 (one ++ (6 ∷ []))  -- one byte left
    ∷ verdict 3 6 (one ++ (4 ∷ 0 ∷ []))  -- two bytes left
    ∷ verdict 3 6 (one ++ (4 ∷ 0 ∷ 1 ∷ []))  -- three bytes left
    ∷ verdict 3 0 (3 ∷ 0 ∷ 1 ∷ 0 ∷ [])  -- a length below 4
    ∷ verdict 3 0 (7 ∷ 0 ∷ 1 ∷ 0 ∷ 1 ∷ 0 ∷ [])  -- a length beyond the end
    ∷ verdict 4 0 (record_bytes 0 (1 ∷ []))  -- kind 0
    ∷ verdict 4 6 (one ++ record_bytes 11 (0 ∷ 1 ∷ []))  -- kind 11
    ∷ verdict 4 0 (record_bytes 257 (1 ∷ []))  -- a kind has two bytes
    ∷ verdict 5 192 (full ++ record_bytes 1 (9 ∷ 9 ∷ []))  -- the 33rd node, before its length
    ∷ verdict 5 192 (full ++ record_bytes 10 [])  -- a no match is a node
    ∷ verdict 4 192 (full ++ record_bytes 11 [])  -- 4 comes before 5
    ∷ verdict 0 0 (full ++ record_bytes 9 (31 ∷ 3 ∷ []))  -- a watch is no node
    ∷ verdict 7 192 (full ++ record_bytes 9 (32 ∷ 3 ∷ []))  -- but can be wrong
    ∷ [])
    ≡ true
unfolding judged one full record_bytes
judged_2_to_5 = refl

-- refusal 6: lengths and counts
judged_6 :
    all_of judged (
    verdict 6 0 (record_bytes 1 (1 ∷ 0 ∷ []))  -- a table of 8 bytes
    ∷ verdict 6 6 (one ++ record_bytes 2 (0 ∷ 0 ∷ 0 ∷ 0 ∷ []))  -- a select of kind 2 as short as kind 3
    ∷ verdict 6 6 (one ++ record_bytes 3 (0 ∷ 0 ∷ 0 ∷ 0 ∷ 0 ∷ []))  -- a select of kind 3 as long as kind 2
    ∷ verdict 6 6 (one ++ record_bytes 4 (0 ∷ []))  -- a project without its count
    ∷ verdict 6 6 (one ++ record_bytes 4 (0 ∷ 0 ∷ []))  -- no column
    ∷ verdict 6 6 (one ++ record_bytes 4 (0 ∷ 5 ∷ 0 ∷ 0 ∷ 0 ∷ 0 ∷ 0 ∷ []))  -- five columns
    ∷ verdict 6 6 (one ++ record_bytes 4 (0 ∷ 1 ∷ 0 ∷ 0 ∷ []))  -- more columns than the count
    ∷ verdict 6 6 (one ++ record_bytes 5 (0 ∷ 0 ∷ []))  -- a join without its counts
    ∷ verdict 6 6 (one ++ record_bytes 5 (0 ∷ 0 ∷ 3 ∷ 0 ∷ 0 ∷ 0 ∷ 0 ∷ 0 ∷ 0 ∷ 1 ∷ 0 ∷ []))  -- three pairs
    ∷ verdict 6 6 (one ++ record_bytes 5 (0 ∷ 0 ∷ 1 ∷ 0 ∷ 0 ∷ []))  -- the count of columns is outside
    ∷ verdict 6 6 (one ++ record_bytes 5 (0 ∷ 0 ∷ 0 ∷ 0 ∷ []))  -- a join of no column
    ∷ verdict 6 6 (one ++ record_bytes 6 (0 ∷ []))  -- a union of 6 bytes
    ∷ verdict 6 6 (one ++ record_bytes 9 (0 ∷ []))  -- a watch of 6 bytes
    ∷ verdict 6 6 (one ++ (9 ∷ 0 ∷ 9 ∷ 0 ∷ 0 ∷ 0 ∷ 1 ∷ 0 ∷ 0 ∷ []))  -- a watch of 9 bytes
    ∷ verdict 6 6 (one ++ record_bytes 9 (0 ∷ 1 ∷ 0 ∷ 0 ∷ []))  -- a watch of 12 bytes
    ∷ verdict 6 6 (one ++ record_bytes 6 (0 ∷ 0 ∷ 0 ∷ []))  -- a union of 10 bytes
    ∷ verdict 6 6 (one ++ record_bytes 10 (0 ∷ 0 ∷ []))  -- a no match without its count
    ∷ verdict 6 6 (one ++ record_bytes 10 (0 ∷ 0 ∷ 0 ∷ []))  -- no pair
    ∷ verdict 6 6 (one ++ record_bytes 10 (0 ∷ 0 ∷ 3 ∷ 0 ∷ 0 ∷ 0 ∷ 0 ∷ 0 ∷ 0 ∷ []))  -- three pairs
    ∷ verdict 6 6 (one ++ record_bytes 10 (0 ∷ 0 ∷ 1 ∷ 0 ∷ 0 ∷ 0 ∷ []))  -- more fields than the count
    ∷ verdict 6 6 (one ++ record_bytes 10 (0 ∷ 0 ∷ 2 ∷ 0 ∷ 0 ∷ []))  -- a pair is outside
    ∷ verdict 6 0 (record_bytes 1 (0 ∷ 0 ∷ []))  -- 6 comes before 7
    ∷ [])
    ≡ true
unfolding judged one record_bytes
judged_6 = refl

-- refusal 7: the other fields; each second or third record is wrong in just one
judged_7 :
    all_of judged (
    verdict 7 0 (record_bytes 1 (0 ∷ []))  -- width 0
    ∷ verdict 7 0 (record_bytes 1 (5 ∷ []))  -- width 5
    ∷ verdict 7 0 (record_bytes 1 (257 ∷ []))  -- a width has two bytes
    ∷ verdict 7 6 (one ++ record_bytes 2 (1 ∷ 0 ∷ 0 ∷ 0 ∷ 0 ∷ []))  -- a select of itself
    ∷ verdict 7 6 (one ++ record_bytes 2 (0 ∷ 1 ∷ 0 ∷ 0 ∷ 0 ∷ []))  -- a column at the width
    ∷ verdict 7 6 (one ++ record_bytes 2 (0 ∷ 0 ∷ 6 ∷ 0 ∷ 0 ∷ []))  -- comparison 6
    ∷ verdict 7 6 (one ++ record_bytes 3 (0 ∷ 0 ∷ 0 ∷ 1 ∷ []))  -- the other column at the width
    ∷ verdict 7 6 (one ++ record_bytes 4 (1 ∷ 1 ∷ 0 ∷ []))  -- a project of itself
    ∷ verdict 7 6 (two ++ record_bytes 4 (0 ∷ 2 ∷ 1 ∷ 2 ∷ []))  -- a named column at the width
    ∷ verdict 7 12 (two ++ one ++ record_bytes 5 (2 ∷ 1 ∷ 0 ∷ 1 ∷ 0 ∷ []))  -- a join's left is itself
    ∷ verdict 7 12 (two ++ one ++ record_bytes 5 (0 ∷ 2 ∷ 0 ∷ 1 ∷ 0 ∷ []))  -- a join's right is itself
    ∷ verdict 7 12 (two ++ one ++ record_bytes 5 (0 ∷ 1 ∷ 1 ∷ 2 ∷ 0 ∷ 1 ∷ 0 ∷ []))  -- a pair's left column at the left width
    ∷ verdict 7 12 (two ++ one ++ record_bytes 5 (0 ∷ 1 ∷ 1 ∷ 1 ∷ 1 ∷ 1 ∷ 0 ∷ []))  -- a pair's right column at the right width
    ∷ verdict 7 12 (two ++ one ++ record_bytes 5 (0 ∷ 1 ∷ 0 ∷ 1 ∷ 3 ∷ []))  -- a named column at both widths' sum
    ∷ verdict 0 0 (two ++ one ++ record_bytes 5 (0 ∷ 1 ∷ 1 ∷ 1 ∷ 0 ∷ 1 ∷ 2 ∷ []))  -- a join just inside all of these
    ∷ verdict 7 12 (two ++ one ++ record_bytes 10 (2 ∷ 1 ∷ 1 ∷ 0 ∷ 0 ∷ []))  -- a no match's left is itself
    ∷ verdict 7 12 (two ++ one ++ record_bytes 10 (0 ∷ 2 ∷ 1 ∷ 0 ∷ 0 ∷ []))  -- its right is itself
    ∷ verdict 7 12 (two ++ one ++ record_bytes 10 (0 ∷ 1 ∷ 1 ∷ 2 ∷ 0 ∷ []))  -- its left column at the left width
    ∷ verdict 7 12 (two ++ one ++ record_bytes 10 (0 ∷ 1 ∷ 2 ∷ 1 ∷ 0 ∷ 0 ∷ 1 ∷ []))  -- its second pair's right column at the right width
    ∷ verdict 0 0 (two ++ one ++ record_bytes 10 (0 ∷ 1 ∷ 2 ∷ 1 ∷ 0 ∷ 0 ∷ 0 ∷ []))  -- one just inside all of these
    ∷ verdict 7 12 (two ++ one ++ record_bytes 6 (0 ∷ 1 ∷ []))  -- unequal widths
    ∷ verdict 7 6 (one ++ record_bytes 7 (1 ∷ 0 ∷ []))  -- a difference's left is itself
    ∷ verdict 7 6 (one ++ record_bytes 8 (0 ∷ 1 ∷ []))  -- an intersection's right is itself
    ∷ verdict 7 6 (one ++ record_bytes 9 (1 ∷ 1 ∷ []))  -- a watch of a node that is not there yet
    ∷ verdict 7 6 (one ++ record_bytes 9 (0 ∷ 0 ∷ []))  -- sign 0
    ∷ verdict 7 6 (one ++ record_bytes 9 (0 ∷ 4 ∷ []))  -- sign 4
    ∷ verdict 7 14 (one ++ record_bytes 9 (0 ∷ 1 ∷ []) ++ record_bytes 9 (0 ∷ 2 ∷ []))  -- a second watch
    ∷ verdict 0 0 (one ++ record_bytes 9 (0 ∷ 2 ∷ 9 ∷ []))  -- priority 9
    ∷ verdict 7 6 (one ++ record_bytes 9 (0 ∷ 2 ∷ 10 ∷ []))  -- priority 10
    ∷ verdict 7 6 (one ++ record_bytes 9 (0 ∷ 2 ∷ 256 ∷ []))  -- a priority has two bytes
    ∷ verdict 7 16 (one ++ record_bytes 9 (0 ∷ 1 ∷ 0 ∷ []) ++ record_bytes 9 (0 ∷ 2 ∷ []))  -- a second watch, the first with a priority
    ∷ verdict 7 0 (record_bytes 1 (9 ∷ []) ++ (1 ∷ []))  -- the first record that fails decides
    ∷ [])
    ≡ true
unfolding judged one two record_bytes
judged_7 = refl
