-- Rules 3 to 7 on a record, by its kind's number. Assumes nothing.
use mathlib.Core.Path.{◌≡◌, refl, sym, ap, ◌∙◌}
use mathlib.Core.Bool.{Bool, true, false, not, ◌||◌, ◌&&◌}
use mathlib.Core.List.{List}
use Rattle.std.specs.Prelude.{Result, Ok, Err}
use Prim.Native.Nat.{ℕ, ◌+◌, ◌-◌, ◌≤◌, ◌<◌}
use native.Mathlib.Omega.{arith}
use lib.Dec.{lit≤, eqb, leb}
use lib.ListN.{length}
use borrow.Author.Tests.{le-leb, lt-leb, leb-true, ne_eqb}
use Rattle.model.specs.Row.{all_of, count_from, max_nodes}
use Rattle.model.specs.Record.{Bytes, kind_at, field_at, is_broken}
use Rattle.model.specs.Network.{kinds, is_unknown, is_node, record_fault, item_at, node_item, watch_item, priority_at}
use Rattle.laws.proofs.All.{all_below}
use Rattle.nodes.specs.Nodes.{kind_number, number_of}
use Rattle.nodes.specs.declared.Kind.{Kind}
use Rattle.nodes.specs.declared.Kind.TheVariants.{Table, SelectConstant, SelectColumn, Project, Join, Union, Difference, Intersection, Watch, NoMatch}
use Rattle.derived_records.specs.Bodies.{node_in_record, item_of, body_fault, ReadsBody}
use Rattle.node_records.specs.NodeRecords.{Room, ReadsRecord}
use Rattle.nodes.specs.declared.Item.{Item}
use Rattle.nodes.specs.declared.Item.TheVariants.{Node as NodeBrought, Watch as WatchBrought}
use Rattle.verdicts.specs.declared.Rule.{Rule}
use Rattle.verdicts.specs.declared.Rule.TheVariants.{BrokenRecord, UnknownKind, TooManyNodes}

-- ---- the kinds' numbers

known : (k : ℕ) → 1 ≤ k → k ≤ length kinds → is_unknown k ≡ false
unfolding is_unknown
known k h g = rw (le-leb 1 k h, le-leb k (length kinds) g)

pub unknown : (k : ℕ) → (1 ≤ k → length kinds < k) → is_unknown k ≡ true
unfolding is_unknown
unknown k h = go (leb 1 k) refl
  where
    go : (b : Bool) → leb 1 k ≡ b → not (b && leb k (length kinds)) ≡ true
    go true e = rw (lt-leb k (length kinds) (h (leb-true 1 k e)))
    go false e = refl

kind_low : (k : Kind) → 1 ≤ kind_number k
kind_low Table = lit≤ tt
kind_low SelectConstant = lit≤ tt
kind_low SelectColumn = lit≤ tt
kind_low Project = lit≤ tt
kind_low Join = lit≤ tt
kind_low Union = lit≤ tt
kind_low Difference = lit≤ tt
kind_low Intersection = lit≤ tt
kind_low Watch = lit≤ tt
kind_low NoMatch = lit≤ tt

kind_high : (k : Kind) → kind_number k ≤ length kinds
kind_high Table = lit≤ tt
kind_high SelectConstant = lit≤ tt
kind_high SelectColumn = lit≤ tt
kind_high Project = lit≤ tt
kind_high Join = lit≤ tt
kind_high Union = lit≤ tt
kind_high Difference = lit≤ tt
kind_high Intersection = lit≤ tt
kind_high Watch = lit≤ tt
kind_high NoMatch = lit≤ tt

module _ (bs : Bytes) (at : ℕ) where
  brings_node : ℕ → Bool
  unfolding item_at
  brings_node k = eqb k 9 || is_node (item_at k bs at)

  -- one test over all kinds: those but 9 bring a node
  nodes_brought : all_of brings_node (count_from 1 (length kinds)) ≡ true
  unfolding brings_node item_at
  nodes_brought = refl

  brings_node_lem : (k : ℕ) → 1 ≤ k → k ≤ length kinds → (k ≡ 9 → ⊥) → is_node (item_at k bs at) ≡ true
  unfolding brings_node
  brings_node_lem k h g other =
      let e : 1 + (k - 1) ≡ k = omega arith in
      let brought : brings_node k ≡ true = ap brings_node (sym e) ∙ all_below brings_node 1 (length kinds) nodes_brought (k - 1) (omega arith) in
      rw (ne_eqb k 9 other) at brought

-- ---- records

room_of_lem : (ws : List ℕ) (r : Result Item Rule) → length ws < max_nodes → Room r ws
room_of_lem ws (Ok (NodeBrought n)) h = h
room_of_lem ws (Ok (WatchBrought n s p)) h = tt
room_of_lem ws (Err k) h = tt

-- a watch is no node
room_watch : (ws : List ℕ) (bs : Bytes) (at : ℕ) (r : Result Item Rule) → (number_of r ≡ 0 → item_of r bs at ≡ item_at 9 bs at) → Room r ws
unfolding item_at
room_watch ws bs at (Ok (NodeBrought n)) h =
    let e : node_item (node_in_record n bs at) ≡ watch_item (record { node = field_at bs at 0; sign = field_at bs at 1; priority = priority_at bs at }) = h refl in
    let z : ◌≡◌ {A = ℕ} 0 1 = cc in
    absurd (omega arith)
room_watch ws bs at (Ok (WatchBrought n s p)) h = tt
room_watch ws bs at (Err k) h = tt

module _ (ws signs : List ℕ) (bs : Bytes) (at : ℕ) where
  pub record_3 : is_broken bs at ≡ true → ReadsRecord ws signs bs at (Err BrokenRecord)
  unfolding record_fault
  record_3 e = record { number = rw e; item = λ z. absurd (omega arith); fits = lit≤ tt; room = tt }

  pub record_4 : is_broken bs at ≡ false → (1 ≤ kind_at bs at → length kinds < kind_at bs at) → ReadsRecord ws signs bs at (Err UnknownKind)
  unfolding record_fault
  record_4 whole e = record { number = rw (whole, unknown (kind_at bs at) e); item = λ z. absurd (omega arith); fits = lit≤ tt; room = tt }

  module _ (whole : is_broken bs at ≡ false) (kind : Kind) (is : kind_number kind ≡ kind_at bs at) where
    -- a node's kind
    module _ (no-watch : kind_number kind ≡ 9 → ⊥) where
      pub record_5 : max_nodes ≤ length ws → ReadsRecord ws signs bs at (Err TooManyNodes)
      unfolding record_fault
      record_5 f =
          let k : ℕ = kind_number kind in
          record {
            number = rw (whole, ← is, known k (kind_low kind) (kind_high kind), brings_node_lem bs at k (kind_low kind) (kind_high kind) no-watch, le-leb max_nodes (length ws) f);
            item = λ z. absurd (omega arith);
            fits = lit≤ tt;
            room = tt;
          }

      pub record_node : (r : Result Item Rule) → length ws < max_nodes → ReadsBody ws signs (kind_number kind) bs at r → ReadsRecord ws signs bs at r
      unfolding record_fault body_fault
      record_node r f b =
          let k : ℕ = kind_number kind in
          record {
            number = b.number ∙ sym (rw (whole, ← is, known k (kind_low kind) (kind_high kind), brings_node_lem bs at k (kind_low kind) (kind_high kind) no-watch, lt-leb max_nodes (length ws) f));
            item = λ z. b.item z ∙ rw is;
            fits = b.fits;
            room = room_of_lem ws r f;
          }

    pub record_watch : (r : Result Item Rule) → kind_number kind ≡ 9 → ReadsBody ws signs 9 bs at r → ReadsRecord ws signs bs at r
    unfolding record_fault body_fault is_unknown item_at
    record_watch r e b =
        record {
          number = b.number ∙ sym (rw (whole, ← is, e));
          item = λ z. b.item z ∙ sym (rw (← is, e));
          fits = b.fits;
          room = room_watch ws bs at r b.item;
        }
