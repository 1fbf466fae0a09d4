-- What each call promises, for every input: its answer, and all lent memory afterwards. Document 01, "Refused, in this
-- checking order"; document 02, point 2.
use Rattle.std.specs.Prelude.{◌≡◌, Bool, true, false, not, ◌&&◌, ◌||◌, cond, ℕ, ◌+◌, ◌*◌, ◌<◌, leb, ltb, eqb, length, drop}
use mathlib.Core.List.{List, [], ◌++◌, map, flat_map}
use Rattle.model.specs.Row.{Row, Relation, max_nodes, max_rows, max_width, all_of}
use Rattle.model.specs.Record.{Bytes, bytes16, bytes32, Verdict, accepted, refused, is_accepted}
use Rattle.model.specs.Network.{Node, Network, Reading, read_network, nodes_in, kind_of, widths, levels, sign_of}
use Rattle.model.specs.Network.{within}
use Rattle.model.specs.Delta.{Change, change_at}
use Rattle.model.specs.Watched.{Direction, was_gained, was_lost, WatchedChange, changes_of}
use Rattle.model.specs.Station.{Step, step}
use Rattle.model.specs.Evaluation.{rows_at}
use Rattle.model.specs.Areas.{Areas, layout, good_form, coherent, state_in, changes_in, holding, cleared, padded}
use Rattle.model.specs.Areas.{Layout, long_enough, over, KeepsRest}
use Rattle.model.specs.Pending.{good_pending, pending_in, pending_of, fold_all, highest_rank, next_node, lowest_row}
use Rattle.model.specs.Pending.{without_lowest}

-- ---- refusals that calls share

-- the first verdict that refuses, of two in checking order; the second waits for the first
abbrev pub or_else : Verdict → Verdict → Verdict
or_else first second = cond (is_accepted first) second first

-- a rule that is judged for a whole call: its place is 0
abbrev pub unless : Bool → ℕ → Verdict
unless true number = accepted
unless false number = refused number 0

-- refusals 1 to 7
unfoldable pub open_verdict : Bytes → Areas → Verdict
unfolding long_enough read_network
open_verdict net a = or_else (unless (long_enough layout a) 1) (read_network net).verdict

-- refusals 1 to 8
unfoldable pub form_verdict : Bytes → Areas → Verdict
unfolding open_verdict good_form read_network
form_verdict net a = or_else (open_verdict net a) (unless (good_form layout (nodes_in net) a) 8)

-- 1 to 8, then what a call answers for the network that was read; where they refuse, what it answers with that verdict
abbrev pub after_form : {A : Type 0} → Bytes → Areas → (Network → A) → (Verdict → A) → A
after_form net a answer refusal = cond (is_accepted (form_verdict net a)) (answer (read_network net).network)
    (refusal (form_verdict net a))

-- ---- the reader: 2 to 7

-- "the node count and each node's kind, width and level (0 past the last node)"
pub record ReadAnswer : Type 0 where
  pub verdict : Verdict
  pub count : ℕ
  pub kinds : List ℕ
  pub widths : List ℕ
  pub levels : List ℕ

-- beside a refusal all numbers are 0
unfoldable pub read_call : Bytes → ReadAnswer
unfolding read_network widths levels
read_call net =
    let reading : Reading = read_network net in
    record {
      verdict = reading.verdict;
      count = length reading.network.nodes;
      kinds = padded max_nodes (map kind_of reading.network.nodes);
      widths = padded max_nodes (widths reading.network.nodes);
      levels = padded max_nodes (levels reading.network.nodes);
    }

-- ---- opening: 1 to 7

-- a verdict, and the areas afterwards
pub record Result : Type 0 where
  pub verdict : Verdict
  pub areas : Areas

-- "Opening sets all named words to 0"; a refusal writes nothing
unfoldable pub open_call : Bytes → Areas → Result
unfolding open_verdict cleared
open_call net a = record {
  verdict = open_verdict net a;
  areas = cond (is_accepted (open_verdict net a))
      (cleared layout a) a;
}

-- ---- the batch call: 1 to 14

-- what a call settles: its whole result, or that the result is free as far as `Free` says, for a network of so many
-- nodes
pub data Promise : Type 0 where
  settled : Result → Promise
  free : ℕ → Promise

-- the result that the plain station's step gives: its state in the areas, or the areas as they were
unfoldable pub result_of : List Node → Areas → Step → Result
unfolding holding
result_of nodes a st = record {
  verdict = st.verdict;
  areas = cond (is_accepted st.verdict)
      (holding layout nodes st.state a) a;
}

-- "Something is free only for a batch on good-form areas that aren't coherent, once 9 to 13 are passed"
unfoldable pub promise_of : List Node → Areas → Step → Promise
unfolding coherent result_of
promise_of nodes a st = cond (coherent layout nodes a || within 9 13 st.verdict.number)
    (settled (result_of nodes a st)) (free (length nodes))

-- 1 to 8, then what the plain station does from the state that the areas hold
unfoldable pub apply_promise : Bytes → Bytes → Areas → Promise
unfolding form_verdict promise_of state_in step read_network
apply_promise net batch a =
    after_form net a (λ n. promise_of n.nodes a (step n.nodes (state_in layout n.nodes a) batch))
    (λ v. settled (record { verdict = v; areas = a }))

-- the free part: "the choice between acceptance and 14, 14's place, and the words after acceptance.
-- There the outcome is one of these two, 14 writes nothing, and no word past the named ones changes".
-- 14's place is a node all the same ("the node for 14"): it is below n, the number of nodes.
pub data Free (n : ℕ) (a : Areas) (r : Result) : Type 0 where
  freely_accepted : r.verdict ≡ accepted → KeepsRest layout a r.areas → Free n a r
  freely_refused : r.verdict.number ≡ 14 → r.verdict.place < n → r.areas ≡ a → Free n a r

-- a result keeps a promise: it is the settled one, or it stays within what is free
abbrev pub Keeps : Promise → Areas → Result → Type 0
Keeps (settled expected) a r = r ≡ expected
Keeps (free n) a r = Free n a r

-- the batch call's promise
abbrev pub Applied : Bytes → Bytes → Areas → Result → Type 0
Applied net batch a r = Keeps (apply_promise net batch a) a r

-- ---- the coherence check: 1 to 8

-- a verdict, and whether the areas are coherent (no beside a refusal)
pub record CheckAnswer : Type 0 where
  pub verdict : Verdict
  pub yes? : Bool

-- "answers yes exactly for coherent areas and writes nothing"
unfoldable pub check_call : Bytes → Areas → CheckAnswer
unfolding form_verdict coherent read_network
check_call net a =
    record {
      verdict = form_verdict net a;
      yes? = is_accepted (form_verdict net a) && coherent layout (nodes_in net) a;
    }

-- ---- a report: 1 to 8, 15, 16

-- "each record the node and the row, 6 + 4 × width bytes"
unfoldable pub change_record : ℕ → ℕ → Row → Bytes
unfolding flat_map
change_record kind node r = bytes16 (6 + 4 * length r) ++ bytes16 kind ++ bytes16 node ++ flat_map bytes32 r

-- "gained rows (kind 64), then lost (kind 65)"
abbrev pub record_kind : Direction → ℕ
record_kind was_gained = 64
record_kind was_lost = 65

-- a watched change as its record
abbrev pub record_of : WatchedChange → Bytes
record_of c = change_record (record_kind c.direction) c.node c.row

-- the records of one node's changes, in their order
unfoldable pub report_bytes : ℕ → ℕ → Change → Bytes
unfolding change_record changes_of flat_map
report_bytes sign node change = flat_map record_of (changes_of sign node change)

-- the most bytes of a report: a record for each row that a node can have, gained and lost
abbrev pub longest_report : ℕ
longest_report = 2 * max_rows * (6 + 4 * max_width)

-- the report of a node from the areas
unfoldable pub report_of : Network → ℕ → Areas → Bytes
unfolding report_bytes changes_in
report_of net node a = report_bytes (sign_of net node) node (change_at (changes_in layout net.nodes a) node)

-- the node exists and has a watch
abbrev pub is_watched : Network → ℕ → Bool
is_watched net node = ltb node (length net.nodes) && not (eqb (sign_of net node) 0)

-- 15, then 16: a node, the length of its report, and how many bytes are lent
abbrev pub report_rule : Network → ℕ → ℕ → ℕ → Verdict
report_rule net node size lent = or_else (unless (is_watched net node) 15) (unless (leb size lent) 16)

-- a verdict, the report's length (0 beside a refusal), and the lent bytes afterwards
pub record ReportAnswer : Type 0 where
  pub verdict : Verdict
  pub size : ℕ
  pub out : Bytes

-- bytes written from the first lent one on; "the bytes after it keep their values"
abbrev pub written_to : Bytes → Bytes → Bytes
written_to out text = text ++ drop (length text) out

-- 15, then 16, then the report, for a network and areas that 1 to 8 let pass; a refusal writes nothing
unfoldable pub report_in : Network → ℕ → Areas → Bytes → ReportAnswer
unfolding report_of
report_in net node a out =
    let v : Verdict = report_rule net node (length (report_of net node a)) (length out) in
    let text : Bytes = cond (is_accepted v) (report_of net node a) [] in
    record { verdict = v; size = length text; out = written_to out text }

-- "A report is for one watched node": 1 to 8, then 15 and 16; a refusal writes nothing
unfoldable pub report_call : Bytes → ℕ → Areas → Bytes → ReportAnswer
unfolding form_verdict report_in read_network
report_call net node a out =
    after_form net a (λ n. report_in n node a out) (λ v. record { verdict = v; size = 0; out = out })

-- ---- folding: 1 to 8, 17

-- a verdict, and the pending area afterwards
pub record FoldAnswer : Type 0 where
  pub verdict : Verdict
  pub pending : List ℕ

-- 17: the pending area itself, "or, in the folding call only, one that folding would take above 64 rows at a node"
abbrev pub fold_rule : Layout → Bool → List Relation → Verdict
fold_rule L good after = unless (good && all_of (λ rel. leb (length rel) L.capacity) after) 17

-- 17, then every node's folded rows, for a network and areas that 1 to 8 let pass; a refusal writes nothing
unfoldable pub fold_in : Layout → Network → Areas → List ℕ → FoldAnswer
unfolding good_pending pending_in pending_of fold_all changes_in
fold_in L net a pending =
    let after : List Relation = fold_all net (changes_in L net.nodes a) (pending_in L net pending) in
    let v : Verdict = fold_rule L (good_pending L net pending) after in
    record { verdict = v; pending = cond (is_accepted v) (over (pending_of L after) pending) pending }

-- "one call folds in the gains and losses": 1 to 8, then 17
unfoldable pub fold_call : Bytes → Areas → List ℕ → FoldAnswer
unfolding form_verdict fold_in read_network
fold_call net a pending =
    after_form net a (λ n. fold_in layout n a pending) (λ v. record { verdict = v; pending = pending })

-- ---- taking: 1 to 8, 17, 18

-- a verdict, "node and row" (0 and none beside a refusal), and the pending area afterwards
pub record TakeAnswer : Type 0 where
  pub verdict : Verdict
  pub node : ℕ
  pub row : Row
  pub pending : List ℕ

-- a refused taking, which writes nothing
abbrev pub refused_taking : Verdict → List ℕ → TakeAnswer
refused_taking v pending = record { verdict = v; node = 0; row = []; pending = pending }

-- a node's lowest row, and the area without it
unfoldable pub taken_from : Layout → List Relation → ℕ → List ℕ → TakeAnswer
unfolding pending_of
taken_from L rels node pending =
    record {
      verdict = accepted;
      node = node;
      row = lowest_row (rows_at rels node);
      pending = over (pending_of L (without_lowest rels node)) pending;
    }

-- 17, by whether the area is of good form; 18 "is a taking with nothing pending", whose highest rank is 0
abbrev pub take_rule : Bool → ℕ → Verdict
take_rule good rank = or_else (unless good 17) (unless (not (eqb rank 0)) 18)

-- 17, then 18, then the next row, for a network and areas that 1 to 8 let pass
unfoldable pub take_in : Layout → Network → List ℕ → TakeAnswer
unfolding good_pending highest_rank taken_from next_node pending_in
take_in L net pending =
    let rels : List Relation = pending_in L net pending in
    let v : Verdict = take_rule (good_pending L net pending) (highest_rank net rels) in
    cond (is_accepted v) (taken_from L rels (next_node net rels) pending) (refused_taking v pending)

-- "removes its lowest row and returns node and row": 1 to 8, then 17 and 18
unfoldable pub take_call : Bytes → Areas → List ℕ → TakeAnswer
unfolding form_verdict take_in read_network
take_call net a pending = after_form net a (λ n. take_in layout n pending) (λ v. refused_taking v pending)
