-- Batches: document 01, "A batch is 0 to 64 event records", and refusals 10 to 13.
use Rattle.std.specs.Prelude.{Bool, true, false, not, ◌&&◌, ◌||◌, cond, List, [], ◌∷◌, ◌++◌, ℕ, zero, suc, ◌+◌, ◌*◌, leb, ltb, eqb, get_or, length, set}
use Rattle.model.specs.Row.{max_rows, Row, Relation, member, insert_row, delete_row}
use Rattle.model.specs.Record.{Bytes, u32, length_at, kind_at, field_at, is_broken, offsets, Verdict, accepted}
use Rattle.model.specs.Record.{refused, rule, first_broken}
use Rattle.model.specs.Network.{Node, is_table, widths, node_at}
use Rattle.model.specs.Delta.{Change, no_change, delta_union}

-- "kind 32 puts a row, 33 removes one": table and row
pub data Event : Type 0 where
  put : ℕ → Row → Event
  remove : ℕ → Row → Event

-- ---- reading

-- "the row, 4 bytes a field": w fields from an offset on
abbrev pub row_in : Bytes → ℕ → ℕ → Row
row_in bs at zero = []
row_in bs at (suc w) = u32 bs at ∷ row_in bs (at + 4) w

-- a put where the test says so, else a removal
abbrev pub event_of : Bool → ℕ → Row → Event
event_of true t r = put t r
event_of false t r = remove t r

-- "body: table, then the row"; ws are the nodes' widths
unfoldable pub event_at : List ℕ → Bytes → ℕ → Event
event_at ws bs at = event_of (eqb (kind_at bs at) 32) (field_at bs at 0) (row_in bs (at + 6) (get_or ws (field_at bs at 0) 0))

-- rule 11: the kinds of events
abbrev pub is_event_kind : ℕ → Bool
is_event_kind kind = eqb kind 32 || eqb kind 33

-- rule 13, by the nodes' count and widths: long enough to name a node, that node a table, and "6 + 4 × width bytes"
abbrev pub event_fits_by : ℕ → (ℕ → Bool) → List ℕ → Bytes → ℕ → Bool
event_fits_by count isTableAt ws bs at =
    leb 6 (length_at bs at)
    && ltb (field_at bs at 0) count
    && isTableAt (field_at bs at 0)
    && eqb (length_at bs at) (6 + 4 * get_or ws (field_at bs at 0) 0)

-- rule 13 for a network's nodes
unfoldable pub event_fits : List Node → Bytes → ℕ → Bool
unfolding widths
event_fits nodes bs at = event_fits_by (length nodes) (λ t. is_table (node_at nodes t)) (widths nodes) bs at

-- the most events of a batch
abbrev pub max_events : ℕ
max_events = 64

-- "a table may hold up to 128 rows in the middle of a batch"
abbrev pub folded_rows : ℕ
folded_rows = max_rows + max_events

-- the lowest number that the record at an offset breaks, 0 if none; so many events stand before it
abbrev pub event_fault_by : Bool → ℕ → Bytes → ℕ → ℕ
event_fault_by fits before bs at =
    first_broken (
    rule 10 (is_broken bs at)
    ∷ rule 11 (not (is_event_kind (kind_at bs at)))
    ∷ rule 12 (leb max_events before)
    ∷ rule 13 (not fits)
    ∷ [])

-- the same for a network's nodes
unfoldable pub event_fault : List Node → ℕ → Bytes → ℕ → ℕ
unfolding is_broken event_fits
event_fault nodes before bs at = event_fault_by (event_fits nodes bs at) before bs at

-- what reading a batch gives: the verdict, and the events where it is accepted
pub record BatchReading : Type 0 where
  pub verdict : Verdict
  pub events : List Event

-- the records at some offsets, after the events already read: "the first record that fails decides"
unfoldable pub read_events : List Node → Bytes → List Event → List ℕ → BatchReading
unfolding event_fault event_at widths
read_events nodes bs done [] = record { verdict = accepted; events = done }
read_events nodes bs done (at ∷ rest) =
    let later : BatchReading = read_events nodes bs (done ++ (event_at (widths nodes) bs at ∷ [])) rest in
    let fault : ℕ = event_fault nodes (length done) bs at in
    cond (eqb fault 0) later (record { verdict = refused fault at; events = [] })

-- a batch from its bytes, with refusals 10 to 13
unfoldable pub read_batch : List Node → Bytes → BatchReading
unfolding read_events offsets
read_batch nodes bs = read_events nodes bs [] (offsets bs)

-- ---- acting

-- "Putting a row that is there, or removing one that isn't, does nothing"; the tables' rows stand at their node numbers
unfoldable pub act : Event → List Relation → List Relation
unfolding delete_row
act (put t r) tables = set tables t (insert_row r (get_or tables t []))
act (remove t r) tables = set tables t (delete_row r (get_or tables t []))

-- "Events act in order"
unfoldable pub act_all : List Event → List Relation → List Relation
unfolding act
act_all [] tables = tables
act_all (e ∷ events) tables = act_all events (act e tables)

-- ---- the changes that events make

-- the table that an event names
abbrev pub table_of : Event → ℕ
table_of (put t r) = t
table_of (remove t r) = t

-- the one-row change of an event on its table's rows: the row put that was not there, or the row removed that was; else
-- nothing
unfoldable pub one_row_change : Event → Relation → Change
one_row_change (put t r) rel = cond (member r rel) no_change (record { gained = r ∷ []; lost = [] })
one_row_change (remove t r) rel = cond (member r rel) (record { gained = []; lost = r ∷ [] }) no_change

-- what an event changes of table t at its turn: nothing if it names another table
unfoldable pub change_by : ℕ → Event → List Relation → Change
unfolding one_row_change
change_by t e tables = cond (eqb (table_of e) t) (one_row_change e (get_or tables t [])) no_change

-- a change of table t, and then those of some events, each at its turn: folded by delta-union
unfoldable pub fold_changes : ℕ → Change → List Event → List Relation → Change
unfolding delta_union change_by act
fold_changes t done [] tables = done
fold_changes t done (e ∷ events) tables = fold_changes t (delta_union done (change_by t e tables)) events (act e tables)
