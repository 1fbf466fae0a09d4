-- The nodes' rows after a batch, as they are worked out: document 000's propagation, with a node's own kind in place
-- of its differentials.
use Rattle.std.specs.Prelude.{◌≡◌, Bool, true, false, not, ◌||◌, cond, List, [], ◌∷◌, ℕ, ◌*◌, ◌<◌}
use Rattle.std.specs.Prelude.{length, get_or, replicate, Result}
use Rattle.model.specs.Row.{Relation, same_rows, max_nodes}
use Rattle.model.specs.Record.{Bytes, Verdict, accepted, refused, is_accepted, offsets}
use Rattle.model.specs.Network.{Node, build, is_table, left_of, right_of, evaluate_on}
use Rattle.model.specs.Evaluation.{rows_at, overfull}
use Rattle.model.specs.Batch.{read_batch, act_all}
use Rattle.model.specs.Areas.{tables_of, area_size}
use Rattle.network.specs.declared.Network.{Network}
use Rattle.network.specs.Reading.{nodes_of, no_slot}
use Rattle.coherence.specs.Held.{Checkable, rows_held}
use Rattle.differences.specs.Differences.{picks_size}
use Rattle.named_tables.specs.Named.{named_marks}
use Rattle.worklist.specs.Listed.{input_changed}
use Rattle.new_rows.specs.Working.{Working}
use Rattle.working.specs.Worked.{Changes, WorkedTo}
use Rattle.verdicts.specs.declared.Refusal.{Refusal}
use Rattle.verdicts.specs.Verdicts.{verdict_of}

-- ---- the rows

-- node j's rows are others than before
abbrev pub changed_in : List Relation → List Relation → ℕ → Bool
changed_in old new j = not (same_rows (rows_at new j) (rows_at old j))

-- the next node's rows: of a table those after the events; of a derived node its own where no input changed,
-- else what its kind gives
abbrev pub next_of : List Relation → List Relation → Node → List Relation → Relation
next_of old copy n done =
    cond (is_table n) (rows_at copy (length done))
    (cond (changed_in old done (left_of n) || changed_in old done (right_of n))
    (evaluate_on n (rows_at done (left_of n)) (rows_at done (right_of n)))
    (rows_at old (length done)))

-- every node's rows, by number, from the old ones and the tables after the events
unfoldable pub propagated : List Node → List Relation → List Relation → List Relation
unfolding build
propagated nodes old copy = build (next_of old copy) nodes

-- the tables that a batch leaves, from those in the rows area
abbrev pub tables_after : Network → List ℕ → List ℕ → Bytes → List Relation
tables_after net rows head bs = act_all (read_batch (nodes_of net) bs).events
    (tables_of (nodes_of net) (rows_held net rows head))

-- the nodes' rows after a batch, from those in the rows area
abbrev pub new_rows : Network → List ℕ → List ℕ → Bytes → List Relation
new_rows net rows head bs = propagated (nodes_of net) (rows_held net rows head) (tables_after net rows head bs)

-- working memory in which no node is worked yet: all 0, but for the marks of the tables that the batch names
pub record Unworked (bs : Bytes) (work counts : List ℕ) (changed due : List Bool) (picks sizes : List ℕ) : Type 0 where
  pub work_is : work ≡ replicate area_size 0
  pub counts-are : counts ≡ replicate max_nodes 0
  pub changed_is : changed ≡ replicate max_nodes false
  pub due_are : due ≡ named_marks bs (offsets bs) (replicate max_nodes false)
  pub picks-long : length picks ≡ max_nodes * picks_size
  pub sizes-are : sizes ≡ replicate (2 * max_nodes) 0

-- areas whose rows are of good form, and a batch that reading accepts
pub record Propagatable (net : Network) (rows head : List ℕ) (bs : Bytes) : Type 0 where
  pub checkable : Checkable net rows head
  pub accepts : is_accepted (read_batch (nodes_of net) bs).verdict ≡ true

-- ---- the answer

-- rule 14, from the nodes with more than 64 rows: "the lowest such node is named"
abbrev pub limit_verdict : List ℕ → Verdict
limit_verdict [] = accepted
limit_verdict (i ∷ over) = refused 14 i

-- of the first n nodes the derived ones that have an input that changed are marked, and no other derived one
abbrev pub Marked : Network → List Bool → List Bool → ℕ → Type 0
Marked net changed due n = (j : ℕ) → j < n → (get_or net.levels j 0 ≡ 0 → ⊥) → get_or due j false
    ≡ input_changed (get_or net.slots j no_slot) changed

-- every node is worked, unless rule 14 refuses
pub record Propagates (head : List ℕ) (new : List Relation) (net : Network) (m : Working) (d : Changes)
    (due : List Bool) (r : Result (Unit {0}) Refusal) : Type 0 where
  pub verdict : verdict_of r ≡ limit_verdict (overfull 0 new)
  pub worked : verdict_of r ≡ accepted → WorkedTo head new m d net.count
  pub marked : verdict_of r ≡ accepted → Marked net m.changed due net.count
