-- What a record's reading brings, and what rules 6 and 7 say of it.
use Rattle.std.specs.Prelude.{◌≡◌, Bool, true, false, not, ◌&&◌, List, [], ◌∷◌, ℕ, ◌+◌, ◌*◌, ◌≤◌, ◌<◌, ltb}
use Rattle.std.specs.Prelude.{get_or, length}
use Rattle.std.specs.Prelude.{Result, Ok, Err, MatchResult}
use Rattle.model.specs.Row.{max_width, Narrow}
use Rattle.model.specs.Record.{Bytes, kind_at, field_at, fields_at, rule, first_broken}
use Rattle.model.specs.Network.{Item, node_item, watch_item, table, max_pairs, pairs_at, has_shape, item_at, item_fits}
use Rattle.model.specs.Network.{width_of, node_fits}
use Rattle.nodes.specs.Nodes.{ListSizes, lists_of, with_lists, number_of}
use Rattle.nodes.specs.declared.Node.{Node}
use Rattle.nodes.specs.declared.Inputs.{Inputs}
use Rattle.verdicts.specs.declared.Rule.{Rule}
use Rattle.verdicts.specs.declared.Rule.TheVariants.{WrongField}
use Rattle.derived_records.specs.declared.Selection.{Selection}
use Rattle.nodes.specs.declared.Item.TheVariants.{Node as NodeBrought, Watch as WatchBrought}
use Rattle.model.specs.Network as model
use Rattle.nodes.specs.declared.Item as declaredItem

-- ---- what a record brings

-- a node whose columns and pairs stand in the record at an offset
abbrev pub node_in_record : Node → Bytes → ℕ → model.Node
node_in_record n bs at =
    with_lists n (fields_at bs at ((lists_of n).from + 2 * (lists_of n).pairs) (lists_of n).columns)
    (pairs_at bs at 3 (lists_of n).pairs)

-- a record that brings a node
abbrev pub NodeRecord : Node → Result declaredItem.Item Rule
NodeRecord n = Ok (NodeBrought n)

-- the model's item
abbrev pub brought_by : declaredItem.Item → Bytes → ℕ → Item
brought_by (NodeBrought n) bs at = node_item (node_in_record n bs at)
brought_by (WatchBrought n s p) bs at = watch_item (record { node = n; sign = s; priority = p })

-- the item of a record reading
abbrev pub item_of : Result declaredItem.Item Rule → Bytes → ℕ → Item
item_of (Ok b) bs at = brought_by b bs at
item_of (Err k) bs at = node_item (table 0)

-- ---- what the rules say

-- the part of rule 7 that both kinds of select share
unfoldable pub select_fits : List ℕ → Bytes → ℕ → Bool
select_fits ws bs at = ltb (field_at bs at 0) (length ws) && ltb (field_at bs at 1) (get_or ws (field_at bs at 0) 0)
    && ltb (field_at bs at 2) 6

-- the input in field k is below the count, or breaks rule 7
abbrev pub ReadsInput : Bytes → ℕ → ℕ → ℕ → Result ℕ Rule → Type 0
ReadsInput bs at k count r =
    MatchResult r (λ i. (i ≡ field_at bs at k) × (i < count)) (λ e. (e ≡ WrongField) × (count ≤ field_at bs at k))

-- the inputs in fields 0 and 1 are below the count, or the first that is not breaks rule 7
abbrev pub ReadsInputs : Bytes → ℕ → ℕ → Result Inputs Rule → Type 0
ReadsInputs bs at count r =
    MatchResult r
    (λ i. (i.left ≡ field_at bs at 0) × (i.left < count) × (i.right ≡ field_at bs at 1) × (i.right < count))
    (λ e. (e ≡ WrongField) × (field_at bs at 0 < count → count ≤ field_at bs at 1))

-- what both kinds of select have in fields 0 to 2, or their part of rule 7 is broken
abbrev pub ReadsSelection : List ℕ → Bytes → ℕ → Result Selection Rule → Type 0
ReadsSelection ws bs at r =
    MatchResult r
    (λ s. (s.input ≡ field_at bs at 0) × (s.column ≡ field_at bs at 1) × (s.comparison ≡ field_at bs at 2)
    × (s.comparison < 6) × (select_fits ws bs at ≡ true))
    (λ e. (e ≡ WrongField) × (select_fits ws bs at ≡ false))

-- rules 6 and 7 on a record of a kind
unfoldable pub body_fault : List ℕ → List ℕ → ℕ → Bytes → ℕ → ℕ
body_fault ws signs kind bs at = first_broken
    (rule 6 (not (has_shape kind bs at)) ∷ rule 7 (not (item_fits ws signs (item_at kind bs at))) ∷ [])

-- a node's lists stand inside its record, and a slot has room for them
pub record ListsFit (l : ListSizes) (bs : Bytes) (at : ℕ) : Type 0 where
  pub few-pairs : l.pairs ≤ max_pairs
  pub few-columns : l.columns ≤ max_width
  pub near : l.from ≤ max_width
  pub pairs-inside : 1 ≤ l.pairs → at + 10 + 4 * l.pairs ≤ length bs
  pub columns-inside : 1 ≤ l.columns → at + 4 + 2 * (l.from + 2 * l.pairs) + 2 * l.columns ≤ length bs

-- a node of the record at an offset can come after nodes of some widths
pub record NodeFits (n : Node) (ws : List ℕ) (bs : Bytes) (at : ℕ) : Type 0 where
  pub fits : node_fits ws (node_in_record n bs at) ≡ true
  pub narrow : Narrow ws → width_of (node_in_record n bs at) ws ≤ max_width
  pub lists : ListsFit (lists_of n) bs at

-- what a record brings fits what was read before it; a refusal has a number, as each rule has
abbrev pub Fits : Result declaredItem.Item Rule → List ℕ → List ℕ → Bytes → ℕ → Type 0
Fits (Ok (NodeBrought n)) ws signs bs at = NodeFits n ws bs at
Fits (Ok (WatchBrought n s p)) ws signs bs at = n < length signs
Fits (Err k) ws signs bs at = 1 ≤ number_of (Err k)

-- a record of a known kind is read: its number, and where that is 0 its item
pub record ReadsBody (ws signs : List ℕ) (kind : ℕ) (bs : Bytes) (at : ℕ) (r : Result declaredItem.Item Rule) :
    Type 0 where
  pub number : number_of r ≡ body_fault ws signs kind bs at
  pub item : number_of r ≡ 0 → item_of r bs at ≡ item_at kind bs at
  pub fits : Fits r ws signs bs at

-- a node's record is read, whatever is watched
pub record ReadsNode (ws : List ℕ) (bs : Bytes) (at : ℕ) (r : Result declaredItem.Item Rule) : Type 0 where
  pub body : (signs : List ℕ) → ReadsBody ws signs (kind_at bs at) bs at r
