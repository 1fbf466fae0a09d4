-- What nodes and record readings mean: the model's nodes, and the order's numbers.
use Rattle.std.specs.Prelude.{◌≡◌, Bool, true, false, not, List, [], ◌∷◌, ℕ, zero, suc, ◌≤◌, ◌<◌, get_or, take, drop}
use Rattle.std.specs.Prelude.{length, Option, Some, None, Result, Ok, Err, MatchResult}
use Rattle.model.specs.Algebra.{Pair, constant, column}
use Rattle.model.specs.Network.{table, select, project, join, set_operation, no_match, union, difference, intersection}
use Rattle.model.specs.Network.{kind_of, left_of, right_of, is_table, width_on}
use Rattle.nodes.specs.declared.Operand.{Operand}
use Rattle.nodes.specs.declared.Operand.TheVariants.{Constant, Column}
use Rattle.nodes.specs.declared.SetOperation.{SetOperation}
use Rattle.nodes.specs.declared.SetOperation.TheVariants.{Union, Difference, Intersection}
use Rattle.nodes.specs.declared.Node.{Node}
use Rattle.nodes.specs.declared.Node.TheVariants.{Table, Select, Project, Join, Set, NoMatch}
use Rattle.nodes.specs.declared.Parts.{Parts}
use Rattle.nodes.specs.declared.Kind.{Kind}
use Rattle.nodes.specs.declared.Kind.TheVariants.{Table as TableKind, SelectConstant, SelectColumn}
use Rattle.nodes.specs.declared.Kind.TheVariants.{Project as ProjectKind}
use Rattle.nodes.specs.declared.Kind.TheVariants.{Join as JoinKind, Union as UnionKind, Difference as DifferenceKind}
use Rattle.nodes.specs.declared.Kind.TheVariants.{Intersection as IntersectionKind, Watch, NoMatch as NoMatchKind}
use Rattle.nodes.specs.declared.Comparison.{Comparison}
use Rattle.nodes.specs.declared.Comparison.TheVariants.{Equal, Unequal, Less, AtMost, Greater, AtLeast}
use Rattle.nodes.specs.declared.Inputs.{Inputs}
use Rattle.nodes.specs.declared.Item.{Item}
use Rattle.verdicts.specs.declared.Rule.{Rule}
use Rattle.verdicts.specs.declared.Rule.TheVariants.{UnknownKind, WrongField}
use Rattle.verdicts.specs.Verdicts as verdicts
use Rattle.model.specs.Network as model
use Rattle.model.specs.Algebra as algebra

-- ---- numbers of kinds and comparisons

-- the number of a kind
abbrev pub kind_number : Kind → ℕ
kind_number TableKind = 1
kind_number SelectConstant = 2
kind_number SelectColumn = 3
kind_number ProjectKind = 4
kind_number JoinKind = 5
kind_number UnionKind = 6
kind_number DifferenceKind = 7
kind_number IntersectionKind = 8
kind_number Watch = 9
kind_number NoMatchKind = 10

-- the kind with this number, or rule 4 where no kind has it
abbrev pub IsKind : ℕ → Result Kind Rule → Type 0
IsKind number r = MatchResult r (λ k. kind_number k ≡ number) (λ e. (e ≡ UnknownKind) × (1 ≤ number → 10 < number))

-- the code of a comparison
abbrev pub code_of : Comparison → ℕ
code_of Equal = 0
code_of Unequal = 1
code_of Less = 2
code_of AtMost = 3
code_of Greater = 4
code_of AtLeast = 5

-- the comparison with this code, or rule 7 where none has it
abbrev pub IsComparison : ℕ → Result Comparison Rule → Type 0
IsComparison code r = MatchResult r (λ k. code_of k ≡ code) (λ e. (e ≡ WrongField) × (6 ≤ code))

-- ---- nodes

-- what a select compares with
abbrev pub operand_of : Operand → algebra.Operand
operand_of (Constant v) = constant v
operand_of (Column c) = column c

-- kinds 6, 7, 8
abbrev pub operation_of : SetOperation → model.SetOperation
operation_of Union = union
operation_of Difference = difference
operation_of Intersection = intersection

-- the number of a select's kind
abbrev pub select_kind : Operand → ℕ
select_kind o = kind_of (select 0 0 0 (operand_of o))

-- the number of a set operation's kind
abbrev pub set_kind : SetOperation → ℕ
set_kind o = kind_of (set_operation (operation_of o) 0 0)

-- n pairs from numbers that alternate between left and right columns
abbrev pub pairs_of : ℕ → List ℕ → List Pair
pairs_of zero l = []
pairs_of (suc n) l = record { left = get_or l 0 0; right = get_or l 1 0 } ∷ pairs_of n (drop 2 l)

-- how many pairs and columns a node's record has: the pairs from field 3 on, the columns behind them from a field on
pub record ListSizes : Type 0 where
  pub pairs : ℕ
  pub columns : ℕ
  pub from : ℕ

-- the lists of a node's record
abbrev pub lists_of : Node → ListSizes
lists_of (Table w) = record { pairs = 0; columns = 0; from = 0 }
lists_of (Select i c k o) = record { pairs = 0; columns = 0; from = 0 }
lists_of (Project i n) = record { pairs = 0; columns = n; from = 2 }
lists_of (Join l r p n) = record { pairs = p; columns = n; from = 4 }
lists_of (Set o l r) = record { pairs = 0; columns = 0; from = 0 }
lists_of (NoMatch l r p) = record { pairs = p; columns = 0; from = 0 }

-- a node with its lists
abbrev pub with_lists : Node → List ℕ → List Pair → model.Node
with_lists (Table w) columns pairs = table w
with_lists (Select i c k o) columns pairs = select i c k (operand_of o)
with_lists (Project i n) columns pairs = project i columns
with_lists (Join l r p n) columns pairs = join l r pairs columns
with_lists (Set o l r) columns pairs = set_operation (operation_of o) l r
with_lists (NoMatch l r p) columns pairs = no_match l r pairs

-- a node, with its columns and pairs in arrays beside it
abbrev pub node_of : Node → List ℕ → List ℕ → model.Node
node_of n columns pairs = with_lists n (take (lists_of n).columns columns) (pairs_of (lists_of n).pairs pairs)

-- whether a node has inputs
abbrev pub is_derived : Option Inputs → Bool
is_derived None = false
is_derived (Some i) = true

-- the first of the inputs, 0 if there are none
abbrev pub left_in : Option Inputs → ℕ
left_in None = 0
left_in (Some i) = i.left

-- the last of the inputs, 0 if there are none
abbrev pub right_in : Option Inputs → ℕ
right_in None = 0
right_in (Some i) = i.right

-- a node's own width, or what it has in place of one
abbrev pub own_or : ℕ → Option ℕ → ℕ
own_or v None = v
own_or v (Some w) = w

-- the parts of a node
pub record PartsAre (n : Node) (r : Parts) : Type 0 where
  pub kind : (columns : List ℕ) (pairs : List Pair) → kind_number r.kind ≡ kind_of (with_lists n columns pairs)
  pub derived : (columns : List ℕ) (pairs : List Pair) →
      is_derived r.inputs ≡ not (is_table (with_lists n columns pairs))
  pub left : (columns : List ℕ) (pairs : List Pair) → left_in r.inputs ≡ left_of (with_lists n columns pairs)
  pub right : (columns : List ℕ) (pairs : List Pair) → right_in r.inputs ≡ right_of (with_lists n columns pairs)
  pub width : (columns : List ℕ) (pairs : List Pair) (v : ℕ) → length columns ≡ (lists_of n).columns →
      own_or v r.width ≡ width_on v (with_lists n columns pairs)
  pub pairs : r.pairs ≡ (lists_of n).pairs
  pub columns : r.columns ≡ (lists_of n).columns
  pub from : r.from ≡ (lists_of n).from

-- ---- records

-- the order's number for a record reading: 0 unless it is refused
abbrev pub number_of : Result Item Rule → ℕ
number_of (Ok b) = 0
number_of (Err rule) = verdicts.number_of rule
