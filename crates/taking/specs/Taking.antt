-- Taking: ranks in the words, a row taken out, and what the call answers.
use Rattle.std.specs.Prelude.{◌≡◌, cond, List, map, ℕ, suc, ◌≤◌, ◌<◌, eqb, get_or, length, replicate, drop, Result, Ok, Err}
use Rattle.model.specs.Row.{max_nodes, numbers_below}
use Rattle.model.specs.Network.{highest_of}
use Rattle.model.specs.Areas.{layout, padded, stride}
use Rattle.model.specs.Pending.{pending_size, pending_count, lowest_row}
use Rattle.model.specs.Calls as calls
use Rattle.areas.specs.Lent.{place_at}
use Rattle.places.specs.Places.{Place, relation_in}
use Rattle.pending.specs.Placed.{pending_with}
use Rattle.verdicts.specs.declared.Refusal.{Refusal}
use Rattle.verdicts.specs.Verdicts.{verdict_of}
use Rattle.taking.specs.declared.Taken.{Taken}

-- ---- ranks

-- node i's rank, by the priorities and the counts: 0 with nothing pending, else 1 more than its priority
abbrev pub rank_in : List ℕ → List ℕ → ℕ → ℕ
rank_in priorities pending i = cond (eqb (pending_count layout pending i) 0) 0 (suc (get_or priorities i 0))

-- the highest rank of n nodes
abbrev pub highest_in : List ℕ → List ℕ → ℕ → ℕ
highest_in priorities pending n = highest_of (map (rank_in priorities pending) (numbers_below n))

-- ---- one row

-- node i's place is of good form, and has a row
pub record Held (w : ℕ) (pending : List ℕ) (i : ℕ) : Type 0 where
  pub inside : i < max_nodes
  pub long : pending_size ≤ length pending
  pub at : Place w (place_at pending i) (pending_count layout pending i)
  pub some : 0 < pending_count layout pending i

-- node i's lowest row is taken out
pub record TakesRow (w : ℕ) (before : List ℕ) (i : ℕ) (after row : List ℕ) : Type 0 where
  pub row_is : row ≡ padded stride (lowest_row (relation_in w (place_at before i) (pending_count layout before i)))
  pub row-long : length row ≡ stride
  pub left : after ≡ pending_with before i (drop 1 (relation_in w (place_at before i) (pending_count layout before i)))

-- ---- the call

-- the node, and the row's words, 0 beside a refusal
abbrev pub node_in : Result Taken Refusal → ℕ
node_in (Ok t) = t.node
node_in (Err r) = 0

abbrev pub words_in : Result Taken Refusal → List ℕ
words_in (Ok t) = t.row
words_in (Err r) = replicate stride 0

-- the call's answer, its row with zeros past its width, and the pending area that it leaves
pub record Takes (x : calls.TakeAnswer) (r : Result Taken Refusal) (after : List ℕ) : Type 0 where
  pub verdict : verdict_of r ≡ x.verdict
  pub node : node_in r ≡ x.node
  pub row : words_in r ≡ padded stride x.row
  pub row-long : length (words_in r) ≡ stride
  pub pending : after ≡ x.pending
